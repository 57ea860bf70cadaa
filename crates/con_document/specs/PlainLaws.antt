-- In a value that was read an integer with a sign is below 0, and a session is read of such values alone.
use Rattle.std.proofs.Common.{◌≡◌, refl, ap, ℕ, zero, suc, ◌^◌, List, ◌∷◌, Bool, true, false, Option, Some, None, Ordering, Less, Equal, Greater}
use Rattle.std.specs.Prelude.{◌&&◌, ◌==◌, if◌then◌else◌, nat_lt, nat_le, pos, negsuc, neg_ℤ, IfSome, option_map, option_and_then, unwrap_or, drop, slice_index}
use Rattle.std.specs.Prelude.{codes, Result, Ok}
use Rattle.std.specs.Float.{binary64, float_is_finite}
use Rattle.std.specs.Ordering.{nat_cmp, match_ordering}
use Rattle.std.specs.Cmp.Lexicographic.{slice_cmp}
use Rattle.std.specs.Str.{is_utf8}
use Rattle.std.proofs.lemmas.Bool.{cond_both, and_parts, and_from}
use Rattle.std.specs.Float.Numeral.{Parts, minus, scan_numeral as scan, numeral_digits as digits_of, nearest_float as nearest}
use Rattle.json.specs.Json as json
use Rattle.json.specs.Lex.{tokens}
use Rattle.con_events.specs.declared.script.Step.{Step}
use Rattle.con_events.specs.Session.{is_within}
use Rattle.serde_json.specs.Data.{Num, unsigned, negative, float, Data, null, boolean, number, string, array, object, Items, no_items, item}
use Rattle.serde_json.specs.Data.{Members, no_members, member, put}
use Rattle.serde_json.specs.Find.{get_member}
use Rattle.serde_json.specs.Read.{is_integer, float_of, number_from, number_of, of_json, of_items, of_members, max_depth, read}
use Rattle.con_document.specs.declared.version.Version.{Version}
use Rattle.con_document.specs.Document.{and_then, each_from, json_of, program_in}
use Rattle.con_document.specs.Session.{key, call, key_of, client, or_fault, unless, with_fault, count, array_within}
use Rattle.con_document.specs.Session.{keys_spot, member_at, client_keys, group_in, call_at, calls_in, script_in}
use Rattle.con_document.specs.Session.{as_where, top_keys, version_in, size_in, most_clients, client_at, clients_in, of_scripts, session_in}

-- ---- facts of what is there

pub and_then_keeps : {A B : Type 0} (o : Option A) (f : A → Option B) (P : A → Type 0) (Q : B → Type 0) → IfSome o P
    → ((a : A) → P a → IfSome (f a) Q) → IfSome (option_and_then f o) Q
and_then_keeps None f P Q p h = tt
and_then_keeps (Some a) f P Q p h = h a p

pub map_keeps : {A B : Type 0} (o : Option A) (f : A → B) (P : A → Type 0) (Q : B → Type 0) → IfSome o P → ((a : A) → P a → Q (f a))
    → IfSome (option_map f o) Q
map_keeps None f P Q p h = tt
map_keeps (Some a) f P Q p h = h a p

pub weaker : {A : Type 0} (o : Option A) (P Q : A → Type 0) → IfSome o P → ((a : A) → P a → Q a) → IfSome o Q
weaker None P Q p h = tt
weaker (Some a) P Q p h = h a p

-- ---- values as they are read

abbrev pub is_plain_number : Num → Bool
is_plain_number (unsigned n) = true
is_plain_number (negative (pos n)) = false
is_plain_number (negative (negsuc n)) = true
is_plain_number (float x) = true

abbrev mutual
  pub is_plain : Data → Bool
  is_plain null = true
  is_plain (boolean b) = true
  is_plain (number n) = is_plain_number n
  is_plain (string s) = true
  is_plain (array ds) = are_plain ds
  is_plain (object ms) = members_are_plain ms

  pub are_plain : Items → Bool
  are_plain no_items = true
  are_plain (item d ds) = is_plain d && are_plain ds

  pub members_are_plain : Members → Bool
  members_are_plain no_members = true
  members_are_plain (member k d ms) = is_plain d && members_are_plain ms

abbrev PlainNumber : Num → Type 0
PlainNumber n = is_plain_number n ≡ true

abbrev Plain : Data → Type 0
Plain d = is_plain d ≡ true

abbrev PlainItems : Items → Type 0
PlainItems ds = are_plain ds ≡ true

abbrev PlainMembers : Members → Type 0
PlainMembers ms = members_are_plain ms ≡ true

signed_plain : (n : ℕ) → nat_lt 0 n ≡ true → is_plain_number (negative (neg_ℤ (pos n))) ≡ true
signed_plain zero h = absurd (cc)
signed_plain (suc n) h = refl

float_plain : (sign : Bool) (p : Parts) → IfSome (float_of sign p) PlainNumber
float_plain sign p = cond_both (float_is_finite (nearest binary64 sign p)) (Some (float (nearest binary64 sign p))) None
    (λ o. IfSome o PlainNumber) (λ h. refl) (λ h. tt)

number_from_plain : (sign : Bool) (p : Parts) → IfSome (number_from sign p) PlainNumber
number_from_plain false p = cond_both (is_integer p && nat_lt (digits_of p) (2 ^ 64)) (Some (unsigned (digits_of p))) (float_of false p)
    (λ o. IfSome o PlainNumber) (λ h. refl) (λ h. float_plain false p)
number_from_plain true p =
    cond_both (is_integer p && nat_lt 0 (digits_of p) && nat_le (digits_of p) (2 ^ 63)) (Some (negative (neg_ℤ (pos (digits_of p))))) (float_of true p)
    (λ o. IfSome o PlainNumber)
    (λ h. signed_plain (digits_of p) (and_parts (is_integer p) (nat_lt 0 (digits_of p)) (and_parts (is_integer p && nat_lt 0 (digits_of p)) _ h).0).1)
    (λ h. float_plain true p)

number_plain : (s : List ℕ) → IfSome (number_of s) PlainNumber
unfolding number_of
number_plain s = cond_both (slice_index s 0 == minus) (number_from true (scan (drop 1 s))) (number_from false (scan s))
    (λ o. IfSome o PlainNumber) (λ h. number_from_plain true (scan (drop 1 s))) (λ h. number_from_plain false (scan s))

by_order : (o : Ordering) (a b c : Members) → PlainMembers a → PlainMembers b → PlainMembers c → PlainMembers (match_ordering o a b c)
by_order Less a b c p q r = p
by_order Equal a b c p q r = q
by_order Greater a b c p q r = r

put_plain : (k : List ℕ) (d : Data) (ms : Members) → Plain d → PlainMembers ms → PlainMembers (put k d ms)
put_plain k d no_members p q = and_from (is_plain d) true p refl
put_plain k d (member l e ms) p q =
    let parts = and_parts (is_plain e) (members_are_plain ms) q in
    by_order (slice_cmp nat_cmp k l) (member k d (member l e ms)) (member l d ms) (member l e (put k d ms))
    (and_from (is_plain d) (members_are_plain (member l e ms)) p q) (and_from (is_plain d) (members_are_plain ms) p parts.1)
    (and_from (is_plain e) (members_are_plain (put k d ms)) parts.0 (put_plain k d ms p parts.1))

mutual
  json_plain : (j : json.Json) → IfSome (of_json j) Plain
  json_plain json.null = refl
  json_plain (json.boolean b) = refl
  json_plain (json.number s) = map_keeps (number_of s) number PlainNumber Plain (number_plain s) (λ n p. p)
  json_plain (json.string s) = refl
  json_plain (json.array js) = map_keeps (of_items js) array PlainItems Plain (items_plain js) (λ ds p. p)
  json_plain (json.object ms) = map_keeps (of_members ms no_members) object PlainMembers Plain (members_plain ms no_members refl) (λ ns p. p)

  items_plain : (js : json.Items) → IfSome (of_items js) PlainItems
  items_plain json.no_items = refl
  items_plain (json.item j js) = and_then_keeps (of_json j) (λ d. option_map (item d) (of_items js)) Plain PlainItems (json_plain j)
      (λ d p. map_keeps (of_items js) (item d) PlainItems PlainItems (items_plain js) (λ ds q. and_from (is_plain d) (are_plain ds) p q))

  members_plain : (ms : json.Members) (found : Members) → PlainMembers found → IfSome (of_members ms found) PlainMembers
  members_plain json.no_members found p = p
  members_plain (json.member k j ms) found p = and_then_keeps (of_json j) (λ d. of_members ms (put k d found)) Plain PlainMembers (json_plain j)
      (λ d q. members_plain ms (put k d found) (put_plain k d found q p))

from_json : (o : Option json.Json) → IfSome (option_and_then of_json o) Plain
from_json None = tt
from_json (Some j) = json_plain j

pub read_plain : (bytes : List ℕ) → IfSome (json_of bytes) (λ d. is_plain d ≡ true)
read_plain bytes = cond_both (is_utf8 bytes) (read bytes) None (λ o. IfSome o Plain)
    (λ h. from_json (option_and_then (λ p. json.if_last p.0 p.1) (json.value max_depth (tokens bytes)))) (λ h. tt)

-- ---- a session

each_same : {A E : Type 0} (f g : ℕ → Data → Result A E) → ((i : ℕ) (d : Data) → Plain d → f i d ≡ g i d) → (i : ℕ) (ds : Items) → PlainItems ds
    → each_from f i ds ≡ each_from g i ds
each_same f g same i no_items p = refl
each_same f g same i (item d ds) p =
    let parts = and_parts (is_plain d) (are_plain ds) p in
    let rest = each_same f g same (suc i) ds parts.1 in
    λ j. and_then (same i d parts.0 j) (λ a. and_then (rest j) (λ more. Ok (a ∷ more)))

chosen_same : {A E : Type 0} (e : E) (b : Bool) (ds : Items) (f g : Items → Result A E) → f ds ≡ g ds
    → and_then (or_fault e (if b then Some ds else None)) f ≡ and_then (or_fault e (if b then Some ds else None)) g
chosen_same e true ds f g same = same
chosen_same e false ds f g same = refl

array_same : {A E : Type 0} (e : E) (low high : ℕ) (f g : Items → Result A E) → ((ds : Items) → PlainItems ds → f ds ≡ g ds) → (d : Data) → Plain d
    → and_then (or_fault e (array_within low high d)) f ≡ and_then (or_fault e (array_within low high d)) g
array_same e low high f g same (array ds) p = chosen_same e (is_within low high (count ds)) ds f g (same ds p)
array_same e low high f g same other p = refl

calls_same : (f g : Data → Option Step) → ((d : Data) → Plain d → f d ≡ g d) → (d : Data) → Plain d → calls_in f d ≡ calls_in g d
unfolding calls_in
calls_same f g same d p = array_same (key (codes "calls")) 0 1024 (each_from (call_at f) 0) (each_from (call_at g) 0)
    (each_same (call_at f) (call_at g) (λ i e q. ap (or_fault (call i)) (same e q)) 0) d p

found_by : (o : Ordering) (a b c : Option Data) → Plain (unwrap_or a null) → Plain (unwrap_or b null) → Plain (unwrap_or c null)
    → Plain (unwrap_or (match_ordering o a b c) null)
found_by Less a b c p q r = p
found_by Equal a b c p q r = q
found_by Greater a b c p q r = r

found_plain : (k : List ℕ) (ms : Members) → PlainMembers ms → Plain (unwrap_or (get_member k ms) null)
found_plain k no_members p = refl
found_plain k (member l e ms) p =
    let parts = and_parts (is_plain e) (members_are_plain ms) p in
    let rest = found_plain k ms parts.1 in
    found_by (slice_cmp nat_cmp k l) (get_member k ms) (Some e) (get_member k ms) rest parts.0 rest

member_plain : (k : List ℕ) (d : Data) → Plain d → Plain (member_at k d)
member_plain k (object ms) p = found_plain k ms p
member_plain k other p = refl

script_same : (f g : Data → Option Step) → ((d : Data) → Plain d → f d ≡ g d) → (d : Data) → Plain d → script_in f d ≡ script_in g d
unfolding script_in
script_same f g same d p =
    let calls = calls_same f g same (member_at (codes "calls") d) (member_plain (codes "calls") d p) in
    λ i. unless (keys_spot client_keys d)
    (and_then (or_fault (key (codes "program")) (program_in (member_at (codes "program") d))) (λ program.
    and_then (or_fault (key (codes "group")) (group_in (member_at (codes "group") d))) (λ group.
    and_then (calls i) (λ steps. Ok (record { program = program; group = group; steps = steps })))))

clients_same : (f g : Version → Data → Option Step) → ((v : Version) (d : Data) → Plain d → f v d ≡ g v d) → (v : Version) (d : Data) → Plain d
    → clients_in f v d ≡ clients_in g v d
unfolding clients_in
clients_same f g same v d p = array_same (key_of (codes "clients")) 1 (most_clients v) (each_from (client_at (f v)) 0) (each_from (client_at (g v)) 0)
    (each_same (client_at (f v)) (client_at (g v)) (λ i e q. ap (with_fault (client i)) (script_same (f v) (g v) (same v) e q)) 0) d p

-- readers that agree on values as they are read find the same session
pub session_same : (f g : Version → Data → Option Step) → ((v : Version) (d : Data) → is_plain d ≡ true → f v d ≡ g v d) → (d : Data)
    → is_plain d ≡ true → session_in f d ≡ session_in g d
unfolding session_in
session_same f g same d p =
    let clients = λ (v : Version). clients_same f g same v (member_at (codes "clients") d) (member_plain (codes "clients") d p) in
    λ i. unless (option_map as_where (keys_spot top_keys d))
    (and_then (or_fault (key_of (codes "version")) (version_in (member_at (codes "version") d))) (λ v.
    and_then (or_fault (key_of (codes "size")) (size_in (member_at (codes "size") d))) (λ size.
    and_then (clients v i) (of_scripts size))))
