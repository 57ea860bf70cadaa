-- The session that the code's words find is the document's, and the place of its first fault has the document's path.
use Rattle.std.proofs.Common.{◌≡◌, refl, sym, ap, ◌∙◌, arith, ℕ, zero, suc, ◌+◌, ◌≤◌, List, [], ◌∷◌, ◌++◌, length, Bool, true, false, Option, Some, None}
use Rattle.std.specs.Prelude.{◌&&◌, ◌||◌, ◌==◌, cond, not, if◌then◌else◌, codes, decimal, nat_lt, nat_le, fold, find, sum_by}
use Rattle.std.specs.Prelude.{ok_or, option_map, option_and_then, unwrap_or, is_none, is_some, Result, Ok, Err}
use Rattle.std.specs.List.{list_any}
use Rattle.std.specs.Option.{option_map_or, option_or}
use Rattle.std.specs.Result.{result_map_both}
use Rattle.std.specs.Str.{bytes_eq}
use Rattle.std.proofs.lemmas.Bool.{and_right, ne_eqb}
use Rattle.std.proofs.lemmas.Bool.Decides.{nat_tests}
use Rattle.con_units.specs.declared.place.Size.{Size}
use Rattle.con_events.specs.declared.script.Step.{Step}
use Rattle.con_events.specs.declared.script.Script.{Script}
use Rattle.con_events.specs.Session.{Clients, is_within}
use Rattle.con_events.specs.Words.Session.{step_count}
use Rattle.serde_json.specs.Data.{Data, null, boolean, number, string, array, object, Items, no_items, item, Members, no_members, member}
use Rattle.serde_json.specs.Events.{items_len}
use Rattle.serde_json.specs.Find.{get, get_member, as_number, as_u64, as_array}
use Rattle.con_document.specs.declared.version.Version.{Version}
use Rattle.con_document.specs.declared.version.Version.TheVariants.{One, Two}
use Rattle.con_document.specs.Document.{between, array_of, program_in, sides_of, and_then, each_from, first_other, keys_fault, script_of, document_of}
use Rattle.con_document.specs.Session.{Spot, whole, key, call, key_of, client, or_fault, unless, with_fault, count, array_within}
use Rattle.con_document.specs.Session.{first_missing, is_among, first_unknown, or_else, keys_spot, member_at, client_keys, group_in, call_at, calls_in, script_in}
use Rattle.con_document.specs.Session.{as_where, top_keys, version_of, version_in, size_items, size_in, most_clients, client_at, clients_in}
use Rattle.con_document.specs.Session.{of_scripts, session_in, path_bytes}

-- the code's word for a version
abbrev pub version_at : ℕ → Version
version_at n = if n == 1 then One else Two

-- ---- reading in order

-- what is read, with the path of its fault
abbrev told : {A E : Type 0} → (E → List ℕ) → Result A E → Result A (List ℕ)
told f r = result_map_both (λ a. a) f r

then_told : {A B E : Type 0} (f : E → List ℕ) (r : Result A E) (k : A → Result B E) (q : Result A (List ℕ)) (m : A → Result B (List ℕ)) → told f r ≡ q
    → ((a : A) → told f (k a) ≡ m a) → told f (and_then r k) ≡ and_then q m
then_told {A} f (Ok a) k q m e same = same a ∙ ap (λ (x : Result A (List ℕ)). and_then x m) e
then_told {A} f (Err x) k q m e same = ap (λ (y : Result A (List ℕ)). and_then y m) e

or_told : {A E : Type 0} (f : E → List ℕ) (e : E) (o : Option A) → told f (or_fault e o) ≡ ok_or o (f e)
or_told f e None = refl
or_told f e (Some a) = refl

unless_told : {A E : Type 0} (f : E → List ℕ) (o : Option E) (r : Result A E) (p : Option (List ℕ)) (q : Result A (List ℕ)) → option_map f o ≡ p
    → told f r ≡ q → told f (unless o r) ≡ option_map_or Err p q
unless_told {A} f None r p q h same = same ∙ ap (λ (x : Option (List ℕ)). option_map_or Err x q) h
unless_told {A} f (Some e) r p q h same = ap (λ (x : Option (List ℕ)). option_map_or Err x q) h

each_told : {A E : Type 0} (f : E → List ℕ) (g : ℕ → Data → Result A E) (h : ℕ → Data → Result A (List ℕ)) → ((i : ℕ) (d : Data) → told f (g i d) ≡ h i d)
    → (i : ℕ) (ds : Items) → told f (each_from g i ds) ≡ each_from h i ds
each_told f g h same i no_items = refl
each_told {A} f g h same i (item d ds) =
    then_told f (g i d) (λ a. and_then (each_from g (suc i) ds) (λ more. Ok (a ∷ more))) (h i d)
    (λ a. and_then (each_from h (suc i) ds) (λ more. Ok (a ∷ more))) (same i d)
    (λ a. then_told f (each_from g (suc i) ds) (λ more. Ok (a ∷ more)) (each_from h (suc i) ds) (λ more. Ok (a ∷ more)) (each_told f g h same (suc i) ds)
    (λ more. refl))

then_both : {A B C E : Type 0} (r : Result A E) (f : A → Result B E) (g : B → Result C E) → and_then (and_then r f) g ≡ and_then r (λ a. and_then (f a) g)
then_both (Ok a) f g = refl
then_both (Err e) f g = refl

-- a key that is missing is read as null, which is none of the values that are read
at_member : {A : Type 0} (p : Data → Option A) (k : List ℕ) (d : Data) → p null ≡ None → p (member_at k d) ≡ option_and_then p (get k d)
at_member p k d none = by_option (get k d)
  where
    by_option : (o : Option Data) → p (unwrap_or o null) ≡ option_and_then p o
    by_option None = none
    by_option (Some e) = refl

-- ---- values within limits

count_len : (ds : Items) → count ds ≡ items_len ds
count_len no_items = refl
count_len (item d ds) = ap suc (count_len ds)

array_is : (low high : ℕ) (d : Data) → array_within low high d ≡ array_of low high d
array_is low high (array ds) = ap (λ n. if is_within low high n then Some ds else None) (count_len ds)
array_is low high other = refl

both_tests : (a b : Bool) (n : ℕ) → option_and_then (λ (m : ℕ). if a then Some n else None) (if b then Some n else None) ≡ (if a && b then Some n else None)
both_tests true true n = refl
both_tests true false n = refl
both_tests false true n = refl
both_tests false false n = refl

first_then : (b : Bool) (n : ℕ) → option_and_then (λ m. if nat_le 1 m then Some m else None) (if b then Some n else None)
    ≡ option_and_then (λ (m : ℕ). if nat_le 1 n then Some n else None) (if b then Some n else None)
first_then true n = refl
first_then false n = refl

less_or_most : (n : ℕ) → nat_lt n 4294967296 ≡ nat_le n 4294967295
less_or_most n = grind (arith, nat_tests)

group_is : (d : Data) → group_in d ≡ between 1 4294967295 d
group_is d = by_option (option_and_then as_u64 (as_number d))
  where
    by_option : (o : Option ℕ)
        → option_and_then (λ n. if nat_le 1 n then Some n else None) (option_and_then (λ n. if nat_lt n 4294967296 then Some n else None) o)
        ≡ option_and_then (λ n. if is_within 1 4294967295 n then Some n else None) o
    by_option None = refl
    by_option (Some n) = first_then (nat_lt n 4294967296) n ∙ (both_tests (nat_le 1 n) (nat_lt n 4294967296) n
        ∙ ap (λ b. if nat_le 1 n && b then Some n else None) (less_or_most n))

sides_are : (ds : Items) → size_items ds ≡ sides_of ds
sides_are no_items = refl
sides_are (item w no_items) = refl
sides_are (item w (item h no_items)) = refl
sides_are (item w (item h (item more ds))) = refl

size_is : (d : Data) → size_in d ≡ option_and_then sides_of (as_array d)
size_is (array ds) = sides_are ds
size_is other = refl

no_version : (n : ℕ) → 3 ≤ n → version_of n ≡ option_map version_at (if is_within 1 2 n then Some n else None)
no_version n past =
    let one : (n == 1) ≡ false = ne_eqb n 1 (λ e. omega arith) in
    let two : (n == 2) ≡ false = ne_eqb n 2 (λ e. omega arith) in
    let most : nat_le n 2 ≡ false = grind (arith, nat_tests) in
    let outside : is_within 1 2 n ≡ false = and_right (nat_le 1 n) (nat_le n 2) most in
    rw (one, two, outside) refl

version_is : (d : Data) → version_in d ≡ option_map version_at (between 1 2 d)
version_is d = by_option (option_and_then as_u64 (as_number d))
  where
    by_number : (n : ℕ) → version_of n ≡ option_map version_at (if is_within 1 2 n then Some n else None)
    by_number zero = refl
    by_number (suc zero) = refl
    by_number (suc (suc zero)) = refl
    by_number (suc (suc (suc n))) = no_version (suc (suc (suc n))) (omega arith)

    by_option : (o : Option ℕ) → option_and_then version_of o ≡ option_map version_at (option_and_then (λ n. if is_within 1 2 n then Some n else None) o)
    by_option None = refl
    by_option (Some n) = by_number n

most_is : (n : ℕ) → most_clients (version_at n) ≡ (if n == 1 then 16 else 64)
most_is n = by_test (n == 1)
  where
    by_test : (b : Bool) → most_clients (if b then One else Two) ≡ (if b then 16 else 64)
    by_test true = refl
    by_test false = refl

-- ---- keys

turned : {A : Type 0} (b : Bool) (x y : A) → cond b x y ≡ cond (not b) y x
turned true x y = refl
turned false x y = refl

missing_is : (ks : List (List ℕ)) (ms : Members) → first_missing ks (object ms) ≡ find (λ k. is_none (get_member k ms)) ks
missing_is [] ms = refl
missing_is (k ∷ ks) ms = ap (λ (o : Option (List ℕ)). cond (is_some (get_member k ms)) o (Some k)) (missing_is ks ms)
    ∙ turned (is_some (get_member k ms)) (find (λ k. is_none (get_member k ms)) ks) (Some k)

among_is : (ks : List (List ℕ)) (name : List ℕ) → is_among ks name ≡ list_any (λ k. bytes_eq k name) ks
among_is [] name = refl
among_is (k ∷ ks) name = ap (λ b. bytes_eq k name || b) (among_is ks name)

unknown_is : (ks : List (List ℕ)) (ms : Members) → first_unknown ks ms ≡ first_other ks ms
unknown_is ks no_members = refl
unknown_is ks (member name d ms) = λ i. cond (among_is ks name i) (unknown_is ks ms i) (Some name)

or_is : (o p : Option (List ℕ)) → or_else o p ≡ option_or o p
or_is None p = refl
or_is (Some a) p = refl

first_is : (ks : List (List ℕ)) (ms : Members)
    → or_else (first_missing ks (object ms)) (first_unknown ks ms) ≡ option_or (find (λ k. is_none (get_member k ms)) ks) (first_other ks ms)
first_is ks ms = or_is (first_missing ks (object ms)) (first_unknown ks ms) ∙ (λ i. option_or (missing_is ks ms i) (unknown_is ks ms i))

-- ---- a client

abbrev spot_bytes : Spot → List ℕ
spot_bytes whole = []
spot_bytes (key k) = codes "." ++ k
spot_bytes (call i) = codes ".calls[" ++ (decimal i ++ codes "]")

keyed : (o : Option (List ℕ)) → option_map spot_bytes (option_map key o) ≡ option_map (λ k. codes "." ++ k) o
keyed None = refl
keyed (Some k) = refl

client_keys_told : (d : Data) → option_map spot_bytes (keys_spot client_keys d) ≡ keys_fault (codes ".") client_keys d
client_keys_told (object ms) = keyed (or_else (first_missing client_keys (object ms)) (first_unknown client_keys ms))
    ∙ ap (option_map (λ k. codes "." ++ k)) (first_is client_keys ms)
client_keys_told null = refl
client_keys_told (boolean b) = refl
client_keys_told (number n) = refl
client_keys_told (string s) = refl
client_keys_told (array ds) = refl

abbrev steps_of : (Data → Option Step) → Items → Result (List Step) (List ℕ)
steps_of reader ds = each_from (λ i c. ok_or (reader c) (codes ".calls[" ++ (decimal i ++ codes "]"))) 0 ds

calls_told : (reader : Data → Option Step) (d : Data)
    → told spot_bytes (calls_in reader d) ≡ and_then (ok_or (array_of 0 1024 d) (codes ".calls")) (steps_of reader)
unfolding calls_in
calls_told reader d = then_told spot_bytes (or_fault (key (codes "calls")) (array_within 0 1024 d)) (each_from (call_at reader) 0)
    (ok_or (array_of 0 1024 d) (codes ".calls")) (steps_of reader)
    (or_told spot_bytes (key (codes "calls")) (array_within 0 1024 d) ∙ ap (λ (o : Option Items). ok_or o (codes ".calls")) (array_is 0 1024 d))
    (each_told spot_bytes (call_at reader) (λ i c. ok_or (reader c) (codes ".calls[" ++ (decimal i ++ codes "]")))
    (λ i c. or_told spot_bytes (call i) (reader c)) 0)

-- what is read at a key, with the path of its fault
at_key : {A : Type 0} (p q : Data → Option A) (k : List ℕ) (d : Data) → ((e : Data) → p e ≡ q e) → p null ≡ None
    → told spot_bytes (or_fault (key k) (p (member_at k d))) ≡ ok_or (option_and_then q (get k d)) (codes "." ++ k)
at_key {A} p q k d same none =
    let there = at_member q k d (sym (same null) ∙ none) in
    or_told spot_bytes (key k) (p (member_at k d)) ∙ ap (λ (o : Option A). ok_or o (codes "." ++ k)) (same (member_at k d) ∙ there)

steps_told : (reader : Data → Option Step) (d : Data) → told spot_bytes (calls_in reader (member_at (codes "calls") d))
    ≡ and_then (ok_or (option_and_then (array_of 0 1024) (get (codes "calls") d)) (codes ".calls")) (steps_of reader)
steps_told reader d = calls_told reader (member_at (codes "calls") d)
    ∙ ap (λ (o : Option Items). and_then (ok_or o (codes ".calls")) (steps_of reader)) (at_member (array_of 0 1024) (codes "calls") d refl)

script_told : (reader : Data → Option Step) (d : Data) → told spot_bytes (script_in reader d) ≡ script_of reader d
unfolding script_in script_of
script_told reader d = unless_told spot_bytes (keys_spot client_keys d) _ (keys_fault (codes ".") client_keys d) _ (client_keys_told d)
    (then_told spot_bytes (or_fault (key (codes "program")) (program_in (member_at (codes "program") d))) _
    (ok_or (option_and_then program_in (get (codes "program") d)) (codes ".program")) _
    (at_key program_in program_in (codes "program") d (λ e. refl) refl) (λ program.
    then_told spot_bytes (or_fault (key (codes "group")) (group_in (member_at (codes "group") d))) _
    (ok_or (option_and_then (between 1 4294967295) (get (codes "group") d)) (codes ".group")) _
    (at_key group_in (between 1 4294967295) (codes "group") d group_is refl) (λ group.
    then_told spot_bytes (calls_in reader (member_at (codes "calls") d)) (λ steps. Ok (record { program = program; group = group; steps = steps })) _
    (λ steps. Ok (record { program = program; group = group; steps = steps })) (steps_told reader d) (λ steps. refl)
    ∙ then_both (ok_or (option_and_then (array_of 0 1024) (get (codes "calls") d)) (codes ".calls")) (steps_of reader)
    (λ steps. Ok (record { program = program; group = group; steps = steps })))))

-- ---- a document

spot_is : (i : ℕ) (s : Spot) → path_bytes (client i s) ≡ codes "clients[" ++ (decimal i ++ (codes "]" ++ spot_bytes s))
spot_is i whole = refl
spot_is i (key k) = refl
spot_is i (call j) = refl

abbrev in_client : ℕ → List ℕ → List ℕ
in_client i at = codes "clients[" ++ (decimal i ++ (codes "]" ++ at))

faults_told : {A : Type 0} (i : ℕ) (r : Result A Spot) (q : Result A (List ℕ)) → told spot_bytes r ≡ q
    → told path_bytes (with_fault (client i) r) ≡ result_map_both (λ s. s) (in_client i) q
faults_told {A} i (Ok a) q e = ap (λ (x : Result A (List ℕ)). result_map_both (λ s. s) (in_client i) x) e
faults_told {A} i (Err s) q e = ap Err (spot_is i s) ∙ ap (λ (x : Result A (List ℕ)). result_map_both (λ s. s) (in_client i) x) e

abbrev scripts_of : (Data → Option Step) → Items → Result (List Script) (List ℕ)
scripts_of reader ds = each_from (λ i c. result_map_both (λ s. s) (in_client i) (script_of reader c)) 0 ds

scripts_told : (reader : Data → Option Step) (ds : Items) → told path_bytes (each_from (client_at reader) 0 ds) ≡ scripts_of reader ds
scripts_told reader ds = each_told path_bytes (client_at reader) (λ i c. result_map_both (λ s. s) (in_client i) (script_of reader c))
    (λ i c. faults_told i (script_in reader c) (script_of reader c) (script_told reader c)) 0 ds

placed : (o : Option (List ℕ)) → option_map path_bytes (option_map as_where (option_map key o)) ≡ option_map (λ k. [] ++ k) o
placed None = refl
placed (Some k) = refl

top_keys_told : (d : Data) → option_map path_bytes (option_map as_where (keys_spot top_keys d)) ≡ keys_fault [] top_keys d
top_keys_told (object ms) = placed (or_else (first_missing top_keys (object ms)) (first_unknown top_keys ms))
    ∙ ap (option_map (λ k. [] ++ k)) (first_is top_keys ms)
top_keys_told null = refl
top_keys_told (boolean b) = refl
top_keys_told (number n) = refl
top_keys_told (string s) = refl
top_keys_told (array ds) = refl

-- what is read at a key of the document, with the path of its fault
at_top : {A B : Type 0} (f : A → B) (p : Data → Option B) (q : Data → Option A) (k : List ℕ) (d : Data) → ((e : Data) → p e ≡ option_map f (q e))
    → q null ≡ None → p (member_at k d) ≡ option_map f (option_and_then q (get k d))
at_top f p q k d same none = same (member_at k d) ∙ ap (option_map f) (at_member q k d none)

-- a value is read, and the next one of what it stands for
then_by : {A B C E : Type 0} (g : E → List ℕ) (e : E) (f : A → B) (p : Option B) (o : Option A) (k : B → Result C E) (m : A → Result C (List ℕ))
    → p ≡ option_map f o → ((a : A) → told g (k (f a)) ≡ m a) → told g (and_then (or_fault e p) k) ≡ and_then (ok_or o (g e)) m
then_by {A} {B} g e f p None k m is same = ap (λ (x : Option B). told g (and_then (or_fault e x) k)) is
then_by {A} {B} g e f p (Some a) k m is same = ap (λ (x : Option B). told g (and_then (or_fault e x) k)) is ∙ same a

same_option : {A : Type 0} (o : Option A) → o ≡ option_map (λ a. a) o
same_option None = refl
same_option (Some a) = refl

summed : (n : ℕ) (ss : List Script) → fold (λ a s. a + length s.steps) n ss ≡ n + step_count ss
summed n [] = omega arith
summed n (s ∷ ss) = summed (n + length s.steps) ss ∙ omega arith

abbrev last : Size → List Script → Result Clients (List ℕ)
last size ss = if nat_le (sum_by (λ s. length s.steps) ss) 16384 then Ok (record { size = size; scripts = ss }) else Err (codes "clients")

few_told : (b : Bool) (c : Clients) → told path_bytes (if b then Ok c else Err (key_of (codes "clients"))) ≡ (if b then Ok c else Err (codes "clients"))
few_told true c = refl
few_told false c = refl

last_told : (size : Size) (ss : List Script) → told path_bytes (of_scripts size ss) ≡ last size ss
last_told size ss =
    let same : step_count ss ≡ sum_by (λ s. length s.steps) ss = omega arith ∙ sym (summed 0 ss) in
    few_told (nat_le (step_count ss) 16384) (record { size = size; scripts = ss })
    ∙ ap (λ n. if nat_le n 16384 then Ok (record { size = size; scripts = ss }) else Err (codes "clients")) same

clients_told : (f : Version → Data → Option Step) (n : ℕ) (d : Data) (size : Size)
    → told path_bytes (and_then (clients_in f (version_at n) (member_at (codes "clients") d)) (of_scripts size))
    ≡ and_then (ok_or (option_and_then (array_of 1 (if n == 1 then 16 else 64)) (get (codes "clients") d)) (codes "clients"))
    (λ ds. and_then (scripts_of (f (version_at n)) ds) (last size))
unfolding clients_in
clients_told f n d size =
    let reader = f (version_at n) in
    let at = member_at (codes "clients") d in
    let arrays = or_fault (key_of (codes "clients")) (array_within 1 (most_clients (version_at n)) at) in
    let these : array_within 1 (most_clients (version_at n)) at ≡ option_and_then (array_of 1 (if n == 1 then 16 else 64)) (get (codes "clients") d) =
    ap (λ m. array_within 1 m at) (most_is n) ∙ (array_is 1 (if n == 1 then 16 else 64) at
    ∙ at_member (array_of 1 (if n == 1 then 16 else 64)) (codes "clients") d refl) in
    ap (told path_bytes) (then_both arrays (each_from (client_at reader) 0) (of_scripts size))
    ∙ then_told path_bytes arrays (λ ds. and_then (each_from (client_at reader) 0 ds) (of_scripts size))
    (ok_or (option_and_then (array_of 1 (if n == 1 then 16 else 64)) (get (codes "clients") d)) (codes "clients"))
    (λ ds. and_then (scripts_of reader ds) (last size))
    (or_told path_bytes (key_of (codes "clients")) (array_within 1 (most_clients (version_at n)) at)
    ∙ ap (λ (o : Option Items). ok_or o (codes "clients")) these)
    (λ ds. then_told path_bytes (each_from (client_at reader) 0 ds) (of_scripts size) (scripts_of reader ds) (last size) (scripts_told reader ds)
    (last_told size))

pub session_told : (f : Version → Data → Option Step) (d : Data) → result_map_both (λ s. s) path_bytes (session_in f d) ≡ document_of (λ n. f (version_at n)) d
unfolding session_in document_of
session_told f d = unless_told path_bytes (option_map as_where (keys_spot top_keys d)) _ (keys_fault [] top_keys d) _ (top_keys_told d)
    (then_by path_bytes (key_of (codes "version")) version_at (version_in (member_at (codes "version") d))
    (option_and_then (between 1 2) (get (codes "version") d)) _ _
    (at_top version_at version_in (between 1 2) (codes "version") d version_is refl) (λ n.
    then_by path_bytes (key_of (codes "size")) (λ s. s) (size_in (member_at (codes "size") d))
    (option_and_then (λ s. option_and_then sides_of (as_array s)) (get (codes "size") d)) _ _
    (at_top (λ s. s) size_in (λ s. option_and_then sides_of (as_array s)) (codes "size") d (λ e. size_is e ∙ same_option _) refl) (λ size.
    clients_told f n d size)))
