-- What is read of a document is within the limits of a session, but for the sum of calls.
use Rattle.std.proofs.Common.{◌≡◌, ℕ, suc, List, [], ◌∷◌, length, refl, true, false, Bool, Option, Some, None, ap, sym, subst, arith}
use Rattle.std.specs.Prelude.{Result, Ok, Err, codes, if◌then◌else◌, ◌&&◌, nat_le, option_and_then}
use Rattle.std.proofs.lemmas.Bool.Decides.{nat_tests}
use Rattle.con_units.specs.declared.place.Size.{Size}
use Rattle.con_events.specs.declared.script.Step.{Step}
use Rattle.con_events.specs.declared.script.Script.{Script}
use Rattle.con_events.specs.Session.{Clients, is_within, is_size}
use Rattle.con_events.specs.Words.Session.{is_script, all_scripts, session_of}
use Rattle.con_values.specs.Values.{below}
use Rattle.serde_json.specs.Data.{Data, Items, no_items, item}
use Rattle.serde_json.specs.Find.{as_array, as_number, as_u64}
use Rattle.con_document.specs.declared.version.Version.{Version}
use Rattle.con_document.specs.declared.version.Version.TheVariants.{One, Two}
use Rattle.con_document.specs.Values.{text_in}
use Rattle.con_document.specs.Session.{key, key_of, client, and_then, or_fault, unless, with_fault, each_from, count, within, array_within, keys_spot, client_keys, member_at, program_in, group_in, call_at, calls_in, script_in, size_of, size_items, size_in, most_clients, client_at, clients_in, few_calls, of_scripts}

-- ---- what an answer without a fault says

found : {A E : Type 0} (e : E) (o : Option A) (a : A) → or_fault e o ≡ Ok a → o ≡ Some a
found e None a h = absurd (cc)
found e (Some b) a h = cc

then_ok : {A B E : Type 0} (r : Result A E) (f : A → Result B E) (b : B) → and_then r f ≡ Ok b → (a : A) × ((r ≡ Ok a) × (f a ≡ Ok b))
then_ok (Ok a) f b h = (a, (refl, h))
then_ok (Err e) f b h = absurd (cc)

unless_ok : {A E : Type 0} (o : Option E) (r : Result A E) (a : A) → unless o r ≡ Ok a → r ≡ Ok a
unless_ok None r a h = h
unless_ok (Some e) r a h = absurd (cc)

with_ok : {A E F : Type 0} (f : E → F) (r : Result A E) (a : A) → with_fault f r ≡ Ok a → r ≡ Ok a
with_ok f (Ok b) a h = cc
with_ok f (Err e) a h = absurd (cc)

kept : {A : Type 0} (p : Bool) (a b : A) → (if p then Some a else None) ≡ Some b → (p ≡ true) × (a ≡ b)
kept true a b h = (refl, cc)
kept false a b h = absurd (cc)

some_of : {A B : Type 0} (o : Option A) (f : A → Option B) (b : B) → option_and_then f o ≡ Some b → (a : A) × ((o ≡ Some a) × (f a ≡ Some b))
some_of None f b h = absurd (cc)
some_of (Some a) f b h = (a, (refl, h))

second : (a b : Bool) → (a && b) ≡ true → b ≡ true
second true b h = h
second false b h = absurd (cc)

-- ---- arrays

array_count : (low high : ℕ) (d : Data) (ds : Items) → array_within low high d ≡ Some ds → is_within low high (count ds) ≡ true
array_count low high d ds h =
    let a = some_of (as_array d) (within low high) ds h in
    let b = kept (is_within low high (count a.0)) a.0 ds a.1.1 in
    subst (λ (xs : Items). is_within low high (count xs) ≡ true) b.1 b.0

each_count : {A E : Type 0} (f : ℕ → Data → Result A E) (i : ℕ) (ds : Items) (xs : List A) → each_from f i ds ≡ Ok xs → length xs ≡ count ds
each_count f i no_items xs h = let e : xs ≡ [] = cc in rw e refl
each_count {A} f i (item d ds) xs h =
    let a = then_ok (f i d) (λ x. and_then (each_from f (suc i) ds) (λ more. Ok (x ∷ more))) xs h in
    let b = then_ok (each_from f (suc i) ds) (λ more. Ok (a.0 ∷ more)) xs a.1.1 in
    let e : xs ≡ a.0 ∷ b.0 = let same : Ok (a.0 ∷ b.0) ≡ Ok xs = b.1.1 in cc in
    rw e (ap suc (each_count f (suc i) ds b.0 b.1.0))

-- ---- a client

program_within : (d : Data) (us : List ℕ) → program_in d ≡ Some us → is_within 1 255 (length us) ≡ true
program_within d us h =
    let a = some_of (text_in d) (λ xs. if is_within 1 255 (length xs) then Some xs else None) us h in
    let b = kept (is_within 1 255 (length a.0)) a.0 us a.1.1 in
    subst (λ (xs : List ℕ). is_within 1 255 (length xs) ≡ true) b.1 b.0

group_within : (d : Data) (n : ℕ) → group_in d ≡ Some n → nat_le 1 n ≡ true
group_within d n h =
    let a = some_of (below 4294967296 d) (λ m. if nat_le 1 m then Some m else None) n h in
    let b = kept (nat_le 1 a.0) a.0 n a.1.1 in
    subst (λ (m : ℕ). nat_le 1 m ≡ true) b.1 b.0

calls_within : (read : Data → Option Step) (d : Data) (steps : List Step) → calls_in read d ≡ Ok steps → nat_le (length steps) 1024 ≡ true
unfolding calls_in
calls_within read d steps h =
    let a = then_ok (or_fault (key (codes "calls")) (array_within 0 1024 d)) (each_from (call_at read) 0) steps h in
    let n = each_count (call_at read) 0 a.0 steps a.1.1 in
    let b = array_count 0 1024 d a.0 (found (key (codes "calls")) (array_within 0 1024 d) a.0 a.1.0) in
    rw n (second (nat_le 0 (count a.0)) (nat_le (count a.0) 1024) b)

script_within : (read : Data → Option Step) (d : Data) (s : Script) → script_in read d ≡ Ok s → is_script s ≡ true
unfolding script_in
script_within read d s h =
    let program = or_fault (key (codes "program")) (program_in (member_at (codes "program") d)) in
    let group = or_fault (key (codes "group")) (group_in (member_at (codes "group") d)) in
    let calls = calls_in read (member_at (codes "calls") d) in
    let r = unless_ok (keys_spot client_keys d) _ s h in
    let p = then_ok program _ s r in
    let g = then_ok group _ s p.1.1 in
    let c = then_ok calls _ s g.1.1 in
    let e : s ≡ record { program = p.0; group = g.0; steps = c.0 } = let same = c.1.1 in cc in
    rw (e, program_within (member_at (codes "program") d) p.0 (found (key (codes "program")) _ p.0 p.1.0), group_within (member_at (codes "group") d) g.0 (found (key (codes "group")) _ g.0 g.1.0), calls_within read (member_at (codes "calls") d) c.0 c.1.0) refl

-- ---- a document

sides : (p q : Bool) (m n : ℕ) (s : Size) → size_of (if p then Some m else None) (if q then Some n else None) ≡ Some s → (p ≡ true) × ((q ≡ true) × (s ≡ record { w = m; h = n }))
sides true true m n s h = (refl, (refl, cc))
sides true false m n s h = absurd (cc)
sides false true m n s h = absurd (cc)
sides false false m n s h = absurd (cc)

none_right : (o : Option ℕ) (s : Size) → size_of o None ≡ Some s → ⊥
none_right None s h = absurd (cc)
none_right (Some n) s h = absurd (cc)

both_sides : (a b : Option ℕ) (s : Size) → size_of (option_and_then (λ n. if is_within 1 512 n then Some n else None) a) (option_and_then (λ n. if is_within 1 256 n then Some n else None) b) ≡ Some s → is_size s ≡ true
both_sides None b s h = absurd (cc)
both_sides (Some m) None s h = absurd (none_right (if is_within 1 512 m then Some m else None) s h)
both_sides (Some m) (Some n) s h =
    let c = sides (is_within 1 512 m) (is_within 1 256 n) m n s h in
    rw (c.1.1, c.0, c.1.0) refl

items_size : (ds : Items) (s : Size) → size_items ds ≡ Some s → is_size s ≡ true
items_size no_items s h = absurd (cc)
items_size (item w no_items) s h = absurd (cc)
items_size (item w (item k no_items)) s h = both_sides (option_and_then as_u64 (as_number w)) (option_and_then as_u64 (as_number k)) s h
items_size (item w (item k (item more ds))) s h = absurd (cc)

size_within : (d : Data) (s : Size) → size_in d ≡ Some s → is_size s ≡ true
size_within d s h = let a = some_of (as_array d) size_items s h in items_size a.0 s a.1.1

all_within : (read : Data → Option Step) (i : ℕ) (ds : Items) (ss : List Script) → each_from (client_at read) i ds ≡ Ok ss → all_scripts ss ≡ true
all_within read i no_items ss h = let e : ss ≡ [] = cc in rw e refl
all_within read i (item d ds) ss h =
    let a = then_ok (client_at read i d) (λ x. and_then (each_from (client_at read) (suc i) ds) (λ more. Ok (x ∷ more))) ss h in
    let b = then_ok (each_from (client_at read) (suc i) ds) (λ more. Ok (a.0 ∷ more)) ss a.1.1 in
    let e : ss ≡ a.0 ∷ b.0 = let same : Ok (a.0 ∷ b.0) ≡ Ok ss = b.1.1 in cc in
    rw (e, script_within read d a.0 (with_ok (client i) (script_in read d) a.0 a.1.0), all_within read (suc i) ds b.0 b.1.0) refl

fewer : (v : Version) (n : ℕ) → is_within 1 (most_clients v) n ≡ true → is_within 1 64 n ≡ true
fewer One n h = grind (arith, nat_tests)
fewer Two n h = h

clients_within : (read : Version → Data → Option Step) (v : Version) (d : Data) (ss : List Script) → clients_in read v d ≡ Ok ss → (is_within 1 64 (length ss) ≡ true) × (all_scripts ss ≡ true)
unfolding clients_in
clients_within read v d ss h =
    let a = then_ok (or_fault (key_of (codes "clients")) (array_within 1 (most_clients v) d)) (each_from (client_at (read v)) 0) ss h in
    let n = each_count (client_at (read v)) 0 a.0 ss a.1.1 in
    let b = array_count 1 (most_clients v) d a.0 (found (key_of (codes "clients")) (array_within 1 (most_clients v) d) a.0 a.1.0) in
    (rw n (fewer v (count a.0) b), all_within (read v) 0 a.0 ss a.1.1)

settled : (b : Bool) (c : Clients) → or_fault (key_of (codes "clients")) (if b then Some c else None) ≡ (if b then Ok c else Err (key_of (codes "clients")))
settled true c = refl
settled false c = refl

pub last_test : (read : Version → Data → Option Step) (v : Version) (d e : Data) (size : Size) (ss : List Script) → or_fault (key_of (codes "size")) (size_in d) ≡ Ok size → clients_in read v e ≡ Ok ss
    → of_scripts size ss ≡ or_fault (key_of (codes "clients")) (session_of size ss)
last_test read v d e size ss h k =
    let a = size_within d size (found (key_of (codes "size")) (size_in d) size h) in
    let b = clients_within read v e ss k in
    rw (a, b.0, b.1) (sym (settled (few_calls ss) (record { size = size; scripts = ss })))
