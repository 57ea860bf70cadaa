-- The first fault of an object's keys.
use Rattle.std.proofs.Common.{◌≡◌, ℕ, ◌≤◌, ◌<◌, ◌+◌, Bool, zero, suc, arith, List, [], ◌∷◌, length, get_or, drop, map, add-one, drop-cons}
use Rattle.std.proofs.Common.{refl, true, false, Option, Some, None, ap, sym, ◌∙◌}
use Rattle.std.specs.Prelude.{unwrap_or, option_map, ◌||◌, cond, not, is_some}
use Rattle.std.specs.Str.{bytes_eq}
use Rattle.serde_json.specs.Data.{Data, null, boolean, number, string, array, object, Members, no_members}
use Rattle.serde_json.specs.Find.{get, as_object}
use Rattle.con_document.specs.Session.{whole, key, keys_spot, first_missing, first_unknown, is_among, or_else}

pub not_object : (ks : List (List ℕ)) (d : Data) → None ≡ as_object d → keys_spot ks d ≡ Some whole
not_object ks null is = refl
not_object ks (boolean b) is = refl
not_object ks (number n) is = refl
not_object ks (string s) is = refl
not_object ks (array ds) is = refl
not_object ks (object ms) is = absurd (cc)

spot_of : (ks : List (List ℕ)) (d : Data) (ms : Members) → Some ms ≡ as_object d → keys_spot ks d ≡ option_map key (or_else (first_missing ks d) (first_unknown ks ms))
spot_of ks null ms is = absurd (cc)
spot_of ks (boolean b) ms is = absurd (cc)
spot_of ks (number n) ms is = absurd (cc)
spot_of ks (string s) ms is = absurd (cc)
spot_of ks (array ds) ms is = absurd (cc)
spot_of ks (object more) ms is = let same : ms ≡ more = ap (λ o. unwrap_or o no_members) is in rw same refl

pub at_missing : (ks : List (List ℕ)) (d : Data) (ms : Members) (k : List ℕ) → Some ms ≡ as_object d → Some k ≡ first_missing ks d → keys_spot ks d ≡ Some (key k)
at_missing ks d ms k is lacks = spot_of ks d ms is ∙ rw (← lacks) refl

pub at_unknown : (ks : List (List ℕ)) (d : Data) (ms : Members) (k : List ℕ) → Some ms ≡ as_object d → None ≡ first_missing ks d → Some k ≡ first_unknown ks ms → keys_spot ks d ≡ Some (key k)
at_unknown ks d ms k is has knows = spot_of ks d ms is ∙ rw (← has, ← knows) refl

pub at_none : (ks : List (List ℕ)) (d : Data) (ms : Members) → Some ms ≡ as_object d → None ≡ first_missing ks d → None ≡ first_unknown ks ms → keys_spot ks d ≡ None
at_none ks d ms is has knows = spot_of ks d ms is ∙ rw (← has, ← knows) refl

-- ---- loops over keys, of which f reads each

next_at : {A : Type 0} (f : A → List ℕ) (ks : List A) (i : ℕ) (d : A) → i < length ks → map f (drop i ks) ≡ f (get_or ks i d) ∷ map f (drop (i + 1) ks)
next_at f ks i d less = rw (add-one, drop-cons ks i d) refl

none_at : {A : Type 0} (f : A → List ℕ) (ks : List A) (i : ℕ) → length ks ≤ i → map f (drop i ks) ≡ []
none_at f [] zero past = refl
none_at f [] (suc i) past = refl
none_at f (k ∷ ks) zero past = absurd (omega arith)
none_at f (k ∷ ks) (suc i) past = none_at f ks i (omega arith)

passed : (b c r : Bool) → b ≡ false → (b || c) ≡ r → c ≡ r
passed false c r lacks h = h
passed true c r lacks h = absurd (cc)

met : (b c r : Bool) → b ≡ true → (b || c) ≡ r → true ≡ r
met true c r has h = h
met false c r has h = absurd (cc)

pub known_on : {A : Type 0} (f : A → List ℕ) (ks : List A) (i : ℕ) (d : A) (name : List ℕ) (b r : Bool)
    → is_among (map f (drop i ks)) name ≡ r → i < length ks → b ≡ bytes_eq (f (get_or ks i d)) name → b ≡ false
    → is_among (map f (drop (i + 1) ks)) name ≡ r
known_on f ks i d name b r so_far less is lacks =
    let more = is_among (map f (drop (i + 1) ks)) name in
    let here = sym (ap (λ xs. is_among xs name) (next_at f ks i d less)) ∙ so_far in
    passed (bytes_eq (f (get_or ks i d)) name) more r (sym is ∙ lacks) here

pub known_here : {A : Type 0} (f : A → List ℕ) (ks : List A) (i : ℕ) (d : A) (name : List ℕ) (b r : Bool)
    → is_among (map f (drop i ks)) name ≡ r → i < length ks → b ≡ bytes_eq (f (get_or ks i d)) name → b ≡ true → true ≡ r
known_here f ks i d name b r so_far less is has =
    let more = is_among (map f (drop (i + 1) ks)) name in
    let here = sym (ap (λ xs. is_among xs name) (next_at f ks i d less)) ∙ so_far in
    met (bytes_eq (f (get_or ks i d)) name) more r (sym is ∙ has) here

pub known_never : {A : Type 0} (f : A → List ℕ) (ks : List A) (i : ℕ) (name : List ℕ) (r : Bool)
    → is_among (map f (drop i ks)) name ≡ r → length ks ≤ i → false ≡ r
known_never f ks i name r so_far past = sym (ap (λ xs. is_among xs name) (none_at f ks i past)) ∙ so_far

first_of : {A : Type 0} (b : Bool) (x y r : A) → b ≡ true → cond b x y ≡ r → x ≡ r
first_of true x y r has h = h
first_of false x y r has h = absurd (cc)

second_of : {A : Type 0} (b : Bool) (x y r : A) → b ≡ false → cond b x y ≡ r → y ≡ r
second_of false x y r lacks h = h
second_of true x y r lacks h = absurd (cc)

seen_as : {V : Type 0} (g : V → Data) (o : Option V) (x : Option Data) → option_map g o ≡ x → is_some x ≡ is_some o
seen_as g None x is = ap is_some (sym is)
seen_as g (Some v) x is = ap is_some (sym is)

pub missing_on : {A V : Type 0} (f : A → List ℕ) (ks : List A) (i : ℕ) (d : A) (g : V → Data) (o : Option V) (e : Data) (b : Bool) (r : Option (List ℕ))
    → first_missing (map f (drop i ks)) e ≡ r → i < length ks → option_map g o ≡ get (f (get_or ks i d)) e → is_some o ≡ not b → b ≡ false
    → first_missing (map f (drop (i + 1) ks)) e ≡ r
missing_on f ks i d g o e b r so_far less got is lacks =
    let k = f (get_or ks i d) in
    let more = first_missing (map f (drop (i + 1) ks)) e in
    let here = sym (ap (λ xs. first_missing xs e) (next_at f ks i d less)) ∙ so_far in
    first_of (is_some (get k e)) more (Some k) r (seen_as g o (get k e) got ∙ (is ∙ ap not lacks)) here

pub missing_here : {A V : Type 0} (f : A → List ℕ) (ks : List A) (i : ℕ) (d : A) (g : V → Data) (o : Option V) (e : Data) (b : Bool) (r : Option (List ℕ))
    → first_missing (map f (drop i ks)) e ≡ r → i < length ks → option_map g o ≡ get (f (get_or ks i d)) e → is_some o ≡ not b → b ≡ true
    → Some (f (get_or ks i d)) ≡ r
missing_here f ks i d g o e b r so_far less got is has =
    let k = f (get_or ks i d) in
    let more = first_missing (map f (drop (i + 1) ks)) e in
    let here = sym (ap (λ xs. first_missing xs e) (next_at f ks i d less)) ∙ so_far in
    second_of (is_some (get k e)) more (Some k) r (seen_as g o (get k e) got ∙ (is ∙ ap not has)) here

pub missing_none : {A : Type 0} (f : A → List ℕ) (ks : List A) (i : ℕ) (e : Data) (r : Option (List ℕ))
    → first_missing (map f (drop i ks)) e ≡ r → length ks ≤ i → None ≡ r
missing_none f ks i e r so_far past = sym (ap (λ xs. first_missing xs e) (none_at f ks i past)) ∙ so_far
