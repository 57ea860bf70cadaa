-- Items that are read from values, one after another.
use Rattle.std.proofs.Common.{◌≡◌, ℕ, ◌≤◌, ◌<◌, ◌+◌, zero, suc, arith, List, [], ◌∷◌, ◌++◌, length, get_or, drop, add-one, drop-cons, append_assoc}
use Rattle.std.proofs.Common.{refl, Option, Some, None, ap, sym, ◌∙◌}
use Rattle.std.specs.Prelude.{Result, Ok, Err, option_map, option_and_then}
use Rattle.con_units.specs.SplitLaws.{append_none}
use Rattle.con_values.specs.Values.{unit_in}
use Rattle.con_values.specs.Cursors.{with_front}
use Rattle.serde_json.specs.Data.{Data, no_items}
use Rattle.serde_json.specs.View.{view, items_view}
use Rattle.serde_json.specs.declared.value.Value.{Value}
use Rattle.con_document.specs.Values.{units_items}
use Rattle.con_document.specs.Session.{and_then, each_from}
use Rattle.con_script.specs.Cursors.{after}

-- a first number, and those of the rest
abbrev joined : Option ℕ → Option (List ℕ) → Option (List ℕ)
joined o rest = option_and_then (λ u. option_map (λ us. u ∷ us) rest) o

unit_next : (vs : List Value) (i : ℕ) (d : Value) → i < length vs → d ≡ get_or vs i d
    → units_items (items_view (drop i vs)) ≡ joined (unit_in (view d)) (units_items (items_view (drop (i + 1) vs)))
unit_next vs i d less at = rw (add-one, drop-cons vs i d, ← at) refl

pub no_units : (us : List ℕ) (r : Option (List ℕ)) → us ≡ [] → with_front us r ≡ r
no_units us None e = refl
no_units us (Some more) e = rw e refl

nothing_next : (vs : List Value) (i : ℕ) → length vs ≤ i → items_view (drop i vs) ≡ no_items
nothing_next [] zero past = refl
nothing_next [] (suc i) past = refl
nothing_next (v ∷ vs) zero past = absurd (omega arith)
nothing_next (v ∷ vs) (suc i) past = nothing_next vs i (omega arith)

moved_on : (us : List ℕ) (u : ℕ) (rest : Option (List ℕ)) → with_front us (joined (Some u) rest) ≡ with_front (us ++ u ∷ []) rest
moved_on us u None = refl
moved_on us u (Some more) = ap (λ (xs : List ℕ). Some xs) (sym (append_assoc us (u ∷ []) more))

pub units_on : (vs : List Value) (i : ℕ) (d : Value) (us now : List ℕ) (u : ℕ) (r : Option (List ℕ))
    → with_front us (units_items (items_view (drop i vs))) ≡ r → i < length vs → d ≡ get_or vs i d → Some u ≡ unit_in (view d) → now ≡ us ++ u ∷ []
    → with_front now (units_items (items_view (drop (i + 1) vs))) ≡ r
units_on vs i d us now u r so_far less at is put =
    let rest = units_items (items_view (drop (i + 1) vs)) in
    let here = ap (with_front us) (sym (unit_next vs i d less at)) ∙ so_far in
    ap (λ (xs : List ℕ). with_front xs rest) put ∙ (sym (moved_on us u rest) ∙ (ap (λ o. with_front us (joined o rest)) is ∙ here))

pub all_units : (vs : List Value) (i : ℕ) (us : List ℕ) (r : Option (List ℕ))
    → with_front us (units_items (items_view (drop i vs))) ≡ r → length vs ≤ i → r ≡ Some us
all_units vs i us r so_far past =
    sym so_far ∙ (ap (λ ds. with_front us (units_items ds)) (nothing_next vs i past) ∙ ap (λ (xs : List ℕ). Some xs) (append_none us))

-- ---- what f reads, or its first fault

-- a first item, and those of the rest
abbrev led : {A E : Type 0} → Result A E → Result (List A) E → Result (List A) E
led r rest = and_then r (λ a. and_then rest (λ more. Ok (a ∷ more)))

pub none_yet : {A E : Type 0} (xs : List A) (r : Result (List A) E) → xs ≡ [] → after xs r ≡ r
none_yet xs (Err e) h = refl
none_yet xs (Ok more) h = rw h refl

each_next : {A E : Type 0} (f : ℕ → Data → Result A E) (vs : List Value) (i : ℕ) (d : Value) → i < length vs → d ≡ get_or vs i d
    → each_from f i (items_view (drop i vs)) ≡ led (f i (view d)) (each_from f (i + 1) (items_view (drop (i + 1) vs)))
each_next f vs i d less at = rw (add-one, drop-cons vs i d, ← at) refl

went_on : {A E : Type 0} (xs : List A) (a : A) (rest : Result (List A) E) → after xs (led (Ok a) rest) ≡ after (xs ++ a ∷ []) rest
went_on xs a (Err e) = refl
went_on {A} xs a (Ok more) = ap (λ (ys : List A). Ok ys) (sym (append_assoc xs (a ∷ []) more))

pub each_on : {A E : Type 0} (f : ℕ → Data → Result A E) (vs : List Value) (i : ℕ) (d : Value) (xs now : List A) (a : A) (r : Result (List A) E)
    → after xs (each_from f i (items_view (drop i vs))) ≡ r → i < length vs → d ≡ get_or vs i d → f i (view d) ≡ Ok a → now ≡ xs ++ a ∷ []
    → after now (each_from f (i + 1) (items_view (drop (i + 1) vs))) ≡ r
each_on {A} {E} f vs i d xs now a r so_far less at is put =
    let rest = each_from f (i + 1) (items_view (drop (i + 1) vs)) in
    let here = ap (after xs) (sym (each_next f vs i d less at)) ∙ so_far in
    ap (λ (ys : List A). after ys rest) put ∙ (sym (went_on xs a rest) ∙ (ap (λ (o : Result A E). after xs (led o rest)) (sym is) ∙ here))

pub all_each : {A E : Type 0} (f : ℕ → Data → Result A E) (vs : List Value) (i : ℕ) (xs : List A) (r : Result (List A) E)
    → after xs (each_from f i (items_view (drop i vs))) ≡ r → length vs ≤ i → r ≡ Ok xs
all_each {A} {E} f vs i xs r so_far past =
    sym so_far ∙ (ap (λ ds. after xs (each_from f i ds)) (nothing_next vs i past) ∙ ap (λ (ys : List A). Ok ys) (append_none xs))
