-- Units of printable ASCII.
use Rattle.std.proofs.Common.{◌≡◌, ℕ, zero, suc, ◌-◌, ◌<◌, true, List, [], ◌∷◌, length, take, drop, get_or, sym, ap, ◌∙◌, arith}
use Rattle.std.specs.List.{list_all}
use Rattle.std.proofs.lemmas.Bool.{and_parts}
use Rattle.std.proofs.lemmas.List.{take-append-drop, take_rest}
use Rattle.std.proofs.lemmas.List.Folds.{list_all-append}
use Rattle.con_units.specs.Plain.{is_plain}

pub plain_at : (us : List ℕ) (k : ℕ) → k < length us → list_all is_plain us ≡ true → is_plain (get_or us k 0) ≡ true
plain_at [] k lt h = absurd (omega arith)
plain_at (u ∷ us) zero lt h = (and_parts (is_plain u) (list_all is_plain us) h).0
plain_at (u ∷ us) (suc k) lt h = plain_at us k (omega (arith, lt)) (and_parts (is_plain u) (list_all is_plain us) h).1

plain_parts : (us : List ℕ) (k : ℕ) → list_all is_plain us ≡ true → (list_all is_plain (take k us) ≡ true) × (list_all is_plain (drop k us) ≡ true)
plain_parts us k h = and_parts (list_all is_plain (take k us)) (list_all is_plain (drop k us)) (sym (list_all-append is_plain (take k us) (drop k us)) ∙ ap (λ (vs : List ℕ). list_all is_plain vs) (take-append-drop k us) ∙ h)

pub plain_front : (us : List ℕ) (k : ℕ) → list_all is_plain us ≡ true → list_all is_plain (take k us) ≡ true
plain_front us k h = (plain_parts us k h).0

pub plain_back : (us : List ℕ) (k : ℕ) → list_all is_plain us ≡ true → list_all is_plain (take (length us - k) (drop k us)) ≡ true
plain_back us k h = ap (λ (vs : List ℕ). list_all is_plain vs) (take_rest us k) ∙ (plain_parts us k h).1
