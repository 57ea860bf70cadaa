-- Units that are printable, block by block.
use Rattle.std.proofs.Common.{◌≡◌, ℕ, ◌+◌, ◌<◌, ◌≤◌, Bool, true, nat_le, min, max, List, [], ◌∷◌, length, take, drop, get_or, refl, sym, ap, ◌∙◌, arith, take-add}
use Rattle.std.specs.List.{list_all}
use Rattle.std.specs.Int.{is_in_range}
use Rattle.std.proofs.lemmas.Bool.{and_parts}
use Rattle.std.proofs.lemmas.Bool.Decides.{nat_tests}
use Rattle.std.proofs.lemmas.List.{take-take, take_all, length-take}
use Rattle.std.proofs.lemmas.List.Folds.{list_all_more, list_all-append}
use Rattle.con_units.specs.Plain.{is_plain}

wider : (us : List ℕ) (a b c d : ℕ) → c ≤ a → b ≤ d → list_all (is_in_range a b) us ≡ true → list_all (is_in_range c d) us ≡ true
wider [] a b c d low high h = refl
wider (u ∷ us) a b c d low high h =
    let k = and_parts (is_in_range a b u) (list_all (is_in_range a b) us) h in
    let first : is_in_range c d u ≡ true = grind (arith, nat_tests) in
    rw (first, wider us a b c d low high k.1) refl

-- between the least and the greatest, one unit on
pub between_more : (us : List ℕ) (i least most : ℕ) → i < length us → list_all (is_in_range least most) (take i us) ≡ true
    → list_all (is_in_range (min least (get_or us i 0)) (max most (get_or us i 0))) (take (i + 1) us) ≡ true
between_more us i least most lt h =
    let u : ℕ = get_or us i 0 in
    let last : is_in_range (min least u) (max most u) u ≡ true = grind (arith, nat_tests) in
    list_all_more (is_in_range (min least u) (max most u)) us i 0 lt ∙ rw (wider (take i us) least most (min least u) (max most u) (omega arith) (omega arith) h, last) refl

pub between_printable : (us : List ℕ) (i least most : ℕ) → length us ≤ i → 0x20 ≤ least → nat_le most 0x7E ≡ true → list_all (is_in_range least most) (take i us) ≡ true → list_all is_plain us ≡ true
between_printable us i least most whole low high h =
    let le : most ≤ 0x7E = grind (arith, nat_tests) in
    wider us least most 0x20 0x7E low le (ap (list_all (is_in_range least most)) (sym (take_all i us whole)) ∙ h)

-- a part of the units that begins where others end
pub printable_first : (us : List ℕ) (n m : ℕ) → n ≤ length (take m us) → list_all is_plain (take n (take m us)) ≡ true → list_all is_plain (take n us) ≡ true
printable_first us n m le h = ap (list_all is_plain) (sym (take-take n m us (omega (arith, le, length-take m us)))) ∙ h

pub printable_part : (us : List ℕ) (i n m : ℕ) → n ≤ length (take m (drop i us)) → list_all is_plain (take i us) ≡ true → list_all is_plain (take n (take m (drop i us))) ≡ true → list_all is_plain (take (i + n) us) ≡ true
printable_part us i n m le h k =
    ap (list_all is_plain) (take-add i n us) ∙ list_all-append is_plain (take i us) (take n (drop i us)) ∙ rw (h, printable_first (drop i us) n m le k) refl

pub printable_next : (us : List ℕ) (i n m : ℕ) → m ≡ n → i + n ≤ length us → list_all is_plain (take i us) ≡ true → list_all is_plain (take m (drop i us)) ≡ true → (i + n ≤ length us) × (list_all is_plain (take (i + n) us) ≡ true)
printable_next us i n m e inside h k =
    let part : list_all is_plain (take n (drop i us)) ≡ true = ap (λ j. list_all is_plain (take j (drop i us))) (sym e) ∙ k in
    (inside, ap (list_all is_plain) (take-add i n us) ∙ list_all-append is_plain (take i us) (take n (drop i us)) ∙ rw (h, part) refl)

-- one unit on, whatever is tested
pub all_next : (test : ℕ → Bool) (us : List ℕ) (at : ℕ) → at < length us → list_all test (take at us) ≡ true → test (get_or us at 0) ≡ true → list_all test (take (at + 1) us) ≡ true
all_next test us at lt h k = list_all_more test us at 0 lt ∙ rw (h, k) refl
