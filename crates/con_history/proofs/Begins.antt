-- What a line shares with the units that it begins with.
use Rattle.std.proofs.Common.{◌≡◌, ℕ, ◌+◌, ◌*◌, ◌/◌, ◌≤◌, ◌<◌, Bool, true, false, nat_eq, List, ◌++◌, length, take, drop, slice_index_or, ◌-◌, refl, sym, ap, ◌∙◌, ◌≢◌, arith}
use Rattle.std.specs.List.{starts_with}
use Rattle.std.proofs.lemmas.Slice.Eq.{starts_is}
use Rattle.std.proofs.lemmas.Bool.Decides.{Decides-eqb}
use Rattle.std.proofs.lemmas.List.{take-append-le, drop-append-le, length-drop}
use Rattle.std.proofs.Math.Seq.{take-length}
use Rattle.con_history.specs.Sums.{AreSums, sum_of}

-- a line that begins with some units is they and more
is_longer : (line start : List ℕ) → starts_with nat_eq line start ≡ true → line ≡ start ++ drop (length start) line
is_longer line start h = (starts_is Decides-eqb line start true (sym h)).0 refl

same_front : (line start : List ℕ) (n : ℕ) → n ≤ length start → starts_with nat_eq line start ≡ true → take n line ≡ take n start
same_front line start n le h = ap (take n) (is_longer line start h) ∙ take-append-le n start (drop (length start) line) le

rest_begins : (line start : List ℕ) (n : ℕ) → n ≤ length start → starts_with nat_eq line start ≡ true → starts_with nat_eq (drop n line) (drop n start) ≡ true
rest_begins line start n le h =
    (starts_is Decides-eqb (drop n line) (drop n start) (starts_with nat_eq (drop n line) (drop n start)) refl).1 (drop (length start) line) (ap (drop n) (is_longer line start h) ∙ drop-append-le n start (drop (length start) line) le)

-- a line whose checksum is another does not begin so
pub told_by_sum : (line start sums : List ℕ) (blocks sum : ℕ) → blocks ≡ length start / 64 → 0 < blocks → length start ≤ length line → AreSums line sums → sum ≡ sum_of (take (length start / 64 * 64) start)
    → slice_index_or sums (blocks - 1) 0 ≢ sum → false ≡ starts_with nat_eq line start
told_by_sum line start sums blocks sum is some longer are whole other = told (starts_with nat_eq line start) refl
  where
    told : (b : Bool) → starts_with nat_eq line start ≡ b → false ≡ b
    told false h = refl
    told true h =
        let units : (blocks - 1 + 1) * 64 ≡ length start / 64 * 64 = omega (arith, is, some) in
        let inside : (blocks - 1 + 1) * 64 ≤ length start = omega (arith, is, some) in
        absurd (other (are.each (blocks - 1) (omega (arith, inside, longer)) ∙ ap sum_of (same_front line start ((blocks - 1 + 1) * 64) inside h ∙ ap (λ n. take n start) units) ∙ sym whole))

rest_is : (n : ℕ) (l : List ℕ) → take (length l - n) (drop n l) ≡ drop n l
rest_is n l = ap (λ k. take k (drop n l)) (sym (length-drop n l)) ∙ take-length (drop n l)

-- nor does one whose rest does not
pub told_by_rest : (line start : List ℕ) (n : ℕ) (b : Bool) → n ≤ length start → b ≡ starts_with nat_eq (take (length line - n) (drop n line)) (take (length start - n) (drop n start)) → b ≡ false → b ≡ starts_with nat_eq line start
told_by_rest line start n b le value other = other ∙ told (starts_with nat_eq line start) refl
  where
    rest : b ≡ starts_with nat_eq (drop n line) (drop n start)
    rest = value ∙ ap (λ l. starts_with nat_eq l (take (length start - n) (drop n start))) (rest_is n line) ∙ ap (λ s. starts_with nat_eq (drop n line) s) (rest_is n start)

    told : (c : Bool) → starts_with nat_eq line start ≡ c → false ≡ c
    told false h = refl
    told true h = sym other ∙ rest ∙ rest_begins line start n le h
