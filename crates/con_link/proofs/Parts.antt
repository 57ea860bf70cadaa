-- A part of a buffer after a read into it.
use Rattle.std.proofs.Common.{◌≡◌, ℕ, ◌+◌, ◌≤◌, List, ◌++◌, length, take, sym, ap, ◌∙◌, arith, length-append, Option}
use Rattle.std.proofs.lemmas.List.{length-take-le, take-append-le}
use Rattle.std.proofs.Math.Seq.{take-append-add}
use borrow.Rule.Slice.PartMut.{put_mid, post_of}
use Rattle.con_outside.specs.Outside.{then_left}
use Rattle.con_outside.specs.Laws.{then_left-more}

take_part : (a k n : ℕ) (xs ys : List ℕ) → a ≤ length xs → n ≤ length ys → take (a + n) (put_mid a k xs ys) ≡ take a xs ++ take n ys
take_part a k n xs ys p q =
    ap (λ m. take (m + n) (put_mid a k xs ys)) (sym (length-take-le a xs p))
    ∙ (take-append-add (take a xs) (ys ++ post_of a k xs) n ∙ ap (λ t. take a xs ++ t) (take-append-le n ys (post_of a k xs) q))

-- what a buffer's front took, and a read into the part behind it
pub part_taken : (a k n : ℕ) (xs ys : List ℕ) (first between last : Option (List ℕ)) → a ≤ length xs → n ≤ length ys
    → first ≡ then_left (take a xs) between → between ≡ then_left (take n ys) last → first ≡ then_left (take (a + n) (put_mid a k xs ys)) last
part_taken a k n xs ys first between last p q before now =
    then_left-more (take a xs) (take n ys) first between last before now ∙ ap (λ t. then_left t last) (sym (take_part a k n xs ys p q))

pub part_within : (a k n : ℕ) (xs ys : List ℕ) → a ≤ length xs → n ≤ length ys → a + n ≤ length (put_mid a k xs ys)
part_within a k n xs ys p q = omega (arith, length-append (take a xs) (ys ++ post_of a k xs), length-append ys (post_of a k xs), length-take-le a xs p)
