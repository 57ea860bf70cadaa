-- What is read as on any link, and as a new size, are frames of a link with a second terminal.
use Rattle.std.proofs.Common.{◌≡◌, ℕ, Bool, true, false, List, [], ◌∷◌, ◌++◌, length, drop, get_or, Option, Result, Ok, Err, refl, sym, ap, subst, inl, inr, arith}
use Rattle.std.specs.Prelude.{◌||◌, not, nat_eq}
use Rattle.std.proofs.lemmas.Bool.Decides.{nat_tests}
use Rattle.con_units.specs.declared.view.Frame.{Frame}
use Rattle.con_units.specs.declared.view.Frame.TheVariants.{Bytes, Quiet, Resize, Ask, Hangup, End}
use Rattle.con_units.specs.declared.view.FrameFault.TheVariants as kinds
use Rattle.con_link.specs.declared.fault.LinkFault.{LinkFault}
use Rattle.con_link.specs.declared.fault.LinkFault.TheVariants as faults
use Rattle.con_link.specs.Walked.{Takes, is_part, is_less, is_tag, is_bad_tag}
use Rattle.con_link.specs.Walked.{MirrorTakes, is_bad_mirror_tag, is_mirror_less, is_mirror_part, is_part_of_attach}
use Rattle.con_link.specs.Attached.{plain_read, attach_read}

tags : (x y : ℕ) (r s : List ℕ) → x ∷ r ≡ y ∷ s → x ≡ y
tags x y r s e = ap (λ xs. get_or xs 0 0) e

abbrev as_attach : List ℕ → List ℕ
as_attach xs = 65 ∷ drop 1 xs

-- ---- a size

too_long : (text front : List ℕ) (byte : ℕ) → 82 ∷ text ≡ front ++ byte ∷ [] → is_less front ≡ true
    → (f : List ℕ) × (b : ℕ) × (65 ∷ text ≡ f ++ b ∷ []) × (is_mirror_less f ≡ true)
too_long text [] byte e l = ([], 65, ap as_attach e, refl)
too_long text (x ∷ xs) byte e l =
    let P : ℕ → Type 0 = λ y. is_part (y ∷ xs) ≡ true in
    (65 ∷ xs, byte, ap as_attach e, subst P (sym (tags 82 x text (xs ++ byte ∷ []) e)) l)

no_tag : (text : List ℕ) → is_bad_tag (82 ∷ text) ≡ true → ⊥
no_tag [] e = absurd (cc)
no_tag (x ∷ xs) e = absurd (cc)

-- behind the first byte of an attaching frame a size is read as behind that of a new size
pub retagged : (r : Result Frame LinkFault) (place : ℕ) (text : List ℕ) (left : Option (List ℕ))
    → Takes r place (82 ∷ text) left → MirrorTakes (attach_read r) place (65 ∷ text) left
retagged (Ok (Resize size)) place text left a = (ap as_attach a.0, a.1, tt, a.3)
retagged (Ok (Bytes bytes)) place text left a = absurd (omega (arith, tags _ _ _ _ a.0))
retagged (Ok Quiet) place text left a = absurd (omega (arith, tags _ _ _ _ a.0))
retagged (Ok Ask) place text left a = absurd (omega (arith, tags _ _ _ _ a.0))
retagged (Ok Hangup) place text left a = absurd (omega (arith, tags _ _ _ _ a.0))
retagged (Ok End) place text left a = absurd (omega (arith, ap length a.0))
retagged (Err (faults.Bad at kinds.Tag)) place text left a = absurd (no_tag text a.1)
retagged (Err (faults.Bad at kinds.Length)) place text left (e, s, l) = absurd (omega (arith, tags _ _ _ _ s.2))
retagged (Err (faults.Bad at kinds.Size)) place text left (e, s, l) = (e, inr (s.0, s.1, s.2, s.3, ap as_attach s.4, s.5), l)
retagged (Err (faults.Bad at kinds.Cut)) place text left a = a
retagged (Err faults.TooLong) place text left (e, (front, byte, is, less)) = (e, too_long text front byte is less)
retagged (Err faults.Failed) place text left a = a
retagged (Err faults.OutOfMemory) place text left a = a

-- ---- a frame as every link has it

or_left : (a b : Bool) → a ≡ true → (a || b) ≡ true
or_left true b e = refl
or_left false b e = absurd (cc)

pub less_still : (text : List ℕ) → is_less text ≡ true → is_mirror_less text ≡ true
less_still [] e = refl
less_still (x ∷ xs) e = or_left (is_part (x ∷ xs)) (is_part_of_attach (x ∷ xs)) e

part_still : (text : List ℕ) → is_part text ≡ true → is_mirror_part text ≡ true
part_still text e = or_left (is_part text) (is_part_of_attach text) e

other : (a b : ℕ) → (a ≡ b → ⊥) → nat_eq a b ≡ false
other a b n = by_test (nat_eq a b) refl
  where
    by_test : (t : Bool) → nat_eq a b ≡ t → t ≡ false
    by_test true e = absurd (n (grind (arith, nat_tests)))
    by_test false e = refl

bad_still : (tag : ℕ) (text : List ℕ) → (tag ≡ 65 → ⊥) → (tag ≡ 68 → ⊥) → is_bad_tag (tag ∷ text) ≡ true → is_bad_mirror_tag (tag ∷ text) ≡ true
bad_still tag [] a d e = rw (other tag 65 a, other tag 68 d) (by_tag (is_tag tag) e)
  where
    by_tag : (t : Bool) → not t ≡ true → not (t || false) ≡ true
    by_tag true e = absurd (cc)
    by_tag false e = refl
bad_still tag (x ∷ xs) a d e = absurd (cc)

pub read_still : (r : Result Frame LinkFault) (place tag : ℕ) (text : List ℕ) (left : Option (List ℕ)) → (tag ≡ 65 → ⊥) → (tag ≡ 68 → ⊥)
    → Takes r place (tag ∷ text) left → MirrorTakes (plain_read r) place (tag ∷ text) left
read_still (Ok frame) place tag text left n m a = a
read_still (Err (faults.Bad at kinds.Tag)) place tag text left n m (e, s, l) = (e, bad_still tag text n m s, l)
read_still (Err (faults.Bad at kinds.Length)) place tag text left n m a = a
read_still (Err (faults.Bad at kinds.Size)) place tag text left n m (e, s, l) = (e, inl s, l)
read_still (Err (faults.Bad at kinds.Cut)) place tag text left n m (e, (p, c), l) = (e, (part_still (tag ∷ text) p, c), l)
read_still (Err faults.TooLong) place tag text left n m (e, (front, byte, is, less)) = (e, (front, byte, is, less_still front less))
read_still (Err faults.Failed) place tag text left n m (p, l) = (less_still (tag ∷ text) p, l)
read_still (Err faults.OutOfMemory) place tag text left n m (p, l) = (less_still (tag ∷ text) p, l)
