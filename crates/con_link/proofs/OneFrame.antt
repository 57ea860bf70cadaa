-- Two frames at one place are one.
use Rattle.std.proofs.Common.{◌≡◌, ℕ, ◌+◌, ◌*◌, ◌/◌, ◌%◌, List, ◌∷◌, ◌++◌, length, take, drop, get_or, refl, ap, sym, ◌∙◌, arith, take_at, drop_at}
use Rattle.con_units.specs.declared.view.Frame.TheVariants.{Bytes, Quiet, Resize, Ask, Hangup, End}
use Rattle.con_units.specs.declared.place.Size.{Size}
use Rattle.con_link.specs.Frames.{spelling}
use Rattle.con_link.specs.Only.{OneFrame}

-- the frame that bytes begin with, guessed from them
abbrev number_at : ℕ → List ℕ → ℕ
number_at i xs = get_or xs i 0 * 256 + get_or xs (i + 1) 0

again : (n : ℕ) → n / 256 * 256 + n % 256 ≡ n
again n = omega arith

bytes_same : (a b r s : List ℕ) → spelling (Bytes a) ++ r ≡ spelling (Bytes b) ++ s → (a ≡ b) × (r ≡ s)
bytes_same a b r s e =
    let size : length a ≡ length b = sym (again (length a)) ∙ (ap (number_at 1) e ∙ again (length b)) in
    let rest : a ++ r ≡ b ++ s = ap (drop 3) e in
    let same : a ≡ b = sym (take_at a r (length a) refl) ∙ (ap (take (length a)) rest ∙ take_at b s (length a) (sym size)) in
    let more : r ≡ s = sym (drop_at a r (length a) refl) ∙ (ap (drop (length a)) rest ∙ drop_at b s (length a) (sym size)) in
    (same, more)

size_same : (a b : Size) (r s : List ℕ) → spelling (Resize a) ++ r ≡ spelling (Resize b) ++ s → (a ≡ b) × (r ≡ s)
size_same a b r s e =
    let w : a.w ≡ b.w = sym (again a.w) ∙ (ap (number_at 1) e ∙ again b.w) in
    let h : a.h ≡ b.h = sym (again a.h) ∙ (ap (number_at 3) e ∙ again b.h) in
    (λ i. record { w = w i; h = h i }, ap (drop 5) e)

tags : (x y : ℕ) (r s : List ℕ) → x ∷ r ≡ y ∷ s → x ≡ y
tags x y r s e = ap (λ xs. get_or xs 0 0) e

pub one_frame : OneFrame
one_frame (Bytes a) (Bytes b) r s f g p q e = let both = bytes_same a b r s e in (ap Bytes both.0, both.1)
one_frame (Bytes a) Quiet r s f g p q e = absurd (omega (arith, tags _ _ _ _ e))
one_frame (Bytes a) (Resize b) r s f g p q e = absurd (omega (arith, tags _ _ _ _ e))
one_frame (Bytes a) Ask r s f g p q e = absurd (omega (arith, tags _ _ _ _ e))
one_frame (Bytes a) Hangup r s f g p q e = absurd (omega (arith, tags _ _ _ _ e))
one_frame (Bytes a) End r s f g p q e = absurd (q refl)
one_frame Quiet (Bytes b) r s f g p q e = absurd (omega (arith, tags _ _ _ _ e))
one_frame Quiet Quiet r s f g p q e = (refl, ap (drop 1) e)
one_frame Quiet (Resize b) r s f g p q e = absurd (omega (arith, tags _ _ _ _ e))
one_frame Quiet Ask r s f g p q e = absurd (omega (arith, tags _ _ _ _ e))
one_frame Quiet Hangup r s f g p q e = absurd (omega (arith, tags _ _ _ _ e))
one_frame Quiet End r s f g p q e = absurd (q refl)
one_frame (Resize a) (Bytes b) r s f g p q e = absurd (omega (arith, tags _ _ _ _ e))
one_frame (Resize a) Quiet r s f g p q e = absurd (omega (arith, tags _ _ _ _ e))
one_frame (Resize a) (Resize b) r s f g p q e = let both = size_same a b r s e in (ap Resize both.0, both.1)
one_frame (Resize a) Ask r s f g p q e = absurd (omega (arith, tags _ _ _ _ e))
one_frame (Resize a) Hangup r s f g p q e = absurd (omega (arith, tags _ _ _ _ e))
one_frame (Resize a) End r s f g p q e = absurd (q refl)
one_frame Ask (Bytes b) r s f g p q e = absurd (omega (arith, tags _ _ _ _ e))
one_frame Ask Quiet r s f g p q e = absurd (omega (arith, tags _ _ _ _ e))
one_frame Ask (Resize b) r s f g p q e = absurd (omega (arith, tags _ _ _ _ e))
one_frame Ask Ask r s f g p q e = (refl, ap (drop 1) e)
one_frame Ask Hangup r s f g p q e = absurd (omega (arith, tags _ _ _ _ e))
one_frame Ask End r s f g p q e = absurd (q refl)
one_frame Hangup (Bytes b) r s f g p q e = absurd (omega (arith, tags _ _ _ _ e))
one_frame Hangup Quiet r s f g p q e = absurd (omega (arith, tags _ _ _ _ e))
one_frame Hangup (Resize b) r s f g p q e = absurd (omega (arith, tags _ _ _ _ e))
one_frame Hangup Ask r s f g p q e = absurd (omega (arith, tags _ _ _ _ e))
one_frame Hangup Hangup r s f g p q e = (refl, ap (drop 1) e)
one_frame Hangup End r s f g p q e = absurd (q refl)
one_frame End g r s f h p q e = absurd (p refl)
