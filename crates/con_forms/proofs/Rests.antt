-- A loop over a list from its front: what holds of the rest makes it hold of all.
use Rattle.std.proofs.Common.{◌≡◌, subst, ap, ◌∙◌, arith, ◌-◌, ◌<◌, ◌≤◌, List, [], ◌∷◌, length, take, drop, get_or}
use Rattle.std.specs.Prelude.{ℤ, pos, negsuc}
use Rattle.std.proofs.Math.Seq.{take-length}
use Rattle.con_events.specs.Words.Fits.{IsSmall}
use Rattle.con_lines.specs.Words.Fits.{IsWhole}
use mir.Syntax.{w16, w64}
use mir.Val.{SFits}

rest_is : {A : Type 0} (x : A) (xs : List A) → take (length (x ∷ xs) - 1) (drop 1 (x ∷ xs)) ≡ xs
rest_is x xs = (let n : length (x ∷ xs) - 1 ≡ length xs = omega arith in ap (λ k. take k xs) n) ∙ take-length xs

pub one_more : {A W : Type 0} (Q : List A → Type 0) (xs : List A) (x : A) → 1 ≤ length xs → x ≡ get_or xs 0 x → ((ys : List A) → Q ys → Q (x ∷ ys)) → (Q xs → W)
    → Q (take (length xs - 1) (drop 1 xs)) → W
one_more Q [] x some is add all rest = absurd (omega (arith, some))
one_more Q (y ∷ ys) x some is add all rest = all (subst (λ z. Q (z ∷ ys)) is (add ys (subst Q (rest_is y ys) rest)))

-- the same, where the value is copied out of the list
pub one_copied : {A W : Type 0} (Q : List A → Type 0) (xs : List A) (d : A) → 1 ≤ length xs → ((ys : List A) → Q ys → Q (get_or xs 0 d ∷ ys)) → (Q xs → W)
    → Q (take (length xs - 1) (drop 1 xs)) → W
one_copied Q [] d some add all rest = absurd (omega (arith, some))
one_copied Q (y ∷ ys) d some add all rest = all (add ys (subst Q (rest_is y ys) rest))

-- ---- numbers with a sign

pub small : (z : ℤ) → SFits w16 z → IsSmall z
small (pos n) f = let e : n < 32768 = f.sfits in omega (arith, e)
small (negsuc n) f = let e : n < 32768 = f.sfits in omega (arith, e)

pub wide : (z : ℤ) → SFits w64 z → IsWhole z
wide (pos n) f = f.sfits
wide (negsuc n) f = f.sfits
