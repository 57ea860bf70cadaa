-- Places in the list of reads.
use Rattle.std.proofs.Common.{◌≡◌, ◌≤◌, ℕ, Bool, List, [], ◌∷◌, zero, suc, true, false, arith, refl, ap, length, slice_set, Some, None, nat_lt}
use Rattle.std.specs.Prelude.{slice_index_or, cond}
use Rattle.std.specs.List.{position, position_or_len}
use Rattle.std.proofs.lemmas.List.Sums.{prefix_len-le-length}
use Rattle.std.proofs.lemmas.Bool.Decides.{nat_tests}
use Rattle.con_units.specs.Units.{changed_at}
use Rattle.con_readers.specs.declared.open.Open.{Open}
use Rattle.std.specs.Prelude.{not}

pub some_of : (b : Bool) (n i : ℕ) → Some i ≡ cond b (Some n) None → i ≡ n
some_of true n i e = cc
some_of false n i e = cc

pub none_of : (b : Bool) (n len : ℕ) → nat_lt n len ≡ b → n ≤ len → None ≡ cond b (Some n) None → len ≡ n
none_of true n len e le h = cc
none_of false n len e le h = grind (arith, nat_tests)

pub place_some : (p : Open → Bool) (os : List Open) (i : ℕ) → Some i ≡ position p os → i ≡ position_or_len p os
place_some p os i e = some_of (nat_lt (position_or_len p os) (length os)) (position_or_len p os) i e

pub place_none : (p : Open → Bool) (os : List Open) → None ≡ position p os → length os ≡ position_or_len p os
place_none p os e = none_of (nat_lt (position_or_len p os) (length os)) (position_or_len p os) (length os) refl (prefix_len-le-length (λ o. not (p o)) os) e

pub set_changed : (f : Open → Open) (os : List Open) (k : ℕ) (o : Open) → o ≡ slice_index_or os k o → slice_set os k (f o) ≡ changed_at f os k
set_changed f [] k o e = refl
set_changed f (q ∷ os) zero o e = ap (λ (r : Open). f r ∷ os) e
set_changed f (q ∷ os) (suc k) o e = ap (λ (rs : List Open). q ∷ rs) (set_changed f os k o e)

pub changed_past : (f : Open → Open) (os : List Open) (k : ℕ) → length os ≤ k → os ≡ changed_at f os k
changed_past f [] k le = refl
changed_past f (q ∷ os) zero le = absurd (omega arith)
changed_past f (q ∷ os) (suc k) le = ap (λ (rs : List Open). q ∷ rs) (changed_past f os k (omega arith))
