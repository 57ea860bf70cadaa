-- What was read of files, one after another.
use Rattle.std.proofs.Common.{◌≡◌, ◌⊎◌, inl, inr, refl, subst, ℕ, Bool, true, false, List, Option, Some, None}
use Rattle.std.specs.Prelude.{IfSome}
use Rattle.con_outside.specs.Named.{IsTooLong}
use Rattle.con_ending.specs.Files.{too_long}
use Rattle.con_inspect.specs.Four.{Four, IsThere, Bars}
use Rattle.con_inspect.specs.Words.Four.{IsRead}

long_there : (o : Option (List ℕ)) → IsTooLong o → (bytes : List ℕ) × (o ≡ Some bytes)
long_there None long = absurd long
long_there (Some bytes) long = (bytes, refl)

-- what was read is there
pub read_there : (files : Option (List ℕ → Option (List ℕ))) (name bytes : List ℕ) (whole : Bool) → IsRead files name bytes whole → IsThere files name
read_there None name bytes whole read = tt
read_there (Some find) name bytes true read = (bytes, read.1)
read_there (Some find) name bytes false read = long_there (find name) read

-- ---- a file that is too long

is_long : (files : Option (List ℕ → Option (List ℕ))) (name bytes : List ℕ) (whole : Bool) → whole ≡ false → IsRead files name bytes whole
    → IfSome files (λ find. IsTooLong (find name))
is_long files name bytes whole e read = subst (IsRead files name bytes) e read

-- not all of them were whole
pub one_long : (files : Option (List ℕ → Option (List ℕ))) (names bytes : Four) (failed : Type 0) (a b c d : Bool)
    → IsRead files names.session bytes.session a → IsRead files names.link bytes.link b → IsRead files names.stream bytes.stream c
    → IsRead files names.report bytes.report d
    → (a ≡ false) ⊎ ((b ≡ false) ⊎ ((c ≡ false) ⊎ (d ≡ false))) → Bars files names failed too_long
one_long files names bytes failed a b c d p q r s which = (
  (
    read_there files names.session bytes.session a p,
    (read_there files names.link bytes.link b q, (read_there files names.stream bytes.stream c r, (read_there files names.report bytes.report d s, tt))),
  ),
  elim which [
    | inl e ↦ inl (is_long files names.session bytes.session a e p)
    | inr w ↦ elim w [
      | inl e ↦ inr (inl (is_long files names.link bytes.link b e q))
      | inr v ↦ elim v [
        | inl e ↦ inr (inr (inl (is_long files names.stream bytes.stream c e r)))
        | inr e ↦ inr (inr (inr (inl (is_long files names.report bytes.report d e s))))
      ]
    ]
  ],
)
