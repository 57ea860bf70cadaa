-- What the state of a reader says of the bytes that are no key yet.
use Rattle.std.specs.Prelude.{◌≡◌, ◌≢◌, ℕ, zero, suc, ◌<◌, Bool, true, false, not, ◌&&◌, ◌==◌, nat_le, List, [], ◌∷◌, ◌++◌, length, take, Option, Some, None, option_to_list}
use Rattle.std.specs.List.{list_all}
use Rattle.con_vtin.specs.Keys.{is_front, whole, is_parameter, is_intermediate}
use Rattle.con_vtin.specs.Pieces.{is_keyless}
use Rattle.con_vtin.specs.declared.unfinished.Phase.{Phase}
use Rattle.con_vtin.specs.declared.unfinished.Phase.TheVariants.{Nothing, Escape, Single, First, Second}
use Rattle.con_vtin.specs.declared.unfinished.Step.{Step}
use Rattle.con_vtin.specs.declared.unfinished.Step.TheVariants as steps
use Rattle.con_vtin.specs.declared.unfinished.Advance.{Advance}
use Rattle.con_vtin.specs.declared.unfinished.Advance.TheVariants as advances

-- parameter bytes, and then some intermediate ones
pub record IsSecond (body : List ℕ) : Type 0 where
  pub first : List ℕ
  pub last : List ℕ
  pub parts : body ≡ first ++ last
  pub parameters : list_all is_parameter first ≡ true
  pub intermediates : list_all is_intermediate last ≡ true
  pub some : last ≢ []

-- the bytes are what the phase was left by
abbrev pub Holds : Phase → List ℕ → Type 0
Holds Nothing bytes = bytes ≡ []
Holds Escape bytes = bytes ≡ 0x1B ∷ []
Holds Single bytes = bytes ≡ 0x1B ∷ 0x4F ∷ []
Holds First bytes = (body : List ℕ) × (bytes ≡ 0x1B ∷ 0x5B ∷ body) × (list_all is_parameter body ≡ true)
Holds Second bytes = (body : List ℕ) × (bytes ≡ 0x1B ∷ 0x5B ∷ body) × IsSecond body

-- what one more byte does to a sequence that is not whole yet
abbrev pub Steps : Step → List ℕ → ℕ → Type 0
Steps (steps.GoesOn phase) bytes b = (is_front (bytes ++ b ∷ []) ≡ true) × Holds phase (bytes ++ b ∷ []) × (length bytes < 32)
Steps (steps.Ends key) bytes b = (is_front (bytes ++ b ∷ []) ≡ false) × (whole (bytes ++ b ∷ []) ≡ Some (option_to_list key))
Steps steps.Breaks bytes b = (is_front (bytes ++ b ∷ []) ≡ false) × (whole (bytes ++ b ∷ []) ≡ None)

-- the same, and what is held then
abbrev pub Advances : Advance → List ℕ → ℕ → List ℕ → Type 0
Advances advances.GoesOn bytes b after = (is_front (bytes ++ b ∷ []) ≡ true) × (after ≡ bytes ++ b ∷ [])
Advances (advances.Ends key) bytes b after = (is_front (bytes ++ b ∷ []) ≡ false) × (whole (bytes ++ b ∷ []) ≡ Some (option_to_list key)) × (after ≡ [])
Advances advances.Breaks bytes b after = (is_front (bytes ++ b ∷ []) ≡ false) × (whole (bytes ++ b ∷ []) ≡ None) × (after ≡ bytes)

-- so many bytes, or none where there are no bytes
abbrev pub kept_of : ℕ → List ℕ → Option (List ℕ)
kept_of zero bytes = None
kept_of (suc n) bytes = Some (take (suc n) bytes)

-- the bytes of a character that is not whole, which ESC is none of
abbrev pub is_text : List ℕ → Bool
is_text [] = true
is_text (b ∷ bs) = not (b == 0x1B) && nat_le (length bs) 2

-- the bytes held: of a sequence, or of a character
abbrev pub held_of : List ℕ → List ℕ → List ℕ
held_of [] text = text
held_of (b ∷ bs) text = b ∷ bs

abbrev pub IsApart : List ℕ → List ℕ → Type 0
IsApart [] text = is_text text ≡ true
IsApart (b ∷ bs) text = text ≡ []

-- the byte ends a control sequence that gives no key
abbrev pub ends_keyless : List ℕ → ℕ → Bool
ends_keyless bytes b = not (is_front (bytes ++ b ∷ [])) && is_keyless (bytes ++ b ∷ [])

-- the step ends a sequence that gives no key
abbrev pub ends_none : Step → Bool
ends_none (steps.GoesOn phase) = false
ends_none (steps.Ends None) = true
ends_none (steps.Ends (Some key)) = false
ends_none steps.Breaks = false
