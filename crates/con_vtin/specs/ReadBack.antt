-- Which keys are read back from the units that they send.
use Rattle.std.specs.Prelude.{◌≡◌, ℕ, ◌<◌, Bool, false, ◌||◌, ◌==◌, List, [], ◌∷◌, Some}
use Rattle.con_records.specs.declared.record.Key.{Key}
use Rattle.con_vtin.specs.Table.{byte_key, with_alt, control_sequence_key, letter_key}
use Rattle.con_vtin.specs.Words.Keys.{keys}
use Rattle.con_vtin.specs.Sequences.{key_units}

-- the units that the key sends are read as this key, and nothing is left of them
abbrev pub IsReadBack : Key → Type 0
IsReadBack k = (cursor_keys : Bool) → keys (key_units k cursor_keys) ≡ record { items = k ∷ []; tail = [] }

-- the units that the key sends are read as these keys, and these bytes are left of them
abbrev pub IsReadAs : Key → List Key → List ℕ → Type 0
IsReadAs k others left = (cursor_keys : Bool) → keys (key_units k cursor_keys) ≡ record { items = others; tail = left }

-- Of the keys below U+0080, all but escape; with alt all but escape, [ and O; and all keys of sequences.
pub record ReadBack : Type 0 where
  pub plain : (b : ℕ) → b < 0x80 → (b == 0x1B) ≡ false → IsReadBack (byte_key b)
  pub alt : (b : ℕ) → b < 0x80 → ((b == 0x1B) || (b == 0x5B) || (b == 0x4F)) ≡ false → IsReadBack (with_alt (byte_key b))
  pub control_sequence : (body : List ℕ) (last : ℕ) (k : Key) → control_sequence_key body last ≡ Some k → IsReadBack k
  pub single : (last : ℕ) (k : Key) → letter_key 0 last ≡ Some k → IsReadBack k
  pub not_escape : IsReadAs (byte_key 0x1B) [] (0x1B ∷ [])
  pub not_alt_escape : IsReadAs (with_alt (byte_key 0x1B)) (byte_key 0x1B ∷ []) (0x1B ∷ [])
  pub not_alt_bracket : IsReadAs (with_alt (byte_key 0x5B)) [] (0x1B ∷ 0x5B ∷ [])
  pub not_alt_single : IsReadAs (with_alt (byte_key 0x4F)) [] (0x1B ∷ 0x4F ∷ [])
