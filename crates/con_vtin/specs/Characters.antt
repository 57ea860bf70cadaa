-- Bytes without ESC are read as their characters.
use Rattle.std.specs.Prelude.{◌≡◌, ℕ, Bool, true, not, ◌==◌, List, flat_map}
use Rattle.std.specs.List.{list_all}
use Rattle.con_units.specs.Split.{Split, split}
use Rattle.con_units.specs.Utf8.{utf8}
use Rattle.con_records.specs.declared.record.Key.{Key}
use Rattle.con_vtin.specs.Table.{character_keys}
use Rattle.con_vtin.specs.Words.Keys.{keys}

abbrev pub is_plain : ℕ → Bool
is_plain b = not (b == 0x1B)

-- the keys of characters, and the bytes of one that is not whole
abbrev pub keys_of_characters : Split ℕ → Split Key
keys_of_characters s = record { items = flat_map character_keys s.items; tail = s.tail }

abbrev pub ReadsCharacters : Type 0
ReadsCharacters = (bytes : List ℕ) → list_all is_plain bytes ≡ true → keys bytes ≡ keys_of_characters (split utf8 bytes)
