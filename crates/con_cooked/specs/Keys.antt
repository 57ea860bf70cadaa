-- Which record is which key of an edited line. The codes are the virtual-key codes of the Console API documentation.
use Rattle.std.specs.Prelude.{ℕ, Bool, not, ◌==◌, ◌||◌, List, [], ◌∷◌, find, bit_and, if◌then◌else◌}
use Rattle.std.specs.Option.{option_map_or}
use Rattle.con_units.specs.Stored.{is_control}
use Rattle.con_records.specs.declared.record.Record.{Record}
use Rattle.con_records.specs.declared.record.Record.TheVariants as record_
use Rattle.con_cooked.specs.declared.keys.LineKey.{LineKey}
use Rattle.con_cooked.specs.declared.keys.LineKey.TheVariants as key

-- what is told by a code alone, and by whether ctrl is held: VK_ESCAPE, VK_LEFT, VK_UP, VK_RIGHT, VK_DOWN, VK_PRIOR, VK_NEXT, VK_END,
-- VK_HOME, VK_INSERT, VK_DELETE, VK_F3 and VK_F8
abbrev pub keys : Bool → List (ℕ × LineKey)
keys ctrl =
    (0x1B, key.Escape) ∷ (0x25, if ctrl then key.WordLeft else key.Left) ∷ (0x26, key.Up) ∷ (0x27, if ctrl then key.WordRight else key.Right)
    ∷ (0x28, key.Down) ∷ (0x21, key.PageUp) ∷ (0x22, key.PageDown) ∷ (0x23, key.End) ∷ (0x24, key.Home) ∷ (0x2D, key.Insert)
    ∷ (0x2E, key.Delete) ∷ (0x72, key.Rest) ∷ (0x77, key.Search) ∷ []

-- a key that is down, by its unit where that is no control (0 is one), or else as VK_RETURN, VK_BACK or by the table;
-- ctrl is LEFT_CTRL_PRESSED (8)
abbrev pub key_of : Record → LineKey
key_of (record_.Key k) =
    if not k.down then key.Nothing
    else if not (is_control k.unit) then key.Unit k.unit
    else if (k.unit == 0x0D) || (k.vk == 0x0D) then key.Return
    else if (k.vk == 0x08) || (k.unit == 0x08) then key.Back
    else option_map_or (λ (p : ℕ × LineKey). p.1) (find (λ (p : ℕ × LineKey). k.vk == p.0) (keys (not (bit_and k.state 8 == 0)))) key.Nothing
key_of _ = key.Nothing
