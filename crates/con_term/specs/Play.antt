-- What bytes make of a terminal.
use Rattle.std.specs.Prelude.{ℕ, List, fold, flat_map}
use Rattle.std.specs.Char.Escape.{encode_utf16}
use Rattle.con_units.specs.Split.{Split, split_after}
use Rattle.con_units.specs.Utf8.{utf8}
use Rattle.con_vtgram.specs.Text.{grammar}
use Rattle.con_vtgram.specs.declared.item.Item.{Item}
use Rattle.con_term.specs.Effect.{effect}
use Rattle.con_term.specs.Cost.{costs}
use Rattle.con_term.specs.Terminal.{Terminal}

-- the one or two units of a character in UTF-16; closed, so that a goal about many of them stays short
unfoldable pub units_of : ℕ → List ℕ
units_of c = encode_utf16 c

-- the items of the units of the characters that bytes complete, and the units that are no item yet
abbrev pub sequences : List ℕ → List ℕ → List ℕ → Split Item
sequences held units bytes = split_after grammar units (flat_map units_of (split_after utf8 held bytes).items)

-- the terminal after bytes
unfoldable pub play : Terminal → List ℕ → Terminal
play t bytes = let s = sequences t.bytes t.units bytes in
    record { page = fold effect t.page s.items; bytes = (split_after utf8 t.bytes bytes).tail; units = s.tail }

-- how many cells the bytes print or erase
unfoldable pub printed : Terminal → List ℕ → ℕ
printed t bytes = costs t.page (sequences t.bytes t.units bytes).items
