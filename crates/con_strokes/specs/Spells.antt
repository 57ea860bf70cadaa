-- Which items bytes spell to a terminal that is between sequences.
use Rattle.std.specs.Prelude.{◌<◌, ◌≤◌, ◌≡◌, ℕ, List, [], ◌∷◌, flat_map, length, min, false, true}
use Rattle.con_units.specs.Split.{split}
use Rattle.con_units.specs.Utf8.{utf8}
use Rattle.con_vtgram.specs.Text.{grammar, sixteen}
use Rattle.con_vtgram.specs.declared.item.Csi.{Csi}
use Rattle.con_vtgram.specs.declared.item.Item.{Item}
use Rattle.con_vtgram.specs.declared.item.Item.TheVariants as items
use Rattle.con_term.specs.Play.{units_of}
use Rattle.con_strokes.specs.Bytes.{csi_bytes}

pub record Spells (bytes : List ℕ) (items : List Item) : Type 0 where
  pub characters : List ℕ
  pub decoded : split utf8 bytes ≡ record { items = characters; tail = [] }
  pub read : split grammar (flat_map units_of characters) ≡ record { items = items; tail = [] }

-- a control sequence with these numbers
abbrev pub csi : List ℕ → ℕ → Csi
csi ns last = record { private = false; count = min 16 (length ns); params = sixteen ns; inter = 0; last = last }

-- a control sequence with ? and one number
abbrev pub question : ℕ → ℕ → Csi
question n last = record { private = true; count = 1; params = sixteen (n ∷ []); inter = 0; last = last }

-- the items of the bytes that bring a terminal to known ground
abbrev pub ground_items : List Item
ground_items =
    items.Csi (record { private = false; count = 0; params = sixteen []; inter = 0x21; last = 0x70 })
    ∷ items.Csi (question 69 0x6C) ∷ items.Csi (question 6 0x6C) ∷ items.Csi (csi (4 ∷ []) 0x6C) ∷ items.Csi (csi (20 ∷ []) 0x6C)
    ∷ items.Csi (question 7 0x68) ∷ items.Csi (question 5 0x6C) ∷ items.Csi (question 2026 0x6C)
    ∷ items.Csi (csi [] 0x72) ∷ items.Charset 0x42 ∷ items.Csi (csi (0 ∷ []) 0x6D) ∷ []

-- numbers of at most three decimal
abbrev pub AllSmall : List ℕ → Type 0
AllSmall [] = Unit {0}
AllSmall (n ∷ ns) = (n < 1000) × AllSmall ns

-- the last unit of a control sequence
abbrev pub IsFinal : ℕ → Type 0
IsFinal last = (0x40 ≤ last) × (last ≤ 0x7E)

-- a control sequence with numbers spells its item
abbrev pub NumbersSpell : Type 0
NumbersSpell = (ns : List ℕ) (last : ℕ) → AllSmall ns → IsFinal last → Spells (csi_bytes ns last) (items.Csi (csi ns last) ∷ [])
