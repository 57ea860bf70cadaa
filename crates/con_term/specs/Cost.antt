-- How many cells items print or erase.
use Rattle.std.specs.Prelude.{ℕ, ◌+◌, ◌-◌, ◌*◌, ◌==◌, min, max, slice_index, List, [], ◌∷◌, if◌then◌else◌}
use Rattle.con_vtgram.specs.declared.item.Csi.{Csi}
use Rattle.con_vtgram.specs.declared.item.Item.{Item}
use Rattle.con_vtgram.specs.declared.item.Item.TheVariants as items
use Rattle.con_term.specs.Page.{Page, place}
use Rattle.con_term.specs.Effect.{effect, row_end}

-- of the cells from `first` up to `end`
abbrev pub part_cost : Page → ℕ → ℕ → ℕ → ℕ
part_cost s first end n = if n == 0 then end - place s else if n == 1 then place s + 1 - first else if n == 2 then end - first else 0

unfoldable pub plain_cost : Page → Csi → ℕ
plain_cost s c = let n = slice_index c.params 0 in
    -- CSI J: ED, ECMA-48 8.3.39
    if c.last == 0x4A then part_cost s 0 (s.h * s.w) n
    -- CSI K: EL, ECMA-48 8.3.41
    else if c.last == 0x4B then part_cost s (s.y * s.w) (row_end s) n
    -- CSI X: ECH, ECMA-48 8.3.38
    else if c.last == 0x58 then min (max n 1) (s.w - s.x)
    else 0

unfoldable pub cost : Page → Item → ℕ
cost s (items.Print u) = 1
cost s (items.Csi c) = if c.inter == 0 then (if c.private then 0 else plain_cost s c) else 0
cost s _ = 0

-- the items, one after another
abbrev pub costs : Page → List Item → ℕ
costs s [] = 0
costs s (i ∷ is) = cost s i + costs (effect s i) is
