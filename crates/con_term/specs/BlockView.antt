-- A block as contracts see it.
use Rattle.std.specs.Prelude.{ℕ, ◌≡◌, ◌+◌, ◌≤◌, List, length, take, drop}
use Rattle.con_units.specs.Glyph.{Glyph}
use Rattle.con_term.specs.declared.block.Block.TheInside.{Inside}

-- as many cells, from a place on
abbrev pub part : ℕ → ℕ → List Glyph → List Glyph
part start count cells = take count (drop start cells)

abbrev pub shown_of : Inside → List Glyph
shown_of b = part b.start b.count b.cells

pub record IsBlock (b : Inside) : Type 0 where
  pub start : b.start ≤ b.count
  pub twice : length b.cells ≡ b.count + b.count
  pub small : b.count ≤ 131072
