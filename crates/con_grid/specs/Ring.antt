-- Cells whose first one may stand anywhere in their block.
use Rattle.std.specs.Prelude.{ℕ, ◌≡◌, ◌+◌, ◌-◌, ◌≤◌, ◌<◌, List, ◌++◌, length, take, drop, slice_index_or, slice_set}
use Rattle.con_units.specs.Glyph.{Glyph}
use Rattle.con_grid.specs.Words.Picture.{written_over, part_of}
use Rattle.con_grid.specs.declared.ring.Ring.TheInside.{Inside}

-- the cells of a block from one place on, and then those before it
unfoldable pub turned : List Glyph → ℕ → List Glyph
turned block top = drop top block ++ take top block

abbrev pub ring_of : Inside → List Glyph
ring_of r = turned r.block.items r.top

abbrev pub IsRing : Inside → Type 0
IsRing r = r.top ≤ length r.block.items

-- so many cells are written over those from another place on
unfoldable pub copied : List Glyph → ℕ → ℕ → ℕ → List Glyph
copied cells from to n = written_over cells to (to + n) (take n (drop from cells))

-- the cells from one place up to another are a run: in a block of this length, none lies behind the seam, or all do
pub record IsRun (len top from upto : ℕ) : Type 0 where
  pub first : top ≤ len
  pub order : from ≤ upto
  pub inside : upto ≤ len
  pub side : top + from < len → top + upto ≤ len

-- the cells from one place up to another lie side by side in the block, from `at` on
pub record IsSpot (block : List Glyph) (top from upto at : ℕ) : Type 0 where
  pub inside : at + (upto - from) ≤ length block
  pub over : (part : List Glyph) → length part ≡ upto - from
      → turned (written_over block at (at + (upto - from)) part) top ≡ written_over (turned block top) from upto part
  pub part : part_of (turned block top) from upto ≡ part_of block at (at + (upto - from))

-- the cell at a place lies at `i` of the block
pub record IsIndex (block : List Glyph) (top at i : ℕ) : Type 0 where
  pub inside : i < length block
  pub get : (d : Glyph) → slice_index_or (turned block top) at d ≡ slice_index_or block i d
  pub set : (c : Glyph) → turned (slice_set block i c) top ≡ slice_set (turned block top) at c
