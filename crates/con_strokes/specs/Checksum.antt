-- A number for the cells of a row: equal rows have equal ones, so rows that have different ones differ.
use Rattle.std.specs.Prelude.{ℕ, ◌+◌, ◌*◌, ◌%◌, ◌<◌, ◌≡◌, Bool, true, List, length, fold, slice_index_or}
use Rattle.con_units.specs.Glyph.{Glyph}
use Rattle.con_units.specs.View.{row_of}
use Rattle.con_units.specs.declared.shade.Shade.{Shade}
use Rattle.con_units.specs.declared.shade.Shade.TheVariants.{Plain, Index}
use Rattle.con_strokes.specs.declared.checksum.Checksums.{Checksums}

abbrev pub shade_number : Shade → ℕ
shade_number Plain = 0
shade_number (Index n) = n

-- unit, word and both shades
abbrev pub cell_number : Glyph → ℕ
cell_number c = c.unit + c.attr.word * 0x10000 + shade_number c.attr.fore * 0x100000000 + shade_number c.attr.back * 0x10000000000

-- one more cell
unfoldable pub next_checksum : ℕ → Glyph → ℕ
next_checksum n c = (n * 6364136223846793005 + cell_number c) % 18446744073709551616

unfoldable pub checksum_of : List Glyph → ℕ
checksum_of cells = fold next_checksum 0 cells

-- each row's checksum is that of its cells, where they are known
pub record IsSummed (known : Bool) (w h : ℕ) (cells : List Glyph) (sums : List Checksums) : Type 0 where
  pub long : length sums ≡ h
  pub now : known ≡ true → (y : ℕ) (c : Checksums) → y < h → (slice_index_or sums y c).now ≡ checksum_of (row_of w cells y)

-- each row's checksums are those of a view's cells, and of the cells that were painted last
pub record AreSummed (known : Bool) (w h : ℕ) (v old : List Glyph) (sums : List Checksums) : Type 0 where
  pub long : length sums ≡ h
  pub now : (y : ℕ) (c : Checksums) → y < h → (slice_index_or sums y c).now ≡ checksum_of (row_of w v y)
  pub was : known ≡ true → (y : ℕ) (c : Checksums) → y < h → (slice_index_or sums y c).was ≡ checksum_of (row_of w old y)
