-- What an alternate screen begins with.
use Rattle.std.proofs.Common.{◌≡◌, ℕ, zero, suc, ◌+◌, ◌-◌, ◌*◌, ◌%◌, ◌<◌, ◌≤◌, Bool, false, ◌&&◌, nat_lt, List, [], ◌∷◌, ◌++◌, map, length, get_or, drop, replicate, refl, sym, ap, ◌∙◌, arith, append-nil}
use Rattle.std.specs.Prelude.{◌==◌}
use Rattle.std.specs.List.{range_with_len}
use Rattle.std.proofs.lemmas.List.FromFn.{fill_by_all, length-map-range_with_len, map-range_with_len_more}
use Rattle.std.proofs.Math.ListN.{drop_of_length-le}
use Rattle.con_units.specs.Glyph.{Glyph}
use Rattle.con_grid.specs.Picture.{Picture, filled}
use Rattle.con_grid.specs.Words.Picture.{IsPicture}
use Rattle.std.proofs.lemmas.List.{length-replicate}
use Rattle.con_page.specs.Alternate.{alternate_page}
use Rattle.con_page.specs.Page.{Page, blank}
use Rattle.con_page.specs.Words.Page.{IsPage}
use Rattle.con_page.specs.Setters.{default_tabs}

-- whether a tab stops at a column by default
abbrev pub is_stop : ℕ → Bool
is_stop at = nat_lt 0 at && (at % 8 == 0)

default_is : (n : ℕ) → default_tabs n ≡ map is_stop (range_with_len 0 n)
default_is zero = refl
default_is (suc n) =
    let next : n + 1 ≡ suc n = omega arith in
    ap (λ (l : List Bool). l ++ is_stop n ∷ []) (default_is n) ∙ sym (map-range_with_len_more is_stop 0 n n (omega arith)) ∙ ap (λ k. map is_stop (range_with_len 0 k)) next

pub default_from : (tabs : List Bool) (n : ℕ) → length tabs ≡ n → ((k : ℕ) → k < n → get_or tabs k false ≡ is_stop k) → tabs ≡ default_tabs n
default_from tabs n long each = fill_by_all is_stop tabs n false long each ∙ sym (default_is n)

-- all cells filled
pub filled_whole : (p : Picture) (n : ℕ) (g : Glyph) → IsPicture p → n ≡ p.width * p.height → filled p.cells 0 n g ≡ replicate (p.width * p.height) g
unfolding filled
filled_whole p n g ok is =
    let long : length p.cells ≤ n = omega (arith, ok.cells) in
    let whole : n - 0 ≡ n = omega arith in
    ap (λ k. replicate k g ++ drop n p.cells) whole ∙ ap (λ (l : List Glyph). replicate n g ++ l) (drop_of_length-le p.cells long) ∙ append-nil (replicate n g) ∙ ap (λ k. replicate k g) is

-- the alternate page, by its parts
pub begun_is : (own main : Page) (g : Picture) (tabs : List Bool) → g ≡ record own.grid { cells = replicate (own.grid.width * own.grid.height) (blank main) } → tabs ≡ default_tabs own.grid.width
    → record (alternate_page own main) { grid = g; tabs = tabs } ≡ alternate_page own main
begun_is own main g tabs grid stops = ap (λ (v : Picture). record (alternate_page own main) { grid = v; tabs = tabs }) grid ∙ ap (λ (v : List Bool). record (alternate_page own main) { tabs = v }) stops

default_long : (n : ℕ) → length (default_tabs n) ≡ n
default_long n = ap (λ (l : List Bool). length l) (default_is n) ∙ length-map-range_with_len is_stop 0 n

pub begun_page : (own main : Page) → IsPage own → IsPage main → IsPage (alternate_page own main)
begun_page own main o m = record {
  grid = record { wide = o.grid.wide; tall = o.grid.tall; at_most_wide = o.grid.at_most_wide; at_most_tall = o.grid.at_most_tall; cells = length-replicate (own.grid.width * own.grid.height) (blank main) };
  column = o.grid.wide;
  row = o.grid.tall;
  cursor_size = m.cursor_size;
  wide = o.wide;
  tall = o.tall;
  low = o.low;
  right = omega (arith, o.right);
  bottom = omega (arith, o.bottom);
  pen = m.pen;
  saved_column = o.grid.wide;
  saved_row = o.grid.tall;
  margins = tt;
  tabs = default_long own.grid.width;
}
