-- A view is whole, and its rows are parts of the grid's rows.
use Rattle.std.proofs.Common.{◌≡◌, ℕ, pos, zero, suc, ◌+◌, ◌-◌, ◌*◌, ◌<◌, ◌≤◌, ◌≤ℤ◌, ◌<ℤ◌, inl, inr, true, ◌&&◌, nat_le, nat_lt}
use Rattle.std.proofs.Common.{List, ◌++◌, length, take, drop, refl, sym, ap, subst, ◌∙◌, arith, length-append, length-drop}
use Rattle.std.proofs.lemmas.List.{length-take, length-take-le, take-take, drop-take, drop-drop, take-append-le, drop-append-le, take_all}
use Rattle.std.proofs.Math.Seq.{drop-append_seam}
use Rattle.std.proofs.lemmas.Bool.{cases_eq, and_parts}
use Rattle.std.proofs.lemmas.Bool.Decides.{nat_tests}
use Rattle.std.proofs.lemmas.Int.{ints}
use Rattle.std.proofs.Math.Nat.{mul-le-mul_right}
use Rattle.con_units.specs.Glyph.{Glyph}
use Rattle.con_units.specs.declared.place.Coord.{Coord}
use Rattle.con_units.specs.View.{row_of, row_part}
use Rattle.con_units.specs.Words.View.{IsWhole}
use Rattle.con_grid.specs.Picture.{Picture}
use Rattle.con_grid.specs.Words.Picture.{IsPicture}
use Rattle.con_page.specs.Page.{Page}
use Rattle.con_page.specs.Words.Page.{IsPage}
use Rattle.con_screens.specs.View.{rows_in, is_from, cursor_shown, view_of}
use Rattle.con_screens.specs.Words.View.{cursor_in}

-- ---- a view is whole

row_inside : (g : Picture) (y : ℕ) → IsPicture g → y < g.height → y * g.width + g.width ≤ length g.cells
row_inside g y ok h = let le : y + 1 ≤ g.height = omega arith in omega (arith, mul-le-mul_right g.width le, ok.cells)

pub length-row_part : (g : Picture) (left w y : ℕ) → IsPicture g → left + w ≤ g.width → y < g.height → length (row_part g.width g.cells left w y) ≡ w
length-row_part g left w y ok wide tall = length-take-le w (drop (y * g.width + left) g.cells)
    (rw (length-drop (y * g.width + left) g.cells) (omega (arith, row_inside g y ok tall)))

pub length-rows_in : (g : Picture) (left top w n : ℕ) → IsPicture g → left + w ≤ g.width → top + n ≤ g.height
    → length (rows_in g.width g.cells left top w n) ≡ n * w
length-rows_in g left top w zero ok wide tall = omega arith
length-rows_in g left top w (suc n) ok wide tall =
    length-append (rows_in g.width g.cells left top w n) (row_part g.width g.cells left w (top + n))
    ∙ omega (arith, length-rows_in g left top w n ok wide (omega arith), length-row_part g left w (top + n) ok wide (omega arith))

from_parts : (first n at : ℕ) → is_from first n at ≡ true → (first ≤ at) × (at < first + n)
from_parts first n at h = let parts = and_parts (nat_le first at) (nat_lt at (first + n)) h in
    let a : nat_le first at ≡ true = parts.0 in let b : nat_lt at (first + n) ≡ true = parts.1 in (grind (arith, nat_tests), grind (arith, nat_tests))

within : (first n at : ℕ) → first ≤ at → at < first + n → (pos 0 ≤ℤ pos (at - first)) × (pos (at - first) <ℤ pos n)
within first n at low high = let inside : at - first < n = omega arith in (omega (arith, ints), omega (arith, ints))

shown_at : (p : Page) → cursor_shown p ≡ true → cursor_in p ≡ record { x = pos (p.x - p.left); y = pos (p.y - p.top) }
shown_at p h = rw h refl

column_inside : (p : Page) → cursor_shown p ≡ true → (pos 0 ≤ℤ (cursor_in p).x) × ((cursor_in p).x <ℤ pos p.w)
column_inside p h =
    let parts = and_parts (p.visible && is_from p.left p.w p.x) (is_from p.top p.h p.y) h in
    let column = from_parts p.left p.w p.x (and_parts p.visible (is_from p.left p.w p.x) parts.0).1 in
    subst (λ (c : Coord). (pos 0 ≤ℤ c.x) × (c.x <ℤ pos p.w)) (sym (shown_at p h)) (within p.left p.w p.x column.0 column.1)

row_shown : (p : Page) → cursor_shown p ≡ true → (pos 0 ≤ℤ (cursor_in p).y) × ((cursor_in p).y <ℤ pos p.h)
row_shown p h =
    let parts = and_parts (p.visible && is_from p.left p.w p.x) (is_from p.top p.h p.y) h in
    let row = from_parts p.top p.h p.y parts.1 in
    subst (λ (c : Coord). (pos 0 ≤ℤ c.y) × (c.y <ℤ pos p.h)) (sym (shown_at p h)) (within p.top p.h p.y row.0 row.1)

pub whole_view : (p : Page) → IsPage p → IsWhole (view_of p)
whole_view p ok = record {
  cells = length-rows_in p.grid p.left p.top p.w p.h ok.grid ok.right ok.bottom;
  column = column_inside p;
  row = row_shown p;
}

-- ---- its rows

short_part : (width : ℕ) (cells : List Glyph) (left w y : ℕ) → length (row_part width cells left w y) ≤ w
short_part width cells left w y = omega (arith, length-take w (drop (y * width + left) cells))

short_rows : (width : ℕ) (cells : List Glyph) (left top w n : ℕ) → length (rows_in width cells left top w n) ≤ n * w
short_rows width cells left top w zero = omega arith
short_rows width cells left top w (suc n) =
    omega (
      arith,
      length-append (rows_in width cells left top w n) (row_part width cells left w (top + n)),
      short_rows width cells left top w n,
      short_part width cells left w (top + n),
    )

-- where rows have all their cells, the first ones have
full_front : (width : ℕ) (cells : List Glyph) (left top w n : ℕ) → length (rows_in width cells left top w (suc n)) ≡ suc n * w
    → length (rows_in width cells left top w n) ≡ n * w
full_front width cells left top w n long =
    omega (
      arith,
      long,
      length-append (rows_in width cells left top w n) (row_part width cells left w (top + n)),
      short_rows width cells left top w n,
      short_part width cells left w (top + n),
    )

-- a row in the midst of rows that have all their cells
pub row_of_rows : (width : ℕ) (cells : List Glyph) (left top w n y : ℕ) → length (rows_in width cells left top w n) ≡ n * w → y < n
    → row_of w (rows_in width cells left top w n) y ≡ row_part width cells left w (top + y)
row_of_rows width cells left top w zero y long below = absurd (omega arith)
row_of_rows width cells left top w (suc n) y long below = elim (cases_eq y n) [
  | inl e ↦
      let front : List Glyph = rows_in width cells left top w n in
      let part : List Glyph = row_part width cells left w (top + n) in
      let before : length front ≡ y * w = full_front width cells left top w n long ∙ ap (λ k. k * w) (sym e) in
      ap (λ k. take w (drop k (front ++ part))) (sym before) ∙ ap (λ (l : List Glyph). take w l) (drop-append_seam front part)
      ∙ take_all w part (short_part width cells left w (top + n)) ∙ ap (λ k. row_part width cells left w (top + k)) (sym e)
  | inr ne ↦
      let front : List Glyph = rows_in width cells left top w n in
      let part : List Glyph = row_part width cells left w (top + n) in
      let full : length front ≡ n * w = full_front width cells left top w n long in
      let next : y + 1 ≤ n = omega arith in
      let room : y * w + w ≤ n * w = omega (arith, mul-le-mul_right w next) in
      let rest : w ≤ length (drop (y * w) front) = rw (length-drop (y * w) front) (omega (arith, full, room)) in
      ap (λ (l : List Glyph). take w l) (drop-append-le (y * w) front part (omega (arith, full, room)))
      ∙ take-append-le w (drop (y * w) front) part rest
      ∙ row_of_rows width cells left top w n y full (omega arith)
]

-- Row y of a view is the window's part of the grid's row top + y.
pub view_row : (p : Page) (y : ℕ) → IsPage p → y < p.h → row_of p.w (view_of p).rows y ≡ row_part p.grid.width p.grid.cells p.left p.w (p.top + y)
view_row p y ok below = row_of_rows p.grid.width p.grid.cells p.left p.top p.w p.h y
    (length-rows_in p.grid p.left p.top p.w p.h ok.grid ok.right ok.bottom) below

-- the window's part of a row, cut from the row
row_cut : (width : ℕ) (cells : List Glyph) (left w y : ℕ) → left + w ≤ width → row_part width cells left w y ≡ take w (drop left (row_of width cells y))
row_cut width cells left w y wide =
    let rest : List Glyph = drop (y * width) cells in
    let split : left + (width - left) ≡ width = omega arith in
    let cut : drop left (take width rest) ≡ take (width - left) (drop left rest) = ap (λ k. drop left (take k rest)) (sym split)
    ∙ drop-take left (width - left) rest in
    sym (ap (λ (l : List Glyph). take w l) cut ∙ take-take w (width - left) (drop left rest) (omega arith)
    ∙ ap (λ (l : List Glyph). take w l) (drop-drop left (y * width) cells))

-- equal rows have equal parts
pub same_part : (width : ℕ) (cells before : List Glyph) (left w y z : ℕ) → left + w ≤ width → row_of width cells y ≡ row_of width before z
    → row_part width cells left w y ≡ row_part width before left w z
same_part width cells before left w y z wide same = row_cut width cells left w y wide ∙ ap (λ (l : List Glyph). take w (drop left l)) same
    ∙ sym (row_cut width before left w z wide)

-- Where a row of the grid is as it was, so is the row of the view, in a window at the same column.
pub view_row_same : (p q : Page) (y : ℕ) → IsPage p → IsPage q → p.grid.width ≡ q.grid.width → p.left ≡ q.left → p.w ≡ q.w → y < p.h → y < q.h
    → row_of p.grid.width p.grid.cells (p.top + y) ≡ row_of q.grid.width q.grid.cells (q.top + y)
    → row_of p.w (view_of p).rows y ≡ row_of q.w (view_of q).rows y
view_row_same p q y ok was width left w below short same =
    let like : row_of p.grid.width p.grid.cells (p.top + y) ≡ row_of p.grid.width q.grid.cells (q.top + y) = same
    ∙ ap (λ k. row_of k q.grid.cells (q.top + y)) (sym width) in
    view_row p y ok below ∙ same_part p.grid.width p.grid.cells q.grid.cells p.left p.w (p.top + y) (q.top + y) ok.right like
    ∙ ap (λ k. row_part k q.grid.cells p.left p.w (q.top + y)) width ∙ ap (λ k. row_part q.grid.width q.grid.cells k p.w (q.top + y)) left
    ∙ ap (λ k. row_part q.grid.width q.grid.cells q.left k (q.top + y)) w
    ∙ sym (view_row q y was short)
