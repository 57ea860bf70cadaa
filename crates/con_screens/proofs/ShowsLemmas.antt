-- Cells that are compared in the order of the rows.
use Rattle.std.proofs.Common.{◌≡◌, ◌↔◌, ℕ, Bool, zero, suc, ◌+◌, ◌-◌, ◌*◌, ◌<◌, ◌≤◌, true, false, Some, List, [], ◌∷◌, ◌++◌, length, take, drop, get_or, slice_get, refl, sym, ap, subst, ◌∙◌, arith, length-append, length-drop}
use Rattle.std.proofs.lemmas.List.{take_more, get_or-drop, take_rest, take_all, length-take-le}
use Rattle.std.proofs.Math.Nat.{mul-le-mul_right}
use Rattle.std.proofs.lemmas.Option.{get_or_from_slice_get}
use Rattle.std.proofs.Math.Seq.{take-add}
use Rattle.con_units.specs.Glyph.{Glyph}
use Rattle.con_units.specs.View.{row_of, row_part}
use Rattle.con_units.specs.declared.place.Coord.{Coord}
use Rattle.con_units.specs.declared.place.Size.{Size}
use Rattle.con_units.specs.declared.view.View.{View}
use Rattle.con_grid.specs.Picture.{Picture}
use Rattle.con_grid.specs.Words.Picture.{IsPicture, IsUntouched}
use Rattle.con_page.specs.Page.{Page}
use Rattle.con_page.specs.Words.Page.{IsPage}
use Rattle.con_page.specs.Sides.{sides}
use Rattle.con_screens.specs.View.{rows_in, cursor_shown, view_of}
use Rattle.con_screens.specs.Words.View.{cursor_in}
use Rattle.con_screens.specs.ViewLaws.{length-rows_in, row_of_rows, view_row}
use Rattle.con_screens.specs.Words.Stamps.{WasShown}
use Rattle.con_screens.specs.StampLaws.{as_shown}

-- one cell more is the same
pub same_more : (xs ys : List Glyph) (at x : ℕ) (cell other : Glyph) → slice_get xs (at + x) ≡ Some cell → other ≡ get_or ys x other → cell ≡ other → at + length ys ≤ length xs → x < length ys
    → take x (drop at xs) ≡ take x ys → take (x + 1) (drop at xs) ≡ take (x + 1) ys
same_more xs ys at x cell other read is same long below before =
    let within : x < length (drop at xs) = rw (length-drop at xs) (omega arith) in
    let got : get_or (drop at xs) x cell ≡ cell = get_or-drop at xs x cell ∙ get_or_from_slice_get xs (at + x) cell cell read in
    take_more (drop at xs) x cell within ∙ ap (λ c. take x (drop at xs) ++ c ∷ []) (got ∙ same ∙ is) ∙ ap (λ (l : List Glyph). l ++ get_or ys x other ∷ []) before ∙ sym (take_more ys x other below)

-- one row more is the same
pub row_more : (width : ℕ) (cells rows : List Glyph) (left top w y : ℕ) → rows_in width cells left top w y ≡ take (y * w) rows → row_part width cells left w (top + y) ≡ row_of w rows y → rows_in width cells left top w (y + 1) ≡ take ((y + 1) * w) rows
row_more width cells rows left top w y before same =
    let next : suc y ≡ y + 1 = omega arith in
    let more : rows_in width cells left top w (suc y) ≡ take (suc y * w) rows = ap (λ (l : List Glyph). l ++ row_part width cells left w (top + y)) before ∙ ap (λ (l : List Glyph). take (y * w) rows ++ l) same ∙ sym (take-add (y * w) w rows)
    ∙ ap (λ k. take k rows) (omega arith) in
    subst (λ k. rows_in width cells left top w k ≡ take (k * w) rows) next more

-- rows that are the same are so one by one
pub row_same : (width : ℕ) (cells rows : List Glyph) (left top w h y : ℕ) → length rows ≡ h * w → y < h → rows_in width cells left top w h ≡ rows → row_part width cells left w (top + y) ≡ row_of w rows y
row_same width cells rows left top w h y long below same =
    sym (row_of_rows width cells left top w h y (ap (λ (l : List Glyph). length l) same ∙ long) below) ∙ ap (λ (l : List Glyph). row_of w l y) same

pub row_long : (rows : List Glyph) (w h y : ℕ) → length rows ≡ h * w → y < h → length (row_of w rows y) ≡ w
row_long rows w h y long below =
    let next : y + 1 ≤ h = omega arith in
    length-take-le w (drop (y * w) rows) (rw (length-drop (y * w) rows) (omega (arith, long, mul-le-mul_right w next)))

-- a row as the code cuts it
pub cut_row : (rows : List Glyph) (w y : ℕ) → take w (take (length rows - y * w) (drop (y * w) rows)) ≡ row_of w rows y
cut_row rows w y = ap (λ (l : List Glyph). take w l) (take_rest rows (y * w))

pub row_found : (width : ℕ) (cells rows part : List Glyph) (left w y z : ℕ) → part ≡ row_of w rows y → length (row_of w rows y) ≡ w → row_part width cells left (length part) z ≡ part → row_part width cells left w z ≡ row_of w rows y
row_found width cells rows part left w y z is long same = ap (λ k. row_part width cells left k z) (sym (ap (λ (l : List Glyph). length l) is ∙ long)) ∙ same ∙ is

pub row_lost : (width : ℕ) (cells rows part : List Glyph) (left w y z : ℕ) → part ≡ row_of w rows y → length (row_of w rows y) ≡ w → row_part width cells left w z ≡ row_of w rows y → row_part width cells left (length part) z ≡ part
row_lost width cells rows part left w y z is long same = ap (λ k. row_part width cells left k z) (ap (λ (l : List Glyph). length l) is ∙ long) ∙ same ∙ sym is

pub true_not_false : false ≡ true → ⊥
true_not_false h = cc

-- ---- the whole window

-- a row that is untouched is that of the view that was shown
pub known_rows : (p : Page) (v : View) (g : Picture) (left top : ℕ) (size : Size) → IsPage p → WasShown (sides p) p.left p.top v → g ≡ p.grid → left ≡ p.left → top ≡ p.top → size.w ≡ p.w → size.h ≡ p.h
    → (y : ℕ) → y < size.h → IsUntouched g (top + y) → row_part g.width g.cells left size.w (top + y) ≡ row_of size.w v.rows y
known_rows p v g left top size ok was grid at_left at_top wide tall = rw (grid, at_left, at_top, wide, tall) (λ y below untouched. sym (view_row p y ok below) ∙ as_shown p y ok below untouched v was)

views : (s t : Size) (r q : List Glyph) (c d : Coord) (a b : Bool) → s ≡ t → r ≡ q → c ≡ d → a ≡ b → ◌≡◌ {A = View} (record { size = s; rows = r; cursor = c; visible = a }) (record { size = t; rows = q; cursor = d; visible = b })
views s t r q c d a b one two three four = rw (one, two, three, four) refl

sizes : (s : Size) (p : Page) → s.w ≡ p.w → s.h ≡ p.h → ◌≡◌ {A = Size} (record { w = p.w; h = p.h }) s
sizes s p wide tall = rw (← wide, ← tall) refl

-- the view of its parts
pub window_is : (p : Page) (size : Size) (cursor : Coord) (visible : Bool) (g : Picture) (left top : ℕ) (rows : List Glyph) → size.w ≡ p.w → size.h ≡ p.h → cursor ≡ cursor_in p → visible ≡ cursor_shown p → g ≡ p.grid → left ≡ p.left → top ≡ p.top
    → rows ≡ rows_in g.width g.cells left top size.w size.h → ◌≡◌ {A = View} (record { size = size; rows = rows; cursor = cursor; visible = visible }) (view_of p)
window_is p size cursor visible g left top rows wide tall place shows grid at_left at_top are =
    let here : rows_in g.width g.cells left top size.w size.h ≡ rows_in p.grid.width p.grid.cells p.left p.top p.w p.h = rw (grid, at_left, at_top, wide, tall) refl in
    views size _ rows _ cursor _ visible _ (sym (sizes size p wide tall)) (are ∙ here) place shows

-- the view is another one, where its size, cursor or visibility is
pub other_frame : (p : Page) (v : View) (r : Bool) (size : Size) (cursor : Coord) (visible : Bool) → size.w ≡ p.w → size.h ≡ p.h → cursor ≡ cursor_in p → visible ≡ cursor_shown p
    → (r ≡ true) ↔ ((v.size ≡ size) × (v.cursor ≡ cursor) × (v.visible ≡ visible)) → r ≡ false → (false ≡ true) ↔ (view_of p ≡ v)
other_frame p v r size cursor visible wide tall place shows frame no_frame = (
  λ e. absurd (true_not_false e),
  λ same. sym no_frame ∙ frame.1 (ap (λ (x : View). x.size) (sym same) ∙ sizes size p wide tall, ap (λ (x : View). x.cursor) (sym same) ∙ sym place, ap (λ (x : View). x.visible) (sym same) ∙ sym shows),
)

-- else by its rows
pub by_rows : (p : Page) (v : View) (f r : Bool) (size : Size) (cursor : Coord) (visible : Bool) (g : Picture) (left top : ℕ) → size.w ≡ p.w → size.h ≡ p.h → cursor ≡ cursor_in p → visible ≡ cursor_shown p → g ≡ p.grid → left ≡ p.left → top ≡ p.top
    → (f ≡ true) ↔ ((v.size ≡ size) × (v.cursor ≡ cursor) × (v.visible ≡ visible)) → f ≡ true → (r ≡ true) ↔ (rows_in g.width g.cells left top size.w size.h ≡ v.rows) → (r ≡ true) ↔ (view_of p ≡ v)
by_rows p v f r size cursor visible g left top wide tall place shows grid at_left at_top frame is_frame rows =
    let parts = frame.0 is_frame in
    let here : rows_in p.grid.width p.grid.cells p.left p.top p.w p.h ≡ rows_in g.width g.cells left top size.w size.h = rw (grid, at_left, at_top, wide, tall) refl in (
      λ e. views _ v.size _ v.rows _ v.cursor _ v.visible (sizes size p wide tall ∙ sym parts.0) (here ∙ rows.0 e) (sym place ∙ sym parts.1) (sym shows ∙ sym parts.2),
      λ same. rows.1 (sym here ∙ ap (λ (x : View). x.rows) same),
    )

-- rows that are not so many
pub other_count : (g : Picture) (rows : List Glyph) (left top w h n : ℕ) → IsPicture g → left + w ≤ g.width → top + h ≤ g.height → n ≡ h * w → (length rows ≡ n → ⊥) → (false ≡ true) ↔ (rows_in g.width g.cells left top w h ≡ rows)
other_count g rows left top w h n ok wide tall many other = (
  λ e. absurd (true_not_false e),
  λ same. absurd (other (ap (λ (l : List Glyph). length l) (sym same) ∙ length-rows_in g left top w h ok wide tall ∙ sym many)),
)
