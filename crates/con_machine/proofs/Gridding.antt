-- Other cells on a screen that was lent.
use Rattle.std.proofs.Common.{◌≡◌, ℕ, ◌+◌, ◌<◌, ◌≤◌, List, Option, Ok, Err, sym, ap, subst, ◌∙◌}
use Rattle.std.specs.Prelude.{Result, IfOk, IfErr, OnErr}
use Rattle.con_units.specs.Glyph.{Glyph}
use Rattle.con_units.specs.declared.code.Code.{Code}
use Rattle.con_units.specs.declared.code.Code.TheVariants as code
use Rattle.con_units.specs.declared.place.Coord.{Coord}
use Rattle.con_units.specs.declared.place.Rect.{Rect}
use Rattle.con_grid.specs.Picture.{Picture}
use Rattle.con_grid.specs.Words.Picture.{IsPicture}
use Rattle.con_rects.specs.Rules.{redrawn, rect_written}
use Rattle.con_rects.specs.Runs.{units_written, words_written, unit_filled, word_filled}
use Rattle.con_rects.specs.Scroll.{scrolled}
use Rattle.con_page.specs.Page.{Page}
use Rattle.con_page.specs.Words.Page.{IsPage}
use Rattle.con_screen.specs.Screen.{Screen}
use Rattle.con_page.specs.Sides.{Sides, sides}
use Rattle.con_screens.specs.Buffers.{Buffers, screen_at}
use Rattle.con_screens.specs.Words.Buffers.{AreBuffers, IsLive}
use Rattle.con_screens.specs.Lending.{screen_left}
use Rattle.con_screens.specs.LentLaws.{lent_keeps, left_same, screen_has}
use Rattle.con_screens.specs.StampLaws.{remembers}
use Rattle.con_screens.specs.Words.Stamps.{all_remembered}

abbrev with_grid : Screen → Picture → Screen
with_grid s g = record s { page = record s.page { grid = g } }

page_with : (p : Page) (g : Picture) → IsPage p → IsPicture g → sides (record p { grid = g }) ≡ sides p → IsPage (record p { grid = g })
page_with p g ok picture same =
    let wide : g.width ≡ p.grid.width = ap (λ (s : Sides). s.width) same in
    let tall : g.height ≡ p.grid.height = ap (λ (s : Sides). s.height) same in
    record {
      grid = picture;
      column = subst (λ k. p.x < k) (sym wide) ok.column;
      row = subst (λ k. p.y < k) (sym tall) ok.row;
      cursor_size = ok.cursor_size;
      wide = ok.wide;
      tall = ok.tall;
      low = ok.low;
      right = subst (λ k. p.left + p.w ≤ k) (sym wide) ok.right;
      bottom = subst (λ k. p.top + p.h ≤ k) (sym tall) ok.bottom;
      pen = ok.pen;
      saved_column = subst (λ k. p.saved_x < k) (sym wide) ok.saved_column;
      saved_row = subst (λ k. p.saved_y < k) (sym tall) ok.saved_row;
      margins = ok.margins;
      tabs = ok.tabs ∙ sym wide;
    }

pub grid_keeps : (b : Buffers) (id : ℕ) (lent : Screen) (g : Picture) → AreBuffers b → IsLive b id → lent ≡ screen_at b id → IsPicture g → sides (record lent.page { grid = g }) ≡ sides lent.page → AreBuffers (screen_left b id (with_grid lent g))
grid_keeps b id lent g are live is picture same =
    let ok : IsPage lent.page = subst (λ (s : Screen). IsPage s.page) (sym is) (screen_has b id are live).page in
    lent_keeps b id lent (with_grid lent g) are live is (page_with lent.page g ok picture same) same

pub grid_remembers : (b : Buffers) (id : ℕ) (lent : Screen) (g : Picture) → lent ≡ screen_at b id → sides (record lent.page { grid = g }) ≡ sides lent.page → all_remembered (screen_left b id (with_grid lent g)) ≡ all_remembered b
grid_remembers b id lent g is same = remembers b id lent (with_grid lent g) is same

-- a call that may refuse
pub grid_refused : {A : Type 0} (r : Result A Code) (R : Type 0) (b : Buffers) (id : ℕ) (lent : Screen) (h g : Picture) → lent ≡ screen_at b id → h ≡ lent.page.grid → IfErr r (λ e. (e ≡ code.Limit) × R × (g ≡ h)) → OnErr r (screen_left b id (with_grid lent g) ≡ b)
grid_refused (Ok a) R b id lent h g is was err = tt
grid_refused (Err why) R b id lent h g is was err = ap (λ (x : Picture). screen_left b id (with_grid lent x)) (err.2 ∙ was) ∙ ap (screen_left b id) is ∙ left_same b id

pub result_sides : {A : Type 0} (r : Result A Code) (P : Type 0) (Q : A → Type 0) (R : Type 0) (p : Page) (h g w : Picture) → h ≡ p.grid → IfOk r (λ a. P × Q a × (g ≡ w)) → IfErr r (λ e. (e ≡ code.Limit) × R × (g ≡ h)) → sides (record p { grid = w }) ≡ sides p → sides (record p { grid = g }) ≡ sides p
result_sides (Ok a) P Q R p h g w was ok err same = ap (λ (x : Picture). sides (record p { grid = x })) ok.2 ∙ same
result_sides (Err why) P Q R p h g w was ok err same = ap (λ (x : Picture). sides (record p { grid = x })) (err.2 ∙ was)

-- ---- what the calls on cells leave alone

pub rect_sides : (p : Page) (h : Picture) (r : Rect) (cells : List Glyph) → h ≡ p.grid → sides (record p { grid = rect_written h r cells }) ≡ sides p
unfolding rect_written redrawn
rect_sides p h r cells was = ap (λ (x : Picture). sides (record p { grid = x })) was

pub units_sides : (p : Page) (h : Picture) (at : Coord) (us : List ℕ) → h ≡ p.grid → sides (record p { grid = units_written h at us }) ≡ sides p
unfolding units_written redrawn
units_sides p h at us was = ap (λ (x : Picture). sides (record p { grid = x })) was

pub words_sides : (p : Page) (h : Picture) (at : Coord) (ws : List ℕ) → h ≡ p.grid → sides (record p { grid = words_written h at ws }) ≡ sides p
unfolding words_written redrawn
words_sides p h at ws was = ap (λ (x : Picture). sides (record p { grid = x })) was

pub unit_sides : (p : Page) (h g : Picture) (at : Coord) (n u : ℕ) → h ≡ p.grid → g ≡ unit_filled h at n u → sides (record p { grid = g }) ≡ sides p
unfolding units_written redrawn
unit_sides p h g at n u was is = ap (λ (x : Picture). sides (record p { grid = x })) is ∙ ap (λ (x : Picture). sides (record p { grid = x })) was

pub word_sides : (p : Page) (h g : Picture) (at : Coord) (n w : ℕ) → h ≡ p.grid → g ≡ word_filled h at n w → sides (record p { grid = g }) ≡ sides p
unfolding words_written redrawn
word_sides p h g at n w was is = ap (λ (x : Picture). sides (record p { grid = x })) is ∙ ap (λ (x : Picture). sides (record p { grid = x })) was

pub scroll_sides : (p : Page) (h g : Picture) (r : Rect) (clip : Option Rect) (at : Coord) (fill : Glyph) → h ≡ p.grid → g ≡ scrolled h r clip at fill → sides (record p { grid = g }) ≡ sides p
unfolding scrolled redrawn
scroll_sides p h g r clip at fill was is = ap (λ (x : Picture). sides (record p { grid = x })) is ∙ ap (λ (x : Picture). sides (record p { grid = x })) was
