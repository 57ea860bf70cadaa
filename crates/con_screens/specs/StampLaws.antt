-- What stays remembered, and what a row that is not stamped shows.
use Rattle.std.proofs.Common.{◌≡◌, ℕ, zero, suc, ◌+◌, ◌*◌, ◌<◌, ◌≤◌, Bool, true, false, cond, List, [], ◌∷◌, length}
use Rattle.std.proofs.Common.{map, get_or, set, Option, None, Some, refl, sym, ap, subst, ◌∙◌, nat_lt, arith}
use Rattle.std.specs.Prelude.{IsSome, IfSome, if◌then◌else◌}
use Rattle.std.specs.Option.{option_map, option_map_or}
use Rattle.std.proofs.lemmas.Bool.{lt-ltb}
use Rattle.con_units.specs.Glyph.{Glyph}
use Rattle.con_units.specs.View.{row_of, row_part}
use Rattle.con_units.specs.declared.view.View.{View}
use Rattle.con_grid.specs.Picture.{Picture, raised}
use Rattle.con_grid.specs.Words.Picture.{IsPicture, IsRowOf, IsUntouched}
use Rattle.con_page.specs.Page.{Page}
use Rattle.con_page.specs.Words.Page.{IsPage}
use Rattle.con_screen.specs.Screen.{Screen}
use Rattle.con_page.specs.Sides.{Sides, sides}
use Rattle.con_screens.specs.Buffer.{new_buffer}
use Rattle.con_screens.specs.Words.Buffer.{HasWindow}
use Rattle.con_screens.specs.Buffers.{Buffers, buffer_at, screen_at, is_alternate, gone, created}
use Rattle.con_screens.specs.Words.Buffers.{AreBuffers, IsLive, screen_in}
use Rattle.con_screens.specs.Lending.{with_shown, screen_left}
use Rattle.con_screens.specs.View.{rows_in, view_of}
use Rattle.con_screens.specs.Stamps.{numbered}
use Rattle.con_screens.specs.Words.Stamps.{Remembered, remembered, all_remembered, WereRows, WasShown, IsAsShown}
use Rattle.con_screens.specs.LentLaws.{some_not_none, screen_has, alternate_has, window_keeps}
use Rattle.con_screens.specs.ViewLaws.{length-rows_in, row_of_rows, same_part, view_row}
use Rattle.con_screens.specs.declared.buffer.Buffer.{Buffer}

-- ---- what stays remembered

pub mapped_same : (xs : List (Option Buffer)) (i : ℕ) (o : Option Buffer) → option_map remembered o ≡ option_map remembered (get_or xs i None)
    → map (option_map remembered) (set xs i o) ≡ map (option_map remembered) xs
mapped_same [] i o same = refl
mapped_same (x ∷ xs) zero o same = ap (λ (r : Option Remembered). r ∷ map (option_map remembered) xs) same
mapped_same (x ∷ xs) (suc i) o same = ap (λ (l : List (Option Remembered)). option_map remembered x ∷ l) (mapped_same xs i o same)

-- another screen with the same sides, number and moment is shown
pub shown_remembered : (b : Buffer) (now : Screen) → sides now.page ≡ sides b.shown.page → remembered (with_shown now b) ≡ remembered b
shown_remembered b now same = by_side b.alternate
  where
    by_side : (a : Bool) → ◌≡◌ {A = Remembered}
        (record { birth = b.birth; main = sides (cond a b.hidden now).page; alternate = sides (cond a now b.hidden).page })
        (record { birth = b.birth; main = sides (cond a b.hidden b.shown).page; alternate = sides (cond a b.shown b.hidden).page })
    by_side true = let f : Sides → Remembered = λ s. record { birth = b.birth; main = sides b.hidden.page; alternate = s } in ap f same
    by_side false = let f : Sides → Remembered = λ s. record { birth = b.birth; main = s; alternate = sides b.hidden.page } in ap f same

-- A screen that was lent and keeps its sides, number and moment leaves what is remembered.
pub remembers : (s : Buffers) (id : ℕ) (lent now : Screen) → lent ≡ screen_at s id → sides now.page ≡ sides lent.page
    → all_remembered (screen_left s id now) ≡ all_remembered s
remembers s id lent now was same = mapped_same s.slots id (option_map (with_shown now) (buffer_at s id))
    (by_slot (buffer_at s id) (same ∙ ap (λ (x : Screen). sides x.page) was))
  where
    by_slot : (o : Option Buffer) → sides now.page ≡ sides (screen_in s o).page
        → option_map remembered (option_map (with_shown now) o) ≡ option_map remembered o
    by_slot None same = refl
    by_slot (Some b) same = ap (λ (r : Remembered). Some r) (shown_remembered b now same)

mapped_set : (xs : List (Option Buffer)) (i : ℕ) (o : Option Buffer)
    → map (option_map remembered) (set xs i o) ≡ set (map (option_map remembered) xs) i (option_map remembered o)
mapped_set [] i o = refl
mapped_set (x ∷ xs) zero o = refl
mapped_set (x ∷ xs) (suc i) o = ap (λ (l : List (Option Remembered)). option_map remembered x ∷ l) (mapped_set xs i o)

-- a buffer that is gone is forgotten, and others are not
pub remembers_gone : (s : Buffers) (id : ℕ) → all_remembered (gone s id) ≡ set (all_remembered s) id None
remembers_gone s id = mapped_set s.slots id None

-- a buffer that is made has no moment
pub remembers_created : (s : Buffers) (id : ℕ) → all_remembered (created s id) ≡ set (all_remembered s) id (Some (remembered (new_buffer s.w s.h 1 s.births)))
remembers_created s id = mapped_set s.slots id (Some (new_buffer s.w s.h 1 s.births))

-- ---- a row that is not stamped

-- A row that is what it was at the moment gives the row of the view that was shown then.
pub as_shown : (p : Page) (y : ℕ) → IsPage p → y < p.h → IsUntouched p.grid (p.top + y) → IsAsShown p y
as_shown p y ok below untouched = λ v was. by_moment v p.grid.moment untouched was.rows was.count
  where
    by_moment : (v : View) (m : Option (List Glyph)) → IsRowOf m p.grid.width p.grid.cells (p.top + y) → WereRows m (sides p) p.left p.top v.rows
        → length v.rows ≡ p.h * p.w → row_of p.w (view_of p).rows y ≡ row_of p.w v.rows y
    by_moment v None same rows count = absurd same
    by_moment v (Some cells) same rows count =
        view_row p y ok below ∙ same_part p.grid.width p.grid.cells cells p.left p.w (p.top + y) (p.top + y) ok.right same
        ∙ sym (row_of_rows p.grid.width cells p.left p.top p.w p.h y (ap (λ (l : List Glyph). length l) rows ∙ count) below)
        ∙ ap (λ (l : List Glyph). row_of p.w l y) rows

-- ---- the number is raised

-- at that moment the view is the present one
pub raised_shown : (p : Page) (n : ℕ) → IsPage p → p.grid.now < n → WasShown (sides (record p { grid = raised p.grid n })) p.left p.top (view_of p)
raised_shown p n ok more = by_test (nat_lt p.grid.now n) (lt-ltb p.grid.now n more)
  where
    by_test : (b : Bool) → b ≡ true
        → WasShown (sides (record p { grid = cond b (record p.grid { now = n; moment = Some p.grid.cells }) p.grid })) p.left p.top (view_of p)
    by_test true e = record { rows = refl; count = length-rows_in p.grid p.left p.top p.w p.h ok.grid ok.right ok.bottom }
    by_test false e = absurd (cc)

-- the view stays
pub raised_view : (p : Page) (n : ℕ) → view_of (record p { grid = raised p.grid n }) ≡ view_of p
raised_view p n = by_test (nat_lt p.grid.now n)
  where
    by_test : (b : Bool) → view_of (record p { grid = cond b (record p.grid { now = n; moment = Some p.grid.cells }) p.grid }) ≡ view_of p
    by_test true = refl
    by_test false = refl

raised_page : (p : Page) (n : ℕ) → IsPage p → IsPage (record p { grid = raised p.grid n })
raised_page p n ok = by_test (nat_lt p.grid.now n)
  where
    by_test : (b : Bool) → IsPage (record p { grid = cond b (record p.grid { now = n; moment = Some p.grid.cells }) p.grid })
    by_test true = record {
      grid = record {
        wide = ok.grid.wide;
        tall = ok.grid.tall;
        at_most_wide = ok.grid.at_most_wide;
        at_most_tall = ok.grid.at_most_tall;
        cells = ok.grid.cells;
      };
      column = ok.column;
      row = ok.row;
      cursor_size = ok.cursor_size;
      wide = ok.wide;
      tall = ok.tall;
      low = ok.low;
      right = ok.right;
      bottom = ok.bottom;
      pen = ok.pen;
      saved_column = ok.saved_column;
      saved_row = ok.saved_row;
      margins = ok.margins;
      tabs = ok.tabs;
    }
    by_test false = ok

raised_width : (g : Picture) (n : ℕ) → ((raised g n).width ≡ g.width) × ((raised g n).height ≡ g.height)
raised_width g n = by_test (nat_lt g.now n)
  where
    by_test : (b : Bool) → ((cond b (record g { now = n; moment = Some g.cells }) g).width ≡ g.width)
        × ((cond b (record g { now = n; moment = Some g.cells }) g).height ≡ g.height)
    by_test true = (refl, refl)
    by_test false = (refl, refl)

-- buffers stay sound
pub numbered_keeps : (s : Buffers) (id n : ℕ) → AreBuffers s → IsLive s id → AreBuffers (screen_left s id (numbered (screen_at s id) n))
numbered_keeps s id n are live =
    let old : HasWindow (screen_at s id) s.w s.h = screen_has s id are live in
    window_keeps s id (numbered (screen_at s id) n) are live (record { page = raised_page (screen_at s id).page n old.page; wide = old.wide; tall = old.tall })
    (λ shown. (let had = alternate_has s id are live shown in let same = raised_width (screen_at s id).page.grid n in (same.0 ∙ had.0, same.1 ∙ had.1)))

-- the same of a screen that was lent, with its grid's number raised
pub numbered_left : (s : Buffers) (id n : ℕ) (lent : Screen) (g : Picture) → AreBuffers s → IsLive s id → lent ≡ screen_at s id
    → g ≡ raised lent.page.grid n → AreBuffers (screen_left s id (record lent { page = record lent.page { grid = g } }))
numbered_left s id n lent g are live was is =
    subst (λ (x : Picture). AreBuffers (screen_left s id (record lent { page = record lent.page { grid = x } }))) (sym is)
    (subst (λ (x : Screen). AreBuffers (screen_left s id (numbered x n))) (sym was) (numbered_keeps s id n are live))

-- ---- what is looked up

-- what is remembered of a live buffer's shown screen
pub remembers_shown : (s : Buffers) (id : ℕ) → IsLive s id
    → IfSome (option_map remembered (buffer_at s id)) (λ r. (if is_alternate s id then r.alternate else r.main) ≡ sides (screen_at s id).page)
remembers_shown s id live = by_slot (buffer_at s id) live
  where
    by_side : (b : Buffer) (a : Bool) → cond a (sides (cond a b.shown b.hidden).page) (sides (cond a b.hidden b.shown).page) ≡ sides b.shown.page
    by_side b true = refl
    by_side b false = refl

    by_slot : (o : Option Buffer) → IsSome o
        → IfSome (option_map remembered o) (λ r. (if option_map_or (λ b. b.alternate) o false then r.alternate else r.main) ≡ sides (screen_in s o).page)
    by_slot None live = absurd (some_not_none live)
    by_slot (Some b) live = by_side b b.alternate
