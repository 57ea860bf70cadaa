-- Line feeds and carriage returns, one after another.
use Rattle.std.specs.Prelude.{ℕ, ◌≡◌, ◌+◌, ◌-◌, ◌<◌, ◌≤◌, ◌==◌, ◌||◌, Bool, true, false, None, min, nat_lt, List, fold, if◌then◌else◌}
use Rattle.con_vtgram.specs.declared.item.Item.TheVariants as items
use Rattle.con_page.specs.Page.{Page, rows_up, shown}
use Rattle.con_page.specs.Effect.{effect}

-- LF or CR
abbrev pub is_end : ℕ → Bool
is_end u = (u == 10) || (u == 13)

abbrev pub act_next : Page → ℕ → Page
act_next p u = effect p (items.Control u)

-- the page after controls that act, one after another
unfoldable pub all_ended : Page → List ℕ → Page
all_ended p us = fold act_next p us

abbrev pub one_more : ℕ → ℕ → ℕ
one_more n u = if u == 10 then n + 1 else n

-- how many of the units are LF
unfoldable pub feeds_in : List ℕ → ℕ
feeds_in us = fold one_more 0 us

-- controls act, there are no margins, and the window shows the cursor
pub record CanEnd (p : Page) : Type 0 where
  pub processed : p.mode.processed ≡ true
  pub margins : p.margins ≡ None
  pub left : p.left ≤ p.x
  pub right : p.x < p.left + p.w
  pub top : p.top ≤ p.y
  pub bottom : p.y < p.top + p.h

-- the cursor n rows down; all rows go up by those that are not there
abbrev pub fed : Page → ℕ → Page
fed p n = record (rows_up p 0 p.grid.height (min (p.y + n - (p.grid.height - 1)) p.grid.height)) { y = min (p.y + n) (p.grid.height - 1); late = false }

-- whether so many LF and CR, of which some are LF, go to column 0
abbrev pub goes_back : Bool → ℕ → ℕ → Bool
goes_back keeps_column count feeds = if keeps_column then nat_lt feeds count else nat_lt 0 count

-- what they leave
unfoldable pub ended : Page → ℕ → ℕ → Page
ended p count feeds = shown (fed (if goes_back p.mode.keeps_column count feeds then record p { x = 0 } else p) feeds)
