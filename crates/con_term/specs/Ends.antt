-- Line feeds and carriage returns, one after another.
use Rattle.std.specs.Prelude.{ℕ, ◌+◌, ◌-◌, ◌*◌, ◌==◌, ◌||◌, Bool, false, min, nat_lt, List, fold, if◌then◌else◌}
use Rattle.con_term.specs.Page.{Page, raised}
use Rattle.con_term.specs.Effect.{control_effect}

-- LF or CR
abbrev pub is_end : ℕ → Bool
is_end u = (u == 10) || (u == 13)

-- the page after controls, one after another
unfoldable pub all_done : Page → List ℕ → Page
all_done s us = fold control_effect s us

abbrev pub one_more : ℕ → ℕ → ℕ
one_more n u = if u == 10 then n + 1 else n

-- how many of the units are LF
unfoldable pub feeds_in : List ℕ → ℕ
feeds_in us = fold one_more 0 us

-- the cursor so many rows down; the rows go up by those that are not there
abbrev pub fed : Page → ℕ → Page
fed s n = raised (record s { y = min (s.y + n) (s.h - 1); pending = false }) (min (s.y + n - (s.h - 1)) s.h * s.w)

-- what so many LF and CR leave, of which some are LF
abbrev pub ended : Page → ℕ → ℕ → Page
ended s count feeds = record (fed s feeds) { x = if nat_lt feeds count then 0 else s.x }
