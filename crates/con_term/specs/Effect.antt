-- The table of items: what each does to a terminal's page. Everything that it does not name does nothing.
-- Sources: ECMA-48, 5th edition; "API" is the Console API's page "Console Virtual Terminal Sequences".
use Rattle.std.specs.Prelude.{ℕ, ◌+◌, ◌-◌, ◌*◌, ◌==◌, ◌&&◌, ◌||◌, false, min, max, slice_index, if◌then◌else◌}
use Rattle.con_vtgram.specs.declared.item.Csi.{Csi}
use Rattle.con_vtgram.specs.declared.item.Item.{Item}
use Rattle.con_vtgram.specs.declared.item.Item.TheVariants as items
use Rattle.con_vtgram.specs.Sgr.{pen_of}
use Rattle.con_term.specs.Page.{Page, place, erased, lowered, printed, raised}

abbrev pub row_end : Page → ℕ
row_end s = s.y * s.w + s.w

-- no wrap is pending
abbrev pub unpended : Page → Page
unpended s = record s { pending = false }

-- the cursor elsewhere
abbrev pub moved_to : Page → ℕ → ℕ → Page
moved_to s x y = record s { x = x; y = y; pending = false }

-- to a row and a column that count from 1, and 0 is 1
abbrev pub gone_to : Page → ℕ → ℕ → Page
gone_to s row column = moved_to s (min (max column 1) s.w - 1) (min (max row 1) s.h - 1)

-- of the cells from `first` up to `end` 0 erases those from the cursor on, 1 those up to the cursor, 2 all; others do nothing
unfoldable pub part_erased : Page → ℕ → ℕ → ℕ → Page
part_erased s first end n =
    if n == 0 then unpended (erased s (place s) end)
    else if n == 1 then unpended (erased s first (place s + 1))
    else if n == 2 then unpended (erased s first end)
    else s

-- a control sequence without a ? and an intermediate, by its final byte
unfoldable pub plain_effect : Page → Csi → Page
plain_effect s c = let n = slice_index c.params 0 in
    -- CUU, CSI A, ECMA-48 8.3.22
    if c.last == 0x41 then moved_to s s.x (s.y - max n 1)
    -- CUD, CSI B, ECMA-48 8.3.19
    else if c.last == 0x42 then moved_to s s.x (min (s.y + max n 1) (s.h - 1))
    -- CUF, CSI C, ECMA-48 8.3.20
    else if c.last == 0x43 then moved_to s (min (s.x + max n 1) (s.w - 1)) s.y
    -- CUB, CSI D, ECMA-48 8.3.18
    else if c.last == 0x44 then moved_to s (s.x - max n 1) s.y
    -- CUP, CSI H, ECMA-48 8.3.21
    else if c.last == 0x48 then gone_to s n (slice_index c.params 1)
    -- HVP, CSI f, ECMA-48 8.3.63
    else if c.last == 0x66 then gone_to s n (slice_index c.params 1)
    -- SU, CSI S, ECMA-48 8.3.147: all rows go up by n, with blank rows below
    else if c.last == 0x53 then raised s (min (max n 1) s.h * s.w)
    -- ED, CSI J, ECMA-48 8.3.39: of all cells
    else if c.last == 0x4A then part_erased s 0 (s.h * s.w) n
    -- EL, CSI K, ECMA-48 8.3.41: of the cursor's row
    else if c.last == 0x4B then part_erased s (s.y * s.w) (row_end s) n
    -- ECH, CSI X, ECMA-48 8.3.38: as many from the cursor on, in its row
    else if c.last == 0x58 then unpended (erased s (place s) (min (place s + max n 1) (row_end s)))
    -- SGR, CSI m, ECMA-48 8.3.117
    else if c.last == 0x6D then record s { pen = pen_of c s.pen }
    else s

-- DECTCEM, CSI ? 25 h and CSI ? 25 l: API, Cursor Visibility
unfoldable pub private_effect : Page → Csi → Page
private_effect s c = if (slice_index c.params 0 == 25) && ((c.last == 0x68) || (c.last == 0x6C)) then record s { visible = c.last == 0x68 } else s

abbrev pub control_effect : Page → ℕ → Page
control_effect s u =
    -- BS, ECMA-48 8.3.5
    if u == 8 then moved_to s (s.x - 1) s.y
    -- LF, ECMA-48 8.3.74: down, in the same column
    else if u == 10 then unpended (lowered s)
    -- CR, ECMA-48 8.3.15
    else if u == 13 then moved_to s 0 s.y
    else s

-- one item of the text
unfoldable pub effect : Page → Item → Page
effect s (items.Print u) = printed u s
effect s (items.Control u) = control_effect s u
effect s (items.Csi c) = if c.inter == 0 then (if c.private then private_effect s c else plain_effect s c) else s
effect s _ = s
