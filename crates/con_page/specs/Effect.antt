-- What an item does to a page: the table of effects. Each row names its function and where it is defined: ECMA-48 (5th
-- edition) by its section, or the console's documentation ("Console Virtual Terminal Sequences") by its heading.
use Rattle.std.specs.Prelude.{ℕ, zero, suc, ◌+◌, ◌-◌, ◌*◌, Bool, true, false, not, ◌==◌, ◌&&◌, ◌||◌, nat_lt, nat_le, min, max, List}
use Rattle.std.specs.Prelude.{drop, take, reverse, position, replicate, slice_index, slice_set, None, Some, if◌then◌else◌}
use Rattle.std.specs.Option.{option_map_or}
use Rattle.con_vtgram.specs.Pen.{starting_pen}
use Rattle.con_vtgram.specs.Sgr.{pen_of}
use Rattle.con_vtgram.specs.declared.item.Csi.{Csi}
use Rattle.con_vtgram.specs.declared.item.Item.{Item}
use Rattle.con_vtgram.specs.declared.item.Item.TheVariants as items
use Rattle.con_grid.specs.Picture.{part_lifted, part_lowered}
use Rattle.con_page.specs.Page.{Page, place, row_end, blank, with_cells, erased, rows_up, rows_down, region_first, region_end, down, shown}
use Rattle.con_page.specs.Print.{printed}

-- the first parameter
abbrev pub first : Csi → ℕ
first c = slice_index c.params 0

-- ---- the cursor

abbrev pub clamp : ℕ → ℕ → ℕ → ℕ
clamp low size n = max (min n (low + size - 1)) low

abbrev pub at_x : Page → ℕ → Page
at_x p x = record p { x = x; late = false }

-- in the window
abbrev pub at_row : Page → ℕ → Page
at_row p n = record p { y = clamp p.top p.h n; late = false }

abbrev pub at_column : Page → ℕ → Page
at_column p n = at_x p (clamp p.left p.w n)

-- the next tab stop to the right, or the last column
unfoldable pub tab_right : List Bool → ℕ → ℕ → ℕ
tab_right tabs w x = option_map_or (λ k. x + 1 + k) (position (λ on. on) (drop (x + 1) tabs)) (w - 1)

-- the next tab stop to the left, or column 0
unfoldable pub tab_left : List Bool → ℕ → ℕ
tab_left tabs x = option_map_or (λ k. x - 1 - k) (position (λ on. on) (reverse (take x tabs))) 0

-- f, so many times
abbrev pub times : ℕ → (ℕ → ℕ) → ℕ → ℕ
times zero f x = x
times (suc n) f x = f (times n f x)

unfoldable pub control_effect : Page → ℕ → Page
control_effect p u =
    -- BS, ECMA-48 8.3.5
    if u == 8 then at_x p (p.x - 1)
    -- HT, ECMA-48 8.3.60
    else if u == 9 then at_x p (tab_right p.tabs p.grid.width p.x)
    -- LF, ECMA-48 8.3.74; without mode 0x0008 it goes to column 0 as well
    else if u == 10 then record (down (if p.mode.keeps_column then p else record p { x = 0 })) { late = false }
    -- CR, ECMA-48 8.3.15; BEL, 8.3.3, does nothing here
    else if u == 13 then at_x p 0 else p

-- ---- sequences without a ? and an intermediate

-- DECSC, "Simple Cursor Positioning", and SCOSC, "Cursor Positioning": the cursor's place is kept, and neither the pen nor a due wrap
abbrev pub saved : Page → Page
saved p = record p { saved_x = p.x; saved_y = p.y }

-- DECRC, "Simple Cursor Positioning", and SCORC, "Cursor Positioning": the cursor goes to the place that was kept, and no wrap is due
abbrev pub restored : Page → Page
restored p = record p { x = p.saved_x; y = p.saved_y; late = false }

-- DECSTBM, "Scrolling Margins": margins around the whole window are none
abbrev pub with_margins : Page → ℕ → ℕ → Page
with_margins p top bottom =
    if not ((nat_lt top bottom && nat_le bottom p.h) || ((p.h == 1) && (top == 1) && (bottom == 1))) then p
    else record p { margins = if (top == 1) && (bottom == p.h) then None else Some (record { top = top; bottom = bottom }); x = p.left; y = p.top; late = false }

-- a control sequence that sets something; any other does nothing
unfoldable pub setting : Page → Csi → Page
setting p c =
    -- CSI g: TBC, ECMA-48 8.3.154
    if c.last == 0x67 then (if first c == 0 then record p { tabs = slice_set p.tabs p.x false } else if first c == 3
    then record p { tabs = replicate p.grid.width false } else p)
    -- CSI m: SGR, ECMA-48 8.3.117
    else if c.last == 0x6D then record p { pen = pen_of c p.pen }
    -- CSI r: DECSTBM, "Scrolling Margins"
    else if c.last == 0x72 then with_margins p (max (first c) 1) (if slice_index c.params 1 == 0 then p.h else slice_index c.params 1)
    -- CSI s: SCOSC, CSI u: SCORC, "Cursor Positioning"
    else if c.last == 0x73 then (if c.count == 0 then saved p else p) else if c.last == 0x75 then (if c.count == 0 then restored p else p) else p

-- ED, ECMA-48 8.3.39, and EL, 8.3.41, of the cells from one place up to another: from the cursor on, up to it, or all
unfoldable pub part_erased : Page → ℕ → ℕ → ℕ → Page
part_erased p from upto n =
    if n == 0 then erased p (max (min (place p) upto) from) upto
    else if n == 1 then erased p from (max (min (place p + 1) upto) from) else if n == 2 then erased p from upto else p

abbrev pub is_in_region : Page → Bool
is_in_region p = nat_le (region_first p) p.y && nat_lt p.y (region_end p)

-- one that changes cells, by its first parameter, of which 0 counts as 1 but for ED and EL; any other as `setting` says
unfoldable pub edit : Page → Csi → Page
edit p c = let n = max (first c) 1 in
    -- CSI @: ICH, ECMA-48 8.3.64; CSI P: DCH, 8.3.26
    if c.last == 0x40 then with_cells p (part_lowered p.grid.cells (place p) (row_end p) n (blank p))
    else if c.last == 0x50 then with_cells p (part_lifted p.grid.cells (place p) (row_end p) n (blank p))
    -- CSI J: ED, of the window's rows; CSI K: EL, of the cursor's row
    else if c.last == 0x4A then part_erased p (p.top * p.grid.width) ((p.top + p.h) * p.grid.width) (first c)
    else if c.last == 0x4B then part_erased p (p.y * p.grid.width) (row_end p) (first c)
    -- CSI X: ECH, ECMA-48 8.3.38
    else if c.last == 0x58 then erased p (place p) (min (place p + n) (row_end p))
    -- CSI L: IL, ECMA-48 8.3.67; CSI M: DL, 8.3.32
    else if c.last == 0x4C then (if is_in_region p then rows_down p p.y (region_end p) n else p)
    else if c.last == 0x4D then (if is_in_region p then rows_up p p.y (region_end p) n else p)
    -- CSI S: SU, ECMA-48 8.3.147; CSI T: SD, 8.3.113
    else if c.last == 0x53 then rows_up p (region_first p) (region_end p) n
    else if c.last == 0x54 then rows_down p (region_first p) (region_end p) n else setting p c

-- one that moves the cursor, by its first parameter, of which 0 counts as 1; any other as `edit` says
unfoldable pub plain_effect : Page → Csi → Page
plain_effect p c = let n = max (first c) 1 in
    -- CSI A: CUU, ECMA-48 8.3.22; CSI B: CUD, 8.3.19; CSI C: CUF, 8.3.20; CSI D: CUB, 8.3.18
    if c.last == 0x41 then at_row p (p.y - n) else if c.last == 0x42 then at_row p (p.y + n)
    else if c.last == 0x43 then at_column p (p.x + n) else if c.last == 0x44 then at_column p (p.x - n)
    -- CSI E: CNL, ECMA-48 8.3.12; CSI F: CPL, 8.3.13
    else if c.last == 0x45 then at_column (at_row p (p.y + n)) p.left else if c.last == 0x46 then at_column (at_row p (p.y - n)) p.left
    -- CSI G: CHA, ECMA-48 8.3.9; CSI d: VPA, 8.3.158
    else if c.last == 0x47 then at_column p (p.left + n - 1) else if c.last == 0x64 then at_row p (p.top + n - 1)
    -- CSI H: CUP, ECMA-48 8.3.21; CSI f: HVP, 8.3.63
    else if (c.last == 0x48) || (c.last == 0x66) then at_column (at_row p (p.top + n - 1)) (p.left + max (slice_index c.params 1) 1 - 1)
    -- CSI I: CHT, ECMA-48 8.3.10; CSI Z: CBT, 8.3.7
    else if c.last == 0x49 then at_x p (times n (tab_right p.tabs p.grid.width) p.x)
    else if c.last == 0x5A then at_x p (times n (tab_left p.tabs) p.x) else edit p c

-- ---- all items

-- CSI ! p: DECSTR, "Soft Reset"
abbrev pub is_reset : Csi → Bool
is_reset c = (c.inter == 0x21) && not c.private && (c.last == 0x70)

unfoldable pub sequence_effect : Page → Csi → Page
sequence_effect p c =
    if is_reset c then record p { visible = true; margins = None; drawing = false; pen = starting_pen; saved_x = 0; saved_y = 0 }
    else if not (c.inter == 0) then p
    else if not c.private then plain_effect p c
    -- CSI ? 25 h, CSI ? 25 l: DECTCEM, "Cursor Visibility"
    else if first c == 25 then record p { visible = if c.last == 0x68 then true else if c.last == 0x6C then false else p.visible } else p

unfoldable pub escape_effect : Page → ℕ → Page
escape_effect p u =
    -- ESC 7: DECSC, ESC 8: DECRC, "Simple Cursor Positioning"
    if u == 0x37 then saved p else if u == 0x38 then restored p
    -- ESC H: HTS, ECMA-48 8.3.62
    else if u == 0x48 then record p { tabs = slice_set p.tabs p.x true }
    -- ESC M: RI, ECMA-48 8.3.104
    else if not (u == 0x4D) then p
    else if p.y == region_first p then record (rows_down p (region_first p) (region_end p) 1) { late = false }
    else record p { y = if nat_lt p.top p.y then p.y - 1 else p.y; late = false }

unfoldable pub act : Page → Item → Page
act p (items.Print u) = printed u p
act p (items.Control u) = control_effect p u
act p (items.Csi c) = sequence_effect p c
act p (items.Escape u) = escape_effect p u
-- ESC ( 0, ESC ( B: SCS of the DEC Special Graphic Character Set and of ASCII, "Designate Character Set"
act p (items.Charset u) = if u == 0x30 then record p { drawing = true } else if u == 0x42 then record p { drawing = false } else p
act p items.Title = p

-- where the cursor's position differs, the window shows it
unfoldable pub follow : Page → Page → Page
follow old new = if (new.x == old.x) && (new.y == old.y) then new else shown new

unfoldable pub effect : Page → Item → Page
effect p item = follow p (act p item)
