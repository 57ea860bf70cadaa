-- The units that a key sends to a program that reads virtual terminal input.
use Rattle.std.specs.Prelude.{ℕ, ◌+◌, ◌-◌, ◌*◌, ◌/◌, ◌%◌, Bool, ◌&&◌, ◌==◌, List, [], ◌∷◌, Option, Some, None, if◌then◌else◌}
use Rattle.std.specs.Int.{is_in_range}
use Rattle.con_records.specs.declared.record.Key.{Key}
use Rattle.con_vtin.specs.declared.sequence.Row.{Row}
use Rattle.con_vtin.specs.declared.sequence.Row.TheVariants as rows

-- ---- which row of the table a virtual-key code stands in

-- VK_UP, VK_DOWN, VK_RIGHT, VK_LEFT, VK_HOME and VK_END: the last bytes of CUU, CUD, CUF, CUB, CUP and CPL
abbrev pub arrow_row : ℕ → Option Row
arrow_row vk = if vk == 0x26 then Some (rows.Letter 0x41) else if vk == 0x28 then Some (rows.Letter 0x42) else if vk == 0x27 then Some (rows.Letter 0x43)
    else if vk == 0x25 then Some (rows.Letter 0x44) else if vk == 0x24 then Some (rows.Letter 0x48) else if vk == 0x23 then Some (rows.Letter 0x46) else None

-- VK_INSERT, VK_DELETE, VK_PRIOR and VK_NEXT
abbrev pub page_row : ℕ → Option Row
page_row vk = if vk == 0x2D then Some (rows.Page 0x32) else if vk == 0x2E then Some (rows.Page 0x33)
    else if vk == 0x21 then Some (rows.Page 0x35) else if vk == 0x22 then Some (rows.Page 0x36) else None

-- VK_F1 to VK_F12
abbrev pub function_row : ℕ → Option Row
function_row vk = if is_in_range 0x70 0x73 vk then Some (rows.First (vk - 0x20))
    else if vk == 0x74 then Some (rows.Function 0x31 0x35)
    else if is_in_range 0x75 0x77 vk then Some (rows.Function 0x31 (vk - 0x3E))
    else if is_in_range 0x78 0x79 vk then Some (rows.Function 0x32 (vk - 0x48))
    else if is_in_range 0x7A 0x7B vk then Some (rows.Function 0x32 (vk - 0x47))
    else None

abbrev pub or_row : Option Row → Option Row → Option Row
or_row None other = other
or_row (Some row) other = Some row

-- a key of these rows has no unit
abbrev pub row_of : Key → Option Row
row_of k = if k.unit == 0 then or_row (arrow_row k.vk) (or_row (page_row k.vk) (function_row k.vk)) else None

-- ---- what a key sends

-- SHIFT_PRESSED, LEFT_ALT_PRESSED and LEFT_CTRL_PRESSED
abbrev pub shift_in : ℕ → ℕ
shift_in state = state / 0x10 % 2

abbrev pub alt_in : ℕ → ℕ
alt_in state = state / 0x02 % 2

abbrev pub ctrl_in : ℕ → ℕ
ctrl_in state = state / 0x08 % 2

-- the digit 1 plus shift 1, alt 2, ctrl 4
abbrev pub modifier_of : ℕ → ℕ
modifier_of state = 0x31 + shift_in state + 2 * alt_in state + 4 * ctrl_in state

-- without a modifier: behind ESC [ (CSI), or ESC O (SS3) for F1 to F4 and, in application mode (DECCKM), for the cursor keys
abbrev pub plain_row : Row → Bool → List ℕ
plain_row (rows.Letter last) cursor_keys = 0x1B ∷ (if cursor_keys then 0x4F else 0x5B) ∷ last ∷ []
plain_row (rows.First last) cursor_keys = 0x1B ∷ 0x4F ∷ last ∷ []
plain_row (rows.Page d) cursor_keys = 0x1B ∷ 0x5B ∷ d ∷ 0x7E ∷ []
plain_row (rows.Function d e) cursor_keys = 0x1B ∷ 0x5B ∷ d ∷ e ∷ 0x7E ∷ []

-- with one, behind ESC [ (CSI)
abbrev pub modified_row : Row → ℕ → List ℕ
modified_row (rows.Letter last) m = 0x1B ∷ 0x5B ∷ 0x31 ∷ 0x3B ∷ m ∷ last ∷ []
modified_row (rows.First last) m = 0x1B ∷ 0x5B ∷ 0x31 ∷ 0x3B ∷ m ∷ last ∷ []
modified_row (rows.Page d) m = 0x1B ∷ 0x5B ∷ d ∷ 0x3B ∷ m ∷ 0x7E ∷ []
modified_row (rows.Function d e) m = 0x1B ∷ 0x5B ∷ d ∷ e ∷ 0x3B ∷ m ∷ 0x7E ∷ []

abbrev pub row_units : Row → ℕ → Bool → List ℕ
row_units row m cursor_keys = if m == 0x31 then plain_row row cursor_keys else modified_row row m

-- the units of a key of no row, without alt
abbrev pub own_units : Key → List ℕ
own_units k = if k.vk == 0x08 then (if ctrl_in k.state == 1 then 0x08 else 0x7F) ∷ []
    else if (k.vk == 0) && (k.unit == 0) then []
    else k.unit ∷ []

-- ESC before some units, where alt is down
abbrev pub escaped : Bool → List ℕ → List ℕ
escaped alt [] = []
escaped alt (u ∷ us) = if alt then 0x1B ∷ u ∷ us else u ∷ us

abbrev pub units_by : Option Row → Key → Bool → List ℕ
units_by (Some row) k cursor_keys = row_units row (modifier_of k.state) cursor_keys
units_by None k cursor_keys = escaped (alt_in k.state == 1) (own_units k)

abbrev pub key_units : Key → Bool → List ℕ
key_units k cursor_keys = units_by (row_of k) k cursor_keys
