-- Which keys the bytes of a terminal stand for, row by row.
use Rattle.std.specs.Prelude.{ℕ, ◌+◌, ◌-◌, ◌*◌, ◌/◌, ◌%◌, Bool, true, ◌&&◌, ◌||◌, ◌==◌, nat_lt, nat_le, List, [], ◌∷◌, Option, Some, None, option_map, if◌then◌else◌}
use Rattle.std.specs.Int.{is_in_range}
use Rattle.con_records.specs.declared.record.Key.{Key}

-- a key that goes down once: its virtual-key code, its unit and its state, of which 0x02 is LEFT_ALT_PRESSED, 0x08
-- LEFT_CTRL_PRESSED, 0x10 SHIFT_PRESSED and 0x100 ENHANCED_KEY
abbrev pub pressed : ℕ → ℕ → ℕ → Key
pressed vk unit state = record { down = true; repeat = 1; vk = vk; scan = 0; unit = unit; state = state }

-- VK_ESCAPE
abbrev pub escape : Key
escape = pressed 0x1B 0x1B 0

-- U+FFFD, where bytes are no key
abbrev pub replacement : Key
replacement = pressed 0 0xFFFD 0

-- ---- characters

abbrev pub is_capital : ℕ → Bool
is_capital = is_in_range 0x41 0x5A

abbrev pub is_small : ℕ → Bool
is_small = is_in_range 0x61 0x7A

-- space, a digit and a capital are their own code, and a small letter has its capital's
abbrev pub printable_vk : ℕ → ℕ
printable_vk b = if (b == 0x20) || is_in_range 0x30 0x39 b || is_capital b then b else if is_small b then b - 0x20 else 0

-- 0x20 to 0x7E; a capital has shift
abbrev pub printable_key : ℕ → Key
printable_key b = pressed (printable_vk b) b (if is_capital b then 0x10 else 0)

-- the control bytes that are letters with ctrl, NUL, which is space (VK_SPACE) with ctrl, and the last four
abbrev pub ctrl_key : ℕ → Key
ctrl_key b = if b == 0 then pressed 0x20 0 0x08 else if nat_le b 0x1A then pressed (0x40 + b) b 0x08 else pressed 0 b 0x08

-- tab (VK_TAB), return (VK_RETURN) and escape are themselves, back (VK_BACK) is DEL, and back with ctrl is BS
abbrev pub control_key : ℕ → Key
control_key b = if (b == 0x09) || (b == 0x0D) || (b == 0x1B) then pressed b b 0
    else if b == 0x7F then pressed 0x08 0x08 0
    else if b == 0x08 then pressed 0x08 0x7F 0x08
    else ctrl_key b

-- 0x00 to 0x7F
abbrev pub byte_key : ℕ → Key
byte_key b = if is_in_range 0x20 0x7E b then printable_key b else control_key b

abbrev pub with_alt : Key → Key
with_alt k = record k { state = k.state + 0x02 }

-- the keys of a character: those of its UTF-16 units
abbrev pub character_keys : ℕ → List Key
character_keys c = if nat_lt c 0x80 then byte_key c ∷ []
    else if nat_lt c 0x10000 then pressed 0 c 0 ∷ []
    else pressed 0 (0xD800 + (c - 0x10000) / 0x400) 0 ∷ pressed 0 (0xDC00 + (c - 0x10000) % 0x400) 0 ∷ []

-- ---- sequences

-- VK_UP, VK_DOWN, VK_RIGHT, VK_LEFT, VK_HOME and VK_END, by the last bytes of CUU, CUD, CUF, CUB, CUP and CPL
abbrev pub six_vk : ℕ → Option ℕ
six_vk b = if b == 0x41 then Some 0x26 else if b == 0x42 then Some 0x28 else if b == 0x43 then Some 0x27
    else if b == 0x44 then Some 0x25 else if b == 0x48 then Some 0x24 else if b == 0x46 then Some 0x23 else None

-- VK_INSERT, VK_DELETE, VK_PRIOR and VK_NEXT, by one digit before ~
abbrev pub page_vk : ℕ → Option ℕ
page_vk d = if d == 0x32 then Some 0x2D else if d == 0x33 then Some 0x2E
    else if d == 0x35 then Some 0x21 else if d == 0x36 then Some 0x22 else None

-- VK_F5 to VK_F8 by 15 and 17 to 19 before ~
abbrev pub teen_vk : ℕ → Option ℕ
teen_vk e = if e == 0x35 then Some 0x74 else if is_in_range 0x37 0x39 e then Some (e + 0x3E) else None

-- VK_F9 to VK_F12 by 20, 21, 23 and 24 before ~
abbrev pub twenty_vk : ℕ → Option ℕ
twenty_vk e = if is_in_range 0x30 0x31 e then Some (e + 0x48) else if is_in_range 0x33 0x34 e then Some (e + 0x47) else None

abbrev pub function_vk : ℕ → ℕ → Option ℕ
function_vk d e = if d == 0x31 then teen_vk e else if d == 0x32 then twenty_vk e else None

-- an enhanced key, and one that is not
abbrev pub enhanced : ℕ → Option ℕ → Option Key
enhanced state vk = option_map (λ code. pressed code 0 (0x100 + state)) vk

abbrev pub ordinary : ℕ → Option ℕ → Option Key
ordinary state vk = option_map (λ code. pressed code 0 state) vk

-- VK_F1 to VK_F4 by P to S, behind SS3 or CSI
abbrev pub first_vk : ℕ → Option ℕ
first_vk b = if is_in_range 0x50 0x53 b then Some (b + 0x20) else None

abbrev pub or_else : Option Key → Option Key → Option Key
or_else None other = other
or_else (Some key) other = Some key

-- the key of a last letter
abbrev pub letter_key : ℕ → ℕ → Option Key
letter_key state b = or_else (enhanced state (six_vk b)) (ordinary state (first_vk b))

-- m from 1 to 8 is 1 plus shift 1, alt 2, ctrl 4
abbrev pub is_modifier : ℕ → Bool
is_modifier = is_in_range 0x31 0x38

abbrev pub modifier_state : ℕ → ℕ
modifier_state m = (m - 0x31) % 2 * 0x10 + (m - 0x31) / 2 % 2 * 0x02 + (m - 0x31) / 4 * 0x08

-- the key of a control sequence, by what stands between ESC [ (CSI) and its last byte; 0x7E is ~, and 0x3B the ; before a modifier
abbrev pub control_sequence_key : List ℕ → ℕ → Option Key
control_sequence_key [] last = enhanced 0 (six_vk last)
control_sequence_key (d ∷ []) last = if last == 0x7E then enhanced 0 (page_vk d) else None
control_sequence_key (d ∷ e ∷ []) last = if last == 0x7E then ordinary 0 (function_vk d e) else None
control_sequence_key (d ∷ s ∷ m ∷ []) last = if (s == 0x3B) && is_modifier m
    then (if last == 0x7E then enhanced (modifier_state m) (page_vk d) else if d == 0x31 then letter_key (modifier_state m) last else None)
    else None
control_sequence_key (d ∷ e ∷ s ∷ m ∷ []) last = if ((s == 0x3B) && is_modifier m) && (last == 0x7E) then ordinary (modifier_state m) (function_vk d e)
    else None
control_sequence_key (d ∷ e ∷ s ∷ m ∷ x ∷ more) last = None
