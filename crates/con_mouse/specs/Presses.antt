-- What the reports of the mouse do to the held buttons, and the records that they make. (MOUSE_EVENT_RECORD)
use Rattle.std.specs.Prelude.{ℕ, ◌+◌, ◌-◌, ◌/◌, ◌%◌, pos, Bool, true, false, ◌==◌, Option, Some, None, if◌then◌else◌}
use Rattle.con_records.specs.declared.record.Mouse.{Mouse}
use Rattle.con_mouse.specs.declared.report.Report.{Report}
use Rattle.con_mouse.specs.declared.buttons.Buttons.{Buttons}
use Rattle.con_mouse.specs.declared.buttons.Button.{Button}
use Rattle.con_mouse.specs.declared.buttons.Button.TheVariants.{Left, Middle, Right}
use Rattle.con_mouse.specs.declared.buttons.Action.{Action}
use Rattle.con_mouse.specs.declared.buttons.Action.TheVariants.{Wheel, Move, Change, Nothing}

-- the flag of this value is set in a button number
abbrev pub has_flag : ℕ → ℕ → Bool
has_flag b flag = (b / flag) % 2 == 1

abbrev pub bit : Bool → ℕ → ℕ
bit on value = if on then value else 0

-- ---- what a report tells

-- a wheel up is 0x0078, 120 (WHEEL_DELTA), in the high half, and one down is 0xFF88, -120
abbrev pub wheel_of : ℕ → Action
wheel_of n = if n == 0 then Wheel 0x00780000 else if n == 1 then Wheel 0xFF880000 else Nothing

abbrev pub change_of : ℕ → Action
change_of n = if n == 0 then Change Left else if n == 1 then Change Middle else if n == 2 then Change Right else Nothing

-- 64 is a wheel, else 32 is a move, else a button changed; wheels and moves end in M
abbrev pub action_of : Report → Action
action_of r = if has_flag r.b 64 then (if r.press then wheel_of (r.b % 4) else Nothing)
    else if has_flag r.b 32 then (if r.press then Move else Nothing)
    else change_of (r.b % 4)

-- ---- the held buttons

abbrev pub none_held : Buttons
none_held = record { left = false; right = false; middle = false }

-- left 0x1 (FROM_LEFT_1ST_BUTTON_PRESSED), right 0x2 (RIGHTMOST_BUTTON_PRESSED), middle 0x4 (FROM_LEFT_2ND_BUTTON_PRESSED)
abbrev pub held : Buttons → ℕ
held s = (bit s.left 1 + bit s.right 2) + bit s.middle 4

abbrev pub with_button : Buttons → Button → Bool → Buttons
with_button s Left down = record s { left = down }
with_button s Middle down = record s { middle = down }
with_button s Right down = record s { right = down }

abbrev pub held_by : Action → Buttons → Bool → Buttons
held_by (Wheel motion) s down = s
held_by Move s down = s
held_by (Change button) s down = with_button s button down
held_by Nothing s down = s

-- the buttons that are held after a report
abbrev pub held_after : Buttons → Report → Buttons
held_after s r = held_by (action_of r) s r.press

-- ---- the records

-- SHIFT_PRESSED 0x10 by 4, LEFT_ALT_PRESSED 0x02 by 8, LEFT_CTRL_PRESSED 0x08 by 16
abbrev pub state_of : ℕ → ℕ
state_of b = (bit (has_flag b 4) 0x10 + bit (has_flag b 8) 0x02) + bit (has_flag b 16) 0x08

abbrev pub mouse : Report → ℕ → ℕ → Mouse
mouse r buttons flags = record { x = pos (r.x - 1); y = pos (r.y - 1); buttons = buttons; state = state_of r.b; flags = flags }

abbrev pub record_by : Action → Buttons → Report → Option Mouse
record_by (Wheel motion) s r = Some (mouse r (held s + motion) 4)
record_by Move s r = Some (mouse r (held s) 1)
record_by (Change button) s r = Some (mouse r (held (with_button s button r.press)) 0)
record_by Nothing s r = None

-- the record that a report makes: flags 4 for a wheel (MOUSE_WHEELED), 1 for a move (MOUSE_MOVED), 0 for a button
abbrev pub record_of : Buttons → Report → Option Mouse
record_of s r = record_by (action_of r) s r
