-- What is painted, and when.
use Rattle.std.specs.Prelude.{ℤ, ◌+◌, ◌==◌, ◌&&◌, ◌||◌, Bool, true, false, not, Some, nat_lt, int_le, if◌then◌else◌}
use Rattle.std.specs.Cmp.Lexicographic.{pointwise}
use Rattle.std.specs.Option.{option_map_or}
use Rattle.con_units.specs.Glyph.{Glyph}
use Rattle.con_units.specs.declared.shade.Shade.{Shade}
use Rattle.con_units.specs.declared.shade.Shade.TheVariants as shade
use Rattle.con_units.specs.declared.view.View.{View}
use Rattle.con_screens.specs.Buffers.{Buffers, screen_at}
use Rattle.con_screens.specs.Lending.{screen_left}
use Rattle.con_screens.specs.Stamps.{numbered}
use Rattle.con_screens.specs.View.{view_of}
use Rattle.con_machine.specs.State.{State}
use Rattle.con_machine.specs.ScreenCalls.{page_of}

-- the window of the active buffer
abbrev pub view_now : State → View
view_now s = view_of (page_of s s.buffers.active)

-- ---- whether two views are the same

abbrev pub same_shade : Shade → Shade → Bool
same_shade shade.Plain shade.Plain = true
same_shade (shade.Index m) (shade.Index n) = m == n
same_shade _ _ = false

abbrev pub same_cell : Glyph → Glyph → Bool
same_cell a b = (a.unit == b.unit) && ((a.attr.word == b.attr.word) && same_shade a.attr.fore b.attr.fore && same_shade a.attr.back b.attr.back)

abbrev pub same_number : ℤ → ℤ → Bool
same_number a b = int_le a b && int_le b a

unfoldable pub same_view : View → View → Bool
same_view a b = (a.size.w == b.size.w) && (a.size.h == b.size.h) && pointwise same_cell a.rows b.rows
    && same_number a.cursor.x b.cursor.x && same_number a.cursor.y b.cursor.y && (if a.visible then b.visible else not b.visible)

-- nothing was painted, the view is another one, or a resize or a request stands after the last paint
abbrev pub is_paint_due : State → Bool
is_paint_due s = s.resized || s.asked || option_map_or (λ last. not (same_view (view_now s) last)) s.painted true

-- the shown screen of the active buffer gets the next number, with which its rows are stamped from this Paint on; the greatest one stays
abbrev pub stamped : Buffers → Buffers
stamped b = let now = (screen_at b b.active).page.grid.now in
    screen_left b b.active (numbered (screen_at b b.active) (if nat_lt now 0xFFFFFFFFFFFFFFFF then now + 1 else now))

unfoldable pub painted : State → State
painted s = record s { buffers = stamped s.buffers; painted = Some (view_now s); resized = false; asked = false }
