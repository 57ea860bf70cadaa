-- The words of the code and of laws about ScreenCalls, which a reader need not believe.
use Rattle.std.specs.Prelude.{ℕ, ℤ, pos, ◌+◌, ◌==◌, ◌&&◌, ◌||◌, Bool, not, nat_lt, nat_le, int_le, int_lt, List, [], ◌∷◌, ◌++◌, length, map, unwrap_or}
use Rattle.std.specs.Prelude.{if◌then◌else◌}
use Rattle.con_units.specs.Limits.{most_items}
use Rattle.con_units.specs.Natural.{natural}
use Rattle.con_units.specs.declared.code.Code.TheVariants as code
use Rattle.con_events.specs.declared.reply.Reply.TheVariants as replies
use Rattle.con_handles.specs.declared.handle.Kind.TheVariants as kind
use Rattle.con_page.specs.Page.{Page}
use Rattle.con_page.specs.Setters.{info_of, cursor_set, origin_set, pen_of_word}
use Rattle.con_page.specs.Fit.{refitted}
use Rattle.con_screen.specs.Told.{Told, nothing_told}
use Rattle.con_page.specs.declared.info.Info.{Info}
use Rattle.con_screens.specs.Buffer.{buffer_written, told_on}
use Rattle.con_screens.specs.Buffers.{Buffers, buffer_at, screen_at, is_alternate, with_buffer}
use Rattle.con_screens.specs.Lending.{screen_left}
use Rattle.con_machine.specs.State.{State}
use Rattle.con_machine.specs.Outcome.{Outcome, refused, answered, done, while_open, by_answer, checked, guard, on_buffer}
use Rattle.con_machine.specs.Words.Outcome.{with_object}
use Rattle.con_machine.specs.ScreenCalls.{page_of, with_page, mode_in, mode_changed, reported}

abbrev pub page_at : Buffers → ℕ → Page
page_at b id = (screen_at b id).page

abbrev pub page_left : Buffers → ℕ → Page → Buffers
page_left b id page = screen_left b id (record (screen_at b id) { page = page })

-- ---- modes: GetConsoleMode, SetConsoleMode

abbrev pub told_mode : State → ℕ → ℕ → Outcome
told_mode s p h = with_object s (guard s p h kind.Any 1) (λ o. answered s (replies.Number (mode_in s o)))

abbrev pub set_mode : State → ℕ → ℕ → ℕ → Outcome
set_mode s p h n = with_object s (guard s p h kind.Any 2) (mode_changed s n)

-- ---- GetConsoleScreenBufferInfo

abbrev pub numbers_of : Info → List ℤ
numbers_of i = pos i.buffer.w ∷ pos i.buffer.h ∷ i.cursor.x ∷ i.cursor.y ∷ pos i.word ∷ i.window.left ∷ i.window.top ∷ i.window.right ∷ i.window.bottom ∷ []

abbrev pub told_info : State → ℕ → ℕ → Outcome
told_info s p h = on_buffer s p h 1 (λ id. answered s (replies.Numbers (numbers_of (info_of (page_of s id)))))

-- ---- SetConsoleScreenBufferSize: not below the window, not above 512 by 2,048, and the window's on an alternate screen

abbrev pub is_size : Buffers → ℕ → ℕ → ℕ → Bool
is_size b id w h = nat_le b.w w && nat_le b.h h && nat_le w 512 && nat_le h 2048 && (not (is_alternate b id) || ((w == b.w) && (h == b.h)))

-- the buffer has another size, and the window keeps its own
abbrev pub refitted_at : Buffers → ℕ → ℕ → ℕ → Buffers
refitted_at b id w h = page_left b id (refitted (page_at b id) (record { w = w; h = h }) (record { w = b.w; h = b.h }))

abbrev pub set_size : State → ℕ → ℕ → ℕ → ℕ → Outcome
set_size s p handle w h = on_buffer s p handle 2 (λ id.
    by_answer s (checked (is_size s.buffers id w h)) (record s { buffers = refitted_at s.buffers id w h }))

-- ---- the cursor and the window

abbrev pub is_place : Page → ℤ → ℤ → Bool
is_place p x y = int_le (pos 0) x && int_le (pos 0) y && int_lt x (pos p.grid.width) && int_lt y (pos p.grid.height)

-- SetConsoleCursorPosition
abbrev pub set_cursor : State → ℕ → ℕ → ℤ → ℤ → Outcome
set_cursor s p h x y = on_buffer s p h 2 (λ id.
    by_answer s (checked (is_place (page_of s id) x y)) (with_page s id (cursor_set (page_of s id) (natural x) (natural y))))

-- GetConsoleCursorInfo
abbrev pub cursor_numbers : ℕ → Bool → List ℤ
cursor_numbers size visible = pos size ∷ (if visible then pos 1 else pos 0) ∷ []

abbrev pub told_cursor : State → ℕ → ℕ → Outcome
told_cursor s p h = on_buffer s p h 1 (λ id. answered s (replies.Numbers (cursor_numbers (page_of s id).cursor_size (page_of s id).visible)))

-- SetConsoleCursorInfo
abbrev pub set_cursor_info : State → ℕ → ℕ → ℕ → Bool → Outcome
set_cursor_info s p h size visible = on_buffer s p h 2 (λ id.
    by_answer s (checked (nat_lt 0 size && nat_le size 100)) (with_page s id (record (page_of s id) { cursor_size = size; visible = visible })))

abbrev pub is_origin : Page → ℤ → ℤ → Bool
is_origin p x y = int_le (pos 0) x && int_le (pos 0) y && nat_le (natural x + p.w) p.grid.width && nat_le (natural y + p.h) p.grid.height

-- SetConsoleWindowInfo, of the window's place alone
abbrev pub set_origin : State → ℕ → ℕ → ℤ → ℤ → Outcome
set_origin s p h x y = on_buffer s p h 2 (λ id.
    by_answer s (checked (is_origin (page_of s id) x y)) (with_page s id (origin_set (page_of s id) (natural x) (natural y))))

-- SetConsoleTextAttribute
abbrev pub set_attr : State → ℕ → ℕ → ℕ → Outcome
set_attr s p h word = on_buffer s p h 2 (λ id. done (with_page s id (record (page_of s id) { pen = pen_of_word word })))

-- ---- the title: GetConsoleTitle, SetConsoleTitle

abbrev pub told_title : State → Outcome
told_title s = while_open s (answered s (replies.Units s.title))

abbrev pub set_title : State → List ℕ → Outcome
set_title s text = while_open s (if nat_le (length text) 255 then done (record s { title = text }) else refused s code.BadArgument)

-- ---- WriteConsole

abbrev pub told_by : State → Told → State
told_by s t = record s { records = s.records ++ map reported t.reports; title = unwrap_or t.title s.title; cursor_keys = unwrap_or t.keys s.cursor_keys }

abbrev pub written_to : State → ℕ → List ℕ → State
written_to s id units =
    told_by (record s { buffers = with_buffer s.buffers id (buffer_written nothing_told units) }) (told_on (buffer_at s.buffers id) nothing_told units)

abbrev pub wrote : State → ℕ → ℕ → List ℕ → Outcome
wrote s p h units = on_buffer s p h 2 (λ id.
    if nat_lt most_items (length units) then refused s code.Limit else answered (written_to s id units) (replies.Number (length units)))
