-- What each call does: what it asks of a handle, what it answers, and what the console becomes.
use Rattle.std.specs.Prelude.{ℕ, pos, ◌+◌, ◌==◌, ◌&&◌, ◌||◌, not, nat_lt, nat_le, int_le, int_lt, [], ◌∷◌, ◌++◌, length, map, filter, take, min, ok_or, unwrap_or}
use Rattle.std.specs.Prelude.{Ok, Err, if◌then◌else◌}
use Rattle.con_units.specs.Attr.{plain}
use Rattle.con_units.specs.Glyph.{cell_of}
use Rattle.con_units.specs.Limits.{most_columns, most_buffer_rows, most_items, most_records}
use Rattle.con_units.specs.Natural.{natural}
use Rattle.con_units.specs.declared.code.Code.TheVariants as code
use Rattle.con_alias.specs.Aliases.{alias_at, entries_in, added, add_answer, removed, remove_answer}
use Rattle.con_handles.specs.Handles.{new_number, object_of, without}
use Rattle.con_handles.specs.declared.handle.Kind.TheVariants as kind
use Rattle.con_handles.specs.declared.handle.Object.TheVariants as object
use Rattle.con_history.specs.Histories.{lines_of, cleared, configured, is_refused}
use Rattle.con_history.specs.declared.info.HistoryInfo.{HistoryInfo}
use Rattle.con_procs.specs.Procs.{ids_of, program_of, ignoring, handler_added, handler_removed}
use Rattle.con_procs.specs.Procs.{add_answer as handler_add_answer, remove_answer as handler_remove_answer}
use Rattle.con_rects.specs.Area.{used_rect, used_size}
use Rattle.con_rects.specs.Rules.{rect_cells, rect_written}
use Rattle.con_rects.specs.Runs.{run_count, unit_filled, word_filled}
use Rattle.con_rects.specs.Scroll.{scrolled}
use Rattle.con_page.specs.Fit.{refitted}
use Rattle.con_page.specs.Setters.{info_of, cursor_set, origin_set, pen_of_word}
use Rattle.con_screen.specs.Told.{nothing_told}
use Rattle.con_screens.specs.Buffer.{buffer_written, told_on}
use Rattle.con_screens.specs.Buffers.{buffer_at, is_alternate, free_id, with_buffer, handle_released}
use Rattle.con_machine.specs.State.{State, is_rest_of, id_of}
use Rattle.con_machine.specs.Outcome.{Outcome, refused, answered, done, or_refused, by_answer, checked, while_open, guard, on_input, on_buffer, are_rights}
use Rattle.con_machine.specs.HandleCalls.{of_output, opened, buffer_made}
use Rattle.con_machine.specs.ScreenCalls.{page_of, with_page, mode_in, mode_changed, reported}
use Rattle.con_machine.specs.CellCalls.{cells_of, with_cells, cells_for, are_cells, at_place, run_told, wrote_run_units, wrote_run_words}
use Rattle.con_machine.specs.ProcessCalls.{is_no_signal}
use Rattle.con_machine.specs.Signals.{signalled_to}
use Rattle.con_events.specs.declared.call.Call.{Call}
use Rattle.con_events.specs.declared.call.Call.TheVariants as calls
use Rattle.con_events.specs.declared.reply.Reply.TheVariants as replies

unfoldable pub called : State → ℕ → Call → Outcome
-- ---- handles: CreateConsoleScreenBuffer; CreateFile of CONOUT$, the active buffer, and of CONIN$; CloseHandle, after which nothing is left for its reads;
-- DuplicateHandle, where rights that the handle lacks are denied, and rights other than 1 to 3 are refused; SetConsoleActiveScreenBuffer
called s p (calls.BufferCreate rights) = while_open s (
    if are_rights rights then buffer_made s p rights (new_number s.handles p) (free_id s.buffers) else refused s code.BadArgument)
called s p (calls.OpenOut rights) = while_open s (opened s p (object.Output (id_of s.buffers.active)) rights)
called s p (calls.OpenIn rights) = while_open s (opened s p object.Input rights)
called s p (calls.Close h) = or_refused s (if s.closed then Err code.Closed else object_of s.handles p h) (λ o. done (
    record s { handles = without s.handles p h; rests = filter (λ r. not (is_rest_of p h r)) s.rests; buffers = of_output handle_released o s.buffers }))
called s p (calls.Duplicate h rights) = or_refused s (guard s p h kind.Any (if are_rights rights then rights else 0)) (λ o. opened s p o rights)
called s p (calls.Activate h) = on_buffer s p h 2 (λ id. done (record s { buffers = record s.buffers { active = id } }))
-- ---- GetConsoleMode, SetConsoleMode; GetConsoleScreenBufferInfo; SetConsoleScreenBufferSize: not below the window, not above 512 by 2,048, and the
-- window's on an alternate screen, and the window keeps its own
called s p (calls.Mode h) = or_refused s (guard s p h kind.Any 1) (λ o. answered s (replies.Number (mode_in s o)))
called s p (calls.SetMode h mode) = or_refused s (guard s p h kind.Any 2) (mode_changed s mode)
called s p (calls.Info h) = on_buffer s p h 1 (λ id. let i = info_of (page_of s id) in answered s (replies.Numbers (
    pos i.buffer.w ∷ pos i.buffer.h ∷ i.cursor.x ∷ i.cursor.y ∷ pos i.word ∷ i.window.left ∷ i.window.top ∷ i.window.right ∷ i.window.bottom ∷ [])))
called s p (calls.SetSize handle w h) = on_buffer s p handle 2 (λ id. let b = s.buffers in by_answer s (checked (nat_le b.w w && nat_le b.h h
    && nat_le w most_columns && nat_le h most_buffer_rows && (not (is_alternate b id) || ((w == b.w) && (h == b.h)))))
    (with_page s id (refitted (page_of s id) (record { w = w; h = h }) (record { w = b.w; h = b.h }))))
-- ---- SetConsoleCursorPosition, GetConsoleCursorInfo, SetConsoleCursorInfo; SetConsoleWindowInfo, of the window's place alone; SetConsoleTextAttribute
called s p (calls.SetCursor h x y) = on_buffer s p h 2 (λ id. let g = (page_of s id).grid in
    by_answer s (checked (int_le (pos 0) x && int_le (pos 0) y && int_lt x (pos g.width) && int_lt y (pos g.height)))
    (with_page s id (cursor_set (page_of s id) (natural x) (natural y))))
called s p (calls.CursorInfo h) = on_buffer s p h 1 (λ id. let g = page_of s id in
    answered s (replies.Numbers (pos g.cursor_size ∷ (if g.visible then pos 1 else pos 0) ∷ [])))
called s p (calls.SetCursorInfo h size visible) = on_buffer s p h 2 (λ id.
    by_answer s (checked (nat_lt 0 size && nat_le size 100)) (with_page s id (record (page_of s id) { cursor_size = size; visible = visible })))
called s p (calls.SetOrigin h x y) = on_buffer s p h 2 (λ id. let g = page_of s id in
    by_answer s (checked (int_le (pos 0) x && int_le (pos 0) y && nat_le (natural x + g.w) g.grid.width && nat_le (natural y + g.h) g.grid.height))
    (with_page s id (origin_set g (natural x) (natural y))))
called s p (calls.SetAttr h word) = on_buffer s p h 2 (λ id. done (with_page s id (record (page_of s id) { pen = pen_of_word word })))
-- ---- GetConsoleTitle, SetConsoleTitle; WriteConsole, whose text may ask for reports, which are keys, and may set the title and the cursor key mode
called s p calls.Title = while_open s (answered s (replies.Units s.title))
called s p (calls.SetTitle text) = while_open s (if nat_le (length text) 255 then done (record s { title = text }) else refused s code.BadArgument)
called s p (calls.Write h text) = on_buffer s p h 2 (λ id. if nat_lt most_items (length text) then refused s code.Limit
    else (let t = told_on (buffer_at s.buffers id) nothing_told text in
    let u : State = record s { records = s.records ++ map reported t.reports; title = unwrap_or t.title s.title; cursor_keys = unwrap_or t.keys s.cursor_keys }
    in answered (record u { buffers = with_buffer s.buffers id (buffer_written nothing_told text) }) (replies.Number (length text))))
-- ---- cells: ReadConsoleOutput, WriteConsoleOutput; ReadConsoleOutputCharacter, ReadConsoleOutputAttribute, and the calls that write and fill runs;
-- ScrollConsoleScreenBuffer
called s p (calls.RectRead h r) = on_buffer s p h 1 (λ id. let g = cells_of s id in answered s (
    if nat_lt most_items (used_size r g.width g.height) then replies.Fail code.Limit else replies.Cells (used_rect r g.width g.height) (rect_cells g r)))
called s p (calls.RectWrite h r units ws) = on_buffer s p h 2 (λ id. let g = cells_of s id in
    if are_cells r units ws
    then or_refused s (if nat_lt most_items (used_size r g.width g.height) then Err code.Limit else Ok (used_rect r g.width g.height)) (λ used.
    answered (with_cells s id (rect_written g r (cells_for units ws))) (replies.Numbers (used.left ∷ used.top ∷ used.right ∷ used.bottom ∷ [])))
    else refused s code.BadArgument)
called s p (calls.RunReadUnits h x y n) = on_buffer s p h 1 (λ id. answered s (run_told (cells_of s id) (at_place x y) n (λ g. g.unit)))
called s p (calls.RunReadAttrs h x y n) = on_buffer s p h 1 (λ id. answered s (run_told (cells_of s id) (at_place x y) n (λ g. g.attr.word)))
called s p (calls.RunWriteUnits h x y units) = wrote_run_units s p h x y units
called s p (calls.RunWriteAttrs h x y ws) = wrote_run_words s p h x y ws
called s p (calls.FillUnits h x y n unit) = on_buffer s p h 2 (λ id. let g = cells_of s id in
    answered (with_cells s id (unit_filled g (at_place x y) n unit)) (replies.Number (run_count g (at_place x y) n)))
called s p (calls.FillAttrs h x y n word) = on_buffer s p h 2 (λ id. let g = cells_of s id in
    answered (with_cells s id (word_filled g (at_place x y) n word)) (replies.Number (run_count g (at_place x y) n)))
called s p (calls.Scroll h r clip x y unit word) = on_buffer s p h 2 (λ id.
    done (with_cells s id (scrolled (cells_of s id) r clip (at_place x y) (cell_of unit (plain word)))))
-- ---- PeekConsoleInput, WriteConsoleInput, GetNumberOfConsoleInputEvents, FlushConsoleInputBuffer
called s p (calls.Peek h n) = on_input s p h 1 (answered s (if n == 0 then replies.Fail code.BadArgument
    else if nat_lt most_records n then replies.Fail code.Limit else replies.Records (take n s.records)))
called s p (calls.WriteInput h records) = on_input s p h 2 (if nat_lt most_records (length records) then refused s code.Limit
    else answered (record s { records = s.records ++ records }) (replies.Number (length records)))
called s p (calls.Count h) = on_input s p h 1 (answered s (replies.Number (min (length s.records) 4294967295)))
called s p (calls.Flush h) = on_input s p h 2 (done (record s { records = [] }))
-- ---- GetConsoleHistoryInfo, SetConsoleHistoryInfo; the lines of the client's own program, oldest first; AddConsoleAlias, GetConsoleAlias,
-- GetConsoleAliases: source, `=`, target
called s p calls.HistoryInfo = while_open s (let i = s.histories.info in answered s (replies.Numbers (pos i.lines ∷ pos i.number ∷ pos i.flag ∷ [])))
called s p (calls.SetHistory lines number flag) = while_open s (let i : HistoryInfo = record { lines = lines; number = number; flag = flag } in
    by_answer s (checked (not (is_refused i))) (record s { histories = configured s.histories i }))
called s p calls.HistoryList = while_open s (answered s (replies.Lines (lines_of s.histories (program_of s.procs p))))
called s p calls.HistoryClear = while_open s (done (record s { histories = cleared s.histories (program_of s.procs p) }))
called s p (calls.AliasAdd program source target) = while_open s (
    by_answer s (add_answer s.aliases program source target) (record s { aliases = added s.aliases program source target }))
called s p (calls.AliasRemove program source) = while_open s (
    by_answer s (remove_answer s.aliases program source) (record s { aliases = removed s.aliases program source }))
called s p (calls.AliasGet program source) = while_open s (or_refused s (ok_or (alias_at s.aliases program source) code.NoAlias)
    (λ e. answered s (replies.Units e.target)))
called s p (calls.AliasList program) = while_open s (answered s (replies.Lines (map (λ e. e.source ++ 0x3D ∷ e.target) (entries_in s.aliases program))))
-- ---- GetConsoleProcessList, GenerateConsoleCtrlEvent; SetConsoleCtrlHandler, without a handler, and with one at a place of its rack, which has at most 255
called s p calls.Processes = while_open s (answered s (replies.Numbers (map (λ id. pos id) (ids_of s.procs))))
called s p (calls.Signal event group) = while_open s (
    if is_no_signal s.procs event group then refused s code.BadArgument else done (signalled_to s event group))
called s p (calls.Ignore on) = while_open s (done (record s { procs = ignoring s.procs p on }))
called s p (calls.HandlerAdd place) = while_open s (if nat_le place 255
    then by_answer s (handler_add_answer s.procs p place) (record s { procs = handler_added s.procs p place }) else refused s code.BadArgument)
called s p (calls.HandlerRemove place) = while_open s (if nat_le place 255
    then by_answer s (handler_remove_answer s.procs p place) (record s { procs = handler_removed s.procs p place }) else refused s code.BadArgument)
