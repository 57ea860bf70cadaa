-- Nor does any event.
use Rattle.std.proofs.Common.{◌≡◌, ℕ, Bool, true, false, ◌&&◌, List, [], ◌∷◌, ◌++◌, map, Option, Some, None, Result, Ok, Err, refl, sym, ap, ◌∙◌}
use Rattle.std.specs.Prelude.{if◌then◌else◌, ◌==◌, ◌||◌, nat_lt, fold, filter, length, slice_get}
use Rattle.std.specs.Option.{option_map, option_map_or}
use Rattle.con_units.specs.Split.{split_after}
use Rattle.con_units.specs.declared.code.Code.{Code}
use Rattle.con_units.specs.declared.code.Code.TheVariants as code
use Rattle.con_units.specs.declared.place.Size.{Size}
use Rattle.con_units.specs.declared.view.View.{View}
use Rattle.con_cooked.specs.Cooked.{line_of}
use Rattle.con_cooked.specs.declared.cooked.Cooked.{Cooked}
use Rattle.con_events.specs.declared.actor.Actor.{Actor}
use Rattle.con_events.specs.declared.call.Call.{Call}
use Rattle.con_events.specs.declared.call.Call.TheVariants as calls
use Rattle.con_events.specs.declared.entry.Entry.{Entry}
use Rattle.con_events.specs.declared.event.Event.{Event}
use Rattle.con_events.specs.declared.event.Event.TheVariants as events
use Rattle.con_events.specs.declared.event.Wanted.{Wanted}
use Rattle.con_events.specs.declared.event.Wanted.TheVariants as wanted
use Rattle.con_events.specs.declared.reply.Reply.{Reply}
use Rattle.con_events.specs.declared.reply.Reply.TheVariants as replies
use Rattle.con_handles.specs.Handles.{is_owned}
use Rattle.con_handles.specs.declared.handle.Handle.{Handle}
use Rattle.con_handles.specs.declared.handle.Kind.TheVariants as kind
use Rattle.con_handles.specs.declared.handle.Object.{Object}
use Rattle.con_mouse.specs.Presses.{held_after, record_of}
use Rattle.con_mouse.specs.Reports.{report_of}
use Rattle.con_mouse.specs.declared.report.Report.{Report}
use Rattle.con_procs.specs.Procs.{ids_of}
use Rattle.con_readers.specs.Act.{Act, began as started, typed, passed, ended, woke}
use Rattle.con_readers.specs.Lines.{line_text}
use Rattle.con_readers.specs.Reads.{settled, without, place_of, answer_in}
use Rattle.con_readers.specs.declared.answer.Answer.{Answer}
use Rattle.con_readers.specs.declared.answer.Answer.TheVariants as answers
use Rattle.con_readers.specs.declared.open.OpenRead.TheVariants as reads
use Rattle.con_records.specs.declared.record.Key.{Key}
use Rattle.con_records.specs.declared.record.Mouse.{Mouse}
use Rattle.con_records.specs.declared.record.Record.{Record}
use Rattle.con_records.specs.declared.record.Record.TheVariants as kinds
use Rattle.con_page.specs.Echo.{ended as line_ended}
use Rattle.con_screen.specs.Echo.{Echoed, echoed}
use Rattle.con_page.specs.Page.{Page}
use Rattle.con_screen.specs.Screen.{Screen}
use Rattle.con_screen.specs.Told.{Told, nothing_told}
use Rattle.con_screens.specs.Buffers.{Buffers, buffer_at, screen_at}
use Rattle.con_screens.specs.Lending.{screen_left}
use Rattle.con_screens.specs.Resize.{all_resized}
use Rattle.con_screens.specs.Stamps.{numbered}
use Rattle.con_screens.specs.View.{view_of}
use Rattle.con_screens.specs.declared.buffer.Buffer.{Buffer}
use Rattle.con_vtin.specs.Keys.{quieted}
use Rattle.con_vtin.specs.Pieces.{Piece, Typed, Ended, piece_grammar}
use Rattle.con_machine.specs.State.{State, noted_of, without_noted, id_of, rest_in}
use Rattle.con_machine.specs.Outcome.{Outcome, refused, done, guard, buffer_of, has_bit}
use Rattle.con_machine.specs.Words.HandleCalls.{released}
use Rattle.con_machine.specs.ScreenCalls.{page_of, with_page, reported}
use Rattle.con_machine.specs.Words.ScreenCalls.{page_at}
use Rattle.con_machine.specs.Call.{called}
use Rattle.con_machine.specs.Closing.{closing, hung_up, all_wait}
use Rattle.con_machine.specs.EventLaws.{served_first}
use Rattle.con_laws.specs.Walks.{reports_written, call_arrivals, key_arrivals, keys_arrivals, report_arrivals, bytes_arrivals, all_bytes_arrivals, fed_arrivals, size_arrivals, effect_arrivals, step_arrivals, arrived}
use Rattle.con_machine.specs.History.{replies_of, is_legal}
use Rattle.con_machine.specs.Painting.{view_now, stamped, painted}
use Rattle.con_machine.specs.Words.Painting.{next_number, differs}
use Rattle.con_machine.specs.Reads.{began as read_began, began_line, collected, took_ctrl, left, answer_told, answered_with, with_read, line_begun}
use Rattle.con_machine.specs.Words.Reads.{began_units, released_all, rest_answered, history_used, read_answer, records_answer, is_empty}
use Rattle.con_machine.specs.Serving.{followed, settled_state, started_on, note_changed, origin_before}
use Rattle.con_machine.specs.Words.Serving.{line_shown, line_finished, shows_line, is_born, birth_of, with_echo}
use Rattle.con_machine.specs.Signals.{signalled_to}
use Rattle.con_machine.specs.Step.{step, effect, is_actors, is_outside, is_due, is_ready, client_of, finished}
use Rattle.con_machine.specs.Terminal.{is_break, key_taken, records_of, mouse_records, piece_taken, fed, quiet, resized, size_record}
use Rattle.con_machine.specs.Words.Terminal.{by_report, size_told}
use Rattle.con_laws.specs.Unstamped.{unstamped_page, unstamped_screen, unstamped_buffer, unstamped_buffers, unstamped, AreSame, ActAlike, RunAlike}
use Rattle.con_machine.specs.declared.reads.noted.Noted.{Noted}
use Rattle.con_laws.proofs.BufferStamps.{buffer_same, told_on_same, screen_same, page_same, left_same, echoed_same, ended_same, unstamped_echo, all_resized_same}
use Rattle.con_laws.proofs.CallStamps.{out, page_is, page_changed, released_same, states, if_answer, call_same, signals}

-- ---- serving

birth_by : (o : Option Buffer) → option_map_or (λ x. x.birth) (option_map unstamped_buffer o) 0 ≡ option_map_or (λ x. x.birth) o 0
birth_by None = refl
birth_by (Some b) = refl

birth_same : (b : Buffers) (id : ℕ) → birth_of (unstamped_buffers b) id ≡ birth_of b id
birth_same b id = ap (λ (o : Option Buffer). option_map_or (λ x. x.birth) o 0) (buffer_same b id) ∙ birth_by (buffer_at b id)

start_same : (b : Buffers) (ns : List Noted) (p : ℕ) → note_changed (started_on (unstamped_buffers b)) ns p ≡ note_changed (started_on b) ns p
start_same b ns p =
    ap (λ (n : ℕ). note_changed (λ m. record m {
      buffer = id_of b.active;
      birth = n;
      origin = origin_before
          (page_at (unstamped_buffers b) b.active) m.ahead;
    }) ns p) (birth_same b b.active)
    ∙ ap (λ (q : Page). note_changed (λ m. record m { buffer = id_of b.active; birth = birth_of b b.active; origin = origin_before q m.ahead }) ns p)
    (page_same b b.active)

born_by : (birth : ℕ) (o : Option Buffer) → is_born birth (option_map unstamped_buffer o) ≡ is_born birth o
born_by birth None = refl
born_by birth (Some b) = refl

shows_same_line : (b : Buffers) (n : Noted) → shows_line (unstamped_buffers b) n ≡ shows_line b n
shows_same_line b n = ap (λ (x : Bool). n.echoes && x) (ap (is_born n.birth) (buffer_same b n.buffer.0) ∙ born_by n.birth (buffer_at b n.buffer.0))

echo_same : (s : State) (n : Noted) (e f : Echoed) → unstamped_echo e ≡ f → unstamped (with_echo s n e) ≡ with_echo (unstamped s) n f
echo_same s n e f k =
    ap (λ (b : Buffers). let t : State = record (with_echo s n e) { buffers = b } in t) (left_same s.buffers n.buffer.0 e.screen)
    ∙ ap (λ (x : Echoed). with_echo (unstamped s) n x) k

shown_same : (s : State) (n : Option Noted) (old new : Cooked) → unstamped (line_shown s n old new) ≡ line_shown (unstamped s) n old new
shown_same s None old new = refl
shown_same s (Some n) old new =
    let u : State = unstamped s in
    let e : Screen → Echoed = λ w. echoed w n.origin (line_text old) (line_text new) (line_of new).line.caret in
    states (shows_line s.buffers n) (with_echo s n (e (screen_at s.buffers n.buffer.0))) s (with_echo u n (e (screen_at u.buffers n.buffer.0))) u
    (echo_same s n (e (screen_at s.buffers n.buffer.0)) (e (screen_at u.buffers n.buffer.0))
    (echoed_same (screen_at s.buffers n.buffer.0) n.origin (line_text old) (line_text new) (line_of new).line.caret
    ∙ ap e (sym (screen_same s.buffers n.buffer.0)))) refl
    ∙ ap (λ (b : Bool). if b then with_echo u n (e (screen_at u.buffers n.buffer.0)) else u) (sym (shows_same_line s.buffers n))

finished_same_line : (s : State) (n : Option Noted) (len : ℕ) → unstamped (line_finished s n len) ≡ line_finished (unstamped s) n len
finished_same_line s None len = refl
finished_same_line s (Some n) len =
    let u : State = unstamped s in
    let f : Page → Page = λ q. line_ended q n.origin len in
    states (shows_line s.buffers n) (with_page s n.buffer.0 (f (page_of s n.buffer.0))) s (with_page u n.buffer.0 (f (page_of u n.buffer.0))) u
    (page_changed s n.buffer.0 f (λ q. ended_same q n.origin len)) refl
    ∙ ap (λ (b : Bool). if b then with_page u n.buffer.0 (f (page_of u n.buffer.0)) else u) (sym (shows_same_line s.buffers n))

followed_same : (s : State) (a : Act) → unstamped (followed s a) ≡ followed (unstamped s) a
followed_same s (started p) = ap (λ (ns : List Noted). let t : State = record (unstamped s) { noted = ns } in t) (sym (start_same s.buffers s.noted p))
followed_same s (typed p old new) = shown_same s (noted_of s.noted p) old new
followed_same s (passed p) = refl
followed_same s (ended p read len) = finished_same_line s (noted_of s.noted p) len
followed_same s (woke p line) = refl

all_followed : (s : State) (acts : List Act) → unstamped (fold followed s acts) ≡ fold followed (unstamped s) acts
all_followed s [] = refl
all_followed s (a ∷ acts) = all_followed (followed s a) acts ∙ ap (λ (t : State). fold followed t acts) (followed_same s a)

settled_same : (s : State) → unstamped (settled_state s) ≡ settled_state (unstamped s)
unfolding settled_state
settled_same s = all_followed (served_first s) (settled s.aliases s.reads s.records s.histories).acts

hung_same : (s : State) → unstamped (hung_up s) ≡ hung_up (unstamped s)
hung_same s = states s.closed _ _ _ _ refl refl

closing_same : (s : State) → unstamped (closing s) ≡ closing (unstamped s)
unfolding closing
closing_same s = states (s.drained && all_wait s.reads (ids_of s.procs)) (hung_up s) s (hung_up (unstamped s)) (unstamped s) (hung_same s) refl

end_same : (s : State) → unstamped (closing (settled_state s)) ≡ closing (settled_state (unstamped s))
end_same s = closing_same (settled_state s) ∙ ap closing (settled_same s)

-- ---- the terminal's side

key_same : (s : State) (k : Key) → unstamped (key_taken s k) ≡ key_taken (unstamped s) k
key_same s k = states (is_break s k) (signalled_to (settled_state s) 0 0) (record s { records = s.records ++ records_of s k })
    (signalled_to (settled_state (unstamped s)) 0 0) _
    (signals (settled_state s) 0 0 ∙ ap (λ (t : State). signalled_to t 0 0) (settled_same s)) refl

mouse_same : (q : Page) (m : Option Mouse) → mouse_records (unstamped_page q) m ≡ mouse_records q m
mouse_same q None = refl
mouse_same q (Some m) = refl

told_mouse : (s : State) (m : Option Mouse) → mouse_records (page_of (unstamped s) s.buffers.active) m ≡ mouse_records (page_of s s.buffers.active) m
told_mouse s m = ap (λ (q : Page). mouse_records q m) (page_is s s.buffers.active) ∙ mouse_same (page_of s s.buffers.active) m

report_same : (s : State) (r : Option Report) → unstamped (by_report s r) ≡ by_report (unstamped s) r
report_same s None = refl
report_same s (Some r) = ap (λ (rs : List Record). let t : State = record (unstamped s) { buttons = held_after s.buttons r; records = s.records ++ rs } in t)
    (sym (told_mouse s (record_of s.buttons r)))

piece_same : (s : State) (p : Piece) → unstamped (piece_taken s p) ≡ piece_taken (unstamped s) p
piece_same s (Typed k) = key_same s k
piece_same s (Ended bytes) = states (has_bit s.mode 0x10) (by_report s (report_of bytes)) s (by_report (unstamped s) (report_of bytes)) (unstamped s)
    (report_same s (report_of bytes)) refl

pieces_same : (s : State) (ps : List Piece) → unstamped (fold piece_taken s ps) ≡ fold piece_taken (unstamped s) ps
pieces_same s [] = refl
pieces_same s (p ∷ ps) = pieces_same (piece_taken s p) ps ∙ ap (λ (t : State). fold piece_taken t ps) (piece_same s p)

fed_same : (s : State) (bytes : List ℕ) → unstamped (fed s bytes) ≡ fed (unstamped s) bytes
unfolding fed
fed_same s bytes = let parts = split_after piece_grammar s.held bytes in pieces_same (record s { held = parts.tail }) parts.items

keys_same : (s : State) (ks : List Key) → unstamped (fold key_taken s ks) ≡ fold key_taken (unstamped s) ks
keys_same s [] = refl
keys_same s (k ∷ ks) = keys_same (key_taken s k) ks ∙ ap (λ (t : State). fold key_taken t ks) (key_same s k)

quiet_same : (s : State) → unstamped (quiet s) ≡ quiet (unstamped s)
unfolding quiet
quiet_same s = keys_same (record s { held = [] }) (quieted s.held)

size_same : (s : State) → size_record (unstamped s) ≡ size_record s
size_same s = ap (λ (q : Page). kinds.Size (record { w = q.grid.width; h = q.grid.height })) (page_is s s.buffers.active)

size_told_same : (s : State) → unstamped (size_told s) ≡ size_told (unstamped s)
size_told_same s = states (has_bit s.mode 8) (record s { records = s.records ++ size_record s ∷ [] }) s _ (unstamped s)
    (ap (λ (r : Record). let t : State = record (unstamped s) { records = s.records ++ r ∷ [] } in t) (sym (size_same s))) refl

resized_same : (s : State) (size : Size) → unstamped (resized s size) ≡ resized (unstamped s) size
unfolding resized
resized_same s size =
    let t : State = record s { buffers = all_resized s.buffers size; resized = true } in
    size_told_same t ∙ ap (λ (b : Buffers). size_told (record (unstamped t) { buffers = b })) (all_resized_same s.buffers size)

-- ---- a client's other events

text_same : (s : State) (p h n : ℕ) (initial : List ℕ) (mask : ℕ)
    → unstamped (if has_bit s.mode 2 then began_line (history_used s p) p h n initial mask else began_units s p n)
    ≡ (if has_bit s.mode 2 then began_line (history_used (unstamped s) p) p h n initial mask else began_units (unstamped s) p n)
text_same s p h n initial mask =
    let t : State = history_used s p in
    let u : State = unstamped s in
    let v : State = history_used u p in
    let rest : List ℕ = rest_in s.rests p h in
    states (has_bit s.mode 2) (began_line t p h n initial mask) (began_units s p n) (began_line v p h n initial mask) (began_units u p n)
    (states (n == 0) (answered_with t p []) (if is_empty rest then line_begun t p h n initial mask else rest_answered t p h n rest)
    (answered_with v p []) (if is_empty rest then line_begun v p h n initial mask else rest_answered v p h n rest) refl
    (states (is_empty rest) (line_begun t p h n initial mask) (rest_answered t p h n rest) (line_begun v p h n initial mask)
    (rest_answered v p h n rest) refl refl))
    (states (n == 0) (answered_with s p []) (with_read s p (reads.Units n)) (answered_with u p []) (with_read u p (reads.Units n)) refl refl)

begin_same : (s : State) (p : ℕ) (w : Wanted) → out (read_began s p w) ≡ read_began (unstamped s) p w
unfolding read_began
begin_same s p (wanted.Read h n) = if_answer s (read_answer s p h n []) _ _ (text_same s p h n [] 0)
begin_same s p (wanted.ReadWith h n initial mask) = if_answer s (read_answer s p h n initial) _ _ (text_same s p h n initial mask)
begin_same s p (wanted.ReadInput h n) = if_answer s (records_answer s p h n) _ _ refl

told_same : (s : State) (n : Option Noted) (a : Answer) → out (answer_told s n a) ≡ answer_told (unstamped s) n a
told_same s None (answers.Units units) = refl
told_same s (Some n) (answers.Units units) = refl
told_same s n (answers.Records records) = refl
told_same s n (answers.Fail why) = refl

collect_same : (s : State) (p : ℕ) → out (collected s p) ≡ collected (unstamped s) p
unfolding collected
collect_same s p = told_same (record s { reads = without s.reads p; noted = without_noted s.noted p }) (noted_of s.noted p)
    (answer_in (slice_get s.reads (place_of s.reads p)))

all_released : (b : Buffers) (hs : List Handle) → unstamped_buffers (released_all b hs) ≡ released_all (unstamped_buffers b) hs
all_released b [] = refl
all_released b (h ∷ hs) = all_released (released h.object b) hs ∙ ap (λ (x : Buffers). released_all x hs) (released_same h.object b)

left_same_too : (s : State) (p status : ℕ) → unstamped (left s p status) ≡ left (unstamped s) p status
unfolding left
left_same_too s p status = ap (λ (b : Buffers). let t : State = record (left s p status) { buffers = b } in t)
    (all_released s.buffers (filter (is_owned p) s.handles))

-- ---- a Paint

pub view_same : (s : State) → view_now (unstamped s) ≡ view_now s
view_same s = ap view_of (page_is s s.buffers.active)

again : (xs : List (Option Buffer)) → map (option_map unstamped_buffer) (map (option_map unstamped_buffer) xs) ≡ map (option_map unstamped_buffer) xs
again [] = refl
again (None ∷ xs) = ap (λ (ys : List (Option Buffer)). None ∷ ys) (again xs)
again (Some b ∷ xs) = ap (λ (ys : List (Option Buffer)). Some (unstamped_buffer b) ∷ ys) (again xs)

pub once_more : (s : State) → unstamped (unstamped s) ≡ unstamped s
once_more s = ap (λ (xs : List (Option Buffer)). let t : State = record s { buffers = record s.buffers { slots = xs } } in t) (again s.buffers.slots)

buffers_again : (b : Buffers) → unstamped_buffers (unstamped_buffers b) ≡ unstamped_buffers b
buffers_again b = ap (λ (xs : List (Option Buffer)). let c : Buffers = record b { slots = xs } in c) (again b.slots)

unraised : (w : Screen) (n : ℕ) (b : Bool) → unstamped_page
    (let p : Page = record w.page { grid = if b then record w.page.grid { now = n; moment = Some w.page.grid.cells } else w.page.grid } in p) ≡ unstamped_page w.page
unraised w n true = refl
unraised w n false = refl

numbered_same : (w : Screen) (n : ℕ) → unstamped_screen (numbered w n) ≡ unstamped_screen w
numbered_same w n = ap (λ (p : Page). let v : Screen = record w { page = p } in v) (unraised w n (nat_lt w.page.grid.now n))

stamped_is : (b : Buffers) → unstamped_buffers (stamped b) ≡ screen_left (unstamped_buffers b) b.active (unstamped_screen (screen_at b b.active))
stamped_is b =
    let n : ℕ = next_number (page_at b b.active).grid.now in
    left_same b b.active (numbered (screen_at b b.active) n) ∙ ap (screen_left (unstamped_buffers b) b.active) (numbered_same (screen_at b b.active) n)

stamped_same : (b : Buffers) → unstamped_buffers (stamped b) ≡ unstamped_buffers (stamped (unstamped_buffers b))
stamped_same b =
    stamped_is b ∙ sym (stamped_is (unstamped_buffers b)
    ∙ ap (λ (c : Buffers). screen_left c b.active (unstamped_screen (screen_at (unstamped_buffers b) b.active))) (buffers_again b)
    ∙ ap (λ (w : Screen). screen_left (unstamped_buffers b) b.active (unstamped_screen w)) (screen_same b b.active))

painted_same : (s : State) → unstamped (painted s) ≡ unstamped (painted (unstamped s))
unfolding painted
painted_same s =
    ap (λ (b : Buffers). let t : State = record (painted s) { buffers = b } in t) (stamped_same s.buffers)
    ∙ ap (λ (v : View). let t : State = record (painted s) { buffers = unstamped_buffers (stamped (unstamped_buffers s.buffers)); painted = Some v } in t)
    (sym (view_same s))

-- ---- an event

-- two outcomes differ only in stamps
record Alike (o z : Outcome) : Type 0 where
  after : unstamped o.after ≡ unstamped z.after
  reply : o.reply ≡ z.reply

alike : (o z : Outcome) → out o ≡ z → Alike o z
alike o z e = record { after = sym (once_more o.after) ∙ ap (λ (x : Outcome). unstamped x.after) e; reply = ap (λ (x : Outcome). x.reply) e }

done_alike : (s t : State) → unstamped s ≡ t → Alike (done s) (done t)
done_alike s t e = alike (done s) (done t) (ap (λ (x : State). done x) e)

effect_alike : (s : State) (p : ℕ) (e : Event) → Alike (effect s p e) (effect (unstamped s) p e)
unfolding effect took_ctrl
effect_alike s p (events.Call x) = alike (called s p x) (called (unstamped s) p x) (call_same s p x)
effect_alike s p (events.Begin w) = alike (read_began s p w) (read_began (unstamped s) p w) (begin_same s p w)
effect_alike s p events.Collect = alike (collected s p) (collected (unstamped s) p) (collect_same s p)
effect_alike s p events.TakeCtrl = alike (took_ctrl s p) (took_ctrl (unstamped s) p) refl
effect_alike s p (events.Exit status) = done_alike (left s p status) (left (unstamped s) p status) (left_same_too s p status)
effect_alike s p (events.Feed bytes) = done_alike (fed s bytes) (fed (unstamped s) bytes) (fed_same s bytes)
effect_alike s p events.Quiet = done_alike (quiet s) (quiet (unstamped s)) (quiet_same s)
effect_alike s p (events.Resize size) = done_alike (resized s size) (resized (unstamped s) size) (resized_same s size)
effect_alike s p events.Ask = record { after = sym (once_more (record s { asked = true })); reply = refl }
effect_alike s p events.Hangup = done_alike (hung_up s) (hung_up (unstamped s)) (hung_same s)
effect_alike s p events.Drained = record { after = sym (once_more (record s { drained = true })); reply = refl }
effect_alike s p events.Paint = record { after = painted_same s; reply = ap (λ (v : View). replies.View v [] false) (sym (view_same s)) }

finished_alike : (o z : Outcome) → Alike o z → Alike (finished o) (finished z)
finished_alike o z k = record { after = end_same o.after ∙ ap (λ (t : State). closing (settled_state t)) k.after ∙ sym (end_same z.after); reply = k.reply }

alike_or : (b : Bool) (x y z w : Outcome) → Alike x z → Alike y w → Alike (if b then x else y) (if b then z else w)
alike_or true x y z w h k = h
alike_or false x y z w h k = k

step_alike : (s : State) (a : Actor) (e : Event) → Alike (step s a e) (step (unstamped s) a e)
unfolding step
step_alike s a e =
    alike_or (is_outside s a e) (refused s code.BadHandle) (finished (effect s (client_of a) e)) (refused (unstamped s) code.BadHandle)
    (finished (effect (unstamped s) (client_of a) e))
    (record { after = sym (once_more s); reply = refl })
    (finished_alike (effect s (client_of a) e) (effect (unstamped s) (client_of a) e) (effect_alike s (client_of a) e))

-- ---- whether it is ready

due_same : (s : State) (p : ℕ) (e : Event) → is_due s p e ≡ is_due (unstamped s) p e
unfolding is_due
due_same s p (events.Call x) = refl
due_same s p (events.Begin w) = refl
due_same s p events.Collect = refl
due_same s p events.TakeCtrl = refl
due_same s p (events.Exit status) = refl
due_same s p (events.Feed bytes) = refl
due_same s p events.Quiet = refl
due_same s p (events.Resize size) = refl
due_same s p events.Ask = refl
due_same s p events.Hangup = refl
due_same s p events.Drained = refl
due_same s p events.Paint = ap (λ (v : View). s.resized || s.asked || differs v s.painted) (sym (view_same s))

ready_same : (s : State) (a : Actor) (e : Event) → is_ready s a e ≡ is_ready (unstamped s) a e
unfolding is_ready
ready_same s a e = ap (λ (b : Bool). is_actors a e && (is_outside s a e || b)) (due_same s (client_of a) e)

-- ---- the records that arrive

reports_same : (s : State) (g : Result Object Code) (units : List ℕ) → reports_written s g units ≡ reports_written (unstamped s) g units
reports_same s (Err why) units = refl
reports_same s (Ok o) units = ap (λ (t : Told). if nat_lt 16384 (length units) then [] else map reported t.reports)
    (sym (told_on_same s.buffers (buffer_of o) nothing_told units))

call_arrives : (s : State) (p : ℕ) (x : Call) → call_arrivals s p x ≡ call_arrivals (unstamped s) p x
call_arrives s p (calls.Write h units) = reports_same s (guard s p h kind.Output 2) units
call_arrives s p x = refl

report_arrives : (s : State) (r : Option Report) → report_arrivals s r ≡ report_arrivals (unstamped s) r
report_arrives s None = refl
report_arrives s (Some r) = sym (told_mouse s (record_of s.buttons r))

bytes_arrive : (s : State) (p : Piece) → bytes_arrivals s p ≡ bytes_arrivals (unstamped s) p
bytes_arrive s (Typed k) = refl
bytes_arrive s (Ended bytes) = ap (λ (rs : List Record). if has_bit s.mode 0x10 then rs else []) (report_arrives s (report_of bytes))

all_bytes_arrive : (s : State) (ps : List Piece) → all_bytes_arrivals s ps ≡ all_bytes_arrivals (unstamped s) ps
unfolding all_bytes_arrivals
all_bytes_arrive s [] = refl
all_bytes_arrive s (p ∷ ps) =
    ap (λ (rs : List Record). rs ++ all_bytes_arrivals (piece_taken s p) ps) (bytes_arrive s p)
    ∙ ap (λ (rs : List Record). bytes_arrivals (unstamped s) p ++ rs)
    (all_bytes_arrive (piece_taken s p) ps ∙ ap (λ (t : State). all_bytes_arrivals t ps) (piece_same s p))

keys_arrive : (s : State) (ks : List Key) → keys_arrivals s ks ≡ keys_arrivals (unstamped s) ks
unfolding keys_arrivals
keys_arrive s [] = refl
keys_arrive s (k ∷ ks) = ap (λ (rs : List Record). key_arrivals s k ++ rs)
    (keys_arrive (key_taken s k) ks ∙ ap (λ (t : State). keys_arrivals t ks) (key_same s k))

fed_arrives : (s : State) (bytes : List ℕ) → fed_arrivals s bytes ≡ fed_arrivals (unstamped s) bytes
unfolding fed_arrivals
fed_arrives s bytes = let parts = split_after piece_grammar s.held bytes in all_bytes_arrive (record s { held = parts.tail }) parts.items

size_arrives : (s : State) (size : Size) → size_arrivals s size ≡ size_arrivals (unstamped s) size
unfolding size_arrivals
size_arrives s size =
    let t : State = record s { buffers = all_resized s.buffers size; resized = true } in
    ap (λ (r : Record). if has_bit s.mode 8 then r ∷ [] else [])
    (sym (size_same t) ∙ ap (λ (b : Buffers). size_record (record (unstamped t) { buffers = b })) (all_resized_same s.buffers size))

effect_arrives : (s : State) (p : ℕ) (e : Event) → effect_arrivals s p e ≡ effect_arrivals (unstamped s) p e
effect_arrives s p (events.Call x) = call_arrives s p x
effect_arrives s p (events.Feed bytes) = fed_arrives s bytes
effect_arrives s p events.Quiet = keys_arrive (record s { held = [] }) (quieted s.held)
effect_arrives s p (events.Resize size) = size_arrives s size
effect_arrives s p e = refl

step_arrives : (s : State) (x : Entry) → step_arrivals s x ≡ step_arrivals (unstamped s) x
unfolding step_arrivals
step_arrives s x = ap (λ (rs : List Record). if is_outside s x.actor x.event then [] else rs) (effect_arrives s (client_of x.actor) x.event)

-- ---- two consoles

pub act_alike : (s t : State) (x : Entry) → AreSame s t → ActAlike s t x
act_alike s t x e = record {
  ready = ready_same s x.actor x.event ∙ ap (λ (u : State). is_ready u x.actor x.event) e ∙ sym (ready_same t x.actor x.event);
  reply = (step_alike s x.actor x.event).reply ∙ ap (λ (u : State). (step u x.actor x.event).reply) e ∙ sym (step_alike t x.actor x.event).reply;
  arrives = step_arrives s x ∙ ap (λ (u : State). step_arrivals u x) e ∙ sym (step_arrives t x);
  after = (step_alike s x.actor x.event).after ∙ ap (λ (u : State). unstamped (step u x.actor x.event).after) e ∙ sym (step_alike t x.actor x.event).after;
}

pub view_alike : (s t : State) → AreSame s t → view_now s ≡ view_now t
view_alike s t e = sym (view_same s) ∙ ap view_now e ∙ view_same t

pub run_alike : (s t : State) (h : List Entry) → AreSame s t → RunAlike s t h
run_alike s t [] e = record { legal = refl; replies = refl; arrives = refl; after = e }
run_alike s t (x ∷ xs) e =
    let k = act_alike s t x e in
    let l = run_alike (step s x.actor x.event).after (step t x.actor x.event).after xs k.after in
    record {
      legal = ap (λ (b : Bool). b && is_legal (step s x.actor x.event).after xs) k.ready ∙ ap (λ (b : Bool). is_ready t x.actor x.event && b) l.legal;
      replies = ap (λ (r : Reply). r ∷ replies_of (step s x.actor x.event).after xs) k.reply
          ∙ ap (λ (rs : List Reply). (step t x.actor x.event).reply ∷ rs) l.replies;
      arrives = ap (λ (rs : List Record). rs ++ arrived (step s x.actor x.event).after xs) k.arrives
          ∙ ap (λ (rs : List Record). step_arrivals t x ++ rs) l.arrives;
      after = l.after;
    }
