-- No answer of a step has a mark: none but a Paint's is a view, and that has none in the definition.
use Rattle.std.proofs.Common.{◌≡◌, ℕ, true, false, Bool, cond, nat_lt, nat_le, length, List, [], ◌++◌, Option, None, Some, refl}
use Rattle.std.specs.Prelude.{Result, Ok, Err, slice_get}
use Rattle.con_units.specs.declared.code.Code.{Code}
use Rattle.con_units.specs.declared.code.Code.TheVariants as code
use Rattle.con_events.specs.declared.call.Call.{Call}
use Rattle.con_events.specs.declared.call.Call.TheVariants as calls
use Rattle.con_events.specs.declared.event.Event.{Event}
use Rattle.con_events.specs.declared.event.Event.TheVariants as events
use Rattle.con_events.specs.declared.event.Wanted.{Wanted}
use Rattle.con_events.specs.declared.event.Wanted.TheVariants as wanted
use Rattle.con_events.specs.declared.reply.Reply.{Reply}
use Rattle.con_events.specs.declared.reply.Reply.TheVariants as replies
use Rattle.con_handles.specs.declared.handle.Kind.TheVariants as kind
use Rattle.con_handles.specs.declared.handle.Object.{Object}
use Rattle.con_procs.specs.Procs.{ignoring, handler_added, handler_removed}
use Rattle.con_procs.specs.Procs as procs
use Rattle.con_readers.specs.Reads.{answer_in, place_of, without}
use Rattle.con_readers.specs.declared.answer.Answer.{Answer}
use Rattle.con_readers.specs.declared.answer.Answer.TheVariants as answers
use Rattle.con_readers.specs.declared.open.OpenRead.TheVariants as reads
use Rattle.con_records.specs.declared.record.Record.{Record}
use Rattle.con_machine.specs.Call.{called}
use Rattle.con_machine.specs.CallLaws.{stands}
use Rattle.con_machine.specs.Words.HandleCalls.{owned, handle_closed}
use Rattle.con_machine.specs.Marks.{told}
use Rattle.con_machine.specs.Outcome.{Outcome, refused, answered, done, by_answer, while_open, guard, has_bit, buffer_of}
use Rattle.con_machine.specs.Words.Outcome.{with_object}
use Rattle.con_machine.specs.ProcessCalls.{is_no_signal}
use Rattle.con_machine.specs.Words.ProcessCalls.{on_place}
use Rattle.con_machine.specs.Reads.{began, began_line, with_read, collected, took_ctrl, answer_told}
use Rattle.con_machine.specs.Words.Reads.{began_units, history_used, read_answer, records_answer}
use Rattle.con_machine.specs.Words.ScreenCalls.{written_to}
use Rattle.con_machine.specs.Signals.{signalled_to}
use Rattle.con_machine.specs.State.{State, noted_of, without_noted}
use Rattle.con_machine.specs.Step.{effect}
use Rattle.con_machine.specs.declared.reads.noted.Noted.{Noted}

abbrev Plain : Reply → Type 0
Plain r = told r ≡ r

by_object : (s : State) (r : Result Object Code) (f : Object → Outcome) → ((o : Object) → Plain (f o).reply) → Plain (with_object s r f).reply
by_object s (Err why) f each = refl
by_object s (Ok o) f each = each o

by_if : (b : Bool) (s : State) (why : Code) (o : Outcome) → Plain o.reply → Plain (cond b (refused s why) o).reply
by_if true s why o h = refl
by_if false s why o h = h

by_else : (b : Bool) (s : State) (why : Code) (o : Outcome) → Plain o.reply → Plain (cond b o (refused s why)).reply
by_else true s why o h = h
by_else false s why o h = refl

answer_plain : (s : State) (r : Result (Unit {0}) Code) (changed : State) → Plain (by_answer s r changed).reply
answer_plain s (Err why) changed = refl
answer_plain s (Ok u) changed = refl

while_open_plain : (s : State) (o : Outcome) → Plain o.reply → Plain (while_open s o).reply
while_open_plain s o plain = by_if s.closed s code.Closed o plain

-- on a place of a rack
rack_plain : (s : State) (at : ℕ) (r : Result (Unit {0}) Code) (t : State) → Plain (while_open s (on_place s at (by_answer s r t))).reply
rack_plain s at r t = while_open_plain s (on_place s at (by_answer s r t)) (by_else (nat_le at 255) s code.BadArgument (by_answer s r t) (answer_plain s r t))

close_plain : (s : State) (p h : ℕ) → Plain (called s p (calls.Close h)).reply
unfolding called
close_plain s p h = by_object s (owned s p h) (λ o. done (handle_closed s p h o)) (λ o. refl)

write_plain : (s : State) (p h : ℕ) (text : List ℕ) → Plain (called s p (calls.Write h text)).reply
unfolding called
write_plain s p h text = by_object s (guard s p h kind.Output 2) (λ o. cond (nat_lt 16384 (length text)) (refused s code.Limit) (answered (written_to s (buffer_of o) text) (replies.Number (length text))))
    (λ o. by_if (nat_lt 16384 (length text)) s code.Limit (answered (written_to s (buffer_of o) text) (replies.Number (length text))) refl)

input_plain : (s : State) (p h : ℕ) (rs : List Record) → Plain (called s p (calls.WriteInput h rs)).reply
unfolding called
input_plain s p h rs = by_object s (guard s p h kind.Input 2) (λ o. cond (nat_lt 1024 (length rs)) (refused s code.Limit) (answered (record s { records = s.records ++ rs }) (replies.Number (length rs))))
    (λ o. by_if (nat_lt 1024 (length rs)) s code.Limit (answered (record s { records = s.records ++ rs }) (replies.Number (length rs))) refl)

flush_plain : (s : State) (p h : ℕ) → Plain (called s p (calls.Flush h)).reply
unfolding called
flush_plain s p h = by_object s (guard s p h kind.Input 2) (λ o. done (record s { records = [] })) (λ o. refl)

signal_plain : (s : State) (p event group : ℕ) → Plain (called s p (calls.Signal event group)).reply
unfolding called
signal_plain s p event group = while_open_plain s (cond (is_no_signal s.procs event group) (refused s code.BadArgument) (done (signalled_to s event group)))
    (by_if (is_no_signal s.procs event group) s code.BadArgument (done (signalled_to s event group)) refl)

ignore_plain : (s : State) (p : ℕ) (on : Bool) → Plain (called s p (calls.Ignore on)).reply
unfolding called
ignore_plain s p on = while_open_plain s (done (record s { procs = ignoring s.procs p on })) refl

add_plain : (s : State) (p at : ℕ) → Plain (called s p (calls.HandlerAdd at)).reply
unfolding called
add_plain s p at = rack_plain s at (procs.add_answer s.procs p at) (record s { procs = handler_added s.procs p at })

remove_plain : (s : State) (p at : ℕ) → Plain (called s p (calls.HandlerRemove at)).reply
unfolding called
remove_plain s p at = rack_plain s at (procs.remove_answer s.procs p at) (record s { procs = handler_removed s.procs p at })

call_plain : (s : State) (p : ℕ) (call : Call) → Plain (called s p call).reply
call_plain s p (calls.Close h) = close_plain s p h
call_plain s p (calls.Write h text) = write_plain s p h text
call_plain s p (calls.WriteInput h rs) = input_plain s p h rs
call_plain s p (calls.Flush h) = flush_plain s p h
call_plain s p (calls.Signal event group) = signal_plain s p event group
call_plain s p (calls.Ignore on) = ignore_plain s p on
call_plain s p (calls.HandlerAdd at) = add_plain s p at
call_plain s p (calls.HandlerRemove at) = remove_plain s p at
call_plain s p call = (stands s p call refl).plain

-- ---- the other events

begin_plain : (s : State) (p : ℕ) (w : Wanted) → Plain (began s p w).reply
unfolding began
begin_plain s p (wanted.Read h n) = answer_plain s (read_answer s p h n []) (cond (has_bit s.mode 2) (began_line (history_used s p) p h n [] 0) (began_units s p n))
begin_plain s p (wanted.ReadInput h n) = answer_plain s (records_answer s p h n) (with_read s p (reads.Records n))
begin_plain s p (wanted.ReadWith h n initial mask) = answer_plain s (read_answer s p h n initial) (cond (has_bit s.mode 2) (began_line (history_used s p) p h n initial mask) (began_units s p n))

told_plain : (s : State) (n : Option Noted) (a : Answer) → Plain (answer_told s n a).reply
told_plain s None (answers.Units units) = refl
told_plain s (Some n) (answers.Units units) = refl
told_plain s n (answers.Records records) = refl
told_plain s n (answers.Fail why) = refl

collect_plain : (s : State) (p : ℕ) → Plain (collected s p).reply
unfolding collected
collect_plain s p = told_plain (record s { reads = without s.reads p; noted = without_noted s.noted p }) (noted_of s.noted p) (answer_in (slice_get s.reads (place_of s.reads p)))

ctrl_plain : (s : State) (p : ℕ) → Plain (took_ctrl s p).reply
unfolding took_ctrl
ctrl_plain s p = refl

-- an answer of an event is told as it is
pub effect_plain : (s : State) (p : ℕ) (e : Event) → Plain (effect s p e).reply
unfolding effect
effect_plain s p (events.Call call) = call_plain s p call
effect_plain s p (events.Begin w) = begin_plain s p w
effect_plain s p events.Collect = collect_plain s p
effect_plain s p events.TakeCtrl = ctrl_plain s p
effect_plain s p (events.Exit status) = refl
effect_plain s p (events.Feed bytes) = refl
effect_plain s p events.Quiet = refl
effect_plain s p (events.Resize size) = refl
effect_plain s p events.Ask = refl
effect_plain s p events.Hangup = refl
effect_plain s p events.Drained = refl
effect_plain s p events.Paint = refl
