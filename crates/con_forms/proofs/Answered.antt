-- Each event is answered by its form: one walk over the calls, and the other events.
use Rattle.std.proofs.Common.{refl, ℕ, Bool, true, false, List, Option, Some, None, Result, Ok, Err, length, take}
use Rattle.std.specs.Prelude.{if◌then◌else◌, ◌==◌, nat_lt, nat_le, pos, slice_get}
use Rattle.con_units.specs.declared.code.Code.{Code}
use Rattle.con_units.specs.declared.code.Code.TheVariants as code
use Rattle.con_units.specs.declared.place.Rect.{Rect}
use Rattle.con_grid.specs.Picture.{Picture}
use Rattle.con_events.specs.declared.actor.Actor.{Actor}
use Rattle.con_events.specs.declared.call.Call.{Call}
use Rattle.con_events.specs.declared.call.Call.TheVariants as calls
use Rattle.con_events.specs.declared.event.Event.{Event}
use Rattle.con_events.specs.declared.event.Event.TheVariants as events
use Rattle.con_events.specs.declared.event.Wanted.{Wanted}
use Rattle.con_events.specs.declared.event.Wanted.TheVariants as wanted
use Rattle.con_events.specs.declared.reply.Reply.{Reply}
use Rattle.con_alias.specs.Aliases.{Entry}
use Rattle.con_handles.specs.declared.handle.Kind.TheVariants as kind
use Rattle.con_handles.specs.declared.handle.Object.{Object}
use Rattle.con_handles.specs.declared.handle.Object.TheVariants as object
use Rattle.con_readers.specs.Reads.{answer_in, place_of, without}
use Rattle.con_readers.specs.declared.answer.Answer.{Answer}
use Rattle.con_readers.specs.declared.answer.Answer.TheVariants as answers
use Rattle.con_rects.specs.Rules.{rect_cells}
use Rattle.con_machine.specs.State.{State, noted_of, without_noted}
use Rattle.con_machine.specs.Outcome.{Outcome, buffer_of, refused, by_answer, while_open, guard, are_rights}
use Rattle.con_machine.specs.Words.Outcome.{by_result, with_object}
use Rattle.con_machine.specs.Call.{called}
use Rattle.con_machine.specs.HandleCalls.{opened, buffer_made}
use Rattle.con_machine.specs.Words.HandleCalls.{opened_at}
use Rattle.con_machine.specs.ScreenCalls.{mode_changed}
use Rattle.con_machine.specs.CellCalls.{cells_of}
use Rattle.con_machine.specs.Words.CellCalls.{is_over, used_in, used_of, rect_told, sides_of}
use Rattle.con_machine.specs.LineCalls.{told_alias_in}
use Rattle.con_machine.specs.Words.ProcessCalls.{on_place}
use Rattle.con_machine.specs.Reads.{began, collected, took_ctrl, answer_told}
use Rattle.con_machine.specs.Words.Reads.{units_told}
use Rattle.con_machine.specs.Step.{client_of, effect, finished, is_outside, step}
use Rattle.con_machine.specs.declared.reads.noted.Noted.{Noted}
use Rattle.con_events.specs.declared.form.Form.{Form}
use Rattle.con_events.specs.declared.form.Form.TheVariants as form
use Rattle.con_lines.specs.Form.{form_of}
use Rattle.con_lines.specs.Words.Form.{call_form}
use Rattle.con_forms.specs.Formed.{HasForm, refuses, is_done, has_number, has_fields, has_flag, has_sides, has_ids, has_units, has_records, has_cells, has_lines, waits_for_units, waits_for_records, has_control}
use Rattle.con_forms.specs.Laws.{AnswerHasForm, AnswersHaveForms}
use Rattle.con_forms.proofs.Plain.{rect_plain}

-- ---- choices

either : {f : Form} (b : Bool) (x y : Outcome) → HasForm f x.reply → HasForm f y.reply → HasForm f (if b then x else y).reply
either true x y h k = h
either false x y h k = k

either_reply : {f : Form} (b : Bool) (x y : Reply) → HasForm f x → HasForm f y → HasForm f (if b then x else y)
either_reply true x y h k = h
either_reply false x y h k = k

if_open : {f : Form} (s : State) (o : Outcome) → HasForm f o.reply → HasForm f (while_open s o).reply
if_open {f} s o h = either s.closed (refused s code.Closed) o (refuses f code.Closed) h

if_object : {f : Form} (s : State) (r : Result Object Code) (g : Object → Outcome) → ((o : Object) → HasForm f (g o).reply) → HasForm f (with_object s r g).reply
if_object {f} s (Err why) g k = refuses f why
if_object s (Ok o) g k = k o

if_answer : (s : State) (r : Result (Unit {0}) Code) (t : State) → HasForm form.Nothing (by_answer s r t).reply
if_answer s (Err why) t = refuses form.Nothing why
if_answer s (Ok u) t = is_done

if_result : {f : Form} {A : Type 0} (s : State) (r : Result A Code) (t : State) (g : A → Reply) → ((a : A) → HasForm f (g a)) → HasForm f (by_result s r t g).reply
if_result {f} s (Err why) t g k = refuses f why
if_result s (Ok a) t g k = k a

-- ---- calls of more cases

opens_at : (s : State) (p : ℕ) (o : Object) (rights : ℕ) (r : Result ℕ Code) → HasForm form.Number (opened_at s p o rights r).reply
opens_at s p o rights (Err why) = refuses form.Number why
opens_at s p o rights (Ok n) = has_number n

opens : (s : State) (p : ℕ) (o : Object) (rights : ℕ) → HasForm form.Number (opened s p o rights).reply
opens s p o rights = either (are_rights rights) _ _ (opens_at s p o rights _) (refuses form.Number code.BadArgument)

makes : (s : State) (p rights : ℕ) (r : Result ℕ Code) (id : Option ℕ) → HasForm form.Number (buffer_made s p rights r id).reply
makes s p rights (Err why) id = refuses form.Number code.Limit
makes s p rights (Ok n) None = refuses form.Number code.Limit
makes s p rights (Ok n) (Some id) = has_number n

sets_mode : (s : State) (n : ℕ) (o : Object) → HasForm form.Nothing (mode_changed s n o).reply
sets_mode s n object.Input = if_answer s _ _
sets_mode s n (object.Output id) = if_answer s _ _

reads_rect : (g : Picture) (r : Rect) → HasForm form.Cells (rect_told g r)
reads_rect g r = either_reply (is_over (used_in g r)) _ _ (refuses form.Cells code.Limit) (has_cells (used_of g r) (rect_cells g r) (rect_plain g r))

tells_alias : (s : State) (e : Option Entry) → HasForm form.Units (told_alias_in s e).reply
tells_alias s None = refuses form.Units code.NoAlias
tells_alias s (Some e) = has_units e.target

places : (s : State) (place : ℕ) (o : Outcome) → HasForm form.Nothing o.reply → HasForm form.Nothing (on_place s place o).reply
places s place o k = either (nat_le place 255) o (refused s code.BadArgument) k (refuses form.Nothing code.BadArgument)

-- ---- each call

answers_call : (s : State) (p : ℕ) (x : Call) → HasForm (call_form x) (called s p x).reply
unfolding called
answers_call s p (calls.BufferCreate rights) = if_open s _ (either (are_rights rights) _ _ (makes s p rights _ _) (refuses form.Number code.BadArgument))
answers_call s p (calls.OpenOut rights) = if_open s _ (opens s p _ rights)
answers_call s p (calls.OpenIn rights) = if_open s _ (opens s p _ rights)
answers_call s p (calls.Close h) = if_object s _ _ (λ o. is_done)
answers_call s p (calls.Duplicate h rights) = if_object s _ _ (λ o. opens s p o rights)
answers_call s p (calls.Activate h) = if_object s _ _ (λ o. is_done)
answers_call s p (calls.Mode h) = if_object s _ _ (λ o. has_number _)
answers_call s p (calls.SetMode h mode) = if_object s _ _ (λ o. sets_mode s mode o)
answers_call s p (calls.Info h) = if_object s _ _ (λ o. has_fields 9 _ refl)
answers_call s p (calls.SetSize handle w h) = if_object s (guard s p handle kind.Output 2) _ (λ o. if_answer s _ _)
answers_call s p (calls.SetCursor h x y) = if_object s (guard s p h kind.Output 2) _ (λ o. if_answer s _ _)
answers_call s p (calls.CursorInfo h) = if_object s _ _ (λ o. has_flag _ _)
answers_call s p (calls.SetCursorInfo h size visible) = if_object s (guard s p h kind.Output 2) _ (λ o. if_answer s _ _)
answers_call s p (calls.SetOrigin h x y) = if_object s (guard s p h kind.Output 2) _ (λ o. if_answer s _ _)
answers_call s p (calls.SetAttr h word) = if_object s _ _ (λ o. is_done)
answers_call s p calls.Title = if_open s _ (has_units s.title)
answers_call s p (calls.SetTitle text) = if_open s _ (either (nat_le (length text) 255) _ _ is_done (refuses form.Nothing code.BadArgument))
answers_call s p (calls.Write h text) = if_object s _ _ (λ o. either (nat_lt 16384 (length text)) _ _ (refuses form.Number code.Limit) (has_number (length text)))
answers_call s p (calls.RectRead h rect) = if_object s (guard s p h kind.Output 1) _ (λ o. reads_rect (cells_of s (buffer_of o)) rect)
answers_call s p (calls.RectWrite h rect text words) = if_object s (guard s p h kind.Output 2) _ (λ o. either _ _ _ (if_result s _ _ _ (λ used. has_sides (sides_of used) refl)) (refuses form.Sides code.BadArgument))
answers_call s p (calls.RunReadUnits h x y n) = if_object s (guard s p h kind.Output 1) _ (λ o. either_reply _ _ _ (refuses form.Units code.Limit) (has_units _))
answers_call s p (calls.RunReadAttrs h x y n) = if_object s (guard s p h kind.Output 1) _ (λ o. either_reply _ _ _ (refuses form.Units code.Limit) (has_units _))
answers_call s p (calls.RunWriteUnits h x y text) = if_object s (guard s p h kind.Output 2) _ (λ o. if_result s _ _ _ has_number)
answers_call s p (calls.RunWriteAttrs h x y words) = if_object s (guard s p h kind.Output 2) _ (λ o. if_result s _ _ _ has_number)
answers_call s p (calls.FillUnits h x y n unit) = if_object s _ _ (λ o. has_number _)
answers_call s p (calls.FillAttrs h x y n word) = if_object s _ _ (λ o. has_number _)
answers_call s p (calls.Scroll h rect clip x y unit word) = if_object s _ _ (λ o. is_done)
answers_call s p (calls.Peek h n) = if_object s _ _ (λ o. either_reply (n == 0) _ _ (refuses form.Records code.BadArgument)
    (either_reply (nat_lt 1024 n) _ _ (refuses form.Records code.Limit) (has_records (take n s.records))))
answers_call s p (calls.WriteInput h records) = if_object s _ _ (λ o. either (nat_lt 1024 (length records)) _ _ (refuses form.Number code.Limit) (has_number (length records)))
answers_call s p (calls.Count h) = if_object s _ _ (λ o. has_number _)
answers_call s p (calls.Flush h) = if_object s _ _ (λ o. is_done)
answers_call s p calls.HistoryInfo = if_open s _ (has_fields 3 _ refl)
answers_call s p (calls.SetHistory lines number flag) = if_open s _ (if_answer s _ _)
answers_call s p calls.HistoryList = if_open s _ (has_lines _)
answers_call s p calls.HistoryClear = if_open s _ is_done
answers_call s p (calls.AliasAdd program source target) = if_open s _ (if_answer s _ _)
answers_call s p (calls.AliasRemove program source) = if_open s _ (if_answer s _ _)
answers_call s p (calls.AliasGet program source) = if_open s _ (tells_alias s _)
answers_call s p (calls.AliasList program) = if_open s _ (has_lines _)
answers_call s p calls.Processes = if_open s _ (has_ids _)
answers_call s p (calls.Signal event group) = if_open s _ (either _ _ _ (refuses form.Nothing code.BadArgument) is_done)
answers_call s p (calls.Ignore on) = if_open s _ is_done
answers_call s p (calls.HandlerAdd place) = if_open s _ (places s place _ (if_answer s _ _))
answers_call s p (calls.HandlerRemove place) = if_open s _ (places s place _ (if_answer s _ _))

-- ---- the other events

answers_begin : (s : State) (p : ℕ) (w : Wanted) → HasForm form.Nothing (began s p w).reply
unfolding began
answers_begin s p (wanted.Read h n) = if_answer s _ _
answers_begin s p (wanted.ReadInput h n) = if_answer s _ _
answers_begin s p (wanted.ReadWith h n initial mask) = if_answer s _ _

answers_units : (s : State) (n : Option Noted) (us : List ℕ) → HasForm form.Wait (units_told s n us).reply
answers_units s None us = waits_for_units us
answers_units s (Some n) us = waits_for_units _

answers_read : (s : State) (n : Option Noted) (a : Answer) → HasForm form.Wait (answer_told s n a).reply
answers_read s n (answers.Units us) = answers_units s n us
answers_read s n (answers.Records rs) = waits_for_records rs
answers_read s n (answers.Fail why) = refuses form.Wait why

answers_collect : (s : State) (p : ℕ) → HasForm form.Wait (collected s p).reply
unfolding collected
answers_collect s p = answers_read (record s { reads = without s.reads p; noted = without_noted s.noted p }) (noted_of s.noted p) (answer_in (slice_get s.reads (place_of s.reads p)))

answers_ctrl : (s : State) (p : ℕ) → HasForm form.Control (took_ctrl s p).reply
unfolding took_ctrl
answers_ctrl s p = has_control _

answers_event : (s : State) (p : ℕ) (e : Event) → AnswerHasForm e (effect s p e).reply
unfolding effect
answers_event s p (events.Call x) = answers_call s p x
answers_event s p (events.Begin w) = answers_begin s p w
answers_event s p events.Collect = answers_collect s p
answers_event s p events.TakeCtrl = answers_ctrl s p
answers_event s p (events.Exit status) = is_done
answers_event s p (events.Feed bytes) = is_done
answers_event s p events.Quiet = is_done
answers_event s p (events.Resize size) = is_done
answers_event s p events.Ask = is_done
answers_event s p events.Hangup = is_done
answers_event s p events.Drained = is_done
answers_event s p events.Paint = tt

outside : (s : State) (a : Actor) (e : Event) (b : Bool) (x : Outcome) → HasForm (form_of e) x.reply
    → HasForm (form_of e) (if b then refused s code.BadHandle else finished x).reply
outside s a e true x h = refuses (form_of e) code.BadHandle
outside s a e false x h = h

pub answers_have_forms : AnswersHaveForms
unfolding step
answers_have_forms s a (events.Call x) = outside s a (events.Call x) (is_outside s a (events.Call x)) (effect s (client_of a) (events.Call x)) (answers_event s (client_of a) (events.Call x))
answers_have_forms s a (events.Begin w) = outside s a (events.Begin w) (is_outside s a (events.Begin w)) (effect s (client_of a) (events.Begin w)) (answers_event s (client_of a) (events.Begin w))
answers_have_forms s a events.Collect = outside s a events.Collect (is_outside s a events.Collect) (effect s (client_of a) events.Collect) (answers_event s (client_of a) events.Collect)
answers_have_forms s a events.TakeCtrl = outside s a events.TakeCtrl (is_outside s a events.TakeCtrl) (effect s (client_of a) events.TakeCtrl) (answers_event s (client_of a) events.TakeCtrl)
answers_have_forms s a (events.Exit status) = outside s a (events.Exit status) (is_outside s a (events.Exit status)) (effect s (client_of a) (events.Exit status)) (answers_event s (client_of a) (events.Exit status))
answers_have_forms s a (events.Feed bytes) = answers_event s (client_of a) (events.Feed bytes)
answers_have_forms s a events.Quiet = answers_event s (client_of a) events.Quiet
answers_have_forms s a (events.Resize size) = answers_event s (client_of a) (events.Resize size)
answers_have_forms s a events.Ask = answers_event s (client_of a) events.Ask
answers_have_forms s a events.Hangup = answers_event s (client_of a) events.Hangup
answers_have_forms s a events.Drained = answers_event s (client_of a) events.Drained
answers_have_forms s a events.Paint = answers_event s (client_of a) events.Paint
