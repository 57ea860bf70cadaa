-- No record is lost: what was there and what came in are the pieces that were taken, in order, and what is there.
use Rattle.std.proofs.Common.{◌≡◌, ℕ, Bool, List, [], ◌∷◌, ◌++◌, true, false, refl, ap, ◌∙◌, sym, length, append_assoc, append-nil, Result, Ok, Err, Option, Some, None}
use Rattle.std.specs.Prelude.{◌+◌, ◌==◌, ◌&&◌, nat_lt, nat_le, fold, slice_get, if◌then◌else◌}
use Rattle.std.specs.List.{find}
use Rattle.con_units.specs.Split.{split_after}
use Rattle.con_units.specs.declared.code.Code.{Code}
use Rattle.con_units.specs.declared.code.Code.TheVariants as code
use Rattle.con_units.specs.declared.place.Size.{Size}
use Rattle.con_events.specs.declared.call.Call.{Call}
use Rattle.con_events.specs.declared.call.Call.TheVariants as calls
use Rattle.con_events.specs.declared.entry.Entry.{Entry}
use Rattle.con_events.specs.declared.event.Event.{Event}
use Rattle.con_events.specs.declared.event.Event.TheVariants as events
use Rattle.con_events.specs.declared.event.Wanted.{Wanted}
use Rattle.con_events.specs.declared.event.Wanted.TheVariants as wanted
use Rattle.con_events.specs.declared.reply.Reply.TheVariants as replies
use Rattle.con_handles.specs.declared.handle.Kind.TheVariants as kind
use Rattle.con_handles.specs.declared.handle.Object.{Object}
use Rattle.con_alias.specs.Aliases.{AliasList}
use Rattle.con_history.specs.Histories.{LineHistories}
use Rattle.con_procs.specs.Procs.{ids_of, add_answer as add_handler_answer, remove_answer as remove_handler_answer}
use Rattle.con_mouse.specs.Reports.{report_of}
use Rattle.con_mouse.specs.declared.report.Report.{Report}
use Rattle.con_readers.specs.Pieces.{front, joined}
use Rattle.con_readers.specs.Words.Pieces.{pieces_of}
use Rattle.con_readers.specs.Reads.{settled, answer_in, is_open_line, without, place_of}
use Rattle.con_readers.specs.Serving.{is_done, served}
use Rattle.con_readers.specs.declared.answer.Answer.{Answer}
use Rattle.con_readers.specs.declared.answer.Answer.TheVariants as answers
use Rattle.con_readers.specs.declared.open.Open.{Open}
use Rattle.con_records.specs.declared.record.Key.{Key}
use Rattle.con_records.specs.declared.record.Record.{Record}
use Rattle.con_vtin.specs.Keys.{quieted}
use Rattle.con_vtin.specs.Pieces.{Piece as Bytes, Typed, Ended, piece_grammar}
use Rattle.con_machine.specs.State.{State, noted_of, without_noted, rest_in}
use Rattle.con_machine.specs.Outcome.{Outcome, refused, answered, done, by_answer, while_open, guard, buffer_of, has_bit}
use Rattle.con_machine.specs.Words.Outcome.{with_object}
use Rattle.con_machine.specs.Words.HandleCalls.{closed_handle, owned}
use Rattle.con_machine.specs.Words.ScreenCalls.{written_to}
use Rattle.con_machine.specs.ProcessCalls.{is_no_signal}
use Rattle.con_machine.specs.Words.ProcessCalls.{on_place, sent_signal, set_ignore, added_handler, removed_handler}
use Rattle.con_machine.specs.Call.{called}
use Rattle.con_machine.specs.Serving.{settled_state}
use Rattle.con_machine.specs.Signals.{signalled_to}
use Rattle.con_machine.specs.Closing.{closing, hung_up, all_wait}
use Rattle.con_machine.specs.Reads.{began as read_began, collected, took_ctrl, left, answer_told, began_read, began_line, line_begun}
use Rattle.con_machine.specs.Words.Reads.{began_units, read_answer, records_answer, history_used, is_empty, rest_answered}
use Rattle.con_machine.specs.Painting.{painted}
use Rattle.con_machine.specs.Terminal.{fed, quiet, resized, is_break, records_of, key_taken, piece_taken}
use Rattle.con_machine.specs.Words.Terminal.{by_report}
use Rattle.con_machine.specs.Step.{effect, step, is_outside, client_of, finished}
use Rattle.con_machine.specs.History.{run}
use Rattle.con_machine.specs.declared.reads.noted.Noted.{Noted}
use Rattle.con_machine.specs.CallLaws.{Parts, stands}
use Rattle.con_machine.specs.EventLaws.{settled_shows}
use Rattle.con_laws.specs.Walks.{reports_in, no_begins, pieces, Begins, by_read, taken_by, interrupted_by, interrupted, cut_off, hung_pieces, closing_pieces, signal_pieces, end_pieces, served_pieces, records_written, reports_written, call_arrivals, keys_arrivals, report_arrivals, bytes_arrivals, all_bytes_arrivals, fed_arrivals, size_arrivals, effect_arrivals, step_arrivals, arrived, flushed_pieces, call_pieces, key_pieces, keys_pieces, bytes_pieces, all_bytes_pieces, fed_pieces, effect_pieces, step_pieces, begins_after, pieces_from}
use Rattle.con_laws.specs.Fates.{Piece, Served, CutOff}

unfoldable pub WholeReads : Type 0
WholeReads = (al : List AliasList) (os : List Open) (rs : List Record) (hs : LineHistories) → joined (pieces_of al os rs hs) ++ (settled al os rs hs).records ≡ rs

pub joined-append : {A : Type 0} → (ps qs : List (A × List Record)) → joined (ps ++ qs) ≡ joined ps ++ joined qs
unfolding joined
joined-append [] qs = refl
joined-append (p ∷ ps) qs = ap (λ (rs : List Record). p.1 ++ rs) (joined-append ps qs) ∙ sym (append_assoc p.1 (joined ps) (joined qs))

same_joined : (a b : Bool) (p : Piece) (q : ℕ × List Record) (xs ys : List Piece) (us vs : List (ℕ × List Record)) → p.1 ≡ q.1 → joined xs ≡ joined us → joined ys ≡ joined vs
    → joined (if a then xs else (p ∷ (if b then ys else []))) ≡ joined (if a then us else (q ∷ (if b then vs else [])))
unfolding joined
same_joined true b p q xs ys us vs e h k = h
same_joined false true p q xs ys us vs e h k = ap (λ (rs : List Record). rs ++ joined ys) e ∙ ap (λ (rs : List Record). q.1 ++ rs) k
same_joined false false p q xs ys us vs e h k = ap (λ (rs : List Record). rs ++ []) e

joined-taken : (begins : Begins) (al : List AliasList) (os : List Open) (rs : List Record) (hs : LineHistories) → joined (taken_by begins al os rs hs) ≡ joined (pieces_of al os rs hs)
unfolding joined taken_by pieces_of
joined-taken begins al [] rs hs = refl
joined-taken begins al (o ∷ os) rs hs =
    let s = served o.process al o.read rs hs in
    same_joined (is_done o.read) (is_done s.read) (by_read begins (Served hs al) o.process (front rs s.records)) (o.process, front rs s.records) (taken_by begins al os rs hs) (taken_by begins al os s.records s.histories) (pieces_of al os rs hs) (pieces_of al os s.records s.histories)
    refl (joined-taken begins al os rs hs) (joined-taken begins al os s.records s.histories)

-- a read that ends takes nothing by it
interrupted-none : (begins : Begins) (os : List Open) → joined (interrupted begins os) ≡ []
unfolding interrupted joined
interrupted-none begins os = by (find is_open_line os)
  where
    by : (o : Option Open) → joined (interrupted_by begins o) ≡ []
    by None = refl
    by (Some o) = refl

one_off : (b : Bool) (p : Piece) (ps : List Piece) → p.1 ≡ [] → joined ps ≡ [] → joined (if b then ps else (p ∷ ps)) ≡ []
unfolding joined
one_off true p ps e h = h
one_off false p ps e h = ap (λ (rs : List Record). rs ++ joined ps) e ∙ h

cut_off-none : (begins : Begins) (os : List Open) → joined (cut_off begins os) ≡ []
unfolding cut_off joined
cut_off-none begins [] = refl
cut_off-none begins (o ∷ os) = one_off (is_done o.read) (by_read begins CutOff o.process []) (cut_off begins os) refl (cut_off-none begins os)

none_either : (b : Bool) (ps qs : List Piece) → joined ps ≡ [] → joined qs ≡ [] → joined (if b then ps else qs) ≡ []
none_either true ps qs h k = h
none_either false ps qs h k = k

hung-none : (begins : Begins) (s : State) → joined (hung_pieces begins s) ≡ []
unfolding joined
hung-none begins s = none_either s.closed [] (cut_off begins s.reads) refl (cut_off-none begins s.reads)

pub closing-none : (begins : Begins) (s : State) → joined (closing_pieces begins s) ≡ []
unfolding closing_pieces joined
closing-none begins s = none_either (s.drained && all_wait s.reads (ids_of s.procs)) (hung_pieces begins s) [] (hung-none begins s) refl

signal-none : (begins : Begins) (s : State) (event group : ℕ) → joined (signal_pieces begins s event group) ≡ []
unfolding joined
signal-none begins s event group = none_either s.closed [] _ refl (none_either (is_no_signal s.procs event group) [] _ refl (none_either ((event == 0) && (group == 0)) (interrupted begins s.reads) [] (interrupted-none begins s.reads) refl))

-- pieces without records behind others
with_none : (ps qs : List Piece) (rs : List Record) → joined qs ≡ [] → joined (ps ++ qs) ++ rs ≡ joined ps ++ rs
with_none ps qs rs h = ap (λ (x : List Record). x ++ rs) (joined-append ps qs ∙ ap (λ (x : List Record). joined ps ++ x) h ∙ append-nil (joined ps))

-- ---- serving, and closing

alike : (b : Bool) (x y : State) (rs : List Record) → x.records ≡ rs → y.records ≡ rs → (if b then x else y).records ≡ rs
alike true x y rs h k = h
alike false x y rs h k = k

pub settled_records : (s : State) → (settled_state s).records ≡ (settled s.aliases s.reads s.records s.histories).records
settled_records s = ap (λ (x : State). x.records) (settled_shows s).is

pub served_keeps : WholeReads → (begins : Begins) (s : State) → joined (served_pieces begins s) ++ (settled_state s).records ≡ s.records
unfolding WholeReads served_pieces
served_keeps w begins s =
    ap (λ (rs : List Record). joined (taken_by begins s.aliases s.reads s.records s.histories) ++ rs) (settled_records s)
    ∙ ap (λ (rs : List Record). rs ++ (settled s.aliases s.reads s.records s.histories).records) (joined-taken begins s.aliases s.reads s.records s.histories) ∙ w s.aliases s.reads s.records s.histories

hung_keeps : (s : State) → (hung_up s).records ≡ s.records
hung_keeps s = alike s.closed s _ s.records refl refl

pub closing_keeps : (s : State) → (closing s).records ≡ s.records
unfolding closing
closing_keeps s = alike (s.drained && all_wait s.reads (ids_of s.procs)) (hung_up s) s s.records (hung_keeps s) refl

-- ---- one thing after another

chain : (r a r' k z : List Record) (ps qs : List Piece) → r ++ a ≡ joined ps ++ r' → r' ++ k ≡ joined qs ++ z → r ++ (a ++ k) ≡ joined (ps ++ qs) ++ z
chain r a r' k z ps qs h g =
    sym (append_assoc r a k) ∙ ap (λ (x : List Record). x ++ k) h ∙ append_assoc (joined ps) r' k ∙ ap (λ (x : List Record). joined ps ++ x) g
    ∙ sym (append_assoc (joined ps) (joined qs) z) ∙ ap (λ (x : List Record). x ++ z) (sym (joined-append ps qs))

-- ---- keys, and the mouse

signalled_keeps : (s : State) (event group : ℕ) → (signalled_to s event group).records ≡ s.records
signalled_keeps s event group = alike ((event == 0) && (group == 0)) _ _ s.records refl refl

key_by : WholeReads → (begins : Begins) (s : State) (k : Key) (b : Bool) → s.records ++ (if b then [] else records_of s k) ≡ joined (if b then served_pieces begins s ++ interrupted begins (settled_state s).reads else []) ++ (if b then signalled_to (settled_state s) 0 0 else record s { records = s.records ++ records_of s k }).records
unfolding joined
key_by w begins s k true =
    append-nil s.records ∙ sym (served_keeps w begins s) ∙ ap (λ (rs : List Record). joined (served_pieces begins s) ++ rs) (sym (signalled_keeps (settled_state s) 0 0))
    ∙ sym (with_none (served_pieces begins s) (interrupted begins (settled_state s).reads) (signalled_to (settled_state s) 0 0).records (interrupted-none begins (settled_state s).reads))
key_by w begins s k false = refl

keys_keep : WholeReads → (begins : Begins) (s : State) (ks : List Key) → s.records ++ keys_arrivals s ks ≡ joined (keys_pieces begins s ks) ++ (fold key_taken s ks).records
unfolding keys_arrivals keys_pieces joined
keys_keep w begins s [] = append-nil s.records
keys_keep w begins s (k ∷ ks) = chain s.records _ (key_taken s k).records (keys_arrivals (key_taken s k) ks) _ (key_pieces begins s k) (keys_pieces begins (key_taken s k) ks) (key_by w begins s k (is_break s k)) (keys_keep w begins (key_taken s k) ks)

report_by : (s : State) (r : Option Report) → s.records ++ report_arrivals s r ≡ (by_report s r).records
report_by s None = append-nil s.records
report_by s (Some r) = refl

sequence_by : (s : State) (r : Option Report) (b : Bool) → s.records ++ (if b then report_arrivals s r else []) ≡ (if b then by_report s r else s).records
sequence_by s r true = report_by s r
sequence_by s r false = append-nil s.records

pub bytes_keep : WholeReads → (begins : Begins) (s : State) (b : Bytes) → s.records ++ bytes_arrivals s b ≡ joined (bytes_pieces begins s b) ++ (piece_taken s b).records
unfolding joined
bytes_keep w begins s (Typed k) = key_by w begins s k (is_break s k)
bytes_keep w begins s (Ended bytes) = sequence_by s (report_of bytes) (has_bit s.mode 0x10)

all_bytes_keep : WholeReads → (begins : Begins) (s : State) (bs : List Bytes) → s.records ++ all_bytes_arrivals s bs ≡ joined (all_bytes_pieces begins s bs) ++ (fold piece_taken s bs).records
unfolding all_bytes_arrivals all_bytes_pieces joined
all_bytes_keep w begins s [] = append-nil s.records
all_bytes_keep w begins s (b ∷ bs) = chain s.records _ (piece_taken s b).records (all_bytes_arrivals (piece_taken s b) bs) _ (bytes_pieces begins s b) (all_bytes_pieces begins (piece_taken s b) bs) (bytes_keep w begins s b) (all_bytes_keep w begins (piece_taken s b) bs)

fed_keeps : WholeReads → (begins : Begins) (s : State) (bytes : List ℕ) → s.records ++ fed_arrivals s bytes ≡ joined (fed_pieces begins s bytes) ++ (fed s bytes).records
unfolding fed_arrivals fed_pieces fed
fed_keeps w begins s bytes = let parts = split_after piece_grammar s.held bytes in all_bytes_keep w begins (record s { held = parts.tail }) parts.items

quiet_keeps : WholeReads → (begins : Begins) (s : State) → s.records ++ keys_arrivals (record s { held = [] }) (quieted s.held) ≡ joined (keys_pieces begins (record s { held = [] }) (quieted s.held)) ++ (quiet s).records
unfolding quiet
quiet_keeps w begins s = keys_keep w begins (record s { held = [] }) (quieted s.held)

size_by : (s : State) (r : Record) (b : Bool) → s.records ++ (if b then r ∷ [] else []) ≡ (if b then record s { records = s.records ++ r ∷ [] } else s).records
size_by s r true = refl
size_by s r false = append-nil s.records

size_keeps : (s : State) (size : Size) → s.records ++ size_arrivals s size ≡ (resized s size).records
unfolding resized size_arrivals
size_keeps s size = size_by (record s { buffers = _; resized = true }) _ (has_bit s.mode 8)

-- ---- calls

either : (b : Bool) (x y : Outcome) (rs : List Record) → x.after.records ≡ rs → y.after.records ≡ rs → (if b then x else y).after.records ≡ rs
either true x y rs h k = h
either false x y rs h k = k

open_keeps : (s : State) (o : Outcome) → o.after.records ≡ s.records → (while_open s o).after.records ≡ s.records
open_keeps s o h = either s.closed (refused s code.Closed) o s.records refl h

object_keeps : (s : State) (g : Result Object Code) (f : Object → Outcome) → ((o : Object) → (f o).after.records ≡ s.records) → (with_object s g f).after.records ≡ s.records
object_keeps s (Err why) f h = refl
object_keeps s (Ok o) f h = h o

answer_keeps : (s : State) (r : Result (Unit {0}) Code) (t : State) → t.records ≡ s.records → (by_answer s r t).after.records ≡ s.records
answer_keeps s (Err why) t h = refl
answer_keeps s (Ok u) t h = h

place_keeps : (s : State) (place : ℕ) (o : Outcome) → o.after.records ≡ s.records → (on_place s place o).after.records ≡ s.records
place_keeps s place o h = either (nat_le place 255) o (refused s code.BadArgument) s.records h refl

records_by : (s : State) (rs : List Record) (g : Result Object Code) → s.records ++ records_written g rs ≡ (with_object s g (λ _. if nat_lt 1024 (length rs) then refused s code.Limit else answered (record s { records = s.records ++ rs }) (replies.Number (length rs)))).after.records
records_by s rs (Err why) = append-nil s.records
records_by s rs (Ok o) = by (nat_lt 1024 (length rs))
  where
    by : (b : Bool) → s.records ++ (if b then [] else rs) ≡ (if b then refused s code.Limit else answered (record s { records = s.records ++ rs }) (replies.Number (length rs))).after.records
    by true = append-nil s.records
    by false = refl

reports_by : (s : State) (units : List ℕ) (g : Result Object Code) → s.records ++ reports_written s g units ≡ (with_object s g (λ o. if nat_lt 16384 (length units) then refused s code.Limit else answered (written_to s (buffer_of o) units) (replies.Number (length units)))).after.records
reports_by s units (Err why) = append-nil s.records
reports_by s units (Ok o) = by (nat_lt 16384 (length units))
  where
    by : (b : Bool) → s.records ++ (if b then [] else reports_in s (buffer_of o) units) ≡ (if b then refused s code.Limit else answered (written_to s (buffer_of o) units) (replies.Number (length units))).after.records
    by true = append-nil s.records
    by false = refl

flushed_by : (place : ℕ) (s : State) (g : Result Object Code) → s.records ++ [] ≡ joined (flushed_pieces place s g) ++ (with_object s g (λ _. done (record s { records = [] }))).after.records
unfolding joined
flushed_by place s (Err why) = append-nil s.records
flushed_by place s (Ok o) = sym (append-nil (s.records ++ []))

same : (s : State) (o : Outcome) → o.after.records ≡ s.records → s.records ++ [] ≡ o.after.records
same s o h = append-nil s.records ∙ sym h

same_beside : (s : State) (o : Outcome) (ps : List Piece) → joined ps ≡ [] → o.after.records ≡ s.records → s.records ++ [] ≡ joined ps ++ o.after.records
same_beside s o ps none h = same s o h ∙ ap (λ (rs : List Record). rs ++ o.after.records) (sym none)

call_keeps : (begins : Begins) (place : ℕ) (s : State) (p : ℕ) (c : Call) → s.records ++ call_arrivals s p c ≡ joined (call_pieces begins place s p c) ++ (called s p c).after.records
unfolding called joined
call_keeps begins place s p (calls.Close h) = same s (closed_handle s p h) (object_keeps s (owned s p h) _ (λ o. refl))
call_keeps begins place s p (calls.Write h units) = reports_by s units (guard s p h kind.Output 2)
call_keeps begins place s p (calls.WriteInput h records) = records_by s records (guard s p h kind.Input 2)
call_keeps begins place s p (calls.Flush h) = flushed_by place s (guard s p h kind.Input 2)
call_keeps begins place s p (calls.Signal event group) = same_beside s (sent_signal s event group) (signal_pieces begins s event group) (signal-none begins s event group) (open_keeps s _ (either (is_no_signal s.procs event group) (refused s code.BadArgument) (done (signalled_to s event group)) s.records refl (signalled_keeps s event group)))
call_keeps begins place s p (calls.Ignore on) = same s (set_ignore s p on) (open_keeps s _ refl)
call_keeps begins place s p (calls.HandlerAdd k) = same s (added_handler s p k) (open_keeps s _ (place_keeps s k _ (answer_keeps s (add_handler_answer s.procs p k) _ refl)))
call_keeps begins place s p (calls.HandlerRemove k) = same s (removed_handler s p k) (open_keeps s _ (place_keeps s k _ (answer_keeps s (remove_handler_answer s.procs p k) _ refl)))
call_keeps begins place s p c = same s (called s p c) (ap (λ (x : Parts). x.records) (stands s p c refl).is)

-- ---- reads begin, and are collected

read_keeps : (s : State) (p h n : ℕ) (initial : List ℕ) (mask : ℕ) → (began_read s p h n initial mask).after.records ≡ s.records
read_keeps s p h n initial mask =
    answer_keeps s (read_answer s p h n initial) _ (alike (has_bit s.mode 2) (began_line (history_used s p) p h n initial mask) (began_units s p n) s.records
    (alike (n == 0) _ _ s.records refl (alike (is_empty (rest_in s.rests p h)) (line_begun (history_used s p) p h n initial mask) (rest_answered (history_used s p) p h n (rest_in s.rests p h)) s.records refl refl))
    (alike (n == 0) _ _ s.records refl refl))

begin_keeps : (s : State) (p : ℕ) (w : Wanted) → (read_began s p w).after.records ≡ s.records
unfolding read_began
begin_keeps s p (wanted.Read h n) = read_keeps s p h n [] 0
begin_keeps s p (wanted.ReadInput h n) = answer_keeps s (records_answer s p h n) _ refl
begin_keeps s p (wanted.ReadWith h n initial mask) = read_keeps s p h n initial mask

told_keeps : (s : State) (n : Option Noted) (a : Answer) → (answer_told s n a).after.records ≡ s.records
told_keeps s None (answers.Units units) = refl
told_keeps s (Some n) (answers.Units units) = refl
told_keeps s n (answers.Records records) = refl
told_keeps s n (answers.Fail why) = refl

collect_keeps : (s : State) (p : ℕ) → (collected s p).after.records ≡ s.records
unfolding collected
collect_keeps s p = told_keeps (record s { reads = without s.reads p; noted = without_noted s.noted p }) (noted_of s.noted p) (answer_in (slice_get s.reads (place_of s.reads p)))

ctrl_keeps : (s : State) (p : ℕ) → (took_ctrl s p).after.records ≡ s.records
unfolding took_ctrl
ctrl_keeps s p = refl

left_keeps : (s : State) (p status : ℕ) → (left s p status).records ≡ s.records
unfolding left
left_keeps s p status = refl

painted_keeps : (s : State) → (painted s).records ≡ s.records
unfolding painted
painted_keeps s = refl

-- ---- events

unfoldable pub Kept : Begins → ℕ → State → ℕ → Event → Type 0
Kept begins place s p e = s.records ++ effect_arrivals s p e ≡ joined (effect_pieces begins place s p e) ++ (effect s p e).after.records

pub effect_keeps : WholeReads → (begins : Begins) (place : ℕ) (s : State) (p : ℕ) (e : Event) → Kept begins place s p e
unfolding Kept effect joined
effect_keeps w begins place s p (events.Call c) = call_keeps begins place s p c
effect_keeps w begins place s p (events.Begin wanted) = same s (read_began s p wanted) (begin_keeps s p wanted)
effect_keeps w begins place s p events.Collect = same s (collected s p) (collect_keeps s p)
effect_keeps w begins place s p events.TakeCtrl = same s (took_ctrl s p) (ctrl_keeps s p)
effect_keeps w begins place s p (events.Exit status) = same s (done (left s p status)) (left_keeps s p status)
effect_keeps w begins place s p (events.Feed bytes) = fed_keeps w begins s bytes
effect_keeps w begins place s p events.Quiet = quiet_keeps w begins s
effect_keeps w begins place s p (events.Resize size) = size_keeps s size
effect_keeps w begins place s p events.Ask = append-nil s.records
effect_keeps w begins place s p events.Hangup = same_beside s (done (hung_up s)) (hung_pieces begins s) (hung-none begins s) (hung_keeps s)
effect_keeps w begins place s p events.Drained = append-nil s.records
effect_keeps w begins place s p events.Paint = same s (answered (painted s) replies.Done) (painted_keeps s)

finish : WholeReads → (begins : Begins) (place : ℕ) (s : State) (p : ℕ) (e : Event) → s.records ++ effect_arrivals s p e ≡ joined (effect_pieces begins place s p e ++ end_pieces begins (effect s p e).after) ++ (finished (effect s p e)).after.records
unfolding Kept
finish w begins place s p e =
    let o = effect s p e in
    let t : State = settled_state o.after in
    let last : o.after.records ++ [] ≡ joined (end_pieces begins o.after) ++ (closing t).records =
    append-nil o.after.records ∙ sym (served_keeps w begins o.after) ∙ ap (λ (x : List Record). joined (served_pieces begins o.after) ++ x) (sym (closing_keeps t))
    ∙ sym (with_none (served_pieces begins o.after) (closing_pieces begins t) (closing t).records (closing-none begins t)) in
    ap (λ (x : List Record). s.records ++ x) (sym (append-nil (effect_arrivals s p e))) ∙ chain s.records (effect_arrivals s p e) o.after.records [] _ (effect_pieces begins place s p e) (end_pieces begins o.after) (effect_keeps w begins place s p e) last

StepKept : Begins → ℕ → State → Entry → Type 0
StepKept begins place s x = s.records ++ step_arrivals s x ≡ joined (step_pieces begins place s x) ++ (step s x.actor x.event).after.records

step_by : WholeReads → (begins : Begins) (place : ℕ) (s : State) (x : Entry) (b : Bool) → is_outside s x.actor x.event ≡ b → StepKept begins place s x
unfolding StepKept step step_pieces step_arrivals joined
step_by w begins place s x true out = rw out (append-nil s.records)
step_by w begins place s x false out = rw out (finish w begins place s (client_of x.actor) x.event)

all_kept : WholeReads → (begins : Begins) (place : ℕ) (s : State) (h : List Entry) → s.records ++ arrived s h ≡ joined (pieces_from begins place s h) ++ (run s h).records
unfolding StepKept joined
all_kept w begins place s [] = append-nil s.records
all_kept w begins place s (x ∷ xs) =
    let t : State = (step s x.actor x.event).after in
    let now : Begins = begins_after begins place s x in
    chain s.records _ t.records (arrived t xs) _ (step_pieces now place s x) (pieces_from now (place + 1) t xs) (step_by w now place s x (is_outside s x.actor x.event) refl) (all_kept w now (place + 1) t xs)

pub conserved : ((al : List AliasList) (os : List Open) (rs : List Record) (hs : LineHistories) → joined (pieces_of al os rs hs) ++ (settled al os rs hs).records ≡ rs) → (s : State) (h : List Entry) → s.records ++ arrived s h ≡ joined (pieces s h) ++ (run s h).records
unfolding WholeReads
conserved w s h = all_kept w no_begins 0 s h
