-- What comes in and who takes it, walked event by event, as the proofs go: what is promised says the same in fewer words, and is proved to be this.
use Rattle.std.specs.Prelude.{◌≡◌, ◌⊎◌, ℕ, suc, ◌+◌, ◌-◌, ◌==◌, ◌&&◌, Bool, true, false, nat_lt, List, [], ◌∷◌, ◌++◌, length, map, Option, None, Some}
use Rattle.std.specs.Prelude.{Result, Ok, Err, if◌then◌else◌}
use Rattle.std.specs.List.{find}
use Rattle.con_units.specs.Limits.{most_items, most_records}
use Rattle.con_units.specs.Split.{split_after}
use Rattle.con_units.specs.declared.code.Code.{Code}
use Rattle.con_units.specs.declared.code.Code.TheVariants as code
use Rattle.con_units.specs.declared.place.Size.{Size}
use Rattle.con_events.specs.declared.call.Call.{Call}
use Rattle.con_events.specs.declared.call.Call.TheVariants as calls
use Rattle.con_events.specs.declared.entry.Entry.{Entry}
use Rattle.con_events.specs.declared.event.Event.{Event}
use Rattle.con_events.specs.declared.event.Event.TheVariants as events
use Rattle.con_events.specs.declared.event.Wanted.{Wanted}
use Rattle.con_events.specs.declared.event.Wanted.TheVariants as wanted
use Rattle.con_events.specs.declared.reply.Reply.{Reply}
use Rattle.con_events.specs.declared.reply.Reply.TheVariants as replies
use Rattle.con_alias.specs.Aliases.{AliasList}
use Rattle.con_handles.specs.declared.handle.Kind.TheVariants as kind
use Rattle.con_handles.specs.declared.handle.Object.{Object}
use Rattle.con_mouse.specs.Presses.{record_of}
use Rattle.con_mouse.specs.Reports.{report_of}
use Rattle.con_mouse.specs.declared.report.Report.{Report}
use Rattle.con_history.specs.Histories.{LineHistories}
use Rattle.con_procs.specs.Procs.{ids_of}
use Rattle.con_readers.specs.Pieces.{front}
use Rattle.con_readers.specs.Reads.{is_open_line}
use Rattle.con_readers.specs.Serving.{is_done, served}
use Rattle.con_readers.specs.declared.open.Open.{Open}
use Rattle.con_records.specs.declared.record.Key.{Key}
use Rattle.con_records.specs.declared.record.Record.{Record}
use Rattle.con_screen.specs.Told.{nothing_told}
use Rattle.con_screens.specs.Buffer.{told_on}
use Rattle.con_screens.specs.Buffers.{buffer_at}
use Rattle.con_screens.specs.Resize.{all_resized}
use Rattle.con_vtin.specs.Keys.{quieted}
use Rattle.con_vtin.specs.Pieces.{Piece as Bytes, Typed, Ended, piece_grammar}
use Rattle.con_machine.specs.State.{State}
use Rattle.con_machine.specs.Outcome.{guard, buffer_of, has_bit}
use Rattle.con_machine.specs.ScreenCalls.{page_of, reported}
use Rattle.con_machine.specs.Closing.{all_wait}
use Rattle.con_machine.specs.ProcessCalls.{is_no_signal}
use Rattle.con_machine.specs.Serving.{settled_state}
use Rattle.con_machine.specs.Terminal.{is_break, records_of, mouse_records, key_taken, piece_taken, size_record}
use Rattle.con_machine.specs.Step.{effect, step, is_outside, client_of}
use Rattle.con_machine.specs.Client.{is_fail}
use Rattle.con_laws.specs.Fates.{Taker, Begun, Flushed, Earlier, How, Served, Emptied, Interrupted, CutOff, Piece, is_taker}

-- ---- what came in: the records that each event puts behind the others

-- WriteConsoleInput of no more than 1,024 records
abbrev pub records_written : Result Object Code → List Record → List Record
records_written (Err why) records = []
records_written (Ok o) records = if nat_lt most_records (length records) then [] else records

-- what a screen tells of itself where a text asks for it, as keys
abbrev pub reports_in : State → ℕ → List ℕ → List Record
reports_in s id units = map reported (told_on (buffer_at s.buffers id) nothing_told units).reports

-- WriteConsole of no more than 16,384 units
abbrev pub reports_written : State → Result Object Code → List ℕ → List Record
reports_written s (Err why) units = []
reports_written s (Ok o) units = if nat_lt most_items (length units) then [] else reports_in s (buffer_of o) units

abbrev pub call_arrivals : State → ℕ → Call → List Record
call_arrivals s p (calls.WriteInput h records) = records_written (guard s p h kind.Input 2) records
call_arrivals s p (calls.Write h units) = reports_written s (guard s p h kind.Output 2) units
call_arrivals s p _ = []

-- a key; ctrl+C, where the input is processed, is a signal and no record
abbrev pub key_arrivals : State → Key → List Record
key_arrivals s k = if is_break s k then [] else records_of s k

unfoldable pub keys_arrivals : State → List Key → List Record
keys_arrivals s [] = []
keys_arrivals s (k ∷ ks) = key_arrivals s k ++ keys_arrivals (key_taken s k) ks

-- a report of the mouse
abbrev pub report_arrivals : State → Option Report → List Record
report_arrivals s None = []
report_arrivals s (Some r) = mouse_records (page_of s s.buffers.active) (record_of s.buttons r)

abbrev pub bytes_arrivals : State → Bytes → List Record
bytes_arrivals s (Typed k) = key_arrivals s k
bytes_arrivals s (Ended bytes) = if has_bit s.mode 0x10 then report_arrivals s (report_of bytes) else []

unfoldable pub all_bytes_arrivals : State → List Bytes → List Record
all_bytes_arrivals s [] = []
all_bytes_arrivals s (b ∷ bs) = bytes_arrivals s b ++ all_bytes_arrivals (piece_taken s b) bs

unfoldable pub fed_arrivals : State → List ℕ → List Record
fed_arrivals s bytes = let parts = split_after piece_grammar s.held bytes in all_bytes_arrivals (record s { held = parts.tail }) parts.items

-- the new size of the active buffer, where such records are asked for
unfoldable pub size_arrivals : State → Size → List Record
size_arrivals s size = if has_bit s.mode 8 then size_record (record s { buffers = all_resized s.buffers size; resized = true }) ∷ [] else []

abbrev pub effect_arrivals : State → ℕ → Event → List Record
effect_arrivals s p (events.Call c) = call_arrivals s p c
effect_arrivals s p (events.Feed bytes) = fed_arrivals s bytes
effect_arrivals s p events.Quiet = keys_arrivals (record s { held = [] }) (quieted s.held)
effect_arrivals s p (events.Resize size) = size_arrivals s size
effect_arrivals s p _ = []

unfoldable pub step_arrivals : State → Entry → List Record
step_arrivals s x = if is_outside s x.actor x.event then [] else effect_arrivals s (client_of x.actor) x.event

-- all records that a history puts in, in order
abbrev pub arrived : State → List Entry → List Record
arrived s [] = []
arrived s (x ∷ xs) = step_arrivals s x ++ arrived (step s x.actor x.event).after xs

-- ---- who took records

-- a Begin that was not refused: its place in the history, and what it waits for
pub record Begin : Type 0 where
  pub place : ℕ
  pub wanted : Wanted

abbrev pub begin_at : ℕ → Event → Option Begin
begin_at place (events.Begin w) = Some (record { place = place; wanted = w })
begin_at place _ = None

-- the last Begin of each process that was not refused, if there is one
abbrev pub Begins : Type 0
Begins = ℕ → Option Begin

abbrev pub no_begins : Begins
no_begins p = None

abbrev pub begin_or : Option Begin → Option Begin → Option Begin
begin_or None last = last
begin_or (Some b) last = Some b

-- an entry at this place of the history, with this reply
abbrev pub begun_by : ℕ → Entry → Reply → Option Begin
begun_by place x reply = if is_fail reply then None else begin_at place x.event

abbrev pub begins_after : Begins → ℕ → State → Entry → Begins
begins_after begins place s x p = if p == client_of x.actor then begin_or (begun_by place x (step s x.actor x.event).reply) (begins p) else begins p

-- a process's read, by its last Begin
abbrev pub read_of : ℕ → Option Begin → Taker
read_of p None = Earlier p
read_of p (Some b) = Begun b.place

-- what is done for a process's read
abbrev pub by_read : Begins → How → ℕ → List Record → Piece
by_read begins how p rs = (record { taker = read_of p (begins p); how = how }, rs)

-- the first read that is not done takes records from the front, and once it is done the next one
unfoldable pub taken_by : Begins → List AliasList → List Open → List Record → LineHistories → List Piece
taken_by begins al [] rs hs = []
taken_by begins al (o ∷ os) rs hs =
    if is_done o.read then taken_by begins al os rs hs
    else (let s = served o.process al o.read rs hs in
    by_read begins (Served hs al) o.process (front rs s.records) ∷ (if is_done s.read then taken_by begins al os s.records s.histories else []))

-- open reads are served
unfoldable pub served_pieces : Begins → State → List Piece
served_pieces begins s = taken_by begins s.aliases s.reads s.records s.histories

-- ctrl+C to all ends a line read
abbrev pub interrupted_by : Begins → Option Open → List Piece
interrupted_by begins None = []
interrupted_by begins (Some o) = by_read begins Interrupted o.process [] ∷ []

-- it is the first line read that is not done
unfoldable pub interrupted : Begins → List Open → List Piece
interrupted begins os = interrupted_by begins (find is_open_line os)

-- each read that is not done is cut off
unfoldable pub cut_off : Begins → List Open → List Piece
cut_off begins [] = []
cut_off begins (o ∷ os) = if is_done o.read then cut_off begins os else by_read begins CutOff o.process [] ∷ cut_off begins os

-- the console closes, once
abbrev pub hung_pieces : Begins → State → List Piece
hung_pieces begins s = if s.closed then [] else cut_off begins s.reads

-- it closes where nothing more comes and each attached process waits
unfoldable pub closing_pieces : Begins → State → List Piece
closing_pieces begins s = if s.drained && all_wait s.reads (ids_of s.procs) then hung_pieces begins s else []

-- GenerateConsoleCtrlEvent
abbrev pub signal_pieces : Begins → State → ℕ → ℕ → List Piece
signal_pieces begins s event group =
    if s.closed then []
    else if is_no_signal s.procs event group then []
    else if (event == 0) && (group == 0) then interrupted begins s.reads
    else []

-- FlushConsoleInputBuffer
abbrev pub flushed_pieces : ℕ → State → Result Object Code → List Piece
flushed_pieces place s (Err why) = []
flushed_pieces place s (Ok o) = (record { taker = Flushed place; how = Emptied }, s.records) ∷ []

abbrev pub call_pieces : Begins → ℕ → State → ℕ → Call → List Piece
call_pieces begins place s p (calls.Flush h) = flushed_pieces place s (guard s p h kind.Input 2)
call_pieces begins place s p (calls.Signal event group) = signal_pieces begins s event group
call_pieces begins place s p _ = []

-- the reads are served before ctrl+C is signalled
abbrev pub key_pieces : Begins → State → Key → List Piece
key_pieces begins s k = if is_break s k then served_pieces begins s ++ interrupted begins (settled_state s).reads else []

unfoldable pub keys_pieces : Begins → State → List Key → List Piece
keys_pieces begins s [] = []
keys_pieces begins s (k ∷ ks) = key_pieces begins s k ++ keys_pieces begins (key_taken s k) ks

abbrev pub bytes_pieces : Begins → State → Bytes → List Piece
bytes_pieces begins s (Typed k) = key_pieces begins s k
bytes_pieces begins s (Ended bytes) = []

unfoldable pub all_bytes_pieces : Begins → State → List Bytes → List Piece
all_bytes_pieces begins s [] = []
all_bytes_pieces begins s (b ∷ bs) = bytes_pieces begins s b ++ all_bytes_pieces begins (piece_taken s b) bs

unfoldable pub fed_pieces : Begins → State → List ℕ → List Piece
fed_pieces begins s bytes = let parts = split_after piece_grammar s.held bytes in all_bytes_pieces begins (record s { held = parts.tail }) parts.items

abbrev pub effect_pieces : Begins → ℕ → State → ℕ → Event → List Piece
effect_pieces begins place s p (events.Call c) = call_pieces begins place s p c
effect_pieces begins place s p (events.Feed bytes) = fed_pieces begins s bytes
effect_pieces begins place s p events.Quiet = keys_pieces begins (record s { held = [] }) (quieted s.held)
effect_pieces begins place s p events.Hangup = hung_pieces begins s
effect_pieces begins place s p _ = []

-- at the end of every event the reads are served, and then the console may close
abbrev pub end_pieces : Begins → State → List Piece
end_pieces begins s = served_pieces begins s ++ closing_pieces begins (settled_state s)

unfoldable pub step_pieces : Begins → ℕ → State → Entry → List Piece
step_pieces begins place s x =
    if is_outside s x.actor x.event then []
    else effect_pieces begins place s (client_of x.actor) x.event ++ end_pieces begins (effect s (client_of x.actor) x.event).after

abbrev pub pieces_from : Begins → ℕ → State → List Entry → List Piece
pieces_from begins place s [] = []
pieces_from begins place s (x ∷ xs) =
    step_pieces (begins_after begins place s x) place s x ++ pieces_from (begins_after begins place s x) (place + 1) (step s x.actor x.event).after xs

-- all that is done for reads and by flushes in a history, in order
abbrev pub pieces : State → List Entry → List Piece
pieces s h = pieces_from no_begins 0 s h

abbrev pub begins_from : Begins → ℕ → State → List Entry → Begins
begins_from begins place s [] = begins
begins_from begins place s (x ∷ xs) = begins_from (begins_after begins place s x) (place + 1) (step s x.actor x.event).after xs

-- the last Begin of a process in a history that was not refused
abbrev pub last_begin : State → List Entry → ℕ → Option Begin
last_begin s h p = begins_from no_begins 0 s h p

-- it waits for records
abbrev pub wants_records : Wanted → Bool
wants_records (wanted.ReadInput h n) = true
wants_records _ = false

-- ---- fates

-- who took record k of what the pieces are the front of, or none, where it is there
abbrev pub fate_in : List Piece → ℕ → Option Taker
fate_in [] k = None
fate_in (p ∷ ps) k = if nat_lt k (length p.1) then Some p.0.taker else fate_in ps (k - length p.1)

-- the fate of the record with number k, counted from 0 on, of those that were there at first and then arrived
abbrev pub fate : State → List Entry → ℕ → Option Taker
fate s h k = fate_in (pieces s h) k

abbrev pub is_fate : Taker → Option Taker → Bool
is_fate t None = false
is_fate t (Some u) = is_taker t u

-- of records that are numbered from k on, those with a fate, in order
abbrev pub records_with : (ℕ → Option Taker) → Taker → ℕ → List Record → List Record
records_with f t k [] = []
records_with f t k (r ∷ rs) = if is_fate t (f k) then r ∷ records_with f t (suc k) rs else records_with f t (suc k) rs

-- the records whose fate is this one, in order of arrival
abbrev pub fated : State → List Entry → Taker → List Record
fated s h t = records_with (fate s h) t 0 (s.records ++ arrived s h)

-- A reply tells these records, or that the console closed before the read had one.
abbrev pub AnswersRecords : Reply → List Record → Type 0
AnswersRecords reply rs = (reply ≡ replies.Records rs) ⊎ ((reply ≡ replies.Fail code.Closed) × (rs ≡ []))
