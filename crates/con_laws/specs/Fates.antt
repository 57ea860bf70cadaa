-- What became of each record of the input: records are taken from the front alone, so who took what is a list of pieces, in order.
-- What came in and who took it is told beside the run of a history; the console itself counts no records.
use Rattle.std.specs.Prelude.{ℕ, ◌+◌, ◌==◌, ◌&&◌, not, drop, Bool, false, List, [], ◌∷◌, ◌++◌, length, map, filter, Option}
use Rattle.std.specs.Prelude.{if◌then◌else◌}
use Rattle.std.specs.List.{find, zip, filter, flat_map, slice_get}
use Rattle.std.specs.Option.{option_map_or}
use Rattle.std.specs.Result.{is_ok}
use Rattle.con_machine.specs.Turns.{moved}
use Rattle.con_units.specs.Split.{split_after}
use Rattle.con_events.specs.declared.call.Call.TheVariants as calls
use Rattle.con_events.specs.declared.entry.Entry.{Entry}
use Rattle.con_events.specs.declared.event.Event.{Event}
use Rattle.con_events.specs.declared.event.Event.TheVariants as events
use Rattle.con_events.specs.declared.reply.Reply.{Reply}
use Rattle.con_alias.specs.Aliases.{AliasList}
use Rattle.con_handles.specs.declared.handle.Kind.TheVariants as kind
use Rattle.con_history.specs.Histories.{LineHistories}
use Rattle.con_procs.specs.Procs.{ids_of}
use Rattle.con_readers.specs.Pieces.{front}
use Rattle.con_readers.specs.Reads.{is_open_line}
use Rattle.con_readers.specs.Serving.{is_done, served}
use Rattle.con_readers.specs.declared.open.Open.{Open}
use Rattle.con_records.specs.declared.record.Record.{Record}
use Rattle.con_vtin.specs.Keys.{quieted}
use Rattle.con_vtin.specs.Pieces.{Piece as Bytes, Typed, Ended, piece_grammar}
use Rattle.con_machine.specs.State.{State}
use Rattle.con_machine.specs.Outcome.{guard}
use Rattle.con_machine.specs.Closing.{all_wait}
use Rattle.con_machine.specs.Serving.{settled_state}
use Rattle.con_machine.specs.Terminal.{is_break, piece_taken}
use Rattle.con_machine.specs.Step.{effect, step, is_outside, client_of}
use Rattle.con_machine.specs.Client.{is_fail}

-- ---- what came in

-- the records that a move of the console puts behind those that were there; no event and no key that takes records puts some in
abbrev pub came : State → State → List Record
came s t = drop (length s.records) t.records

-- keys and sequences, each with the console that takes it
unfoldable pub bytes_from : State → List Bytes → List (State × Bytes)
bytes_from s [] = []
bytes_from s (b ∷ bs) = (s, b) ∷ bytes_from (piece_taken s b) bs

-- those of an event
unfoldable pub bytes_of : State → Event → List (State × Bytes)
bytes_of s (events.Feed bytes) = let parts = split_after piece_grammar s.held bytes in bytes_from (record s { held = parts.tail }) parts.items
bytes_of s events.Quiet = bytes_from (record s { held = [] }) (map Typed (quieted s.held))
bytes_of s _ = []

-- the records that an event puts in: bytes one by one, since ctrl+C has what stands before it served first
unfoldable pub event_arrivals : State → ℕ → Event → List Record
event_arrivals s p (events.Feed bytes) = flat_map (λ x. came x.0 (piece_taken x.0 x.1)) (bytes_of s (events.Feed bytes))
event_arrivals s p events.Quiet = flat_map (λ x. came x.0 (piece_taken x.0 x.1)) (bytes_of s events.Quiet)
event_arrivals s p e = came s (effect s p e).after

-- all records that a history puts in, in order
unfoldable pub arrived : State → List Entry → List Record
arrived s [] = []
arrived s (x ∷ xs) = (if is_outside s x.actor x.event then [] else event_arrivals s (client_of x.actor) x.event) ++ arrived (moved s x) xs

-- ---- who took records

-- the read of a Begin, or a flush, each named by its place in the history, from 0 on; or a process's read that was open before it
pub data Taker : Type 0 where
  Begun : (place : ℕ) → Taker
  Flushed : (place : ℕ) → Taker
  Earlier : (process : ℕ) → Taker

-- How records go, or a read ends: a read takes them, while the histories and the aliases are these; all that are there are
-- flushed; ctrl+C ends a read; a read is cut off, since the console closes.
pub data How : Type 0 where
  Served : (histories : LineHistories) (aliases : List AliasList) → How
  Emptied : How
  Interrupted : How
  CutOff : How

pub record Deed : Type 0 where
  pub taker : Taker
  pub how : How

-- what was done, and the records that were taken by it
abbrev pub Piece : Type 0
Piece = Deed × List Record

-- a Begin that was not refused
abbrev pub is_begun : Event → Reply → Bool
is_begun (events.Begin w) reply = not (is_fail reply)
is_begun _ reply = false

-- the read of each process behind an entry at this place of a history: of its last Begin that was not refused
abbrev pub reader_after : (ℕ → Taker) → ℕ → State → Entry → ℕ → Taker
reader_after who place s x p = if (p == client_of x.actor) && is_begun x.event (step s x.actor x.event).reply then Begun place else who p

unfoldable pub readers_from : (ℕ → Taker) → ℕ → State → List Entry → ℕ → Taker
readers_from who place s [] = who
readers_from who place s (x ∷ xs) = readers_from (reader_after who place s x) (place + 1) (moved s x) xs

-- what is done for a process's read
abbrev pub by_read : (ℕ → Taker) → How → ℕ → List Record → Piece
by_read who how p rs = (record { taker = who p; how = how }, rs)

-- the first of these reads takes records from the front, and once it is done the next one
unfoldable pub taken_by : (ℕ → Taker) → List AliasList → List Open → List Record → LineHistories → List Piece
taken_by who al [] rs hs = []
taken_by who al (o ∷ os) rs hs = let s = served o.process al o.read rs hs in
    by_read who (Served hs al) o.process (front rs s.records) ∷ (if is_done s.read then taken_by who al os s.records s.histories else [])

abbrev pub undone : List Open → List Open
undone os = filter (λ o. not (is_done o.read)) os

-- open reads that are not done are served
abbrev pub served_pieces : (ℕ → Taker) → State → List Piece
served_pieces who s = taken_by who s.aliases (undone s.reads) s.records s.histories

-- ctrl+C to all ends the first line read that is not done
abbrev pub interrupted : (ℕ → Taker) → State → List Piece
interrupted who s = option_map_or (λ o. by_read who Interrupted o.process [] ∷ []) (find is_open_line s.reads) []

-- where the console closes, which it does once, each read that is not done is cut off
abbrev pub hung_pieces : (ℕ → Taker) → State → List Piece
hung_pieces who s = if s.closed then [] else map (λ o. by_read who CutOff o.process []) (undone s.reads)

-- the reads are served before ctrl+C is signalled
abbrev pub key_pieces : (ℕ → Taker) → State → Bytes → List Piece
key_pieces who s (Typed k) = if is_break s k then served_pieces who s ++ interrupted who (settled_state s) else []
key_pieces who s (Ended bytes) = []

-- FlushConsoleInputBuffer, GenerateConsoleCtrlEvent, and what the terminal's side does
unfoldable pub event_pieces : (ℕ → Taker) → ℕ → State → ℕ → Event → List Piece
event_pieces who place s p (events.Call (calls.Flush h)) =
    if is_ok (guard s p h kind.Input 2) then (let d : Deed = record { taker = Flushed place; how = Emptied } in (d, s.records)) ∷ [] else []
event_pieces who place s p (events.Call (calls.Signal event group)) =
    if not s.closed && ((event == 0) && (group == 0)) then interrupted who s else []
event_pieces who place s p events.Hangup = hung_pieces who s
event_pieces who place s p e = flat_map (λ x. key_pieces who x.0 x.1) (bytes_of s e)

-- at the end of every event the reads are served, and then the console closes, where nothing more comes and each attached process waits
abbrev pub end_pieces : (ℕ → Taker) → State → State → List Piece
end_pieces who t u = served_pieces who t ++ (if u.drained && all_wait u.reads (ids_of u.procs) then hung_pieces who u else [])

unfoldable pub step_pieces : (ℕ → Taker) → ℕ → State → Entry → List Piece
step_pieces who place s x = let p = client_of x.actor in let t = (effect s p x.event).after in
    if is_outside s x.actor x.event then [] else event_pieces who place s p x.event ++ end_pieces who t (settled_state t)

unfoldable pub pieces_from : (ℕ → Taker) → ℕ → State → List Entry → List Piece
pieces_from who place s [] = []
pieces_from who place s (x ∷ xs) = let now = reader_after who place s x in step_pieces now place s x ++ pieces_from now (place + 1) (moved s x) xs

-- all that is done for reads and by flushes in a history, in order
abbrev pub pieces : State → List Entry → List Piece
pieces s h = pieces_from Earlier 0 s h

-- ---- fates

-- who took each record that was taken
abbrev pub takers : State → List Entry → List Taker
takers s h = flat_map (λ p. map (λ r. p.0.taker) p.1) (pieces s h)

-- the fate of the record with number k, counted from 0 on, of those that were there at first and then arrived
abbrev pub fate : State → List Entry → ℕ → Option Taker
fate s h k = slice_get (takers s h) k

abbrev pub is_taker : Taker → Taker → Bool
is_taker (Begun a) (Begun b) = b == a
is_taker (Flushed a) (Flushed b) = b == a
is_taker (Earlier a) (Earlier b) = b == a
is_taker _ _ = false

-- what was done for one read, or by one flush, in order
abbrev pub done_for : Taker → List Piece → List Piece
done_for t ps = filter (λ p. is_taker t p.0.taker) ps

-- the records whose fate is this one, in order of arrival
abbrev pub fated : State → List Entry → Taker → List Record
fated s h t = map (λ x. x.0) (filter (λ x. is_taker t x.1) (zip (s.records ++ arrived s h) (takers s h)))
