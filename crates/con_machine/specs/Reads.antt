-- Events of a client beside its calls: reads begin and are collected, control events are taken, and it exits.
use Rattle.std.specs.Prelude.{ℕ, zero, suc, ◌==◌, ◌&&◌, ◌||◌, false, not, nat_lt, List, [], ◌∷◌, ◌++◌, length, take, drop, min, filter, fold, slice_get, is_none, unwrap_or}
use Rattle.std.specs.Prelude.{pos, Option, Ok, Err, if◌then◌else◌}
use Rattle.std.specs.List.{list_any}
use Rattle.std.specs.Option.{option_map_or}
use Rattle.std.specs.Result.{result_and}
use Rattle.con_units.specs.Limits.{most_items, most_records, line_units}
use Rattle.con_units.specs.Stored.{is_control}
use Rattle.con_units.specs.declared.code.Code.TheVariants as code
use Rattle.con_events.specs.declared.event.Wanted.{Wanted}
use Rattle.con_events.specs.declared.event.Wanted.TheVariants as wanted
use Rattle.con_events.specs.declared.reply.Reply.TheVariants as replies
use Rattle.con_handles.specs.Handles.{is_owned}
use Rattle.con_handles.specs.declared.handle.Kind.TheVariants as kind
use Rattle.con_procs.specs.Procs.{exited, first_pending, took_pending, program_of, programs_of}
use Rattle.con_history.specs.Histories.{used_by}
use Rattle.con_readers.specs.Reads.{begun, is_open, without, answer_in, place_of}
use Rattle.con_readers.specs.declared.answer.Answer.{Answer}
use Rattle.con_readers.specs.declared.answer.Answer.TheVariants as answers
use Rattle.con_readers.specs.declared.open.OpenRead.{OpenRead}
use Rattle.con_readers.specs.declared.open.OpenRead.TheVariants as reads
use Rattle.con_screens.specs.Buffers.{handle_released}
use Rattle.con_machine.specs.State.{State, noted_of, without_noted, is_rest_of, rest_in, with_rest, id_of}
use Rattle.con_machine.specs.Outcome.{Outcome, refused, answered, by_answer, guard, has_bit}
use Rattle.con_machine.specs.HandleCalls.{of_output}
use Rattle.con_machine.specs.declared.reads.noted.Noted.{Noted}
use Rattle.con_machine.specs.declared.reads.rest.Rest.{Rest}

-- ---- a read begins: ReadConsole, ReadConsoleInput

-- a read goes behind the open ones
abbrev pub with_read : State → ℕ → OpenRead → State
with_read s p read = record s { reads = s.reads ++ begun p read ∷ [] }

-- where the front of a text ends that one read answers: at n units, but not past the first CR LF
unfoldable pub line_front : ℕ → List ℕ → ℕ
line_front zero us = 0
line_front (suc n) [] = 0
line_front (suc n) (u ∷ us) = if option_map_or (λ v. (u == 13) && (v == 10)) (slice_get us 0) false then min (suc n) 2 else suc (line_front n us)

abbrev pub front_of : ℕ → List ℕ → List ℕ
front_of n text = take (line_front n text) text

abbrev pub back_of : ℕ → List ℕ → List ℕ
back_of n text = drop (line_front n text) text

-- a read that is done at once
abbrev pub answered_with : State → ℕ → List ℕ → State
answered_with s p units = with_read s p (reads.Done (answers.Units units))

-- where the line will show is noted when the read becomes the first one
abbrev pub first_note : State → ℕ → ℕ → ℕ → List ℕ → Noted
first_note s p h n initial = record {
  process = p;
  handle = h;
  n = n;
  echoes = has_bit s.mode 2 && has_bit s.mode 4;
  ahead = length initial;
  buffer = id_of 0;
  birth = 0;
  origin = record { x = 0; y = pos 0 };
  woken = false;
}

-- the line that a read opens
abbrev pub line_opened : State → ℕ → List ℕ → ℕ → OpenRead
line_opened s p initial mask =
    reads.Line (record { program = program_of s.procs p; insert = has_bit s.mode 0x20; initial = initial; mask = mask; presses = [] })

-- a line begins: it is noted, and its handle has a rest, which is empty
abbrev pub line_begun : State → ℕ → ℕ → ℕ → List ℕ → ℕ → State
line_begun s p h n initial mask = record (with_read s p (line_opened s p initial mask)) {
  noted = s.noted ++ first_note s p h n initial ∷ [];
  rests = if list_any (is_rest_of p h) s.rests then s.rests else s.rests ++ (let r : Rest = record { process = p; handle = h; units = [] } in r) ∷ [];
}

-- a read of a line, by what is left for its handle: nothing is asked for; or a line begins; or what is left answers
abbrev pub began_line : State → ℕ → ℕ → ℕ → List ℕ → ℕ → State
began_line s p h n initial mask = let rest = rest_in s.rests p h in
    if n == 0 then answered_with s p [] else if is_none (slice_get rest 0) then line_begun s p h n initial mask
    else record (answered_with s p (front_of n rest)) { rests = with_rest (back_of n rest) s.rests p h }

-- A plain read begins with an empty text and no mask; without line mode, and where a rest answers, both are ignored. It can't begin while a read is open, or
-- with an initial text that has a control, or more than 1,024 units, or more than the read asks for. Of a line, the program's history is used, the others of
-- attached processes being busy.
abbrev pub began_read : State → ℕ → ℕ → ℕ → List ℕ → ℕ → Outcome
began_read s p h n initial mask = by_answer s (result_and (guard s p h kind.Input 1)
    (if is_open s.reads p || (list_any is_control initial || nat_lt line_units (length initial) || nat_lt n (length initial)) then Err code.BadArgument
    else if nat_lt most_items n then Err code.Limit else Ok tt))
    (if has_bit s.mode 2 then began_line (record s { histories = used_by s.histories (program_of s.procs p) (programs_of s.procs) }) p h n initial mask
    else if n == 0 then answered_with s p [] else with_read s p (reads.Units n))

unfoldable pub began : State → ℕ → Wanted → Outcome
began s p (wanted.Read h n) = began_read s p h n [] 0
began s p (wanted.ReadInput h n) = by_answer s (result_and (guard s p h kind.Input 1)
    (if is_open s.reads p || (n == 0) then Err code.BadArgument else if nat_lt most_records n then Err code.Limit else Ok tt)) (with_read s p (reads.Records n))
began s p (wanted.ReadWith h n initial mask) = began_read s p h n initial mask

-- ---- a read is collected

-- Of a text that ended by a masked control the first n units answer, and of a line those up to its first CR LF at most. What follows is left for the
-- handle, unless it was closed.
abbrev pub answer_told : State → Option Noted → Answer → Outcome
answer_told s n (answers.Units text) = option_map_or (λ m. answered (record s {
  rests = with_rest (if m.woken then drop m.n text else back_of m.n text) s.rests m.process m.handle;
}) (replies.Units (if m.woken then take m.n text else front_of m.n text))) n (answered s (replies.Units text))
answer_told s n (answers.Records records) = answered s (replies.Records records)
answer_told s n (answers.Fail why) = refused s why

unfoldable pub collected : State → ℕ → Outcome
collected s p = answer_told (record s { reads = without s.reads p; noted = without_noted s.noted p }) (noted_of s.noted p)
    (answer_in (slice_get s.reads (place_of s.reads p)))

-- the oldest control event is taken
unfoldable pub took_ctrl : State → ℕ → Outcome
took_ctrl s p = answered (record s { procs = took_pending s.procs p }) (replies.Ctrl (unwrap_or (first_pending s.procs p) 0))

-- a client exits: its read goes, with what is noted of it and left for it, and every handle is closed
unfoldable pub left : State → ℕ → ℕ → State
left s p status =
    let t : State = record s { reads = without s.reads p; noted = without_noted s.noted p; rests = filter (λ r. not (r.process == p)) s.rests } in
    let buffers = fold (λ b h. of_output handle_released h.object b) s.buffers (filter (is_owned p) s.handles) in
    record t { handles = filter (λ h. not (is_owned p h)) s.handles; buffers = buffers; procs = exited s.procs p status }
