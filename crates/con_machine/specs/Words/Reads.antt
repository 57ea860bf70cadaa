-- The words of the code and of laws about Reads, which a reader need not believe.
use Rattle.std.specs.Prelude.{ℕ, ◌==◌, ◌&&◌, ◌||◌, Bool, false, nat_lt, List, [], length, take, drop, fold, slice_get, is_none}
use Rattle.std.specs.Prelude.{Option, Result, Ok, Err, if◌then◌else◌}
use Rattle.std.specs.List.{list_any}
use Rattle.std.specs.Option.{option_map_or}
use Rattle.con_units.specs.Limits.{most_items, most_records}
use Rattle.con_units.specs.Stored.{is_control}
use Rattle.con_units.specs.declared.code.Code.{Code}
use Rattle.con_units.specs.declared.code.Code.TheVariants as code
use Rattle.con_events.specs.declared.reply.Reply.TheVariants as replies
use Rattle.con_handles.specs.declared.handle.Handle.{Handle}
use Rattle.con_handles.specs.declared.handle.Kind.TheVariants as kind
use Rattle.con_procs.specs.Procs.{program_of, programs_of}
use Rattle.con_history.specs.Histories.{used_by}
use Rattle.con_readers.specs.Reads.{is_open}
use Rattle.con_readers.specs.declared.answer.Answer.TheVariants as answers
use Rattle.con_readers.specs.declared.open.OpenRead.{OpenRead}
use Rattle.con_readers.specs.declared.open.OpenRead.TheVariants as reads
use Rattle.con_screens.specs.Buffers.{Buffers}
use Rattle.con_machine.specs.State.{State, with_rest}
use Rattle.con_machine.specs.Outcome.{Outcome, answered, by_answer, guard}
use Rattle.con_machine.specs.Words.Outcome.{guarded}
use Rattle.con_machine.specs.Words.HandleCalls.{released}
use Rattle.con_machine.specs.Reads.{with_read, front_of, back_of, answered_with, line_opened}
use Rattle.con_machine.specs.declared.reads.noted.Noted.{Noted}

-- CR, and then LF
abbrev pub ends_line : ℕ → List ℕ → Bool
ends_line u us = option_map_or (λ v. (u == 13) && (v == 10)) (slice_get us 0) false

abbrev pub is_empty : List ℕ → Bool
is_empty us = is_none (slice_get us 0)

-- the program's history is used, the others of attached processes being busy
abbrev pub history_used : State → ℕ → State
history_used s p = record s { histories = used_by s.histories (program_of s.procs p) (programs_of s.procs) }

-- what is left of a line answers
abbrev pub rest_answered : State → ℕ → ℕ → ℕ → List ℕ → State
rest_answered s p h n rest = record (answered_with s p (front_of n rest)) { rests = with_rest (back_of n rest) s.rests p h }

-- the read that a line read opens, by what is left for its handle: nothing was asked for; or a line; or what is left answers at once
abbrev pub line_read : State → ℕ → ℕ → List ℕ → List ℕ → ℕ → OpenRead
line_read s p n rest initial mask = if n == 0 then reads.Done (answers.Units [])
    else if is_none (slice_get rest 0) then line_opened s p initial mask else reads.Done (answers.Units (front_of n rest))

-- the read that a read of units opens, without line mode
abbrev pub units_read : ℕ → OpenRead
units_read n = if n == 0 then reads.Done (answers.Units []) else reads.Units n

-- a read of units, without line mode
abbrev pub began_units : State → ℕ → ℕ → State
began_units s p n = if n == 0 then answered_with s p [] else with_read s p (reads.Units n)

-- an initial text with a control, of more than 1,024 units, or of more than the read asks for
abbrev pub is_no_initial : List ℕ → ℕ → Bool
is_no_initial text n = list_any is_control text || nat_lt 1024 (length text) || nat_lt n (length text)

-- whether a read of n units may begin, where its handle is right: an open read and a bad initial text, and the limit, in this order
abbrev pub initial_checked : State → ℕ → ℕ → List ℕ → Result (Unit {0}) Code
initial_checked s p n initial =
    if is_open s.reads p || is_no_initial initial n then Err code.BadArgument
    else if nat_lt most_items n then Err code.Limit
    else Ok tt

abbrev pub read_answer : State → ℕ → ℕ → ℕ → List ℕ → Result (Unit {0}) Code
read_answer s p h n initial = guarded (guard s p h kind.Input 1) (initial_checked s p n initial)

abbrev pub records_checked : State → ℕ → ℕ → Result (Unit {0}) Code
records_checked s p n =
    if is_open s.reads p || (n == 0) then Err code.BadArgument
    else if nat_lt most_records n then Err code.Limit
    else Ok tt

abbrev pub records_answer : State → ℕ → ℕ → ℕ → Result (Unit {0}) Code
records_answer s p h n = guarded (guard s p h kind.Input 1) (records_checked s p n)

abbrev pub began_read_input : State → ℕ → ℕ → ℕ → Outcome
began_read_input s p h n = by_answer s (records_answer s p h n) (with_read s p (reads.Records n))

abbrev pub part_told : Noted → List ℕ → List ℕ
part_told n text = if n.woken then take n.n text else front_of n.n text

abbrev pub part_left : Noted → List ℕ → List ℕ
part_left n text = if n.woken then drop n.n text else back_of n.n text

-- what follows is left for the handle
abbrev pub line_cut : State → Noted → List ℕ → Outcome
line_cut s n text = answered (record s { rests = with_rest (part_left n text) s.rests n.process n.handle }) (replies.Units (part_told n text))

abbrev pub units_told : State → Option Noted → List ℕ → Outcome
units_told s n text = option_map_or (λ m. line_cut s m text) n (answered s (replies.Units text))

abbrev pub released_all : Buffers → List Handle → Buffers
released_all buffers hs = fold (λ b h. released h.object b) buffers hs
