-- The memory of a read, and of what is left when one is collected: the code's own words.
use Rattle.std.specs.Prelude.{◌≡◌, ℕ, true, false, List, [], length, min, Option, None, Some, if◌then◌else◌}
use Rattle.con_history.specs.Words.Histories.{room_for_use}
use Rattle.con_procs.specs.Procs.{program_of}
use Rattle.con_readers.specs.declared.answer.Answer.{Answer}
use Rattle.con_readers.specs.declared.answer.Answer.TheVariants as answers
use Rattle.con_machine.specs.State.{State, rest_in}
use Rattle.con_machine.specs.Words.State.{has_rest}
use Rattle.con_machine.specs.Outcome.{has_bit}
use Rattle.con_machine.specs.Reads.{line_front, back_of}
use Rattle.con_machine.specs.Words.Reads.{part_left, line_read, units_read}
use Rattle.con_machine.specs.declared.reads.noted.Noted.{Noted}
use Rattle.con_machine.specs.declared.reads.rest.Rest.{Rest}
use Rattle.con_machine.specs.declared.rooms.read_room.LineRoom.{LineRoom}
use Rattle.con_machine.specs.declared.rooms.read_room.Beginning.{Beginning}
use Rattle.con_machine.specs.declared.rooms.read_room.Beginning.TheVariants as beginnings

-- the read is made, the program's history has room, what is left after the read is there, and room for what its line leaves is empty
pub record IsLineRoom (room : LineRoom) (s : State) (p h n : ℕ) (initial : List ℕ) (mask : ℕ) : Type 0 where
  pub read : room.read ≡ line_read s p n (rest_in s.rests p h) initial mask
  pub history : room.history ≡ room_for_use s.histories (program_of s.procs p)
  pub back : room.back ≡ back_of n (rest_in s.rests p h)
  pub rest : room.rest ≡ []

-- where the part of a line's text ends that its read answers
abbrev pub part_end : Noted → List ℕ → ℕ
part_end n text = if n.woken then min n.n (length text) else line_front n.n text

-- what of a line's text is left for its handle is there, where it has a rest
abbrev pub HasBack : List Rest → Option (List ℕ) → Option Noted → Answer → Type 0
HasBack rests back None answer = Unit {0}
HasBack rests back (Some n) (answers.Units text) = has_rest rests n.process n.handle ≡ true → back ≡ Some (part_left n text)
HasBack rests back (Some n) (answers.Records rs) = Unit {0}
HasBack rests back (Some n) (answers.Fail why) = Unit {0}

-- the memory of a read that may begin
abbrev pub IsBeginning : Beginning → State → ℕ → ℕ → ℕ → List ℕ → ℕ → Type 0
IsBeginning beginnings.Refused s p h n initial mask = ⊥
IsBeginning (beginnings.Line room) s p h n initial mask = (has_bit s.mode 2 ≡ true) × IsLineRoom room s p h n initial mask
IsBeginning (beginnings.Plain read) s p h n initial mask = (has_bit s.mode 2 ≡ false) × (read ≡ units_read n)
