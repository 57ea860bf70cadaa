-- The note at its place.
use Rattle.std.proofs.Common.{◌≤◌, length, arith}
use Rattle.std.specs.List.{position_or_len}
use Rattle.con_machine.specs.Words.State.{is_noted}
use Rattle.con_machine.proofs.Places.{found-there, find-past}
use Rattle.con_machine.proofs.reads.notes.note_of.Goals as goal

pub returns-then-i-notes : goal.returns-then-i-notes
returns-then-i-notes c = found-there (is_noted c.args.process) c.args.notes.now c.place_of-i.result _ c.place_of-i.ensures c.if-i-notes.true

pub returns-else-i-notes : goal.returns-else-i-notes
returns-else-i-notes c =
    let past : length c.args.notes.now ≤ position_or_len (is_noted c.args.process) c.args.notes.now = omega arith in
    find-past (is_noted c.args.process) c.args.notes.now past
