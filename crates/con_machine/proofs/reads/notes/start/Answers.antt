-- The note at its place was changed.
use Rattle.std.proofs.Common.{◌≤◌, length, arith}
use Rattle.std.specs.List.{position_or_len}
use Rattle.con_machine.specs.Words.State.{is_noted}
use Rattle.con_machine.specs.Words.Serving.{cell_before}
use Rattle.con_machine.specs.declared.reads.noted.Noted.{Noted}
use Rattle.con_machine.proofs.Places.{changed-set, changed-past}
use Rattle.con_machine.proofs.reads.notes.start.Goals as goal

pub returns-then-i-notes : goal.returns-then-i-notes
returns-then-i-notes c =
    let f : Noted → Noted = λ n. record n { buffer = c.args.buffer; birth = c.args.birth; origin = cell_before c.args.width c.args.x c.args.y n.ahead } in
    changed-set (is_noted c.args.process) f c.args.notes.now c.place_of-i.result _ _ c.place_of-i.ensures c.if-i-notes.true c.start.ensures

pub returns-else-i-notes : goal.returns-else-i-notes
returns-else-i-notes c =
    let f : Noted → Noted = λ n. record n { buffer = c.args.buffer; birth = c.args.birth; origin = cell_before c.args.width c.args.x c.args.y n.ahead } in
    let past : length c.args.notes.now ≤ position_or_len (is_noted c.args.process) c.args.notes.now = omega arith in
    changed-past (is_noted c.args.process) f c.args.notes.now past
