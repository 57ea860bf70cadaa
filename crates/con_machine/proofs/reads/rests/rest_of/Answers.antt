-- The rest at its place.
use Rattle.std.proofs.Common.{◌≤◌, ◌∙◌, length, ap, arith}
use Rattle.std.specs.List.{position_or_len}
use Rattle.con_machine.specs.State.{is_rest_of}
use Rattle.con_machine.specs.Words.State.{units_of}
use Rattle.con_machine.proofs.Places.{found-read, find-past}
use Rattle.con_machine.proofs.reads.rests.rest_of.Goals as goal

pub returns-then-i-rests : goal.returns-then-i-rests
returns-then-i-rests c = c.as_slice.ensures ∙ ap units_of (found-read (is_rest_of c.args.process c.args.handle) c.args.rests.now c.place_of-i.result c.index-rests-i.result c.place_of-i.ensures c.if-i-rests.true c.index-rests-i.is)

pub returns-else-i-rests : goal.returns-else-i-rests
returns-else-i-rests c =
    let past : length c.args.rests.now ≤ position_or_len (is_rest_of c.args.process c.args.handle) c.args.rests.now = omega arith in
    ap units_of (find-past (is_rest_of c.args.process c.args.handle) c.args.rests.now past)
