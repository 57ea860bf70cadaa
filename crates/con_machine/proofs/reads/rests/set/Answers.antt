-- The rest at its place was changed.
use Rattle.std.proofs.Common.{◌<◌, ◌≤◌, ◌∙◌, length, ap, sym, arith}
use Rattle.std.specs.List.{position_or_len}
use Rattle.con_machine.specs.State.{is_rest_of}
use Rattle.con_machine.specs.declared.reads.rest.Rest.{Rest}
use Rattle.con_machine.proofs.Places.{changed-written, changed-past}
use Rattle.con_machine.proofs.reads.rests.set.Goals as goal

pub returns-then-i-rests : goal.returns-then-i-rests
returns-then-i-rests c =
    let f : Rest → Rest = λ r. record r { units = c.args.units } in
    let within : c.place_of-i.result < length c.args.rests.now = omega arith in
    changed-written (is_rest_of c.args.process c.args.handle) f c.args.rests.now c.place_of-i.result c.index-rests-i.result _ c.place_of-i.ensures within c.index-rests-i.is (c.set.ensures ∙ ap f (sym c.index-rests-i.is))

pub returns-else-i-rests : goal.returns-else-i-rests
returns-else-i-rests c =
    let f : Rest → Rest = λ r. record r { units = c.args.units } in
    let past : length c.args.rests.now ≤ position_or_len (is_rest_of c.args.process c.args.handle) c.args.rests.now = omega arith in
    changed-past (is_rest_of c.args.process c.args.handle) f c.args.rests.now past
