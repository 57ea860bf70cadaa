use Rattle.std.proofs.Common.{◌∙◌, ◌+◌, ◌<◌, ◌≤◌, length, sym, arith, rules}
use Rattle.con_machine.proofs.Waiting.{waits_on, waits_not, waits_end}
use Rattle.con_machine.proofs.closing.all_wait.Goals as goal

pub returns-then-not-waits : goal.returns-then-not-waits
returns-then-not-waits c =
    let inside : c.loop-i.i < length c.args.procs.now = omega arith in
    sym (c.loop-i.invariant ∙ waits_not c.args.readers.now.reads c.args.procs.now c.loop-i.i inside (search rules))

pub loop-i-preserved : goal.loop-i-preserved
loop-i-preserved c =
    let inside : c.loop-i.i < length c.args.procs.now = omega arith in
    c.loop-i.invariant ∙ waits_on c.args.readers.now.reads c.args.procs.now c.loop-i.i inside (search rules)

pub returns : goal.returns
returns c =
    let past : length c.args.procs.now ≤ c.loop-i.i = omega arith in
    sym (c.loop-i.invariant ∙ waits_end c.args.readers.now.reads c.args.procs.now c.loop-i.i (c.loop-i.i + 1) past)
