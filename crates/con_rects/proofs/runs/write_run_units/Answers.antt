use Rattle.std.proofs.Common.{rules, arith, ◌≡◌, ◌≤◌, ◌∙◌, length}
use Rattle.con_rects.specs.Runs.{run_count}
use Rattle.con_rects.proofs.RunLemmas.{units_written_is}
use Rattle.con_rects.proofs.runs.write_run_units.Goals as goal

pub returns-clause-done : goal.returns-clause-done
returns-clause-done c =
    let count : c.min-count.result ≡ run_count c.args.grid.now c.args.from (length c.args.units.now) = search rules in
    let few : run_count c.args.grid.now c.args.from (length c.args.units.now) ≤ 16384 = omega (arith, count, c.if-count-gt16384.false) in
    (few, count, c.write_units.ensures.grid ∙ units_written_is c.args.grid.now c.args.from c.args.units.now c.start_of-at.result c.min-count.result c.start_of-at.ensures count)
