use Rattle.std.proofs.Common.{rules, ◌≡◌, ◌∙◌, ap, replicate}
use Rattle.con_rects.specs.Rules.{redrawn}
use Rattle.con_rects.specs.Runs.{run_count}
use Rattle.con_rects.specs.Parts.{run_rule, with_unit}
use Rattle.con_rects.proofs.RunLemmas.{unit_filled_is}
use Rattle.con_rects.proofs.runs.fill_units.Goals as goal

pub returns-clause-grid : goal.returns-clause-grid
returns-clause-grid c =
    let count : c.min-count.result ≡ run_count c.args.grid.now c.args.from c.args.n = search rules in
    c.fill_unit.ensures.grid ∙ ap (λ i. redrawn c.args.grid.now (run_rule c.args.grid.now i c.min-count.result with_unit (replicate c.min-count.result c.args.unit))) c.start_of-at.ensures
    ∙ unit_filled_is c.args.grid.now c.args.from c.args.n c.args.unit c.min-count.result c.room_from.ensures.picture.wide count
