-- Nothing, or a run in the cursor's row.
use Rattle.std.proofs.Common.{ap, sym, ◌∙◌, arith}
use Rattle.con_page.specs.Page.{Page}
use Rattle.con_page.proofs.RunLemmas.{none_printed, printed_so, lines_so}
use Rattle.con_page.proofs.page.Page.print_any.Goals as goal

pub returns-then-n-eq0-clause-effect : goal.returns-then-n-eq0-clause-effect
returns-then-n-eq0-clause-effect c = none_printed _

pub returns-then-self-clause-effect : goal.returns-then-self-clause-effect
returns-then-self-clause-effect c =
    let n = c.printed_front-n in
    lines_so c.args.self.now _ c.args.units.now n.result n.ensures.count (c.run_room.ensures n.result (omega (arith, c.if-n-eq0.false)) (omega (arith, n.ensures.limit, c.min.ensures)))
    (ap (λ (q : Page). q.drawing) (sym c.self.view_is) ∙ c.if-self.true) c.write_lines.ensures.effect

pub returns-clause-effect : goal.returns-clause-effect
returns-clause-effect c =
    let n = c.printed_front-n in
    printed_so c.args.self.now _ c.args.units.now n.result n.ensures.count (c.run_room.ensures n.result (omega (arith, c.if-n-eq0.false)) (omega (arith, n.ensures.limit, c.min.ensures)))
    (ap (λ (q : Page). q.drawing) (sym c.self.view_is) ∙ c.if-self.false) c.write_any.ensures.effect
