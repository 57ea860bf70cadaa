use Rattle.std.proofs.Common.{◌∙◌, sym, ap, subst, length}
use Rattle.con_machine.specs.Turns.{paints}
use Rattle.con_trace.specs.Report.{IsReport}
use Rattle.con_trace.specs.declared.trace.Trace.{Trace}
use Rattle.con_inspect.proofs.judging.audited.Goals as goal

pub audit-verdict-requires-clause-ends : goal.audit-verdict-requires-clause-ends
audit-verdict-requires-clause-ends c =
    let report = subst (λ (t : Trace). IsReport c.args.contents.now.report t) (sym c.trace.view_is) c.requires.report in
    ap length c.as_slice-6.ensures.value ∙ (report.3.shown ∙ ap paints (sym c.as_slice-4.ensures.value))
