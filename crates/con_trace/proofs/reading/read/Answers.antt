use Rattle.std.proofs.Common.{◌≡◌, sym, subst, ap, ◌∙◌}
use Rattle.con_trace.specs.Report.{IsHistory, history_of, report_of, IsWrongAt}
use Rattle.con_trace.specs.Cut.{Gathers, with_said, IsLineRead}
use Rattle.con_trace.proofs.Gather.{gathers_none, gathers_more, cut_shortens, is_room, whole_history, whole_text, uncut_at, neither_at, surplus_at, nil_of, some_of}
use Rattle.con_trace.proofs.reading.read.Goals as goal

pub report-init : goal.report-init
report-init c = subst (λ h. Gathers c.args.bytes.now c.args.bytes.now h 0) (sym c.new-lines.ensures) (gathers_none c.args.bytes.now)

pub one_more-next-requires : goal.one_more-next-requires
one_more-next-requires c = is_room c.args.bytes.now c.report.rest.now c.in-Some.line.now c.in-Some.behind.now c.report.lines c.report.count c.report.invariant (sym c.in-Some.ensures)

pub report-smaller : goal.report-smaller
report-smaller c = cut_shortens c.report.rest.now c.in-Some.line.now c.in-Some.behind.now (sym c.in-Some.ensures)

pub report-preserved : goal.report-preserved
report-preserved c =
    let e = subst (λ r. IsLineRead r c.in-Some.line.now) c.in-Ok-Event.field-0-is c.in-Ok-Event.ensures in
    let more = gathers_more c.args.bytes.now c.report.rest.now c.in-Some.line.now c.in-Some.behind.now c.report.lines c.report.count c.in-Ok-Event.said c.report.invariant (sym c.in-Some.ensures) e.0 e.1 in
    subst (λ h. Gathers c.args.bytes.now c.in-Some.behind.now h c.one_more-next.result) (sym c.in-Ok.ensures)
    (subst (λ k. Gathers c.args.bytes.now c.in-Some.behind.now (with_said c.report.lines c.in-Ok-Event.said) k) (sym c.one_more-next.ensures) more)

pub returns-then-is_empty-clause-report : goal.returns-then-is_empty-clause-report
returns-then-is_empty-clause-report c =
    let e = subst (λ r. IsLineRead r c.in-Some.line.now) c.in-Ok-End.field-0-is c.in-Ok-End.ensures in
    let g = c.report.invariant in
    let cut = sym c.in-Some.ensures in
    let same : history_of c.trace.result ≡ c.report.lines = λ i. record { entries = c.trace.ensures.entries i; replies = c.trace.ensures.replies i; ends = c.trace.ensures.ends i } in
    let text = whole_text c.args.bytes.now c.report.rest.now c.in-Some.line.now c.in-Some.behind.now c.report.lines c.report.count e.0 g cut e.3 (nil_of c.in-Some.behind.now (sym c.is_empty.ensures ∙ c.if-is_empty.true)) in
    (e.0, e.1, e.2 ∙ sym c.trace.ensures.status, subst IsHistory (sym same) (whole_history c.args.bytes.now c.report.rest.now c.report.lines c.report.count g), text ∙ ap (λ h. report_of h e.0) (sym same))

pub returns-else-is_empty-clause-fault : goal.returns-else-is_empty-clause-fault
returns-else-is_empty-clause-fault c =
    let e = subst (λ r. IsLineRead r c.in-Some.line.now) c.in-Ok-End.field-0-is c.in-Ok-End.ensures in
    subst (λ k. IsWrongAt k c.args.bytes.now) (sym c.one_more-next.ensures)
    (surplus_at c.args.bytes.now c.report.rest.now c.in-Some.line.now c.in-Some.behind.now c.report.lines c.report.count e.0 c.report.invariant (sym c.in-Some.ensures) e.1 e.3 (some_of c.in-Some.behind.now (sym c.is_empty.ensures ∙ c.if-is_empty.false)))

pub returns-in-Ok-Neither-clause-fault : goal.returns-in-Ok-Neither-clause-fault
returns-in-Ok-Neither-clause-fault c = neither_at c.args.bytes.now c.report.rest.now c.in-Some.line.now c.in-Some.behind.now c.report.lines c.report.count c.report.invariant (sym c.in-Some.ensures) (subst (λ r. IsLineRead r c.in-Some.line.now) c.in-Ok-Neither.field-0-is c.in-Ok-Neither.ensures)

pub returns-in-None-clause-fault : goal.returns-in-None-clause-fault
returns-in-None-clause-fault c = uncut_at c.args.bytes.now c.report.rest.now c.report.lines c.report.count c.report.invariant (sym c.in-None.ensures)
