use Rattle.std.proofs.Common.{length, map, drop, sym, ◌∙◌}
use Rattle.case_lines.proofs.Gaps.{at_gap, at_line}
use Rattle.case_lines.proofs.wanted.behind_first.Goals as goal

pub returns-then-is_any : goal.returns-then-is_any
returns-then-is_any c =
    at_gap c.args.way c.args.wanted.now c.in-Some.one.now c.in-Some.rest.now (map (λ l. l.now) (drop c.args.at c.args.lines.now))
    (λ k. map (λ l. l.now) (drop k c.args.lines.now)) (length c.args.lines.now) c.behind_gap.result c.in-Some.ensures.cases.0
    (sym c.is_any.ensures ∙ c.if-is_any.true) c.behind_gap.ensures

pub returns-else-is_any : goal.returns-else-is_any
returns-else-is_any c = (
  c.requires,
  at_line c.args.way c.args.wanted.now c.in-Some.one.now c.in-Some.rest.now (map (λ l. l.now) (drop c.args.at c.args.lines.now))
      c.in-Some.ensures.cases.0 (sym c.is_any.ensures ∙ c.if-is_any.false),
)
