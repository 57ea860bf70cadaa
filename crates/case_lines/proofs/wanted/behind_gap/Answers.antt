use Rattle.case_lines.proofs.Gaps.{behind_last, behind_first_place, behind_none}
use Rattle.case_lines.proofs.wanted.behind_gap.Goals as goal

pub returns-then-block-rest : goal.returns-then-block-rest
returns-then-block-rest c =
    behind_last (λ l. l.now) c.args.way c.args.rest.now c.block-block.result.now c.args.lines.now c.args.at c.last_place-from.result c.behind_block.result
    c.block-block.ensures c.if-block-rest.true c.requires c.last_place-from.ensures c.behind_block.ensures

pub returns-in-Some : goal.returns-in-Some
returns-in-Some c =
    behind_first_place (λ l. l.now) c.args.way c.args.rest.now c.block-block.result.now c.args.lines.now c.args.at c.in-Some.from
    c.behind_block-in-Some.result c.block-block.ensures c.if-block-rest.false c.requires c.in-Some.ensures.0 c.in-Some.ensures.1 c.in-Some.ensures.2
    c.in-Some.ensures.3 c.behind_block-in-Some.ensures

pub returns-in-None : goal.returns-in-None
returns-in-None c =
    behind_none (λ l. l.now) c.args.way c.args.rest.now c.block-block.result.now c.args.lines.now c.args.at c.block-block.ensures c.requires
    c.in-None.ensures
