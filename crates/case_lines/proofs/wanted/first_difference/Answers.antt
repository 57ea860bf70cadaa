use Rattle.std.proofs.Common.{◌≡◌, ◌<◌, ◌≤◌, length, map, drop, length-drop, arith}
use Rattle.std.proofs.lemmas.List.{length-map}
use Rattle.case_lines.proofs.Gaps.{starts_other, starts_as, one_on, none_left}
use Rattle.case_lines.proofs.wanted.first_difference.Goals as goal

pub returns-in-Err : goal.returns-in-Err
returns-in-Err c = starts_other (λ l. l.now) c.args.way c.args.wanted.now c.block.result.now c.args.lines.now c.block.ensures c.in-Err.ensures

pub loop-number-init : goal.loop-number-init
loop-number-init c = (
  c.in-Ok.ensures.1,
  starts_as (λ l. l.now) c.args.way c.args.wanted.now c.block.result.now c.args.lines.now c.in-Ok.behind c.block.ensures c.in-Ok.ensures.0 c.in-Ok.ensures.2,
)

pub loop-number-preserved : goal.loop-number-preserved
loop-number-preserved c = (
  c.in-Ok-behind_first.ensures.0,
  one_on c.args.way c.args.wanted.now (map (λ l. l.now) c.args.lines.now) (map (λ l. l.now) (drop c.loop-number.at c.args.lines.now))
      (map (λ l. l.now) (drop c.in-Ok-behind_first.behind c.args.lines.now)) c.loop-number.number c.loop-number.invariant.1
      c.in-Ok-behind_first.ensures.1,
)

pub returns-then-at-lines : goal.returns-then-at-lines
returns-then-at-lines c t =
    let none : length (map (λ l. l.now) (drop c.loop-number.at c.args.lines.now)) ≡ 0 =
    (none_left c.args.way c.args.wanted.now (map (λ l. l.now) c.args.lines.now) (map (λ l. l.now) (drop c.loop-number.at c.args.lines.now))
    c.loop-number.number c.loop-number-test.false c.loop-number.invariant.1).0 t in
    let some : c.loop-number.at < length c.args.lines.now = c.if-at-lines.true in
    absurd (omega (arith, none, some, length-map (drop c.loop-number.at c.args.lines.now) (λ l. l.now), length-drop c.loop-number.at c.args.lines.now))

pub returns-else-at-lines : goal.returns-else-at-lines
returns-else-at-lines c =
    let all : length c.args.lines.now ≤ c.loop-number.at = c.if-at-lines.false in
    let none : length (map (λ l. l.now) (drop c.loop-number.at c.args.lines.now)) ≡ 0 =
    omega (arith, all, length-map (drop c.loop-number.at c.args.lines.now) (λ l. l.now), length-drop c.loop-number.at c.args.lines.now) in
    (none_left c.args.way c.args.wanted.now (map (λ l. l.now) c.args.lines.now) (map (λ l. l.now) (drop c.loop-number.at c.args.lines.now))
    c.loop-number.number c.loop-number-test.false c.loop-number.invariant.1).1 none
