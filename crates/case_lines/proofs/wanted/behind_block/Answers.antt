use Rattle.std.proofs.Common.{◌≡◌, refl, map, take, length, ◌≤◌, ◌-◌, arith, drop, true, length-drop, take_all, subst}
use Rattle.std.proofs.lemmas.List.{length-map}
use Rattle.std.specs.Prelude.{string_bytes}
use Rattle.case_lines.specs.Wanted.{begins_with}
use Rattle.case_lines.proofs.Gaps.{begins_few}
use Rattle.case_lines.proofs.wanted.behind_block.Goals as goal

pub returns-in-None : goal.returns-in-None
returns-in-None c =
    let all : take (length c.args.lines.now - c.args.from) (drop c.args.from c.args.lines.now) ≡ drop c.args.from c.args.lines.now =
    take_all (length c.args.lines.now - c.args.from) (drop c.args.from c.args.lines.now) (omega (arith, length-drop c.args.from c.args.lines.now)) in
    let stands : begins_with c.args.way (map (λ w. string_bytes w.text) c.args.block.now) (map (λ l. l.now) (drop c.args.from c.args.lines.now)) ≡ true =
    subst (λ ls. begins_with c.args.way (map (λ w. string_bytes w.text) c.args.block.now) (map (λ l. l.now) ls) ≡ true) all c.in-None.ensures in
    let few : length c.args.block.now ≤ length (drop c.args.from c.args.lines.now) = omega (
      arith,
      begins_few c.args.way (map (λ w. string_bytes w.text) c.args.block.now) (map (λ l. l.now) (drop c.args.from c.args.lines.now)) stands,
      length-map c.args.block.now (λ w. string_bytes w.text),
      length-map (drop c.args.from c.args.lines.now) (λ l. l.now),
    ) in
    (refl, omega (arith, few, c.requires, length-drop c.args.from c.args.lines.now), stands)
