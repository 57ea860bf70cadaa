-- Some more units.
use Rattle.std.proofs.Common.{◌+◌, ◌-◌, drop, take, ◌≤◌, length, arith, ap, ◌∙◌}
use Rattle.std.proofs.lemmas.List.{length-drop, length-take}
use Rattle.con_screen.specs.Screen.{Screen}
use Rattle.con_screen.proofs.WriteLemmas.{stands_first, switches-front}
use Rattle.con_page.specs.Sides.{sides}
use Rattle.con_screen.proofs.SidesLemmas.{written_sides}
use Rattle.con_screen.proofs.RunLemmas.{stands_some}
use Rattle.con_screen.proofs.screen.Screen.write.Goals as goal

pub loop-at-init : goal.loop-at-init
loop-at-init c = (rw c.self.view_is (stands_first c.args.self.now c.args.answers.now c.args.units.now), (omega arith), rw (ap (λ (s : Screen). s.page) c.self.view_is) c.requires.page)

pub returns-then-switched-clause-screen : goal.returns-then-switched-clause-screen
returns-then-switched-clause-screen c = let le : c.loop-at.at + c.write_some-n.result.0 ≤ length c.args.units.now = omega (arith, c.loop-at-test.true, c.write_some-n.ensures.inside, length-take (length c.args.units.now - c.loop-at.at) (drop c.loop-at.at c.args.units.now), length-drop c.loop-at.at c.args.units.now) in
    (stands_some c.args.self.now c.args.answers.now c.args.units.now c.loop-at.at c.write_some-n.result.0 _ c.write_some-n.new.page c.write_some-n.new.text.tail c.loop-at.answers _ _ le c.loop-at.invariant.0 c.write_some-n.ensures.done).screen

pub returns-then-switched-clause-told : goal.returns-then-switched-clause-told
returns-then-switched-clause-told c = let le : c.loop-at.at + c.write_some-n.result.0 ≤ length c.args.units.now = omega (arith, c.loop-at-test.true, c.write_some-n.ensures.inside, length-take (length c.args.units.now - c.loop-at.at) (drop c.loop-at.at c.args.units.now), length-drop c.loop-at.at c.args.units.now) in
    (stands_some c.args.self.now c.args.answers.now c.args.units.now c.loop-at.at c.write_some-n.result.0 _ c.write_some-n.new.page c.write_some-n.new.text.tail c.loop-at.answers _ _ le c.loop-at.invariant.0 c.write_some-n.ensures.done).told

pub returns-then-switched-clause-stops : goal.returns-then-switched-clause-stops
returns-then-switched-clause-stops c = let le : c.loop-at.at + c.write_some-n.result.0 ≤ length c.args.units.now = omega (arith, c.loop-at-test.true, c.write_some-n.ensures.inside, length-take (length c.args.units.now - c.loop-at.at) (drop c.loop-at.at c.args.units.now), length-drop c.loop-at.at c.args.units.now) in λ _.
    (stands_some c.args.self.now c.args.answers.now c.args.units.now c.loop-at.at c.write_some-n.result.0 _ c.write_some-n.new.page c.write_some-n.new.text.tail c.loop-at.answers _ _ le c.loop-at.invariant.0 c.write_some-n.ensures.done).switch ∙ c.if-switched.true

pub loop-at-preserved : goal.loop-at-preserved
loop-at-preserved c = let le : c.loop-at.at + c.write_some-n.result.0 ≤ length c.args.units.now = omega (arith, c.loop-at-test.true, c.write_some-n.ensures.inside, length-take (length c.args.units.now - c.loop-at.at) (drop c.loop-at.at c.args.units.now), length-drop c.loop-at.at c.args.units.now) in
    let m = stands_some c.args.self.now c.args.answers.now c.args.units.now c.loop-at.at c.write_some-n.result.0 _ c.write_some-n.new.page c.write_some-n.new.text.tail c.loop-at.answers _ _ le c.loop-at.invariant.0 c.write_some-n.ensures.done in
    (record { screen = m.screen; told = m.told; none = m.switch ∙ c.if-switched.false }, le, c.write_some-n.ensures.page)

pub returns-clause-first : goal.returns-clause-first
returns-clause-first c = switches-front c.args.self.now c.args.answers.now.told c.args.units.now c.loop-at.at c.loop-at.invariant.1 c.loop-at.invariant.0.none

pub returns-then-switched-clause-sides : goal.returns-then-switched-clause-sides
returns-then-switched-clause-sides c = ap (λ (s : Screen). sides s.page) (returns-then-switched-clause-screen c) ∙ written_sides c.args.self.now c.args.answers.now.told (take (c.loop-at.at + c.write_some-n.result.0) c.args.units.now)

pub returns-clause-sides : goal.returns-clause-sides
returns-clause-sides c = ap (λ (s : Screen). sides s.page) c.loop-at.invariant.0.screen ∙ written_sides c.args.self.now c.args.answers.now.told (take c.loop-at.at c.args.units.now)
