use Rattle.std.proofs.Common.{arith, ◌-◌, ◌≤◌, length, take, drop, ap, sym}
use Rattle.std.proofs.lemmas.List.{length-take}
use Rattle.con_screens.specs.Buffer.{BufferStage, written_on}
use Rattle.con_screens.proofs.WriteLemmas.{written_first, written_more, written_all, left_is}
use Rattle.con_screens.proofs.buffer.Buffer.write.Goals as goal

pub loop-at-init : goal.loop-at-init
loop-at-init c = written_first c.args.self.now c.args.answers.now c.args.units.now c.requires.shown c.requires.hidden

pub loop-at-preserved : goal.loop-at-preserved
loop-at-preserved c =
    let w = c.write_some-at in
    let u = c.args.units.now in
    let long : length (take (length u - c.loop-at.at) (drop c.loop-at.at u)) ≤ length u - c.loop-at.at = omega (arith, length-take (length u - c.loop-at.at) (drop c.loop-at.at u)) in
    written_more c.args.self.now c.args.answers.now u c.loop-at.at w.result (length u - c.loop-at.at) c.loop-at.self w.new.self c.loop-at.answers w.new.answers c.loop-at.invariant (omega arith)
    (omega (arith, w.ensures.inside, long)) (omega (arith, c.loop-at.invariant.room, c.loop-at.invariant.inside, c.requires.room)) w.ensures.stage w.ensures.spent w.ensures.shown_page w.ensures.hidden_page w.ensures.kept w.ensures.remembered

pub returns-clause-buffer : goal.returns-clause-buffer
returns-clause-buffer c = sym (ap (λ (s : BufferStage). s.buffer) (written_all c.args.self.now c.args.answers.now c.args.units.now c.loop-at.at c.loop-at.self c.loop-at.answers c.loop-at.invariant c.loop-at-test.false))

pub returns-clause-answers : goal.returns-clause-answers
returns-clause-answers c =
    let all = written_all c.args.self.now c.args.answers.now c.args.units.now c.loop-at.at c.loop-at.self c.loop-at.answers c.loop-at.invariant c.loop-at-test.false in
    left_is c.loop-at.answers (written_on c.args.self.now c.args.answers.now.told c.args.units.now).told c.args.answers.now.room (length c.args.units.now) c.loop-at.at
    (sym (ap (λ (s : BufferStage). s.told) all)) c.loop-at.invariant.room (omega (arith, c.loop-at.invariant.inside, c.loop-at-test.false))

pub returns-clause-kept : goal.returns-clause-kept
returns-clause-kept c = c.loop-at.invariant.kept

pub returns-clause-remembered : goal.returns-clause-remembered
returns-clause-remembered c = c.loop-at.invariant.same
