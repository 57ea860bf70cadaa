-- The units so far and one more.
use Rattle.std.proofs.Common.{ap, sym, ◌∙◌, rules}
use Rattle.con_vtgram.specs.State.{item_of}
use Rattle.con_vtgram.specs.Reads.{Reader}
use Rattle.con_vtgram.proofs.RunLemmas.{tail-longer, holds-longer, keeps-longer}
use Rattle.con_vtgram.proofs.SpokenLemmas.{next_tail, next_items}
use Rattle.con_vtgram.proofs.splitter.Splitter.advance.Goals as goal

pub invariant_of-self : goal.invariant_of-self
invariant_of-self c = record {
  holds = holds-longer _ _ c.self.inside.past c.push.new.self c.args.unit c.push.ensures (c.step-step.ensures.gives _ c.self.invariant.holds);
  title = keeps-longer _ _ c.self.inside.past c.push.new.self c.args.unit _ c.push.ensures (c.step-step.ensures.title _ c.self.invariant.holds c.self.invariant.title);
  room = search rules;
  short = c.step-step.ensures.short c.self.invariant.short;
}

pub returns-clause-tail : goal.returns-clause-tail
returns-clause-tail c = tail-longer c.self.inside.past c.push.new.self c.args.self.now.tail c.args.unit c.push.ensures (ap (λ (r : Reader). r.tail) c.self.view_is)

pub returns-clause-rest : goal.returns-clause-rest
returns-clause-rest c = tail-longer c.self.inside.past c.push.new.self c.args.self.now.tail c.args.unit c.push.ensures (ap (λ (r : Reader). r.tail) c.self.view_is) ∙ sym (next_tail c.args.self.now.tail c.args.unit)

pub returns-clause-items : goal.returns-clause-items
returns-clause-items c =
    let e = ap (λ (r : Reader). r.tail) c.self.view_is in
    rw (← e) (c.step-step.ensures.gives _ c.self.invariant.holds).items

pub returns-clause-spoken : goal.returns-clause-spoken
returns-clause-spoken c =
    let e = ap (λ (r : Reader). r.tail) c.self.view_is in
    rw (← e) (next_items (item_of c.step-step.result.found c.args.unit c.step-step.new.sequence.csi) _ _ c.args.unit (c.step-step.ensures.gives _ c.self.invariant.holds).items (c.step-step.ensures.title _ c.self.invariant.holds c.self.invariant.title).says)
