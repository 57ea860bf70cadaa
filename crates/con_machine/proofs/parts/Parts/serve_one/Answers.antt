use Rattle.std.proofs.Common.{◌∙◌}
use Rattle.std.specs.Prelude.{is_some}
use Rattle.con_machine.specs.Pumping.{pumped_of}
use Rattle.con_machine.proofs.Followed.{stepped_is, stepped_goes, stepped_ends, stepped_less, is_more, is_none_more}
use Rattle.con_machine.proofs.parts.Parts.serve_one.Goals as goal

pub returns-clause-goes : goal.returns-clause-goes
returns-clause-goes c = λ h.
    (let is = stepped_is c.args.self.now.state c.pump-step.new.self.state c.follow.new.self.state c.pump-step.result c.pump-step.ensures.state c.follow.ensures.state c.pump-step.ensures.tells c.pump-step.ensures.told in
    stepped_goes c.args.self.now.state c.follow.new.self.state is c.pump-step.ensures.settles (is_more c.is_idle.result (is_some (pumped_of c.args.self.now.state).act) (c.is_idle.ensures ∙ c.pump-step.ensures.idle) h))

pub returns-clause-ends : goal.returns-clause-ends
returns-clause-ends c = λ h.
    (let is = stepped_is c.args.self.now.state c.pump-step.new.self.state c.follow.new.self.state c.pump-step.result c.pump-step.ensures.state c.follow.ensures.state c.pump-step.ensures.tells c.pump-step.ensures.told in
    stepped_ends c.args.self.now.state c.follow.new.self.state is c.pump-step.ensures.settles (is_none_more c.is_idle.result (is_some (pumped_of c.args.self.now.state).act) (c.is_idle.ensures ∙ c.pump-step.ensures.idle) h))

pub returns-clause-less : goal.returns-clause-less
returns-clause-less c = λ h.
    (let is = stepped_is c.args.self.now.state c.pump-step.new.self.state c.follow.new.self.state c.pump-step.result c.pump-step.ensures.state c.follow.ensures.state c.pump-step.ensures.tells c.pump-step.ensures.told in
    stepped_less c.args.self.now.state c.follow.new.self.state is c.pump-step.ensures.less (is_more c.is_idle.result (is_some (pumped_of c.args.self.now.state).act) (c.is_idle.ensures ∙ c.pump-step.ensures.idle) h))
