use Rattle.std.proofs.Common.{sym, ◌∙◌}
use Rattle.rtrb.specs.Ring.{received}
use Rattle.con_pipe.proofs.Lists.{took}
use Rattle.con_pipe.proofs.take.PipeOut.take.Goals as goal

pub invariant_of-self : goal.invariant_of-self
invariant_of-self g c =
    let t = took (received c.args.self.now.consumer) (received c.take_first-item.new.consumer) c.take_first-item.result c.is_none-self.result (sym c.args.self.now.ends ∙ c.requires) c.take_first-item.ensures.received c.is_none-self.ensures in
    record { ends = t.0 }

pub returns-clause-piece : goal.returns-clause-piece
returns-clause-piece g c =
    let t = took (received c.args.self.now.consumer) (received c.take_first-item.new.consumer) c.take_first-item.result c.is_none-self.result (sym c.args.self.now.ends ∙ c.requires) c.take_first-item.ensures.received c.is_none-self.ensures in
    t.1

pub returns-clause-end : goal.returns-clause-end
returns-clause-end g c =
    let t = took (received c.args.self.now.consumer) (received c.take_first-item.new.consumer) c.take_first-item.result c.is_none-self.result (sym c.args.self.now.ends ∙ c.requires) c.take_first-item.ensures.received c.is_none-self.ensures in
    t.2
