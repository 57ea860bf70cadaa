use Rattle.std.proofs.Common.{sym, ap, ◌∙◌, Some}
use Rattle.rtrb.specs.Ring.{sent}
use Rattle.con_pipe.specs.Pieces.{pieces, is_ended, is_proper}
use Rattle.con_pipe.proofs.Lists.{pieces-append, ended-push, proper-push}
use Rattle.con_pipe.proofs.put.PipeIn.push.Goals as goal

pub invariant_of-self : goal.invariant_of-self
invariant_of-self g c =
    let old = sent c.args.self.now.producer in
    let ends = c.args.self.now.ends in
    record { ends = (ends.0 ∙ (sym (ended-push old c.args.piece) ∙ ap is_ended (sym c.put_last.ensures.sent)), ap is_proper c.put_last.ensures.sent ∙ proper-push old (Some c.args.piece) (sym ends.0 ∙ c.requires)) }

pub returns-clause-put : goal.returns-clause-put
returns-clause-put g c = ap pieces c.put_last.ensures.sent ∙ pieces-append (sent c.args.self.now.producer) _
