use Rattle.std.proofs.Common.{sym, ap, ◌∙◌, append-nil, None}
use Rattle.rtrb.specs.Ring.{sent}
use Rattle.con_pipe.specs.Pieces.{pieces, is_ended, is_proper}
use Rattle.con_pipe.proofs.Lists.{pieces-append, ended-end, proper-push}
use Rattle.con_pipe.proofs.put.PipeIn.end.Goals as goal

pub invariant_of-self : goal.invariant_of-self
invariant_of-self g c =
    let old = sent c.args.self.now.producer in
    record { ends = (sym (ap is_ended c.put_last.ensures.sent ∙ ended-end old), ap is_proper c.put_last.ensures.sent ∙ proper-push old None (sym c.args.self.now.ends.0 ∙ c.requires)) }

pub returns-clause-put : goal.returns-clause-put
returns-clause-put g c =
    let old = sent c.args.self.now.producer in
    ap pieces c.put_last.ensures.sent ∙ (pieces-append old _ ∙ append-nil (pieces old))
