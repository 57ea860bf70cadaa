-- The frames are the link's.
use Rattle.con_audit.proofs.auditing.audit.Goals as goal

pub returns : goal.returns
returns c = record { audited = c.verdict_on.ensures c.args.link.now (rw c.as_slice-frames.ensures.value c.in_ok-frames.ensures) }
