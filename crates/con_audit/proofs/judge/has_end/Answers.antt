-- A Paint ends, and nothing else does.
use Rattle.std.proofs.Common.{refl}
use Rattle.con_audit.proofs.Behind.{ends_free}
use Rattle.con_audit.proofs.judge.has_end.Goals as goal

pub returns-in-Paint : goal.returns-in-Paint
returns-in-Paint c = rw c.in-Paint.is c.has_end.ensures

pub returns-in_default : goal.returns-in_default
returns-in_default c = ((λ y. ends_free c.args.stream.now c.args.watch.now c.args.event.now c.in_default.not-Paint), (λ y. refl))
