-- What a yes says.
use Rattle.std.proofs.Common.{◌≡◌, subst}
use Rattle.std.specs.Prelude.{Some}
use Rattle.con_audit.specs.Audit.{IsAudited}
use Rattle.con_audit.specs.declared.verdict.Verdict.{Verdict}
use Rattle.con_audit.specs.declared.verdict.Verdict.TheVariants as verdicts
use Rattle.tests_audit.proofs.callers.is_run.Goals as goal

same : (v w : Verdict) → Some v ≡ Some w → v ≡ w
same v w e = cc

pub returns : goal.returns
returns c = λ e. c.yes_is_a_run.ensures _ (subst (IsAudited _) (same c.in_ok-verdict.verdict verdicts.Yes e) c.in_ok-verdict.ensures.audited)
