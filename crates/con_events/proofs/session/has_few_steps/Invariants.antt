use Rattle.std.proofs.Common.{◌≡◌, drop}
use Rattle.std.specs.Prelude.{nat_le}
use Rattle.con_events.specs.Words.Session.{step_count}
use Rattle.con_events.proofs.session.has_few_steps.Given as goal

abbrev pub invariant-loop-script : goal.invariant-loop-script
invariant-loop-script l = nat_le (step_count (drop l.script-index l.scripts)) l.left ≡ nat_le (step_count l.scripts) l.most
