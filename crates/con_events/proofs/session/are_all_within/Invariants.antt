use Rattle.std.proofs.Common.{◌≡◌, drop}
use Rattle.con_events.specs.Words.Session.{all_scripts}
use Rattle.con_events.proofs.session.are_all_within.Given as goal

abbrev pub invariant-loop-script : goal.invariant-loop-script
invariant-loop-script l = all_scripts (drop l.script-index l.scripts) ≡ all_scripts l.scripts
