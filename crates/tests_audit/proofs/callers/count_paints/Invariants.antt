-- Those so far, and those to come.
use Rattle.std.proofs.Common.{◌≡◌, ◌+◌, ◌≤◌, drop}
use Rattle.con_machine.specs.Turns.{paints}
use Rattle.tests_audit.proofs.callers.count_paints.Given as goal

abbrev pub invariant-loop-entry : goal.invariant-loop-entry
invariant-loop-entry l = (l.count + paints (drop l.entry-index l.entries) ≡ paints l.fn.entries) × (l.count ≤ l.entry-index)
