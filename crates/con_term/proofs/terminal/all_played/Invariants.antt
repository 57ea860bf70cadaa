-- The bytes so far.
use Rattle.std.proofs.Common.{◌≡◌, ◌≤◌, ◌-◌, take, length}
use Rattle.con_term.specs.Inside.{parts}
use Rattle.con_term.specs.Play.{play}
use Rattle.con_term.proofs.terminal.all_played.Given as goal

abbrev pub invariant-loop-at : goal.invariant-loop-at
invariant-loop-at l = (l.at ≤ length l.input) × (parts l.bytes l.page l.units ≡ play (parts l.fn.bytes l.fn.page l.fn.units) (take l.at l.input))

abbrev pub decreases-loop-at : goal.decreases-loop-at
decreases-loop-at l = length l.input - l.at
