-- The records so far.
use Rattle.std.proofs.Common.{◌≡◌, map, take}
use Rattle.con_records.specs.Queue.{appended}
use Rattle.con_machine.specs.ScreenCalls.{reported}
use Rattle.con_machine.proofs.terminal.typing.store_units.Given as goal

abbrev pub invariant-loop-unit : goal.invariant-loop-unit
invariant-loop-unit l = l.records ≡ appended l.fn.records (map reported (take l.unit-index l.units))
