use Rattle.std.proofs.Common.{◌≡◌, ◌++◌, map, Some}
use Rattle.con_actors.proofs.hands.filled.Given as goal

abbrev pub invariant-loop-handler : goal.invariant-loop-handler
invariant-loop-handler g l = l.slots.items ++ map Some l.handler-iterator.rest.items ≡ map Some l.fn.rack.items
