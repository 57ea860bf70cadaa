use Rattle.con_book.specs.Passes.{IsSamePass}
use Rattle.tests_book.proofs.two.ticks.Given as goal

abbrev pub invariant-loop : goal.invariant-loop
invariant-loop g l = IsSamePass l.fn.pass l.pass
