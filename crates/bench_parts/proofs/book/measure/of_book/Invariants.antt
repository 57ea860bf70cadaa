use Rattle.std.proofs.Common.{◌≡◌, ◌<◌, true, All}
use Rattle.con_book.specs.Passes.{pass_id, view_of, made}
use Rattle.bench_parts.proofs.book.measure.of_book.Given as goal

abbrev pub invariant-loop-actor : goal.invariant-loop-actor
invariant-loop-actor g l = (pass_id l.pass ≡ pass_id l.initial.pass) × ((view_of l.pass).opens ≡ true) × All (λ a. a < l.actor) (made l.pass)
