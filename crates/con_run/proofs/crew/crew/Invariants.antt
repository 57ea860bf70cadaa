-- The clients of the seats so far.
use Rattle.std.proofs.Common.{◌≡◌, ◌+◌, ◌≤◌, length, vec_len, vec_capacity}
use Rattle.std.specs.Vec.Iter.{into_iter_items, into_iter_len}
use Rattle.con_book.specs.Passes.{pass_id, view_of}
use Rattle.con_threads.specs.Clients.{seen_of}
use Rattle.con_run.proofs.Crewing.{AreSeated}
use Rattle.con_run.proofs.crew.crew.Given as goal

abbrev pub invariant-loop-seat : goal.invariant-loop-seat
invariant-loop-seat g l = record {
  at : l.at ≡ vec_len l.crew;
  count : vec_len l.crew + into_iter_len l.seat-iterator ≡ length l.scripts;
  room : vec_len l.crew + into_iter_len l.seat-iterator ≤ vec_capacity l.crew;
  seated : AreSeated (seen_of (λ z. (goal.CtrlHandler-dyn g z).memory z.1))
      (λ c. c.seat) (pass_id l.fn.opening) (view_of l.fn.opening).start l.scripts l.fn.seats.items l.opening l.crew.items (into_iter_items l.seat-iterator);
}
