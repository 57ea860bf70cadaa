use Rattle.std.proofs.Common.{◌≡◌, ◌<◌, ◌+◌, true, [], length, vec_len, All}
use Rattle.con_book.specs.Passes.{pass_id, view_of, made}
use Rattle.tests_book.proofs.sixteen.crew.Given as goal

abbrev pub invariant-loop-actor : goal.invariant-loop-actor
invariant-loop-actor l = record {
  book : pass_id l.opening ≡ pass_id l.initial.opening;
  opens : (view_of l.opening).opens ≡ true;
  kept : (view_of l.opening).kept ≡ [];
  given : length (made l.opening) + 1 ≡ l.actor;
  below : All (λ a. a < l.actor) (made l.opening);
  len : vec_len l.crew + 1 ≡ l.actor;
  members : All (λ m. pass_id m.pass ≡ pass_id l.initial.opening) l.crew.items;
}
