use Rattle.std.proofs.Common.{◌≡◌, ◌+◌, ◌<◌, true, length, ℕ}
use Rattle.std.specs.Prelude.{get_or}
use Rattle.std.specs.Vec.Iter.{into_iter_items, into_iter_len}
use Rattle.con_book.specs.Passes.{pass_id, view_of, made}
use Rattle.tests_book.proofs.sixteen.dismissed.Given as goal

abbrev pub invariant-loop-member : goal.invariant-loop-member
invariant-loop-member l = record {
  book : pass_id l.opening ≡ pass_id l.initial.opening;
  opens : (view_of l.opening).opens ≡ true;
  counted : length (view_of l.opening).kept + into_iter_len l.member-iterator ≡ length (made l.opening);
  rest : (k : ℕ) (d : _) → k < into_iter_len l.member-iterator → pass_id (get_or (into_iter_items l.member-iterator) k d).pass ≡ pass_id l.initial.opening;
}
