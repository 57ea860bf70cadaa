use Rattle.std.proofs.Common.{◌≡◌, ℕ, ◌<◌, ◌≤◌, true, false, length, replicate, slice_index_or, vec_capacity}
use Rattle.con_screens.specs.Buffers.{screen_at}
use Rattle.con_screens.specs.Words.Stamps.{IsAsShown}
use Rattle.con_machine.proofs.painting.showing.marks.Given as goal

abbrev pub invariant-loop-y : goal.invariant-loop-y
invariant-loop-y l = record {
  count : length l.room.items ≡ l.y;
  fits : l.h ≤ vec_capacity l.room;
  every : l.all ≡ true → l.room.items ≡ replicate l.y true;
  unmarked : (y : ℕ) → y < l.y → slice_index_or l.room.items y true ≡ false → IsAsShown (screen_at l.screens l.screens.active).page y;
}
