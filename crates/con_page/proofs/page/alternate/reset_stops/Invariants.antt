use Rattle.std.proofs.Common.{◌≡◌, ℕ, ◌<◌, length, get_or, false}
use Rattle.con_page.proofs.AlternateLemmas.{is_stop}
use Rattle.con_page.proofs.page.alternate.reset_stops.Given as goal

abbrev pub invariant-loop-at : goal.invariant-loop-at
invariant-loop-at l = (length l.tabs.items ≡ l.count) × ((k : ℕ) → k < l.at → get_or l.tabs.items k false ≡ is_stop k)
