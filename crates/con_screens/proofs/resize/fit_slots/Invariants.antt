use Rattle.std.proofs.Common.{◌≡◌, ◌≤◌, ◌<◌, ℕ, None, length, get_or, vec_capacity}
use Rattle.con_screens.specs.Words.Resize.{IsSlotFit}
use Rattle.con_screens.proofs.resize.fit_slots.Given as goal

abbrev pub invariant-loop-at : goal.invariant-loop-at
invariant-loop-at l = (length l.fits.items ≡ l.at) × (length l.slots ≤ vec_capacity l.fits) × ((k : ℕ) → k < l.at → IsSlotFit l.window (get_or l.slots k None) (get_or l.fits.items k None))
