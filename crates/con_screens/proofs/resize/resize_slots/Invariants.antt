use Rattle.con_screens.proofs.ResizeLemmas.{ResizedSo}
use Rattle.con_screens.proofs.resize.resize_slots.Given as goal

abbrev pub invariant-loop-at : goal.invariant-loop-at
invariant-loop-at l = ResizedSo l.window l.fn.slots.items l.fn.fits.items l.at l.slots.items l.fits.items
