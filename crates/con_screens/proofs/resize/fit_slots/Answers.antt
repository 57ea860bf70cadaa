use Rattle.std.proofs.Common.{arith, ◌+◌, List, Option, length, ap, ◌∙◌}
use Rattle.std.proofs.lemmas.List.{length_push}
use Rattle.con_screens.specs.declared.fits.BufferFit.{BufferFit}
use Rattle.con_screens.proofs.ResizeLemmas.{fits_more, fits_all}
use Rattle.con_screens.proofs.resize.fit_slots.Goals as goal

pub loop-at-preserved : goal.loop-at-preserved
loop-at-preserved c = (
  ap (λ (l : List (Option BufferFit)). length l) c.push_reserved.ensures.items ∙ length_push c.loop-at.fits.items c.in_ok-fit_slot.field-0 ∙ ap (λ n. n + 1) c.loop-at.invariant.0,
  omega (arith, c.loop-at.invariant.1, c.push_reserved.ensures.capacity),
  fits_more c.args.window c.args.slots.now c.loop-at.fits.items c.push_reserved.new.self.items c.loop-at.at c.index-slots-at.result c.in_ok-fit_slot.field-0 c.loop-at.invariant.0 c.loop-at-test.true
      c.loop-at.invariant.2 c.index-slots-at.is c.in_ok-fit_slot.ensures c.push_reserved.ensures.items,
)

pub returns-clause-each : goal.returns-clause-each
returns-clause-each c = fits_all c.args.window c.args.slots.now c.loop-at.fits.items c.loop-at.at c.loop-at.invariant.0 c.loop-at-test.false c.loop-at.invariant.2
