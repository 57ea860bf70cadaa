use Rattle.std.proofs.Common.{rules, ◌≡◌, ◌<◌, ◌≤◌, None, Option, length, get_or, sym, ap, subst, ◌∙◌, refl}
use Rattle.con_screens.specs.Slot.{HasPages}
use Rattle.con_screens.specs.Words.Resize.{IsSlotFit}
use Rattle.con_screens.specs.declared.buffer.Buffer.{Buffer}
use Rattle.con_screens.specs.declared.fits.BufferFit.{BufferFit}
use Rattle.con_screens.proofs.ResizeLemmas.{resized_first, resized_more, resized_all, resized_pages, slot_taken, fit_taken}
use Rattle.con_screens.proofs.resize.resize_slots.Goals as goal

pub loop-at-init : goal.loop-at-init
loop-at-init c = resized_first c.args.window c.args.slots.now.items c.args.fits.now.items c.requires.count

pub resize_slot-requires : goal.resize_slot-requires
resize_slot-requires c =
    let within : c.loop-at.at < length c.args.slots.now.items = search (rules, c.loop-at-test.true, c.len-count.ensures) in
    let slots = c.args.slots.now.items in
    let fits = c.args.fits.now.items in
    let was : get_or slots c.loop-at.at None ≡ c.index_mut-in-loop-at.result.now = slot_taken c.args.window slots fits c.loop-at.at c.loop-at.slots.items c.loop-at.fits.items c.index_mut-in-loop-at.result.now c.loop-at.invariant within c.index_mut-in-loop-at.ensures.value in
    let fit : get_or fits c.loop-at.at None ≡ c.replace-fit.result = fit_taken c.args.window slots fits c.loop-at.at c.loop-at.slots.items c.loop-at.fits.items c.index_mut.result.now c.loop-at.invariant within c.index_mut.ensures.value ∙ sym c.replace-fit.ensures.value in
    record {
      pages = subst (λ (o : Option Buffer). HasPages o) was (c.requires.pages c.loop-at.at);
      fit = subst (λ (f : Option BufferFit). IsSlotFit c.args.window c.index_mut-in-loop-at.result.now f) fit (subst (λ (o : Option Buffer). IsSlotFit c.args.window o (get_or fits c.loop-at.at None)) was (c.requires.each c.loop-at.at));
    }

pub loop-at-preserved : goal.loop-at-preserved
loop-at-preserved c =
    let within : c.loop-at.at < length c.args.slots.now.items = search (rules, c.loop-at-test.true, c.len-count.ensures) in
    resized_more c.args.window c.args.slots.now.items c.args.fits.now.items c.loop-at.at c.loop-at.slots.items _ c.loop-at.fits.items _ c.index_mut-in-loop-at.result.now c.resize_slot.new.slot c.loop-at.invariant within
    c.index_mut-in-loop-at.ensures.value c.resize_slot.ensures.slot c.resize_slot.ensures.pages refl (ap (λ (f : Option BufferFit). Rattle.std.proofs.Common.set c.loop-at.fits.items c.loop-at.at f) c.replace-fit.ensures.after)

pub returns-clause-slots : goal.returns-clause-slots
returns-clause-slots c =
    let end : length c.args.slots.now.items ≤ c.loop-at.at = search (rules, c.loop-at-test.false, c.len-count.ensures) in
    resized_all c.args.window c.args.slots.now.items c.args.fits.now.items c.loop-at.at c.loop-at.slots.items c.loop-at.fits.items c.loop-at.invariant end

pub returns-clause-pages : goal.returns-clause-pages
returns-clause-pages c =
    let end : length c.args.slots.now.items ≤ c.loop-at.at = search (rules, c.loop-at-test.false, c.len-count.ensures) in
    resized_pages c.args.window c.args.slots.now.items c.args.fits.now.items c.loop-at.at c.loop-at.slots.items c.loop-at.fits.items c.loop-at.invariant end
