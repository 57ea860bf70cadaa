use Rattle.std.proofs.Common.{◌<◌, ◌≤◌, ℕ, List, Option, None, get_or, sym, subst}
use Rattle.con_units.specs.declared.place.Size.{Size}
use Rattle.con_screens.specs.Buffers.{Buffers, buffer_at}
use Rattle.con_screens.specs.Words.Buffers.{AreBuffers}
use Rattle.con_screens.specs.Slot.{HasPages}
use Rattle.con_screens.specs.Resize.{all_resized}
use Rattle.con_screens.specs.Words.Resize.{Fits}
use Rattle.con_screens.specs.Views.{buffers_of}
use Rattle.con_screens.specs.declared.buffer.Buffer.{Buffer}
use Rattle.con_screens.proofs.ResizeLemmas.{keeps_resized}
use Rattle.con_screens.proofs.screens.Screens.resize_all.Goals as goal

pub returns-clause-kept : goal.returns-clause-kept
returns-clause-kept c =
    let s : Buffers = buffers_of c.self.inside in
    let window : Size = c.fits.inside.window in
    let are : AreBuffers s = subst (λ (v : Buffers). AreBuffers v) (sym c.self.view_is) c.requires.buffers in
    let some : (0 < window.w) × (0 < window.h) = subst (λ (f : Fits). (0 < f.window.w) × (0 < f.window.h)) (sym c.fits.view_is) c.requires.fits.some in
    let few : (window.w ≤ 512) × (window.h ≤ 256) = subst (λ (f : Fits). (f.window.w ≤ 512) × (f.window.h ≤ 256)) (sym c.fits.view_is) c.requires.fits.few in
    let pages : (id : ℕ) → HasPages (buffer_at (all_resized s window) id) = λ id.
    subst (λ (l : List (Option Buffer)). HasPages (get_or l id None)) c.resize_slots.ensures.slots (c.resize_slots.ensures.pages id) in
    subst (λ (l : List (Option Buffer)). AreBuffers (record s { slots = l; w = window.w; h = window.h })) (sym c.resize_slots.ensures.slots) (keeps_resized s window are some few pages)
