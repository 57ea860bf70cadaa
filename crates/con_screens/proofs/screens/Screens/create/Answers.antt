use Rattle.std.proofs.Common.{rules, ◌≡◌, ◌<◌, length, Some, set, sym, subst, ◌∙◌, ap, ◌+◌}
use Rattle.std.proofs.Common.{None}
use Rattle.std.proofs.lemmas.List.{get_or-set_same}
use Rattle.con_screens.specs.Buffer.{new_buffer}
use Rattle.con_screens.specs.Buffers.{Buffers}
use Rattle.con_screens.specs.Words.Buffers.{AreBuffers}
use Rattle.con_screens.specs.Views.{buffers_of}
use Rattle.con_screens.specs.declared.buffer.Buffer.{Buffer}
use Rattle.con_screens.proofs.KeepLemmas.{keeps_created}
use Rattle.con_screens.proofs.screens.Screens.create.Goals as goal

pub returns-in-Some-clause-kept : goal.returns-in-Some-clause-kept
returns-in-Some-clause-kept c =
    let s : Buffers = buffers_of c.self.inside in
    let are : AreBuffers s = subst (λ (v : Buffers). AreBuffers v) (sym c.self.view_is) c.requires.buffers in
    let within : c.in-Some.at < length s.slots = search (rules, c.in-Some.ensures.inside, c.as_slice.ensures.value) in
    let new : c.into_buffer.result ≡ new_buffer s.w s.h 1 s.births = c.into_buffer.ensures ∙ c.requires.room.buffer ∙ sym (ap (λ (v : Buffers). new_buffer v.w v.h 1 v.births) c.self.view_is) in
    subst (λ (b : Buffer). AreBuffers (record s { slots = set s.slots c.in-Some.at (Some b); births = s.births + 1 })) (sym new) (keeps_created s c.in-Some.at are within)

pub returns-in-Some-clause-fresh : goal.returns-in-Some-clause-fresh
returns-in-Some-clause-fresh c =
    let s : Buffers = buffers_of c.self.inside in
    let within : c.in-Some.at < length s.slots = search (rules, c.in-Some.ensures.inside, c.as_slice.ensures.value) in
    let new : c.into_buffer.result ≡ new_buffer c.args.self.now.w c.args.self.now.h 1 c.args.self.now.births = c.into_buffer.ensures ∙ c.requires.room.buffer in
    get_or-set_same s.slots c.in-Some.at (Some c.into_buffer.result) None within ∙ ap (λ (b : Buffer). Some b) new
