use Rattle.std.proofs.Common.{sym, ap, ◌∙◌, subst, ℕ, ◌+◌}
use Rattle.con_screens.specs.Buffers.{Buffers}
use Rattle.con_screens.specs.Words.Buffers.{AreBuffers, IsLive, with_handles}
use Rattle.con_screens.specs.Views.{buffers_of}
use Rattle.con_screens.specs.Words.Stamps.{all_remembered}
use Rattle.con_screens.proofs.KeepLemmas.{keeps_put, keeps_number, remembers_put}
use Rattle.con_screens.proofs.screens.Screens.retain_handle.Goals as goal

pub returns-clause-kept : goal.returns-clause-kept
returns-clause-kept c =
    let s : Buffers = buffers_of c.self.inside in
    let are : AreBuffers s = subst (λ (v : Buffers). AreBuffers v) (sym c.self.view_is) c.requires.buffers in
    let live : IsLive s c.args.id.0 = subst (λ (v : Buffers). IsLive v c.args.id.0) (sym c.self.view_is) c.requires.live in
    let k : ℕ = c.handles-handles.result + 1 in
    keeps_put s c.args.id.0 c.index_mut.result.now c.set_handles.new.slot (with_handles k) are live c.index_mut.ensures.value c.set_handles.ensures.slot (keeps_number c.index_mut.result.now c.set_handles.new.slot k c.set_handles.ensures.slot)

pub returns-clause-remembered : goal.returns-clause-remembered
returns-clause-remembered c =
    let s : Buffers = buffers_of c.self.inside in
    let live : IsLive s c.args.id.0 = subst (λ (v : Buffers). IsLive v c.args.id.0) (sym c.self.view_is) c.requires.live in
    remembers_put s c.args.id.0 c.index_mut.result.now c.set_handles.new.slot live c.index_mut.ensures.value c.set_handles.ensures.remembered ∙ ap all_remembered c.self.view_is
