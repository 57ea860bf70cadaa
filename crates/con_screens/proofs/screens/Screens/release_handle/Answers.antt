use Rattle.std.proofs.Common.{◌≡◌, sym, subst, ap, ℕ, ◌-◌}
use Rattle.con_screens.specs.Buffers.{Buffers}
use Rattle.con_screens.specs.Words.Buffers.{AreBuffers, IsLive, with_handles}
use Rattle.con_screens.specs.Views.{buffers_of}
use Rattle.std.proofs.Common.{cond}
use Rattle.std.proofs.lemmas.Bool.{cond-true, cond-false, eq-eqb, ne_eqb}
use Rattle.std.specs.Prelude.{◌==◌}
use Rattle.con_screens.specs.Buffers.{gone}
use Rattle.con_screens.proofs.KeepLemmas.{keeps_put, keeps_number, keeps_gone}
use Rattle.con_screens.proofs.screens.Screens.release_handle.Goals as goal

pub returns-then-self-id-clause-kept : goal.returns-then-self-id-clause-kept
returns-then-self-id-clause-kept c =
    let s : Buffers = buffers_of c.self.inside in
    let are : AreBuffers s = subst (λ (v : Buffers). AreBuffers v) (sym c.self.view_is) c.requires.buffers in
    let live : IsLive s c.args.id.0 = subst (λ (v : Buffers). IsLive v c.args.id.0) (sym c.self.view_is) c.requires.live in
    let zero_now : cond (s.active == c.args.id.0) 0 s.active ≡ 0 = cond-true (s.active == c.args.id.0) _ _ (eq-eqb s.active c.args.id.0 c.if-self-id.true) in
    subst (λ (v : Buffers). AreBuffers v) (ap (λ k. record (gone s c.args.id.0) { active = k }) zero_now) (keeps_gone s c.args.id.0 are live c.if-id-eq0.false)

pub returns-else-self-id-clause-kept : goal.returns-else-self-id-clause-kept
returns-else-self-id-clause-kept c =
    let s : Buffers = buffers_of c.self.inside in
    let are : AreBuffers s = subst (λ (v : Buffers). AreBuffers v) (sym c.self.view_is) c.requires.buffers in
    let live : IsLive s c.args.id.0 = subst (λ (v : Buffers). IsLive v c.args.id.0) (sym c.self.view_is) c.requires.live in
    let same_now : cond (s.active == c.args.id.0) 0 s.active ≡ s.active = cond-false (s.active == c.args.id.0) _ _ (ne_eqb s.active c.args.id.0 c.if-self-id.false) in
    subst (λ (v : Buffers). AreBuffers v) (ap (λ k. record (gone s c.args.id.0) { active = k }) same_now) (keeps_gone s c.args.id.0 are live c.if-id-eq0.false)

pub returns-else-handles-le1-clause-kept : goal.returns-else-handles-le1-clause-kept
returns-else-handles-le1-clause-kept c =
    let s : Buffers = buffers_of c.self.inside in
    let are : AreBuffers s = subst (λ (v : Buffers). AreBuffers v) (sym c.self.view_is) c.requires.buffers in
    let live : IsLive s c.args.id.0 = subst (λ (v : Buffers). IsLive v c.args.id.0) (sym c.self.view_is) c.requires.live in
    let k : ℕ = c.handles-handles.result - 1 in
    keeps_put s c.args.id.0 c.index_mut-else-handles-le1.result.now c.set_handles.new.slot (with_handles k) are live c.index_mut-else-handles-le1.ensures.value c.set_handles.ensures.slot
    (keeps_number c.index_mut-else-handles-le1.result.now c.set_handles.new.slot k c.set_handles.ensures.slot)
