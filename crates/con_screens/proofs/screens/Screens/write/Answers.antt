use Rattle.std.proofs.Common.{sym, subst, ap, ◌∙◌}
use Rattle.con_screens.specs.Buffer.{buffer_written}
use Rattle.con_screens.specs.Buffers.{Buffers}
use Rattle.con_screens.specs.Words.Buffers.{AreBuffers, IsLive}
use Rattle.con_screens.specs.Views.{buffers_of}
use Rattle.con_screens.specs.Words.Stamps.{all_remembered}
use Rattle.con_screens.proofs.KeepLemmas.{keeps_put, remembers_put}
use Rattle.con_screens.proofs.screens.Screens.write.Goals as goal

pub returns-clause-kept : goal.returns-clause-kept
returns-clause-kept c =
    let s : Buffers = buffers_of c.self.inside in
    let are : AreBuffers s = subst (λ (v : Buffers). AreBuffers v) (sym c.self.view_is) c.requires.buffers in
    let live : IsLive s c.args.id.0 = subst (λ (v : Buffers). IsLive v c.args.id.0) (sym c.self.view_is) c.requires.live in
    keeps_put s c.args.id.0 c.index_mut.result.now c.write_in.new.slot (buffer_written c.args.answers.now.told c.args.units.now) are live c.index_mut.ensures.value c.write_in.ensures.slot c.write_in.ensures.kept

pub returns-clause-remembered : goal.returns-clause-remembered
returns-clause-remembered c =
    let s : Buffers = buffers_of c.self.inside in
    let live : IsLive s c.args.id.0 = subst (λ (v : Buffers). IsLive v c.args.id.0) (sym c.self.view_is) c.requires.live in
    remembers_put s c.args.id.0 c.index_mut.result.now c.write_in.new.slot live c.index_mut.ensures.value c.write_in.ensures.remembered ∙ ap all_remembered c.self.view_is
