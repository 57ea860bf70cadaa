use Rattle.std.proofs.Common.{◌≡◌, sym, subst, Option}
use Rattle.std.specs.Prelude.{IfSome}
use Rattle.con_screens.specs.Buffers.{Buffers, buffer_at, screen_at}
use Rattle.con_screens.specs.Words.Buffers.{IsLive}
use Rattle.con_units.specs.Words.View.{IsWhole}
use Rattle.con_screens.specs.View.{view_of}
use Rattle.con_screens.specs.Views.{buffers_of}
use Rattle.con_screens.specs.LentLaws.{screen_has}
use Rattle.con_screens.specs.ViewLaws.{whole_view}
use Rattle.con_screens.specs.declared.buffer.Buffer.{Buffer}
use Rattle.con_screens.proofs.KeepLemmas.{view_is, shown_is, taken_is}
use Rattle.con_screens.proofs.screens.Screens.view.Goals as goal

pub returns-clause-shown : goal.returns-clause-shown
returns-clause-shown c =
    let s : Buffers = buffers_of c.self.inside in
    let live : IsLive s s.active = subst (λ (v : Buffers). IsLive v v.active) (sym c.self.view_is) c.requires.buffers.active in
    let here : buffer_at s s.active ≡ c.index.result.now = taken_is s s.active c.index.result.now live c.index.ensures in
    let shown : IfSome (buffer_at s s.active) (λ b. c.screen-shown.result.now ≡ b.shown) = subst (λ (o : Option Buffer). IfSome o (λ b. c.screen-shown.result.now ≡ b.shown)) (sym here) c.screen-shown.ensures in
    subst (λ (v : Buffers). IfSome (buffer_at v v.active) (λ b. c.window_of.result ≡ view_of b.shown.page)) c.self.view_is
    (view_is (buffer_at s s.active) c.screen-shown.result.now c.window_of.result shown c.window_of.ensures)

pub returns-clause-view : goal.returns-clause-view
returns-clause-view c = shown_is c.args.self.now c.args.self.now.active c.window_of.result c.requires.buffers.active (returns-clause-shown c)

pub returns-clause-whole : goal.returns-clause-whole
returns-clause-whole c = subst IsWhole (sym (returns-clause-view c)) (whole_view (screen_at c.args.self.now c.args.self.now.active).page (screen_has c.args.self.now c.args.self.now.active c.requires.buffers c.requires.buffers.active).page)
