use Rattle.std.proofs.Common.{◌≡◌, subst}
use Rattle.con_screens.specs.LentLaws.{screen_has}
use Rattle.con_screens.specs.ViewLaws.{whole_view}
use Rattle.con_units.specs.Words.Limits.{IsWindow}
use Rattle.con_units.specs.Words.View.{IsWhole}
use Rattle.con_machine.specs.Held.{Held}
use Rattle.con_machine.specs.Painting.{view_now}
use Rattle.con_machine.proofs.parts.Parts.view_is_whole.Goals as goal

pub returns-clause-whole : goal.returns-clause-whole
returns-clause-whole c =
    let P : Held → Type 0 = λ v. IsWhole (view_now v.state) in
    subst P c.self.view_is (whole_view _ (screen_has c.self.inside.screens c.self.inside.screens.active c.self.invariant.buffers c.self.invariant.buffers.active).page)

pub returns-clause-wide : goal.returns-clause-wide
returns-clause-wide c =
    let P : Held → Type 0 = λ v. (view_now v.state).size.w ≡ v.state.buffers.w in
    subst P c.self.view_is (screen_has c.self.inside.screens c.self.inside.screens.active c.self.invariant.buffers c.self.invariant.buffers.active).wide

pub returns-clause-high : goal.returns-clause-high
returns-clause-high c =
    let P : Held → Type 0 = λ v. (view_now v.state).size.h ≡ v.state.buffers.h in
    subst P c.self.view_is (screen_has c.self.inside.screens c.self.inside.screens.active c.self.invariant.buffers c.self.invariant.buffers.active).tall

pub returns-clause-window : goal.returns-clause-window
returns-clause-window c =
    let b = c.self.invariant.buffers in
    let P : Held → Type 0 = λ v. IsWindow v.state.buffers.w v.state.buffers.h in
    subst P c.self.view_is (record { some_columns = b.some.0; some_rows = b.some.1; few_columns = b.few.0; few_rows = b.few.1 })
