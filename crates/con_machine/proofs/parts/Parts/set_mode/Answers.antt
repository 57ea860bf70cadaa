use Rattle.std.proofs.Common.{◌≡◌, Ok, sym, ap, subst, ◌∙◌}
use Rattle.con_handles.specs.declared.handle.Kind.TheVariants as kind
use Rattle.con_handles.specs.declared.handle.Object.TheVariants as object
use Rattle.con_handles.specs.declared.handle.Object.{Object}
use Rattle.con_machine.specs.Held.{Held, state_of}
use Rattle.con_machine.specs.Outcome.{guard}
use Rattle.con_machine.specs.Words.ScreenCalls.{set_mode}
use Rattle.con_machine.proofs.Choices.{mode_is_set}
use Rattle.con_machine.proofs.parts.Parts.set_mode.Goals as goal

pub returns-after-set_mode-clause-state : goal.returns-after-set_mode-clause-state
returns-after-set_mode-clause-state c =
    let a = c.in-Ok-Output.is in
    let b = c.in-Ok-Output.field-0-is in
    let d = c.in-Ok-Output.id-is in
    let out : c.in-Ok-Output.field-0 ≡ object.Output c.in-Ok-Output.id = cc in
    let serves = subst (λ (v : Held). guard v.state c.args.p c.args.h kind.Any 2 ≡ Ok (object.Output c.in-Ok-Output.id))
    (sym c.self.view_is) (sym c.in-Ok-Output.ensures.is ∙ ap (λ (o : Object). Ok o) out) in
    subst (λ (v : Held). state_of (record c.self.inside { screens = c.set_mode.new.screens }) ≡ (set_mode v.state c.args.p c.args.h c.args.n).after)
    c.self.view_is
    (mode_is_set (state_of c.self.inside) c.args.p c.args.h c.args.n c.in-Ok-Output.id c.set_mode.new.screens c.set_mode.result serves
    c.set_mode.ensures.answer c.set_mode.ensures.changed c.set_mode.ensures.refused)
