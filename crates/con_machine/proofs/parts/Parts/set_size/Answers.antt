use Rattle.std.proofs.Common.{◌≡◌, Ok, None, sym, ap, subst, ◌∙◌}
use Rattle.con_handles.specs.declared.handle.Kind.TheVariants as kind
use Rattle.con_handles.specs.declared.handle.Object.TheVariants as object
use Rattle.con_screens.specs.Buffers.{Buffers}
use Rattle.con_machine.specs.Held.{Held, state_of}
use Rattle.con_machine.specs.Outcome.{Outcome, guard}
use Rattle.con_machine.specs.Words.ScreenCalls.{set_size}
use Rattle.con_machine.proofs.Choices.{size_is_set}
use Rattle.con_machine.proofs.parts.Parts.set_size.Goals as goal

pub returns-in-Some-clause-state : goal.returns-in-Some-clause-state
returns-in-Some-clause-state c =
    let serves = subst (λ (v : Held). guard v.state c.args.p c.args.h kind.Output 2 ≡ Ok (object.Output c.in-Ok.id))
    (sym c.self.view_is) c.in-Ok.ensures.is in
    subst (λ (v : Held). state_of (record c.self.inside { screens = c.refit.new.screens; seen = None }) ≡
    (set_size v.state c.args.p c.args.h c.args.width c.args.height).after)
    c.self.view_is
    (ap (λ (b : Buffers). state_of (record c.self.inside { screens = b; seen = None })) c.refit.ensures.is
    ∙ sym (ap (λ (o : Outcome). o.after) (size_is_set (state_of c.self.inside) c.args.p c.args.h c.args.width c.args.height c.in-Ok.id serves
    (sym c.is_size.ensures ∙ c.if-not-is_size.false))))
