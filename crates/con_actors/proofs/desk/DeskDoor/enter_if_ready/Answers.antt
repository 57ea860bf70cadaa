use Rattle.std.proofs.Common.{refl, sym}
use Rattle.con_actors.specs.DeskSince.{desk_entered, desk_ready, saw_same, since_enters}
use Rattle.con_actors.proofs.desk.DeskDoor.enter_if_ready.Goals as goal

pub returns-then-not-ready-clause-blocked : goal.returns-then-not-ready-clause-blocked
returns-then-not-ready-clause-blocked c = λ k s stands begins. (saw_same _ _ refl, sym (desk_ready _ _ s _ _ _ _ _ _ _ c.if-not-ready.ensures stands begins))

pub returns-in-Ok-clause-stands : goal.returns-in-Ok-clause-stands
returns-in-Ok-clause-stands c = λ k stands. since_enters _ _ _ _ _ _ _ _ _ stands _ _ c.in-Ok.ensures.entered (sym c.if-not-ready.ensures) c.requires.serves

pub returns-in-Ok-clause-entered : goal.returns-in-Ok-clause-entered
returns-in-Ok-clause-entered c =
    λ k s stands begins. desk_entered _ _ _ s _ _ _ _ _ _ _ _ _ (sym c.if-not-ready.ensures) c.in-Ok.ensures.entered c.in-Ok.ensures.brief stands begins
