-- A screen that was lent: what the buffers count stays, and a refusal changes nothing.
use Rattle.std.proofs.Common.{◌≡◌, ℕ, List, Ok, Err, ap, ◌∙◌}
use Rattle.std.specs.Prelude.{Result, IfErr, OnErr}
use Rattle.con_units.specs.declared.code.Code.{Code}
use Rattle.con_units.specs.declared.code.Code.TheVariants as code
use Rattle.con_handles.specs.declared.handle.Handle.{Handle}
use Rattle.con_screen.specs.Screen.{Screen}
use Rattle.con_screens.specs.Buffers.{Buffers, screen_at}
use Rattle.con_screens.specs.Lending.{screen_left}
use Rattle.con_screens.specs.LentLaws.{left_handles, left_same}
use Rattle.con_machine.specs.Sound.{AreCounted}

pub lent_counts : (b : Buffers) (id : ℕ) (now : Screen) (hs : List Handle) → AreCounted b hs → AreCounted (screen_left b id now) hs
lent_counts b id now hs counted = record { each = λ k other. left_handles b id now k ∙ counted.each k other }

pub refused_same : (r : Result (Unit {0}) Code) (Q : Type 0) (b : Buffers) (id : ℕ) (lent now : Screen) → lent ≡ screen_at b id → IfErr r (λ e. (e ≡ code.BadArgument) × Q × (now ≡ lent)) → OnErr r (screen_left b id now ≡ b)
refused_same (Ok u) Q b id lent now same err = tt
refused_same (Err why) Q b id lent now same err = ap (screen_left b id) (err.2 ∙ same) ∙ left_same b id
