use Rattle.std.proofs.Common.{◌≤◌, ◌-◌, ◌+◌, ◌*◌, arith, sym, ap, ◌∙◌, None, length, Option, List}
use Rattle.con_handles.specs.Places.{listed}
use Rattle.con_handles.specs.declared.handle.Held.{Held}
use Rattle.con_handles.proofs.Listed.{without-here, set_past}
use Rattle.con_handles.proofs.places.remove.Goals as goal

pub returns-then-at-places : goal.returns-then-at-places
returns-then-at-places c = rw c.place-at.ensures.is (sym (without-here c.args.places.now (c.args.process * 64 + (c.args.number - 1)) 0 c.args.process c.args.number c.requires.low c.requires.high (omega arith)))

pub returns-else-at-places : goal.returns-else-at-places
returns-else-at-places c =
    let past : length c.args.places.now ≤ c.args.process * 64 + (c.args.number - 1) = omega arith in
    sym (without-here c.args.places.now (c.args.process * 64 + (c.args.number - 1)) 0 c.args.process c.args.number c.requires.low c.requires.high (omega arith)
    ∙ ap (λ (ps : List (Option Held)). listed 0 ps) (set_past c.args.places.now (c.args.process * 64 + (c.args.number - 1)) None past))
