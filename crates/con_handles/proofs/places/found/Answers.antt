-- A number that no handle has, or the place of one.
use Rattle.std.proofs.Common.{◌≡◌, ◌-◌, ◌+◌, ◌*◌, arith, sym, ap, ◌∙◌, None, Some, Option}
use Rattle.std.specs.Prelude.{slice_get, option_map}
use Rattle.con_handles.specs.Places.{handle_of, held_in}
use Rattle.con_handles.specs.declared.handle.Held.{Held}
use Rattle.con_handles.proofs.Listed.{find-here, find-outside, below_one, above_most}
use Rattle.con_handles.proofs.places.found.Goals as goal

pub returns-then-number-lt1-clause-is : goal.returns-then-number-lt1-clause-is
returns-then-number-lt1-clause-is c = sym (find-outside c.args.places.now 0 c.args.process c.args.number (λ j. below_one c.args.number j c.if-number-lt1.true))

pub returns-then-number-gt-MOST-clause-is : goal.returns-then-number-gt-MOST-clause-is
returns-then-number-gt-MOST-clause-is c = sym (find-outside c.args.places.now 0 c.args.process c.args.number (λ j. above_most c.args.number j c.if-number-gt-MOST.true))

pub returns-in-Some-clause-is : goal.returns-in-Some-clause-is
returns-in-Some-clause-is c =
    let here : Some c.in-Some.held ≡ held_in (slice_get c.args.places.now (c.args.process * 64 + (c.args.number - 1))) = rw c.place.ensures.is at c.in-Some.ensures in
    ap (option_map (handle_of c.args.process c.args.number)) here
    ∙ sym (find-here c.args.places.now (c.args.process * 64 + (c.args.number - 1)) 0 c.args.process c.args.number (omega arith) (omega arith) (omega arith))

pub returns-in-None-clause-is : goal.returns-in-None-clause-is
returns-in-None-clause-is c =
    let here : ◌≡◌ {A = Option Held} None (held_in (slice_get c.args.places.now (c.args.process * 64 + (c.args.number - 1)))) = rw c.place.ensures.is at c.in-None.ensures in
    ap (option_map (handle_of c.args.process c.args.number)) here
    ∙ sym (find-here c.args.places.now (c.args.process * 64 + (c.args.number - 1)) 0 c.args.process c.args.number (omega arith) (omega arith) (omega arith))
