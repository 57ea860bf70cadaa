use Rattle.std.proofs.Common.{length, ◌≡◌, ◌∙◌, sym, ap, List, [], rules, refl, ◌<◌}
use Rattle.con_records.specs.declared.record.Record.{Record}
use Rattle.con_readers.specs.Wants.{units_of}
use Rattle.con_readers.proofs.Units.{none_left_of, empty_of}
use Rattle.con_readers.proofs.wants_units.WantsUnits.take.Goals as goal

pub returns-then-is_empty-clause-none : goal.returns-then-is_empty-clause-none
returns-then-is_empty-clause-none c =
    let len : length c.take_units.new.out.items ≡ 0 = search rules in
    let none : units_of c.self.inside.n c.args.records.now.items ≡ [] = sym c.take_units.ensures.out ∙ empty_of c.take_units.new.out.items len in
    let some : 0 < c.self.inside.n = c.self.invariant.2 in
    rw (← c.self.view_is) (refl, none, c.take_units.ensures.rest ∙ ap (λ (rs : List Record). record c.args.records.now { items = rs }) (none_left_of c.self.inside.n c.args.records.now.items some none))
