use Rattle.std.proofs.Common.{◌≡◌, ◌<◌, ◌≤◌, ap, ◌∙◌, List, ℕ, arith, length, get_or, slice_set, rules}
use Rattle.std.proofs.lemmas.List.{get_or_default}
use Rattle.con_units.specs.Words.Units.{first_difference}
use Rattle.con_line.proofs.Differences.{edit_is, first_difference-set_same, first_difference-set_other, first_difference-insert}
use Rattle.con_line.proofs.line.Line.put.Goals as goal
use Rattle.con_line.proofs.line.Line.put.Goals.{then-same, else-same}

pub returns-after-same-clause-edit : goal.returns-after-same-clause-edit
returns-after-same-clause-edit c =
    let units : List ℕ = c.self.inside.units.items in
    let within : c.self.inside.caret < length units = omega arith in
    let unit : c.index.result.now ≡ get_or units c.self.inside.caret 0 = c.index.ensures ∙ get_or_default units c.self.inside.caret c.index.result.now 0 within in
    rw (← c.self.view_is) (
    edit_is units (slice_set units c.self.inside.caret c.args.unit) c.if-same.result c.len-len.result
    (elim c.if-same.branch [ then-same w ↦ first_difference-set_same units c.self.inside.caret c.args.unit within (search rules) ∙ (search rules) | else-same w ↦ first_difference-set_other units c.self.inside.caret c.args.unit within (search rules) ∙ (search rules) ])
    (omega arith))

pub returns-then-len-lt-LINE_UNITS-clause-edit : goal.returns-then-len-lt-LINE_UNITS-clause-edit
returns-then-len-lt-LINE_UNITS-clause-edit c =
    let units : List ℕ = c.self.inside.units.items in
    let within : c.self.inside.caret ≤ length units = omega arith in
    rw (← c.self.view_is) (
    edit_is units c.insert.new.self.items c.on_equal-first.result c.len-len.result
    (ap (λ (l : List ℕ). first_difference units l) (search rules) ∙ first_difference-insert units c.self.inside.caret c.args.unit within ∙ (search rules))
    (omega arith))
