use Rattle.std.proofs.Common.{◌≡◌, ◌+◌, ◌-◌, ◌<◌, ◌==◌, ap, ◌∙◌, List, ℕ, arith, get_or, length, rules}
use Rattle.std.proofs.lemmas.List.{get_or_default}
use Rattle.con_units.specs.Words.Units.{first_difference}
use Rattle.con_line.specs.Line.{on_while}
use Rattle.con_line.proofs.Differences.{edit_is, first_difference-remove}
use Rattle.con_line.proofs.line.Line.erase.Goals as goal

pub returns-clause-edit : goal.returns-clause-edit
returns-clause-edit c =
    let units : List ℕ = c.self.inside.units.items in
    let within : c.args.at < length units = omega arith in
    let unit : c.index.result.now ≡ get_or units c.args.at 0 = c.index.ensures ∙ get_or_default units c.args.at c.index.result.now 0 within in
    let is : c.on_equal-first.result ≡ on_while (λ u. u == get_or units c.args.at 0) units (c.args.at + 1) = search rules in
    let cut = first_difference-remove units c.args.at within in
    rw (← c.self.view_is) (
    edit_is units c.remove.new.self.items (c.on_equal-first.result - 1) c.len-before.result
    (ap (λ (l : List ℕ). first_difference units l) c.remove.ensures.items ∙ omega (arith, is, cut))
    (omega arith))
