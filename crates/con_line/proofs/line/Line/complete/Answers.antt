use Rattle.std.proofs.Common.{◌≡◌, ◌+◌, ◌-◌, take, drop, ap, sym, ◌∙◌, List, ℕ, arith, length}
use Rattle.con_units.specs.Words.Units.{first_difference}
use Rattle.con_line.proofs.Differences.{edit_is, first_difference-kept, rest_whole}
use Rattle.con_line.proofs.line.Line.complete.Goals as goal

pub returns-clause-edit : goal.returns-clause-edit
returns-clause-edit c =
    let units : List ℕ = c.self.inside.units.items in
    let caret : ℕ = c.self.inside.caret in
    let rest : List ℕ = take (length c.args.recalled.now - caret) (drop caret c.args.recalled.now) in
    let cut : take (length c.deref.result.now - caret) (drop caret c.deref.result.now) ≡ drop caret units =
    ap (λ (l : List ℕ). take (length l - caret) (drop caret l)) c.deref.ensures.value ∙ rest_whole units caret in
    let is : c.common.result ≡ first_difference (drop caret units) rest = c.common.ensures.is ∙ ap (λ (l : List ℕ). first_difference l rest) cut in
    rw (← c.self.view_is) (
    edit_is units c.replace.new.units.items (caret + c.common.result) c.len-before.result
    (ap (λ (l : List ℕ). first_difference units l) c.replace.ensures.items ∙ first_difference-kept units rest caret (omega arith) ∙ ap (λ n. caret + n) (sym is))
    (omega arith))
