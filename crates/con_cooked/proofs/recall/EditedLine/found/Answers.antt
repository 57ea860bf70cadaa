-- A line that was found is there, and reaches the caret.
use Rattle.std.proofs.Common.{◌≡◌, ◌≤◌, ◌∙◌, List, ℕ, take, length, ap, arith}
use Rattle.std.proofs.lemmas.List.{length-take-le}
use Rattle.con_cooked.specs.Cooked.{Edited}
use Rattle.con_cooked.proofs.Found.{found-within, found-reaches_at}
use Rattle.con_cooked.proofs.recall.EditedLine.found.Goals as goal

pub returns-clause-within : goal.returns-clause-within
returns-clause-within c = found-within _ _ _ _ c.requires c.search.ensures

pub returns-clause-reaches : goal.returns-clause-reaches
returns-clause-reaches c =
    let text : List ℕ = c.text.result.now in
    let caret : ℕ = c.caret-caret.result in
    let within : caret ≤ length text = omega (arith, c.caret-caret.ensures.caret, c.text.ensures.line.caret, ap length c.text.ensures.text) in
    let long : length (take caret text) ≡ c.args.self.now.line.caret =
    length-take-le caret text within ∙ c.caret-caret.ensures.caret ∙ ap (λ (e : Edited). e.line.caret) c.self.view_is in
    found-reaches_at _ _ _ _ _ c.requires c.search.ensures long
