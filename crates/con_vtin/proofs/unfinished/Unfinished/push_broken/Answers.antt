use Rattle.std.proofs.Common.{◌≡◌, ◌≢◌, ◌∙◌, ◌++◌, ◌∷◌, [], ap, sym, rules, length, take}
use Rattle.std.proofs.lemmas.List.{length-take-le}
use Rattle.con_vtin.proofs.StepLemmas.{broken_one, broken_many, quieted_many}
use Rattle.con_vtin.proofs.unfinished.Unfinished.push_broken.Goals as goal

pub returns-then-self-eq1-clause-keys : goal.returns-then-self-eq1-clause-keys
returns-then-self-eq1-clause-keys c =
    let inside = c.self.inside in
    let long : length (take inside.count inside.bytes) ≡ inside.count = length-take-le inside.count inside.bytes (search rules) in
    rw (← c.self.view_is, broken_one inside.phase (take inside.count inside.bytes) c.self.invariant.1 (long ∙ c.if-self-eq1.true))
    (c.push_reserved.ensures.items ∙ ap (λ k. c.args.out.now.items ++ k ∷ []) c.escape.ensures)

pub returns-else-self-eq1-clause-keys : goal.returns-else-self-eq1-clause-keys
returns-else-self-eq1-clause-keys c =
    let inside = c.self.inside in
    let long : length (take inside.count inside.bytes) ≡ inside.count = length-take-le inside.count inside.bytes (search rules) in
    let some : take inside.count inside.bytes ≢ [] = λ e. c.requires.some (sym c.self.view_is ∙ e) in
    rw (← c.self.view_is, broken_many inside.phase (take inside.count inside.bytes) c.self.invariant.1 some (λ e. c.if-self-eq1.false (sym long ∙ e)))
    (c.push_replacements.ensures.keys (take inside.count inside.bytes) long)

pub returns-else-self-eq1-clause-quieted : goal.returns-else-self-eq1-clause-quieted
returns-else-self-eq1-clause-quieted c =
    let inside = c.self.inside in
    let long : length (take inside.count inside.bytes) ≡ inside.count = length-take-le inside.count inside.bytes (search rules) in
    let some : take inside.count inside.bytes ≢ [] = λ e. c.requires.some (sym c.self.view_is ∙ e) in
    rw (← c.self.view_is, quieted_many inside.phase (take inside.count inside.bytes) c.self.invariant.1 some (λ e. c.if-self-eq1.false (sym long ∙ e)))
    (c.push_replacements.ensures.keys (take inside.count inside.bytes) long)
