use Rattle.std.proofs.Common.{◌≡◌, ◌∙◌, ◌++◌, ap, sym, replicate, arith}
use Rattle.con_vtin.specs.Table.{replacement}
use Rattle.con_vtin.proofs.Lists.{replacements_are}
use Rattle.con_vtin.proofs.character.push_replacements.Goals as goal

pub returns-clause-keys : goal.returns-clause-keys
returns-clause-keys c = λ bytes same. let all : c.loop-i.i ≡ c.args.n = omega (arith, c.loop-i.auto.i-end, c.loop-i-test.false) in
    c.loop-i.invariant.items ∙ ap (λ ks. c.args.out.now.items ++ ks) (ap (λ n. replicate n replacement) (all ∙ sym same) ∙ sym (replacements_are bytes))
