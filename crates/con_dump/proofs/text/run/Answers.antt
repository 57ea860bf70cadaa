-- The parts of the line, one after the other.
use Rattle.std.proofs.Common.{◌≡◌, ◌==◌, false, ap, sym, ◌∙◌, arith}
use Rattle.std.proofs.lemmas.Bool.Decides.{nat_tests}
use Rattle.con_units.specs.Attr.{plain}
use Rattle.con_term.specs.Same.{same_attr}
use Rattle.con_dump.proofs.DumpLemmas.{run_told}
use Rattle.con_dump.proofs.text.run.Goals as goal

pub returns-clause-items : goal.returns-clause-items
returns-clause-items c =
    let told : same_attr c.args.of (plain 7) ≡ false = ap (λ a. same_attr c.args.of a) (sym c.untold.ensures) ∙ sym c.is_same.ensures ∙ c.if-is_same.false in
    let some : (c.args.n == 0) ≡ false = grind (arith, nat_tests) in
    run_told c.args.out.now.items c.args.y c.args.x c.args.n c.args.of c.push_reserved.ensures.items c.number.ensures.items c.push_reserved-2.ensures.items c.number-2.ensures.items c.push_reserved-3.ensures.items c.number-3.ensures.items
    c.push_reserved-4.ensures.items (rw c.bits.ensures.value at c.word.ensures.items) (rw c.fore.ensures.value at c.shade.ensures.items) (rw c.back.ensures.value at c.shade-2.ensures.items) c.push_reserved-5.ensures.items told some
