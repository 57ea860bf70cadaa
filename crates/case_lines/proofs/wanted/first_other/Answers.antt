use Rattle.std.proofs.Common.{◌≡◌, ◌+◌, ℕ, true, drop, map, List, ◌∷◌, Bor, ap, sym, ◌∙◌, arith}
use Rattle.std.specs.Prelude.{string_bytes}
use Rattle.case_lines.specs.Wanted.{first_is}
use Rattle.case_lines.specs.declared.wanted.Wanted.{Wanted}
use Rattle.case_lines.proofs.Lines.{from_place, begins_on, same_on}
use Rattle.case_lines.proofs.wanted.first_other.Goals as goal

pub loop-at-preserved : goal.loop-at-preserved
loop-at-preserved c =
    let i = c.loop-at.at in
    let x = c.index-wanted-at.result in
    let text : Wanted → List ℕ = λ w. string_bytes w.text in
    let line : Bor (List ℕ) → List ℕ = λ r. r.now in
    let e : drop i c.args.wanted.now ≡ x ∷ drop (i + 1) c.args.wanted.now = from_place i c.args.wanted.now x c.loop-at-test.true c.index-wanted-at.is in
    let t : first_is c.args.way (text x) (map line (drop i c.args.lines.now)) ≡ true =
    ap (λ u. first_is c.args.way u (map line (drop i c.args.lines.now))) (sym c.as_str.ensures.value) ∙ sym c.is_at.ensures ∙ c.if-not-is_at.false in (
      sym (begins_on text line c.args.way i c.args.wanted.now c.args.lines.now x e t) ∙ c.loop-at.invariant.0,
      omega (arith, same_on text line c.args.way i c.args.wanted.now c.args.lines.now x e t, c.loop-at.invariant.1),
    )
