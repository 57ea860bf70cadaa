-- A line that does not begin so is told by a checksum, or by its rest.
use Rattle.std.proofs.Common.{◌∙◌, ℕ, ◌*◌, ◌/◌, ◌≤◌, List, length, nat_eq, refl, ap, subst, arith}
use Rattle.std.specs.List.{starts_with}
use Rattle.con_history.proofs.Begins.{told_by_sum, told_by_rest}
use Rattle.con_history.proofs.kept.Kept.begins_with.Goals as goal

pub returns-then-self-blocks : goal.returns-then-self-blocks
returns-then-self-blocks c =
    let start : List ℕ = c.args.start.now in
    let longer : length start ≤ length c.self.inside.units = subst (λ (l : List ℕ). length start ≤ length l) c.as_slice-units.ensures c.if-units-start.false in
    told_by_sum c.self.inside.units start c.self.inside.sums (length start / 64) c.args.sum refl c.if-blocks-gt0.true longer c.self.invariant.1 c.requires c.if-self-blocks.true
    ∙ ap (λ (l : List ℕ). starts_with nat_eq l start) c.self.view_is

pub returns-else-starts_with : goal.returns-else-starts_with
returns-else-starts_with c =
    let start : List ℕ = c.args.start.now in
    let n : ℕ = length start / 64 * 64 in
    let inside : n ≤ length start = omega arith in
    told_by_rest c.as_slice-units.result.now start n c.starts_with.result inside c.starts_with.ensures.value c.if-starts_with.false
    ∙ ap (λ (l : List ℕ). starts_with nat_eq l start) (c.as_slice-units.ensures ∙ c.self.view_is)
