-- One line more was looked at.
use Rattle.std.proofs.Common.{◌≡◌, ◌+◌, ◌-◌, ◌≤◌, ◌∙◌, Bool, false, cond, Some, List, [], ℕ, ap, sym, get_or, nat_eq, arith}
use Rattle.std.specs.List.{starts_with}
use Rattle.con_history.specs.Histories.{last_that_begins}
use Rattle.con_history.proofs.Places.{last_that_begins-more}
use Rattle.con_history.proofs.history.newest_match.Goals as goal

pub loop-k-preserved : goal.loop-k-preserved
loop-k-preserved c =
    let k : ℕ = c.loop-k.k - 1 in
    let lines : List (List ℕ) = c.args.lines.now.items in
    let start : List ℕ = c.args.start.now in
    let low : ℕ = c.args.low in
    let order : low ≤ k = omega arith in
    let again : k + 1 - low ≡ c.loop-k.k - low = omega arith in
    let other : starts_with nat_eq (get_or lines k []) start ≡ false =
    sym (c.begins_with.ensures ∙ ap (λ (l : List ℕ). starts_with nat_eq l start) (c.line_at.ensures [])) ∙ c.if-begins_with.false in
    record {
      low = order;
      high = omega arith;
      same = sym (sym c.loop-k.invariant.same ∙ ap (last_that_begins start lines low) (sym again) ∙ last_that_begins-more start lines low k order
          ∙ ap (λ (b : Bool). cond b (Some k) (last_that_begins start lines low (k - low))) other);
    }
