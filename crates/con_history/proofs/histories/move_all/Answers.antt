-- One history more has moved.
use Rattle.std.proofs.Common.{◌≡◌, ℕ, ◌+◌, ◌-◌, ◌<◌, ◌∙◌, ap, length, replicate, set, vec_len, get_or, arith}
use Rattle.std.proofs.lemmas.List.{length-replicate}
use Rattle.std.proofs.lemmas.List.Edits.{map_over_more}
use Rattle.con_history.specs.Histories.{ProgramLines}
use Rattle.con_history.specs.Parts.{shortened}
use Rattle.con_history.proofs.histories.move_all.Goals as goal

pub loop-history-preserved : goal.loop-history-preserved
loop-history-preserved c =
    let i : ℕ = c.loop-history.history-index in
    let n : ℕ = length c.args.used.now in
    let within : i < n = omega arith in
    let x : ProgramLines = get_or c.loop-history.used i c.history-item.result in
    let cap : c.into_lines.result.capacity ≡ c.args.lines = c.into_lines.ensures.capacity ∙ c.take_last.ensures.one in
    let left : length c.loop-history.buffers.items ≡ n - i = ap length c.loop-history.invariant.buffers ∙ length-replicate (n - i) c.args.lines in
    let count : vec_len c.loop-history.buffers - 1 ≡ n - (i + 1) = omega arith in
    record {
      used = ap (set c.loop-history.used i) (c.move_into.ensures ∙ ap (λ (k : ℕ). shortened k x) cap)
          ∙ map_over_more (shortened c.args.lines) c.args.used.now c.loop-history.used i x within c.loop-history.invariant.used (ap (get_or c.loop-history.used i) c.history-item.is);
      buffers = c.take_last.ensures.rest ∙ ap (λ (k : ℕ). replicate k c.args.lines) count;
    }
