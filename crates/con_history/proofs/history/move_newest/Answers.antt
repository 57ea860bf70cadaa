use Rattle.std.proofs.Common.{◌≡◌, ◌∙◌, ◌<◌, ◌++◌, ◌∷◌, [], ap, sym, arith, length, drop, ℕ, List}
use Rattle.std.proofs.lemmas.List.{length-drop}
use Rattle.std.proofs.lemmas.Option.{slice_get_within}
use Rattle.circular_buffer.specs.Buffer.{Buffer}
use Rattle.con_history.specs.Histories.{newest}
use Rattle.con_history.proofs.Keeps.{moved_more}
use Rattle.con_history.proofs.history.move_newest.Goals as goal

pub loop-oldest-preserved : goal.loop-oldest-preserved
loop-oldest-preserved c =
    let from_is : c.pop_front.new.self.items ≡ drop 1 c.loop-oldest.from.items = ap (λ (b : Buffer (List ℕ)). b.items) c.in-Some.ensures.items in
    let some : 0 < length c.loop-oldest.from.items = slice_get_within c.loop-oldest.from.items 0 c.in-Some.oldest (sym c.in-Some.ensures.value) in
    let step = moved_more c.args.to.now.capacity c.args.from.now.items c.loop-oldest.from.items c.loop-oldest.to.items c.in-Some.oldest some
    c.loop-oldest.invariant.1 c.loop-oldest.invariant.0 c.loop-oldest.invariant.2 c.in-Some.ensures.value in
    rw from_is (
      step.0,
      omega (arith, c.loop-oldest.invariant.1, length-drop 1 c.loop-oldest.from.items),
      c.push.ensures.lines ∙ ap (λ n. newest n (c.loop-oldest.to.items ++ c.in-Some.oldest ∷ [])) c.loop-oldest.invariant.3 ∙ step.1,
      c.push.ensures.capacity ∙ c.loop-oldest.invariant.3,
    )
