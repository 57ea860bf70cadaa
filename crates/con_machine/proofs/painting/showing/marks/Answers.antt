use Rattle.std.proofs.Common.{◌∙◌, ◌+◌, ℕ, ap, length-append, rules}
use Rattle.con_screens.specs.Buffers.{screen_at}
use Rattle.con_screens.specs.Words.Stamps.{IsAsShown}
use Rattle.con_machine.proofs.Knows.{every_more, one_more}
use Rattle.con_machine.proofs.painting.showing.marks.Goals as goal

pub loop-y-preserved : goal.loop-y-preserved
loop-y-preserved c = record {
  count = rw c.push_reserved.ensures.items (length-append c.loop-y.room.items _ ∙ ap (λ (n : ℕ). n + 1) c.loop-y.invariant.count);
  fits = search rules;
  every = λ e. c.push_reserved.ensures.items ∙ every_more c.loop-y.room.items c.loop-y.y c.is_marked-mark.result (c.loop-y.invariant.every e) (c.is_marked-mark.ensures.all e);
  unmarked = rw c.push_reserved.ensures.items (one_more c.loop-y.room.items c.loop-y.y c.is_marked-mark.result (λ (k : ℕ). IsAsShown (screen_at c.args.screens.now c.args.screens.now.active).page k) c.loop-y.invariant.count c.loop-y.invariant.unmarked c.is_marked-mark.ensures.same);
}
