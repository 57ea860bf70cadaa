use Rattle.std.proofs.Common.{◌-◌, take, drop, arith, length, ◌∙◌, ap}
use Rattle.con_outside.specs.Laws.{then_written-more}
use Rattle.con_outside.specs.Outside.{then_written}
use Rattle.con_outside.proofs.Pieces.{front_more, fits_more}
use Rattle.con_outside.proofs.writing.write_whole.Goals as goal

pub loop-at-preserved : goal.loop-at-preserved
loop-at-preserved g c =
    let at = c.loop-at.at in
    let n = c.in_ok-at.field-0 in
    let bytes = c.args.bytes.now in
    record {
      within = fits_more bytes at n c.loop-at.invariant.within c.in_ok-at.ensures.bound;
      front = then_written-more (take at bytes) (take n (take (length bytes - at) (drop at bytes))) _ _ _ c.loop-at.invariant.front c.in_ok-at.ensures.appended
          ∙ ap (then_written (g.O.Sink.written c.args.sink.now)) (front_more bytes at n);
      never_falls = omega (arith, c.loop-at.invariant.never_falls, c.write.ensures.never_falls);
    }
