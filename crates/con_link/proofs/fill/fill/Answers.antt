use Rattle.std.proofs.Common.{◌+◌, ◌-◌, arith, length, take, drop}
use Rattle.std.proofs.lemmas.List.{length-take-le, length-take}
use borrow.Rule.Slice.PartMut.{put_mid}
use Rattle.con_link.proofs.Parts.{part_taken, part_within}
use Rattle.con_link.proofs.Pieces.{has_last}
use Rattle.con_link.proofs.fill.fill.Goals as goal

pub loop-at-preserved : goal.loop-at-preserved
loop-at-preserved g c = record {
  within = part_within c.loop-at.at (c.loop-at.at + c.min.result - c.loop-at.at) c.in-Ok.n c.loop-at.buf c.read.new.buf c.loop-at.invariant.within c.in-Ok.ensures.bound;
  few = omega arith;
  count = omega (arith, c.loop-at.invariant.count);
  taken = part_taken c.loop-at.at (c.loop-at.at + c.min.result - c.loop-at.at) c.in-Ok.n c.loop-at.buf c.read.new.buf _ _ _
      c.loop-at.invariant.within c.in-Ok.ensures.bound c.loop-at.invariant.taken c.in-Ok.ensures.taken;
  never_falls = omega (arith, c.loop-at.invariant.never_falls, c.read.ensures.never_falls);
}

pub returns-then-taken-gt-MOST-clause-took : goal.returns-then-taken-gt-MOST-clause-took
returns-then-taken-gt-MOST-clause-took g c =
    let at = c.loop-at.at in
    let k = c.loop-at.at + c.min.result - c.loop-at.at in
    let n = c.in-Ok.n in
    let buf = put_mid at k c.loop-at.buf c.read.new.buf in
    let inside = part_within at k n c.loop-at.buf c.read.new.buf c.loop-at.invariant.within c.in-Ok.ensures.bound in (
      take (at + n) buf,
      part_taken at k n c.loop-at.buf c.read.new.buf _ _ _ c.loop-at.invariant.within c.in-Ok.ensures.bound c.loop-at.invariant.taken c.in-Ok.ensures.taken,
      omega (arith, c.loop-at.invariant.count, length-take-le (at + n) buf inside),
      (
        omega (arith, c.if-taken-gt-MOST.true, c.in-Ok.ensures.bound, c.read.auto.buf, length-take k (drop at c.loop-at.buf), c.min.ensures),
        has_last (take (at + n) buf) (length buf) (omega (arith, length-take-le (at + n) buf inside)) (omega (arith, length-take-le (at + n) buf inside, inside)),
      ),
    )
