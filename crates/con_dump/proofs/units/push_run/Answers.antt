-- One byte more.
use Rattle.std.proofs.Common.{◌∙◌, refl, arith}
use Rattle.std.proofs.lemmas.Bool.Decides.{nat_tests}
use Rattle.con_term.specs.Ascii.{is_ascii_byte}
use Rattle.con_term.proofs.FillLemmas.{all_more}
use Rattle.con_dump.proofs.DecodeLemmas.{pushed_none, pushed_more}
use Rattle.con_dump.proofs.units.push_run.Goals as goal

pub loop-count-init : goal.loop-count-init
loop-count-init c = let bytes = c.args.bytes.now in record {
  more = omega arith;
  inside = omega arith;
  ascii = all_more is_ascii_byte bytes 0 (omega arith) refl (grind (arith, nat_tests));
  units = pushed_more c.args.units.now.items c.args.units.now.items _ bytes 0 _ (omega arith) (pushed_none c.args.units.now.items) refl c.push_reserved.ensures.items;
  few = omega (arith, c.push_reserved.ensures.len);
  capacity = c.push_reserved.ensures.capacity;
}

pub loop-count-preserved : goal.loop-count-preserved
loop-count-preserved c = let bytes = c.args.bytes.now in let v = c.loop-count.invariant in record {
  more = omega arith;
  inside = omega (arith, c.loop-count-test.true);
  ascii = all_more is_ascii_byte bytes c.loop-count.count (omega (arith, c.loop-count-test.true)) v.ascii (grind (arith, nat_tests));
  units = pushed_more c.args.units.now.items c.loop-count.units.items _ bytes c.loop-count.count _ (omega (arith, c.loop-count-test.true)) v.units refl c.push_reserved-in-loop-count.ensures.items;
  few = omega (arith, c.push_reserved-in-loop-count.ensures.len, v.few);
  capacity = c.push_reserved-in-loop-count.ensures.capacity ∙ v.capacity;
}
