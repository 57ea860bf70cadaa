-- A place, a plain pen, and the rest of the page.
use Rattle.std.proofs.Common.{refl, arith}
use Rattle.con_paint.proofs.FrameLemmas.{rest_erased}
use Rattle.con_paint.proofs.rows.rest.Goals as goal

pub returns-clause-rest : goal.returns-clause-rest
returns-clause-rest c = record {
  none = λ le. absurd (omega (arith, c.if-size-tail.false));
  some = λ lt. (λ s p at ew eh. rest_erased c.args.size.w c.args.size.h c.args.tail c.args.before.attr _ _ _ _ s p ew eh (c.go.ensures.leads s (omega (arith, ew, c.requires.few.0), omega (arith, eh, lt)) at) (rw c.plain_attr-attr.ensures at c.choose.ensures.leads) c.erase_rest.ensures.leads, rw c.plain_attr-attr.ensures refl);
}
