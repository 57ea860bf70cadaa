-- One more cell.
use Rattle.std.proofs.Common.{◌≡◌, ◌+◌, ◌-◌, length, refl, arith}
use Rattle.con_paint.proofs.SpanLemmas.{drop_same_more, both_none}
use Rattle.con_paint.proofs.span.end_of_differences.Goals as goal

pub loop-k-init : goal.loop-k-init
loop-k-init c = both_none c.args.row.now c.args.was.now c.requires.lengths

pub loop-k-preserved : goal.loop-k-preserved
loop-k-preserved c = drop_same_more c.args.row.now c.args.was.now c.loop-k.k _ _ _ c.is_same.result refl (omega arith) c.requires.lengths c.index-row-i.is c.index-was-i.is c.loop-k.invariant c.is_same.ensures c.if-not-is_same.false

pub returns-then-not-is_same-clause-same : goal.returns-then-not-is_same-clause-same
returns-then-not-is_same-clause-same c = let e : length c.args.row.now - 1 - c.loop-k.k + 1 ≡ length c.args.row.now - c.loop-k.k = omega arith in rw e c.loop-k.invariant

pub returns-clause-same : goal.returns-clause-same
returns-clause-same c = let e : length c.args.row.now - c.loop-k.k ≡ c.args.from = omega arith in rw e at c.loop-k.invariant
