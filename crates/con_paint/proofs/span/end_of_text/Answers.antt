-- One more cell.
use Rattle.std.proofs.Common.{◌≡◌, ◌+◌, ◌-◌, length, refl, arith}
use Rattle.con_paint.proofs.SpanLemmas.{blank_more, drop_none}
use Rattle.con_paint.proofs.span.end_of_text.Goals as goal

pub loop-k-init : goal.loop-k-init
loop-k-init c = drop_none c.args.row.now

pub loop-k-preserved : goal.loop-k-preserved
loop-k-preserved c = blank_more c.args.row.now c.loop-k.k _ _ c.is_same.result refl (omega arith) c.index-row-i.is c.loop-k.invariant (rw c.blank-blank.ensures at c.is_same.ensures) c.if-not-is_same.false

pub returns-then-not-is_same-clause-blank : goal.returns-then-not-is_same-clause-blank
returns-then-not-is_same-clause-blank c = let e : length c.args.row.now - 1 - c.loop-k.k + 1 ≡ length c.args.row.now - c.loop-k.k = omega arith in let d : length c.args.row.now - (length c.args.row.now - c.loop-k.k) ≡ c.loop-k.k = omega arith in rw (e, d) c.loop-k.invariant

pub returns-clause-blank : goal.returns-clause-blank
returns-clause-blank c = let d : length c.args.row.now - c.loop-k.k ≡ c.args.from = omega arith in let e : c.loop-k.k ≡ length c.args.row.now - c.args.from = omega arith in rw (← e) (rw d at c.loop-k.invariant)
