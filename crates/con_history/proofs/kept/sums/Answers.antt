-- One more block.
use Rattle.std.proofs.Common.{◌≡◌, ℕ, ◌+◌, ◌-◌, ◌*◌, ◌<◌, refl, arith}
use Rattle.con_history.proofs.Summing.{sums_none, sums_more}
use Rattle.con_history.proofs.kept.sums.Goals as goal

pub loop-b-init : goal.loop-b-init
loop-b-init c = sums_none c.args.units.now _ refl

pub loop-b-preserved : goal.loop-b-preserved
loop-b-preserved c =
    let b : ℕ = c.loop-b.b in
    let m : ℕ = (b + 1) * 64 - b * 64 in
    let to : b * 64 + m ≡ (b + 1) * 64 = omega arith in
    let fits : b < 16 = omega (arith, c.loop-b-test.true, c.requires) in
    sums_more b m c.args.units.now c.loop-b.sum c.sum_on-sum.result c.loop-b.sums fits to c.loop-b.invariant c.sum_on-sum.ensures
