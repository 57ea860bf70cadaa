use Rattle.std.proofs.Common.{◌∙◌, ◌+◌, length, arith}
use Rattle.con_actors.specs.Beginning.{fresh_cut, fresh_pushed, none_past, pushed, pushed_length, told_none}
use Rattle.con_actors.proofs.stage.fitted.Goals as goal

pub loop-alloc-preserved : goal.loop-alloc-preserved
loop-alloc-preserved g c =
    let e = pushed _ _ _ _ c.push_reserved.ensures.items c.reserve.ensures.items in
    let n = pushed_length _ _ _ e in
    record {
      fresh = λ racks l f. fresh_pushed _ _ _ _ racks _ _ _ e (c.loop-alloc.invariant.fresh racks l f) c.in_ok-seat.ensures.worker
          (λ b p q. c.in_ok-seat.ensures.hands b p
          (q ∙ (none_past racks (0 + length c.loop-alloc.all.items) (omega (arith, l, c.loop-alloc.invariant.more)) ∙ told_none _ _ c.new.ensures.items)));
      more = omega (arith, n, c.loop-alloc.invariant.more);
    }

pub returns-clause-fresh : goal.returns-clause-fresh
returns-clause-fresh g c = λ racks l f. fresh_cut _ _ _ _ racks _ _ _ c.truncate.ensures.items (c.loop-alloc.invariant.fresh racks l f)
