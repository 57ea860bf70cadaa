use Rattle.std.proofs.Common.{rules, arith, ◌≤◌}
use Rattle.con_mouse.proofs.Digits.{small_enough}
use Rattle.con_mouse.proofs.numbers.value_of.Goals as goal

pub overflow_mul-n : goal.overflow_mul-n
overflow_mul-n c =
    let few : c.loop-digit.n ≤ 9999 = small_enough c.loop-digit.n c.loop-digit.digit-index c.loop-digit.invariant.small (omega arith) in
    search rules

pub overflow_add-n : goal.overflow_add-n
overflow_add-n c =
    let few : c.loop-digit.n ≤ 9999 = small_enough c.loop-digit.n c.loop-digit.digit-index c.loop-digit.invariant.small (omega arith) in
    search rules
