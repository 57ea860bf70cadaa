use Rattle.con_mouse.proofs.Digits.{all_digits}
use Rattle.con_mouse.proofs.numbers.number.Goals as goal

pub value_of-value-requires-clause-digits : goal.value_of-value-requires-clause-digits
value_of-value-requires-clause-digits c = rw c.count_digits-len.ensures.front (all_digits c.args.bytes.now)
