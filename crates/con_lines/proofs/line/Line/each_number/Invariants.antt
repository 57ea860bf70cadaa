use Rattle.std.proofs.Common.{◌≡◌, drop, map}
use Rattle.con_lines.specs.Shown.{whole}
use Rattle.con_lines.specs.Writing.{put_each}
use Rattle.con_lines.proofs.line.Line.each_number.Given as goal

abbrev pub invariant-loop-n : goal.invariant-loop-n
invariant-loop-n l = put_each l.self (map whole (drop l.n-index l.numbers)) ≡ put_each l.initial.self (map whole l.numbers)
