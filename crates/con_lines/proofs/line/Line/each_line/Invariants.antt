use Rattle.std.proofs.Common.{◌≡◌, drop, map}
use Rattle.con_lines.specs.Shown.{units_text}
use Rattle.con_lines.specs.Writing.{put_each}
use Rattle.con_lines.proofs.line.Line.each_line.Given as goal

abbrev pub invariant-loop-line : goal.invariant-loop-line
invariant-loop-line l = put_each l.self (map units_text (drop l.line-index l.lines)) ≡ put_each l.initial.self (map units_text l.lines)
