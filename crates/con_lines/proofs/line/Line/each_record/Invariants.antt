use Rattle.std.proofs.Common.{◌≡◌, drop, map}
use Rattle.con_lines.specs.Shown.{record_data}
use Rattle.con_lines.specs.Writing.{put_each}
use Rattle.con_lines.proofs.line.Line.each_record.Given as goal

abbrev pub invariant-loop-one : goal.invariant-loop-one
invariant-loop-one l = put_each l.self (map record_data (drop l.one-index l.records)) ≡ put_each l.initial.self (map record_data l.records)
