-- The words of the code and of laws about Told, which a reader need not believe.
use Rattle.std.specs.Prelude.{ℕ, List, map}
use Rattle.con_trace.specs.Report.{History}
use Rattle.con_lines.specs.declared.said.Said.{Said}

-- the history of some lines
abbrev pub history_told : List Said → List ℕ → History
history_told ss ns = record { entries = map (λ s. s.entry) ss; replies = map (λ s. s.reply) ss; ends = ns }
