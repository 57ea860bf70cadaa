-- The words of the code and of laws about Lines, which a reader need not believe.
use Rattle.std.specs.Prelude.{ℕ, List}
use Rattle.con_records.specs.declared.record.Record.{Record}
use Rattle.con_history.specs.declared.histories.Histories.{Histories}
use Rattle.con_alias.specs.Aliases.{AliasList}
use Rattle.con_cooked.specs.declared.cooked.Cooked.{Cooked}
use Rattle.con_cooked.specs.declared.progress.Progress.{Progress}
use Rattle.con_cooked.specs.Cooked.{after_press, answer_of, histories_after}
use Rattle.con_cooked.specs.Words.Cooked.{progress_of}

-- the read after a record
abbrev pub line_after : Cooked → Record → Histories → Cooked
line_after line r hs = after_press line r hs

-- whether it goes on, and what it shows
abbrev pub line_progress : Cooked → Record → Histories → Progress
line_progress line r hs = progress_of line r hs

-- what it answers at its end
abbrev pub line_answer : Cooked → List AliasList → List ℕ
line_answer line al = answer_of line al

-- the histories after its end
abbrev pub with_line : Cooked → Histories → Histories
with_line line hs = histories_after line hs
