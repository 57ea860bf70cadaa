-- The words of the code and of laws about Answering, which a reader need not believe.
use Rattle.std.specs.Prelude.{◌≡◌, true, false, List, [], ◌∷◌, ◌++◌}
use Rattle.std.specs.List.{list_any}
use Rattle.con_records.specs.declared.record.Record.{Record}
use Rattle.con_history.specs.declared.histories.Histories.{Histories}
use Rattle.con_alias.specs.Aliases.{AliasList}
use Rattle.con_cooked.specs.declared.cooked.Cooked.{Cooked}
use Rattle.con_readers.specs.Words.Lines.{line_after, line_answer}
use Rattle.con_readers.specs.Serving.{Served}
use Rattle.con_readers.specs.Pieces.{front}
use Rattle.con_readers.specs.Answering.{is_line_end}
use Rattle.con_readers.specs.declared.answer.Answer.TheVariants as answers
use Rattle.con_readers.specs.declared.open.OpenRead.TheVariants as reads

-- a line after records, while the histories stay
abbrev pub line_through : Cooked → List Record → Histories → Cooked
line_through line [] hs = line
line_through line (r ∷ rs) hs = line_through (line_after line r hs) rs hs

-- a line that is done took the records up to the first one that ends a line, and answers what it is after them
pub record EndsLine (al : List AliasList) (line : Cooked) (rs : List Record) (hs : Histories) (s : Served) : Type 0 where
  pub before : List Record
  pub last : Record
  pub piece : front rs s.records ≡ before ++ last ∷ []
  pub goes : list_any (is_line_end line.mask) before ≡ false
  pub ends : is_line_end line.mask last ≡ true
  pub answer : s.read ≡ reads.Done (answers.Units (line_answer (line_through line (before ++ last ∷ []) hs) al))
