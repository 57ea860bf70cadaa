-- The words of the code and of laws about Serving, which a reader need not believe: one step at a time.
use Rattle.std.specs.Prelude.{ℕ, Bool, List, [], ◌∷◌, length, take, drop, slice_get, if◌then◌else◌, Option, Some, None}
use Rattle.con_records.specs.declared.record.Record.{Record}
use Rattle.con_history.specs.declared.histories.Histories.{Histories}
use Rattle.con_alias.specs.Aliases.{AliasList}
use Rattle.con_cooked.specs.Cooked.{line_of}
use Rattle.con_cooked.specs.declared.cooked.Cooked.{Cooked}
use Rattle.con_cooked.specs.declared.progress.Progress.{Progress}
use Rattle.con_cooked.specs.declared.progress.Progress.TheVariants as progress
use Rattle.con_readers.specs.Wants.{units_of}
use Rattle.con_readers.specs.Lines.{line_text}
use Rattle.con_readers.specs.Words.Lines.{line_after, line_progress, line_answer, with_line}
use Rattle.con_readers.specs.Act.{Act, typed, ended, woke}
use Rattle.con_readers.specs.Serving.{Served, given_units, given_line}
use Rattle.con_readers.specs.declared.answer.Answer.TheVariants as answers
use Rattle.con_readers.specs.declared.open.OpenRead.{OpenRead}
use Rattle.con_readers.specs.declared.open.OpenRead.TheVariants as reads

-- a line that took one record, by whether that is a masked control, and else whether it is return, with what later ones do to it where it goes on
abbrev pub served_on : ℕ → List AliasList → Cooked → Cooked → List Record → Histories → Served → Bool → Bool → Served
served_on p al line line' rs hs later masked returned =
    if masked then given_line al line' rs hs (woke p line')
    else if returned then given_line al line' rs hs (ended p (reads.Line line') (length (line_of line').line.units))
    else record later { acts = typed p line line' ∷ later.acts }

-- a read after it took records, what is left of them, the histories, and what happened
pub record Took : Type 0 where
  pub read : OpenRead
  pub records : List Record
  pub histories : Histories
  pub act : Option Act

-- a read of n units, where the records have these
abbrev pub took_units : ℕ → ℕ → List Record → Histories → List ℕ → Took
took_units p n rs hs us =
    let s = given_units p n rs hs us in record { read = s.read; records = s.records; histories = s.histories; act = slice_get s.acts 0 }

-- a line that took one record, by whether it goes on
abbrev pub took_one : ℕ → List AliasList → Cooked → Cooked → List Record → Histories → Progress → Took
took_one p al line line' rs hs (progress.Going echo) = record { read = reads.Line line'; records = rs; histories = hs; act = Some (typed p line line') }
took_one p al line line' rs hs (progress.Done echo) = record {
  read = reads.Done (answers.Units (line_answer line' al));
  records = rs;
  histories = with_line line' hs;
  act = Some (ended p (reads.Line line') (length (line_text line')));
}
took_one p al line line' rs hs progress.Woken =
    record { read = reads.Done (answers.Units (line_answer line' al)); records = rs; histories = with_line line' hs; act = Some (woke p line') }

abbrev pub took_line : ℕ → List AliasList → Cooked → List Record → Histories → Took
took_line p al line [] hs = record { read = reads.Line line; records = []; histories = hs; act = None }
took_line p al line (r ∷ rs) hs = took_one p al line (line_after line r hs) rs hs (line_progress line r hs)

-- one step of a read that is not done, where records are there
abbrev pub took : ℕ → List AliasList → OpenRead → List Record → Histories → Took
took p al (reads.Records n) rs hs =
    record { read = reads.Done (answers.Records (take n rs)); records = drop n rs; histories = hs; act = Some (ended p (reads.Records n) 0) }
took p al (reads.Units n) rs hs = took_units p n rs hs (units_of n rs)
took p al (reads.Line line) rs hs = took_line p al line rs hs
took p al (reads.Done a) rs hs = record { read = reads.Done a; records = rs; histories = hs; act = None }
