-- What follows from the definitions of a line read.
use Rattle.std.specs.Prelude.{◌≡◌, ◌≤◌, ℕ, List, ◌++◌, length, fold, if◌then◌else◌}
use Rattle.con_records.specs.declared.record.Record.{Record}
use Rattle.con_line.specs.Line.{LineText}
use Rattle.con_history.specs.Histories.{LineHistories, added_to}
use Rattle.con_alias.specs.Aliases.{AliasList}
use Rattle.con_cooked.specs.Keys.{key_of}
use Rattle.con_cooked.specs.Cooked.{Edited, Moment, CookedRead, key_pressed, line_of, after_press, is_return, answer_of, histories_after}
use Rattle.con_cooked.specs.Words.Cooked.{echo_between, progress_of}
use Rattle.con_cooked.specs.Parts.{opened, lines_for}
use Rattle.con_cooked.specs.declared.progress.Echo.{Echo}
use Rattle.con_cooked.specs.declared.progress.Progress.TheVariants as progress

-- a read with no mask is its line by the table of keys alone, ends at return, and gives the lines that the text stands for
pub record IsPlain (r : CookedRead) : Type 0 where
  pub line : line_of r ≡ fold (λ (e : Edited) (m : Moment). key_pressed e (key_of m.pressed) m.lines) (opened r.insert r.initial) r.presses
  pub progress : (one : Record) (hs : LineHistories) → progress_of r one hs
      ≡ (let echo : Echo = echo_between (line_of r).line (line_of (after_press r one hs)).line in if is_return (key_of one) then progress.Done echo
      else progress.Going echo)
  pub answer : (ls : List AliasList) → answer_of r ls ≡ lines_for ls r.program (line_of r).line.units
  pub histories : (hs : LineHistories) → histories_after r hs ≡ added_to hs r.program (line_of r).line.units

-- nothing is drawn before the end of what two lines begin with
pub record DrawsBehind (front : List ℕ) (old new : LineText) : Type 0 where
  pub offset : length front ≤ (echo_between old new).offset
  pub end : (echo_between old new).offset ≤ (echo_between old new).end

abbrev pub BeginsWith : List ℕ → List ℕ → Type 0
BeginsWith front units = (rest : List ℕ) × (units ≡ front ++ rest)
