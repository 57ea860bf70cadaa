-- How one open read is served.
use Rattle.std.specs.Prelude.{ℕ, Bool, true, false, List, [], ◌∷◌, length, take, drop, if◌then◌else◌}
use Rattle.con_records.specs.declared.record.Record.{Record}
use Rattle.con_history.specs.declared.histories.Histories.{Histories}
use Rattle.con_alias.specs.Aliases.{AliasList}
use Rattle.con_cooked.specs.Cooked.{line_of, after_press, is_return, answer_of, histories_after}
use Rattle.con_cooked.specs.Keys.{key_of}
use Rattle.con_cooked.specs.Mask.{is_masked}
use Rattle.con_cooked.specs.declared.cooked.Cooked.{Cooked}
use Rattle.con_readers.specs.Wants.{units_of, rest_of}
use Rattle.con_readers.specs.Act.{Act, typed, passed, ended, woke}
use Rattle.con_readers.specs.declared.answer.Answer.TheVariants as answers
use Rattle.con_readers.specs.declared.open.OpenRead.{OpenRead}
use Rattle.con_readers.specs.declared.open.OpenRead.TheVariants as reads

abbrev pub is_done : OpenRead → Bool
is_done (reads.Done a) = true
is_done _ = false

abbrev pub is_line : OpenRead → Bool
is_line (reads.Line l) = true
is_line _ = false

-- a read after all that the records there do to it, what is left of them, the histories, and what happened in order
pub record Served : Type 0 where
  pub read : OpenRead
  pub records : List Record
  pub histories : Histories
  pub acts : List Act

-- a read of n units, where the records have these: it goes on where there are none, and drops the records
abbrev pub given_units : ℕ → ℕ → List Record → Histories → List ℕ → Served
given_units p n rs hs [] = record { read = reads.Units n; records = []; histories = hs; acts = passed p ∷ [] }
given_units p n rs hs (u ∷ us) =
    record { read = reads.Done (answers.Units (u ∷ us)); records = rest_of n rs; histories = hs; acts = ended p (reads.Units n) 0 ∷ [] }

-- a line that ended by this
abbrev pub given_line : List AliasList → Cooked → List Record → Histories → Act → Served
given_line al line rs hs a = record { read = reads.Done (answers.Units (answer_of line al)); records = rs; histories = histories_after line hs; acts = a ∷ [] }

-- a line takes records one by one, up to the one that ends it: a masked control, or the key-down of return
abbrev pub served_line : ℕ → List AliasList → Cooked → List Record → Histories → Served
served_line p al line [] hs = record { read = reads.Line line; records = []; histories = hs; acts = [] }
served_line p al line (r ∷ rs) hs = let line' = after_press line r hs in
    if is_masked line.mask r then given_line al line' rs hs (woke p line')
    else if is_return (key_of r) then given_line al line' rs hs (ended p (reads.Line line') (length (line_of line').line.units))
    else (let later = served_line p al line' rs hs in record later { acts = typed p line line' ∷ later.acts })

-- the first read takes records until it is done or none is left
unfoldable pub served : ℕ → List AliasList → OpenRead → List Record → Histories → Served
served p al (reads.Line line) rs hs = served_line p al line rs hs
served p al (reads.Units n) (r ∷ rs) hs = given_units p n (r ∷ rs) hs (units_of n (r ∷ rs))
served p al (reads.Records n) (r ∷ rs) hs =
    record { read = reads.Done (answers.Records (take n (r ∷ rs))); records = drop n (r ∷ rs); histories = hs; acts = ended p (reads.Records n) 0 ∷ [] }
served p al read rs hs = record { read = read; records = rs; histories = hs; acts = [] }
