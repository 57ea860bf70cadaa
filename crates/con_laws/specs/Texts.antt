-- What the text of a read is, by the records that it took.
use Rattle.std.specs.Prelude.{flat_map, ◌≡◌, ℕ, true, false, List, [], ◌∷◌, ◌++◌, map, fold, take, Option, Some, if◌then◌else◌}
use Rattle.std.specs.List.{list_any}
use Rattle.con_alias.specs.Aliases.{AliasList}
use Rattle.con_cooked.specs.Cooked.{Moment, answer_of}
use Rattle.con_cooked.specs.Mask.{is_masked}
use Rattle.con_cooked.specs.declared.cooked.Cooked.{Cooked}
use Rattle.con_events.specs.declared.event.Wanted.{Wanted}
use Rattle.con_events.specs.declared.event.Wanted.TheVariants as wanted
use Rattle.con_history.specs.Histories.{lines_of}
use Rattle.con_readers.specs.Answering.{is_line_end}
use Rattle.con_readers.specs.Wants.{units_of}
use Rattle.con_readers.specs.declared.answer.Answer.TheVariants as answers
use Rattle.con_readers.specs.declared.open.OpenRead.{OpenRead}
use Rattle.con_readers.specs.declared.open.OpenRead.TheVariants as reads
use Rattle.con_records.specs.declared.record.Record.{Record}
use Rattle.con_machine.specs.Reads.{front_of}
use Rattle.con_laws.specs.Fates.{How, Served, Piece}

-- the lines of a program's history, and the aliases, as they were when records were taken
abbrev pub lines_at : List ℕ → How → List (List ℕ)
lines_at program (Served hs al) = lines_of hs program
lines_at program _ = []

abbrev pub aliases_at : How → List AliasList
aliases_at (Served hs al) = al
aliases_at _ = []

-- each record that was taken, with the lines of the program's history at that moment
abbrev pub presses_of : List ℕ → List Piece → List Moment
presses_of program ps = flat_map (λ x. map (λ r. (let m : Moment = record { pressed = r; lines = lines_at program x.0.how } in m)) x.1) ps

-- What a read of n units at most of a line answers: it took these records up to the first one that ends a line, a return key's going down, or a masked
-- control. Its text is what a line with just these presses answers, with the aliases of that moment; the read answers the first n units of it, but, where no
-- masked control ended it, not past the first CR LF.
pub record AnswersLine (line : Cooked) (n : ℕ) (pieces : List Piece) (records : List Record) (units : List ℕ) : Type 0 where
  pub before : List Record
  pub last : Record
  pub took : records ≡ before ++ last ∷ []
  pub goes : list_any (is_line_end line.mask) before ≡ false
  pub ends : is_line_end line.mask last ≡ true
  pub text : List ℕ
  pub text' : text ≡ answer_of (record line { presses = line.presses ++ presses_of line.program pieces }) (fold (λ al x. aliases_at x.0.how) [] pieces)
  pub told : units ≡ (if is_masked line.mask last then take n text else front_of n text)

-- what a read answers that began so, and took these records in these pieces: of a line that they ended; their units; or what
-- it answered at once, without a record
abbrev pub AnswersText : Option OpenRead → ℕ → List Piece → List Record → List ℕ → Type 0
AnswersText (Some (reads.Line line)) n pieces records units = AnswersLine line n pieces records units
AnswersText (Some (reads.Units m)) n pieces records units = units ≡ units_of m records
AnswersText (Some (reads.Done (answers.Units us))) n pieces records units = (units ≡ us) × (records ≡ [])
AnswersText _ n pieces records units = ⊥

-- how many units are asked for, at most
abbrev pub asked_for : Wanted → ℕ
asked_for (wanted.Read h n) = n
asked_for (wanted.ReadWith h n initial mask) = n
asked_for (wanted.ReadInput h n) = n
