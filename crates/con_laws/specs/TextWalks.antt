-- What the text of a read is, in the parts that the proofs go by.
use Rattle.std.specs.Prelude.{◌≡◌, ℕ, Bool, true, false, List, [], ◌∷◌, ◌++◌, map, fold, take, if◌then◌else◌}
use Rattle.std.specs.List.{list_any}
use Rattle.con_alias.specs.Aliases.{AliasList}
use Rattle.con_cooked.specs.Cooked.{Moment}
use Rattle.con_cooked.specs.Mask.{is_masked}
use Rattle.con_cooked.specs.declared.cooked.Cooked.{Cooked}
use Rattle.con_readers.specs.Answering.{is_line_end}
use Rattle.con_readers.specs.Words.Lines.{line_answer}
use Rattle.con_readers.specs.Wants.{units_of}
use Rattle.con_readers.specs.declared.answer.Answer.TheVariants as answers
use Rattle.con_readers.specs.declared.open.OpenRead.{OpenRead}
use Rattle.con_readers.specs.declared.open.OpenRead.TheVariants as reads
use Rattle.con_records.specs.declared.record.Record.{Record}
use Rattle.con_machine.specs.Reads.{front_of}
use Rattle.con_laws.specs.Fates.{Piece}
use Rattle.con_laws.specs.Texts.{lines_at, aliases_at}

-- records as presses of a line
abbrev pub moments : List (List ℕ) → List Record → List Moment
moments lines rs = map (λ r. (let m : Moment = record { pressed = r; lines = lines } in m)) rs

-- each record that was taken, with the lines of the program's history at that moment
abbrev pub presses_of : List ℕ → List Piece → List Moment
presses_of program [] = []
presses_of program (x ∷ xs) = moments (lines_at program x.0.how) x.1 ++ presses_of program xs

-- the aliases when the last records were taken, or else these
abbrev pub aliases_after : List AliasList → List Piece → List AliasList
aliases_after al pieces = fold (λ before x. aliases_at x.0.how) al pieces

-- A line took these records up to the first one that ends a line: a return key's going down, or a masked control. Its text is what
-- a line with just these presses answers, with the aliases of that moment.
pub record EndsText (line : Cooked) (pieces : List Piece) (records : List Record) (text : List ℕ) : Type 0 where
  pub before : List Record
  pub last : Record
  pub took : records ≡ before ++ last ∷ []
  pub goes : list_any (is_line_end line.mask) before ≡ false
  pub ends : is_line_end line.mask last ≡ true
  pub text' : text ≡ line_answer (record line { presses = line.presses ++ presses_of line.program pieces }) (aliases_after [] pieces)

-- of such a text the read answers the first n units, but, where no masked control ended it, not past the first CR LF
abbrev pub line_part : Bool → ℕ → List ℕ → List ℕ
line_part masked n text = if masked then take n text else front_of n text

-- what a read of n units at most of a line answers
pub record AnswersLine (line : Cooked) (n : ℕ) (pieces : List Piece) (records : List Record) (units : List ℕ) : Type 0 where
  pub text : List ℕ
  pub ended : EndsText line pieces records text
  pub told : units ≡ line_part (is_masked line.mask ended.last) n text

-- what a read answers that began so, and took these records in these pieces: of a line that they ended; their units; or what
-- it answered at once, without a record
abbrev pub AnswersText : OpenRead → ℕ → List Piece → List Record → List ℕ → Type 0
AnswersText (reads.Line line) n pieces records units = AnswersLine line n pieces records units
AnswersText (reads.Units m) n pieces records units = units ≡ units_of m records
AnswersText (reads.Done (answers.Units us)) n pieces records units = (units ≡ us) × (records ≡ [])
AnswersText _ n pieces records units = ⊥
