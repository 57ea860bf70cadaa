-- The list of reads, and all steps of it until none is left.
use Rattle.std.specs.Prelude.{ℕ, ◌==◌, Bool, true, false, not, List, [], ◌∷◌, ◌++◌, map, slice_get, if◌then◌else◌, Option}
use Rattle.std.specs.List.{list_any, remove, position_or_len}
use Rattle.std.specs.Option.{option_map_or}
use Rattle.con_units.specs.Units.{changed_at}
use Rattle.con_units.specs.declared.code.Code.{Code}
use Rattle.con_units.specs.declared.code.Code.TheVariants as code
use Rattle.con_records.specs.declared.record.Record.{Record}
use Rattle.con_history.specs.declared.histories.Histories.{Histories}
use Rattle.con_alias.specs.Aliases.{AliasList}
use Rattle.con_readers.specs.Act.{Act, began}
use Rattle.con_readers.specs.Serving.{is_done, is_line, served}
use Rattle.con_readers.specs.declared.answer.Answer.{Answer}
use Rattle.con_readers.specs.declared.answer.Answer.TheVariants as answers
use Rattle.con_readers.specs.declared.open.OpenRead.{OpenRead}
use Rattle.con_readers.specs.declared.open.OpenRead.TheVariants as reads
use Rattle.con_readers.specs.declared.open.Open.{Open}

-- a read that has just begun
abbrev pub begun : ℕ → OpenRead → Open
begun process read = record { process = process; started = false; read = read }

-- the reads when nothing more can be served, what is left of the records, the histories, and what happened in order
pub record Settled : Type 0 where
  pub reads : List Open
  pub records : List Record
  pub histories : Histories
  pub acts : List Act

-- the first read that is not done takes records until it is done or none is left, then the next one follows
unfoldable pub settled : List AliasList → List Open → List Record → Histories → Settled
settled al [] rs hs = record { reads = []; records = rs; histories = hs; acts = [] }
settled al (o ∷ os) rs hs =
    if is_done o.read then (let t = settled al os rs hs in record t { reads = o ∷ t.reads })
    else (let s = served o.process al o.read rs hs in
    let one : Open = record o { read = s.read; started = true } in
    let acts : List Act = if o.started then s.acts else began o.process ∷ s.acts in
    if is_done s.read
    then (let t = settled al os s.records s.histories in record { reads = one ∷ t.reads; records = t.records; histories = t.histories; acts = acts ++ t.acts })
    else record { reads = one ∷ os; records = s.records; histories = s.histories; acts = acts })

-- where the process's read stands, or how many there are
abbrev pub place_of : List Open → ℕ → ℕ
place_of os p = position_or_len (λ o. o.process == p) os

abbrev pub is_open : List Open → ℕ → Bool
is_open os p = list_any (λ o. o.process == p) os

-- the process's read is done
abbrev pub has_done : List Open → ℕ → Bool
has_done os p = option_map_or (λ o. is_done o.read) (slice_get os (place_of os p)) false

-- the process has a read that is not done
abbrev pub has_undone : List Open → ℕ → Bool
has_undone os p = option_map_or (λ o. not (is_done o.read)) (slice_get os (place_of os p)) false

abbrev pub without : List Open → ℕ → List Open
without os p = remove os (place_of os p)

abbrev pub answer_of : OpenRead → Answer
answer_of (reads.Done a) = a
answer_of _ = answers.Fail code.Closed

abbrev pub answer_in : Option Open → Answer
answer_in o = option_map_or (λ o. answer_of o.read) o (answers.Fail code.Closed)

abbrev pub failed : Code → Open → Open
failed why o = record o { read = reads.Done (answers.Fail why) }

-- each read that is not done ends, since the console closes
abbrev pub all_closed : List Open → List Open
all_closed os = map (λ o. if is_done o.read then o else failed code.Closed o) os

-- a line read that is not done
abbrev pub is_open_line : Open → Bool
is_open_line o = is_line o.read

-- the first line read that is not done ends by ctrl+C
abbrev pub line_aborted : List Open → List Open
line_aborted os = changed_at (failed code.Aborted) os (position_or_len (λ o. is_line o.read) os)
