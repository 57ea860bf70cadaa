-- The words of the code and of laws about Reads, which a reader need not believe: what the words of Reads say of one read, and one step at a time.
use Rattle.std.specs.Prelude.{ℕ, zero, suc, ◌+◌, ◌==◌, ◌&&◌, Bool, true, false, not, List, [], ◌∷◌, length, if◌then◌else◌, Option, Some, None}
use Rattle.std.specs.Option.{option_map_or}
use Rattle.con_units.specs.declared.code.Code.TheVariants as code
use Rattle.con_records.specs.declared.record.Record.{Record}
use Rattle.con_history.specs.declared.histories.Histories.{Histories}
use Rattle.con_alias.specs.Aliases.{AliasList}
use Rattle.con_readers.specs.Lines.{line_text}
use Rattle.con_readers.specs.Act.{Act, began}
use Rattle.con_readers.specs.Serving.{is_done}
use Rattle.con_readers.specs.Words.Serving.{took}
use Rattle.con_readers.specs.Reads.{Settled, settled, failed}
use Rattle.con_readers.specs.declared.answer.Answer.{Answer}
use Rattle.con_readers.specs.declared.open.OpenRead.{OpenRead}
use Rattle.con_readers.specs.declared.open.OpenRead.TheVariants as reads
use Rattle.con_readers.specs.declared.open.Open.{Open}

abbrev pub is_of : ℕ → Open → Bool
is_of p o = o.process == p

abbrev pub done_in : Option Open → Bool
done_in o = option_map_or (λ o. is_done o.read) o false

abbrev pub undone_in : Option Open → Bool
undone_in o = option_map_or (λ o. not (is_done o.read)) o false

-- the answer of a read that is done
abbrev pub answered : OpenRead → Option Answer
answered (reads.Done a) = Some a
answered _ = None

abbrev pub answered_in : Option Open → Option Answer
answered_in o = option_map_or (λ o. answered o.read) o None

abbrev pub first_acts : Open → List Act → List Act
first_acts o acts = if o.started then acts else began o.process ∷ acts

abbrev pub closed_one : Open → Open
closed_one o = if is_done o.read then o else failed code.Closed o

-- the open reads in the order in which they began, and for how many more there is room
pub record Queued : Type 0 where
  pub reads : List Open
  pub spare : ℕ

pub record Moved : Type 0 where
  pub one : Open
  pub records : List Record
  pub histories : Histories
  pub act : Option Act

abbrev pub moved_on : List AliasList → Open → List Record → Histories → Moved
moved_on al o [] hs = record { one = o; records = []; histories = hs; act = None }
moved_on al o (r ∷ rs) hs = let t = took o.process al o.read (r ∷ rs) hs in
    record { one = record o { read = t.read }; records = t.records; histories = t.histories; act = t.act }

-- one step of the first read that is not done: it starts, then it takes records
abbrev pub moved : List AliasList → Open → List Record → Histories → Moved
moved al o rs hs = if o.started then moved_on al o rs hs
    else record { one = record o { started = true }; records = rs; histories = hs; act = Some (began o.process) }

-- the first k reads are done
abbrev pub done_upto : ℕ → List Open → Bool
done_upto zero os = true
done_upto (suc k) [] = true
done_upto (suc k) (o ∷ os) = is_done o.read && done_upto k os

pub record Pumped : Type 0 where
  pub reads : List Open
  pub records : List Record
  pub histories : Histories
  pub act : Option Act

-- one step of the first read that is not done, or none
abbrev pub pumped : List AliasList → List Open → List Record → Histories → Pumped
pumped al [] rs hs = record { reads = []; records = rs; histories = hs; act = None }
pumped al (o ∷ os) rs hs =
    if is_done o.read then (let p = pumped al os rs hs in record p { reads = o ∷ p.reads })
    else (let m = moved al o rs hs in record { reads = m.one ∷ os; records = m.records; histories = m.histories; act = m.act })

abbrev pub is_none_left : List Record → Bool
is_none_left [] = true
is_none_left (r ∷ rs) = false

-- nothing is left to do: every read is done, or the first one that is not done has started and no record is left
abbrev pub is_at_rest : List Open → List Record → Bool
is_at_rest [] rs = true
is_at_rest (o ∷ os) rs = if is_done o.read then is_at_rest os rs else (o.started && is_none_left rs)

unfoldable pub before : Act → Settled → Settled
before a t = record t { acts = a ∷ t.acts }

abbrev pub after_act : Option Act → Pumped → Settled → Settled
after_act None p t = record { reads = p.reads; records = p.records; histories = p.histories; acts = [] }
after_act (Some a) p t = before a t

-- what settles after a step, with what happened in that step before it
unfoldable pub settled_after : List AliasList → Pumped → Settled
settled_after al p = after_act p.act p (settled al p.reads p.records p.histories)

-- a number that each step lowers
abbrev pub weight : Open → ℕ
weight o = if is_done o.read then 0 else if o.started then 1 else 2

unfoldable pub work : List Open → List Record → ℕ
work [] rs = length rs
work (o ∷ os) rs = weight o + work os rs

abbrev pub text_in : OpenRead → List ℕ
text_in (reads.Line line) = line_text line
text_in (reads.Units n) = []
text_in (reads.Records n) = []
text_in (reads.Done a) = []

-- the text of the first read that is not done, where it is of a line
abbrev pub head_text : List Open → List ℕ
head_text [] = []
head_text (o ∷ os) = if is_done o.read then head_text os else text_in o.read
