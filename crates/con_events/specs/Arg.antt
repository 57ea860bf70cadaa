-- The arguments of calls, by their kinds.
use Rattle.std.specs.Prelude.{ℕ, ℤ, Bool, List, Option}
use Rattle.con_units.specs.declared.place.Rect.{Rect}
use Rattle.con_records.specs.declared.record.Record.{Record}
use Rattle.con_events.specs.declared.call.Words.{Words}

pub data Arg : Type 0 where
  Number : ℕ → Arg
  Signed : ℤ → Arg
  OneUnit : ℕ → Arg
  Flag : Bool → Arg
  Text : List ℕ → Arg
  Area : Rect → Arg
  Clip : Option Rect → Arg
  WordsOf : Words → Arg
  WordList : List ℕ → Arg
  Records : List Record → Arg
