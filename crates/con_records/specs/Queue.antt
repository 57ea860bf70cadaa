-- The queue of input records: what stands in it, and what is promised to fit.
use Rattle.std.specs.Prelude.{ℕ, ◌-◌, List, ◌++◌, length, drop, max}
use Rattle.con_records.specs.declared.record.Record.{Record}

-- the records in order of arrival, and how many more may be put in without memory
pub record Queue : Type 0 where
  pub items : List Record
  pub spare : ℕ

-- records put last, which use up as much of the room
abbrev pub appended : Queue → List Record → Queue
appended q rs = record { items = q.items ++ rs; spare = q.spare - length rs }

-- the first n records gone, or all where there are fewer
abbrev pub without_first : Queue → ℕ → Queue
without_first q n = record q { items = drop n q.items }

-- room for at least n more
abbrev pub with_room : Queue → ℕ → Queue
with_room q n = record q { spare = max q.spare n }
