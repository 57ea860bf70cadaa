-- What happened to a read in one step, with all that a screen needs to follow.
use Rattle.std.specs.Prelude.{ℕ}
use Rattle.con_cooked.specs.declared.cooked.Cooked.{Cooked}
use Rattle.con_readers.specs.declared.open.OpenRead.{OpenRead}

pub data Act : Type 0 where
  -- the process's read became the first that is not done
  began : ℕ → Act
  -- its line took a record: the line before and after
  typed : ℕ → Cooked → Cooked → Act
  -- its read of units took records without a unit
  passed : ℕ → Act
  -- its read is done: the read as it stood at its end, and the length of an ended line before its expansion, 0 for another read
  ended : ℕ → OpenRead → ℕ → Act
  -- a masked control ended its line: the line as it stood
  woke : ℕ → Cooked → Act
