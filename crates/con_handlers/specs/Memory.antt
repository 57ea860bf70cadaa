-- What a handler remembers.
use Rattle.std.specs.Prelude.{ℕ}

-- how often it was asked, up to the greatest u64; the event that it was asked last; and its kind: 1 to 4 where it answers as
-- `answer` says, and 0 where it tells nothing
pub record Memory : Type 0 where
  pub asked : ℕ
  pub last : ℕ
  pub kind : ℕ
