-- How many keys bytes give, and how many units these send: with the bytes held then, no more than there are bytes, those held
-- before among them.
use Rattle.std.specs.Prelude.{ℕ, ◌+◌, ◌≤◌, Bool, List, length}
use Rattle.con_units.specs.Split.{split_after}
use Rattle.con_vtin.specs.Keys.{quieted}
use Rattle.con_vtin.specs.Words.Keys.{grammar}
use Rattle.con_vtin.specs.Words.Sequences.{sent}

pub record SendsWithin : Type 0 where
  pub keys : (held bytes : List ℕ) → length (split_after grammar held bytes).items + length (split_after grammar held bytes).tail ≤ length held + length bytes
  pub units : (held bytes : List ℕ) (cursor_keys : Bool)
      → length (sent (split_after grammar held bytes).items cursor_keys) + length (split_after grammar held bytes).tail ≤ length held + length bytes
  pub quiet_keys : (held : List ℕ) → length (quieted held) ≤ length held
  pub quiet_units : (held : List ℕ) (cursor_keys : Bool) → length (sent (quieted held) cursor_keys) ≤ length held
