-- A machine that counts its events beside its state.
use Rattle.std.specs.Prelude.{ℕ, ◌+◌}
use Rattle.con_book.specs.declared.room.Counted.{Counted}

abbrev pub counting : {S E : Type 0} → (S → ℕ → E → S) → Counted S → ℕ → E → Counted S
counting next s actor event = record { state = next s.state actor event; entered = s.entered + 1 }
