-- The words of the code and of laws about Memory, which a reader need not believe.
use Rattle.std.specs.Prelude.{ℕ}
use Rattle.con_handlers.specs.Answers.{raised}
use Rattle.con_handlers.specs.Memory.{Memory}

abbrev pub memory_of : ℕ → ℕ → ℕ → Memory
memory_of asked last kind = record { asked = asked; last = last; kind = kind }

-- it was asked once more
abbrev pub after_event : ℕ → Memory → Memory
after_event event m = record { asked = raised m.asked; last = event; kind = m.kind }
