-- The words of the code and of laws about Answers, which a reader need not believe: the words of laws: the same, by the console before it.
use Rattle.std.specs.Prelude.{ℕ, List, [], if◌then◌else◌}
use Rattle.con_events.specs.declared.event.Wanted.{Wanted}
use Rattle.con_events.specs.declared.event.Wanted.TheVariants as wanted
use Rattle.con_readers.specs.declared.open.OpenRead.{OpenRead}
use Rattle.con_readers.specs.declared.open.OpenRead.TheVariants as reads
use Rattle.con_machine.specs.State.{State, rest_in}
use Rattle.con_machine.specs.Outcome.{has_bit}
use Rattle.con_machine.specs.Words.Reads.{line_read, units_read}

abbrev pub opens_text : State → ℕ → ℕ → ℕ → List ℕ → ℕ → OpenRead
opens_text s p h n initial mask = if has_bit s.mode 2 then line_read s p n (rest_in s.rests p h) initial mask else units_read n

unfoldable pub opens : State → ℕ → Wanted → OpenRead
opens s p (wanted.Read h n) = opens_text s p h n [] 0
opens s p (wanted.ReadWith h n initial mask) = opens_text s p h n initial mask
opens s p (wanted.ReadInput h n) = reads.Records n
