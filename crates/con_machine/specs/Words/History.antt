-- The words of the code and of laws about History, which a reader need not believe.
use Rattle.std.specs.Prelude.{◌≡◌, ◌≤◌, ℕ, List, length, take}
use Rattle.con_machine.specs.State.{State}
use Rattle.con_machine.specs.History.{run}
use Rattle.con_events.specs.declared.entry.Entry.{Entry}

-- t is the console after a front of a history
abbrev pub RanFront : State → List Entry → State → Type 0
RanFront s es t = (n : ℕ) × (n ≤ length es) × (t ≡ run s (take n es))
