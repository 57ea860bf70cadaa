-- Lines, one for each event of a counter.
use Rattle.std.specs.Prelude.{ℕ, Bool}
use Rattle.con_book.specs.Counted.{counting}
use Rattle.con_book.specs.Counting.{ticked, may_tick}
use Rattle.con_book.specs.declared.counter.Tick.{Tick}
use Rattle.con_book.specs.declared.room.Counted.{Counted}

abbrev pub desk_next : Counted ℕ → ℕ → Tick → Counted ℕ
desk_next s actor event = counting (λ n _ _. ticked n) s actor event

abbrev pub desk_ready : Counted ℕ → ℕ → Tick → Bool
desk_ready s actor event = may_tick s.state event
