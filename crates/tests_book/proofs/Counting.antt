-- A desk that began with no event has counted those of its log.
use Rattle.std.proofs.Common.{◌≡◌, ℕ, ◌+◌, List, length, arith, ap, ◌∙◌}
use Rattle.con_book.specs.Counting.{ticked}
use Rattle.con_book.specs.History.{after}
use Rattle.con_book.specs.Laws.{after-counting}
use Rattle.con_book.specs.declared.counter.Tick.{Tick}
use Rattle.con_book.specs.declared.history.Logged.{Logged}
use Rattle.con_book.specs.declared.room.Counted.{Counted}
use Rattle.tests_book.specs.Desks.{desk_next, desk_ready}

pub counted : (start now : Counted ℕ) (log : List (Logged Tick)) → now ≡ after desk_next start log → start.entered ≡ 0 → now.entered ≡ length log
counted start now log is none =
    let all : now.entered ≡ start.entered + length log = ap (λ (c : Counted ℕ). c.entered) (is ∙ after-counting (λ n actor event. ticked n) (λ n actor event. desk_ready start actor event) start log) in
    omega arith
