use Rattle.std.proofs.Common.{◌≡◌, ℕ, ◌<◌, sym, subst, ap}
use Rattle.con_screens.specs.Buffers.{Buffers}
use Rattle.con_machine.specs.Words.ScreenCalls.{page_at}
use Rattle.con_machine.specs.Sound.{AreCounted}
use Rattle.con_machine.proofs.Knows.{stamped_is, stamped_seen}
use Rattle.con_machine.proofs.Lent.{lent_counts}
use Rattle.con_machine.proofs.painting.showing.stamp.Goals as goal

pub returns-then-old-number-clause-is : goal.returns-then-old-number-clause-is
returns-then-old-number-clause-is c =
    let was : c.now-old.result ≡ (page_at c.args.screens.now c.active-id.result.0).grid.now = cc in
    stamped_is c.args.screens.now c.set_now.new.self c.active-id.result.0 c.now-old.result c.next_number-number.result c.active-id.ensures was
    c.next_number-number.ensures.is c.set_now.ensures.buffers

pub returns-then-old-number-clause-counted : goal.returns-then-old-number-clause-counted
returns-then-old-number-clause-counted c hs counted = subst (λ (b : Buffers). AreCounted b hs) (sym c.set_now.ensures.buffers) (lent_counts _ _ _ hs counted)

pub returns-then-old-number-clause-seen : goal.returns-then-old-number-clause-seen
returns-then-old-number-clause-seen c =
    let was : c.now-old.result ≡ (page_at c.args.screens.now c.active-id.result.0).grid.now = cc in
    stamped_seen c.args.screens.now c.set_now.new.self c.active-id.result.0 c.place.result c.set_now.ensures.kept c.active-id.ensures
    (ap (λ (b : Buffers). b.active) c.set_now.ensures.buffers) c.place.ensures
    (c.set_now.ensures.shown (subst (λ (n : ℕ). n < c.next_number-number.result) was c.if-old-number.true))

pub returns-else-old-number-clause-is : goal.returns-else-old-number-clause-is
returns-else-old-number-clause-is c =
    let was : c.now-old.result ≡ (page_at c.args.screens.now c.active-id.result.0).grid.now = cc in
    stamped_is c.args.screens.now c.set_now.new.self c.active-id.result.0 c.now-old.result c.next_number-number.result c.active-id.ensures was
    c.next_number-number.ensures.is c.set_now.ensures.buffers

pub returns-else-old-number-clause-counted : goal.returns-else-old-number-clause-counted
returns-else-old-number-clause-counted c hs counted = subst (λ (b : Buffers). AreCounted b hs) (sym c.set_now.ensures.buffers) (lent_counts _ _ _ hs counted)
