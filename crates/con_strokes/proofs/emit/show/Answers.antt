-- One sequence.
use Rattle.con_strokes.proofs.LeadLemmas.{shows, hides}
use Rattle.con_strokes.proofs.emit.show.Goals as goal

pub returns-then-visible-clause-leads : goal.returns-then-visible-clause-leads
returns-then-visible-clause-leads c = λ s. rw c.if-visible.true (shows _ _ s c.append.ensures.bytes)

pub returns-else-visible-clause-leads : goal.returns-else-visible-clause-leads
returns-else-visible-clause-leads c = λ s. rw c.if-visible.false (hides _ _ s c.append-else-visible.ensures.bytes)
