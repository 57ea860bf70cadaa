use Rattle.std.proofs.Common.{sym, ap, ◌∙◌}
use Rattle.con_actors.specs.OpeningLaws.{fresh_as}
use Rattle.con_threads.specs.declared.ledger.LedgerView.{LedgerView}
use Rattle.con_run.proofs.Crewing.{all_new_go, fresh_of, new_belongs}
use Rattle.con_run.proofs.Making.{crew_from}
use Rattle.con_run.proofs.session.made.Goals as goal

pub returns-clause-crew : goal.returns-clause-crew
returns-clause-crew g c =
    crew_from _ _ _ _ _ (sym (c.in_ok-edges.ensures.opening.start' ∙ c.in_ok-clients.ensures.opening.start'))
    (new_belongs _ _ _ _ _ c.in_ok-clients.ensures.crew)

pub returns-clause-go : goal.returns-clause-go
returns-clause-go g c =
    λ session racks before old e.
    c.in_ok-edges.ensures.go session racks before old
    (ap (λ (p : LedgerView). p.state) (c.in_ok-clients.ensures.opening.start' ∙ c.in_ok-book.ensures.opening.start') ∙ e)

pub returns-clause-crew_goes : goal.returns-clause-crew_goes
returns-clause-crew_goes g c =
    λ session racks e s fresh.
    all_new_go _ _ _ session racks _ _ s c.in_ok-clients.ensures.crew
    (fresh_of _ _ _ _ (λ c'. c'.seat) racks 0 _ (fresh_as _ _ _ _ racks _ _ c.in_ok-clients.ensures.seats fresh))
