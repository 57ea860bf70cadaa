use Rattle.std.proofs.Common.{refl, List, ap, ◌∙◌}
use Rattle.con_book.specs.Passes.{view_of}
use Rattle.con_book.specs.declared.history.Logged.{Logged}
use Rattle.con_events.specs.declared.event.Event.{Event}
use Rattle.con_machine.specs.Numbered as numbers
use Rattle.con_threads.specs.Ledger.{logged_entries}
use Rattle.con_threads.proofs.scribe.Scribe.new.Goals as goal

pub returns-clause-scribe : goal.returns-clause-scribe
returns-clause-scribe c =
    let v = c.pass.ensures.new in
    record {
      named = ap (λ w. numbers.actor_of w.actor) v ∙ c.requires.named;
      single = ap (λ w. w.opens) v;
      own_mine = c.pass.ensures.mine;
      none_before = ap (λ w. w.start.replies) v ∙ c.requires.opening.2;
    }

pub returns-clause-actor : goal.returns-clause-actor
returns-clause-actor c = (refl, ap (λ w. w.actor) c.pass.ensures.new)

pub returns-clause-history : goal.returns-clause-history
returns-clause-history c =
    let v = c.pass.ensures.new in
    (ap (λ w. w.start.state) v, ap (λ w. logged_entries w.start.state w.seen) v ∙ ap (λ (l : List (Logged Event)). logged_entries (view_of c.args.opening.now).start.state l) c.requires.opening.1)
