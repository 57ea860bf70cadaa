use Rattle.std.proofs.Common.{None}
use Rattle.con_actors.specs.Solo.{begins}
use Rattle.con_run.proofs.Crewing.{crew_works, served_goes}
use Rattle.con_run.proofs.Ending.{failed_in}
use Rattle.con_run.proofs.Returning.{all_back, edges_go_on, side_not_term}
use Rattle.con_run.proofs.session.play.Goals as goal

pub run_all-requires-clause-clients : goal.run_all-requires-clause-clients
run_all-requires-clause-clients g c = λ _ _. crew_works _ _ _ _ c.requires.crew

pub finished-requires : goal.finished-requires
finished-requires g c =
    record {
      back =
          all_back _ _ _ _ _ _ _ _ _ _ _ _ _ _ _ _ _ _ _ _ c.requires.opening c.requires.none_before c.requires.edges c.run_all.ensures.side
          c.run_all.ensures.painter c.run_all.ensures.writer c.requires.crew c.run_all.ensures.clients c.requires.len c.requires.few;
    }

pub returns-clause-outcome : goal.returns-clause-outcome
returns-clause-outcome g c = λ session racks e n edges crew. c.finished.ensures.outcome session racks _ _ _ e n
    (edges_go_on (begins session racks None) _ _ _ _ _ _ _ _ _ _ _ _ _ _ _ _ _ _ e c.requires.edges c.run_all.ensures.side c.run_all.ensures.painter c.run_all.ensures.writer edges)
    (served_goes _ _ _ _ _ _ e c.run_all.ensures.clients c.requires.crew crew)

pub returns-clause-term : goal.returns-clause-term
returns-clause-term g c =
    λ session racks e edges t. failed_in _ _ _ _ _ _ c.run_all.ensures.writer.never_falls c.finished.ensures.never_falls c.run_all.ensures.writer.fails
    (λ q. side_not_term _ _ _ _ _ _ _ _ (edges_go_on (begins session racks None) _ _ _ _ _ _ _ _ _ _ _ _ _ _ _ _ _ _ e c.requires.edges c.run_all.ensures.side c.run_all.ensures.painter c.run_all.ensures.writer edges).side' q.0 q.1)
    (c.finished.ensures.term t)
