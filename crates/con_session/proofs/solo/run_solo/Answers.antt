use Rattle.std.proofs.Common.{None}
use Rattle.con_link.specs.LinkReading.{plainly}
use Rattle.con_actors.specs.Words.Sender.{NoMore}
use Rattle.con_actors.specs.Solo.{begins}
use Rattle.con_session.proofs.Ending.{handed_none, handed_stops, handed_whole, term_by}
use Rattle.con_actors.specs.Beginning.{all_follow, count_of, goes_open, going_open}
use Rattle.con_actors.specs.OpeningLaws.{sizes_same}
use Rattle.con_session.proofs.solo.run_solo.Goals as goal

pub returns-in_default-clause-outcome : goal.returns-in_default-clause-outcome
returns-in_default-clause-outcome g c = handed_none plainly NoMore _ _ _ _ _ _ _ _ c.nothing_left.ensures.entries c.nothing_left.ensures.replies
    c.nothing_left.ensures.ends c.nothing_left.ensures.end tt

pub rounds-requires-clause-going : goal.rounds-requires-clause-going
rounds-requires-clause-going g c = going_open plainly NoMore _ _ _ _ _ _ (goes_open plainly NoMore _ _ _ _ c.args.session.now _ _ _ _
    c.in-Ok.seats.items c.as_mut_slice.result.now _ _ _ _ _ _ _ _ _ _ c.in-Ok.ensures.state (sizes_same _ _ c.args.racks.items) c.in-Ok.ensures.entries
    c.in-Ok.ensures.side c.in-Ok.ensures.canvas c.in-Ok.ensures.fresh c.as_mut_slice.ensures.value c.scripts.ensures.value tt)

pub returns-in-Ok-rounds-clause-outcome : goal.returns-in-Ok-rounds-clause-outcome
returns-in-Ok-rounds-clause-outcome g c = handed_whole plainly NoMore NoMore _ _ _ _ _ _ _ _ _ _ _
    (c.in-Ok-rounds.ensures.turn (begins c.args.session.now _ None) _ _ (λ f k. goes_open plainly NoMore _ _ _ _ c.args.session.now _ _ _ _
    c.in-Ok.seats.items c.as_mut_slice.result.now _ _ _ _ _ _ _ _ _ _ c.in-Ok.ensures.state (sizes_same _ _ c.args.racks.items) c.in-Ok.ensures.entries
    c.in-Ok.ensures.side c.in-Ok.ensures.canvas c.in-Ok.ensures.fresh c.as_mut_slice.ensures.value c.scripts.ensures.value tt f))
    c.left_by.ensures.entries c.left_by.ensures.replies c.left_by.ensures.ends c.left_by.ensures.end c.end_by-end.ensures
    (λ b s h. all_follow _ _ _ _ _ c.rounds.new.seats
    (count_of _ _ _ _ _ c.scripts.ensures.value c.in-Ok.ensures.count c.as_mut_slice.ensures.value c.rounds.auto.seats) b s h) (λ fs m. tt)

pub returns-in-Ok-rounds-clause-term : goal.returns-in-Ok-rounds-clause-term
returns-in-Ok-rounds-clause-term g c = term_by plainly NoMore _ _ _ _ _ _ _ _ _ _
    (c.in-Ok-rounds.ensures.turn (begins c.args.session.now _ None) _ _ (λ f k. goes_open plainly NoMore _ _ _ _ c.args.session.now _ _ _ _
    c.in-Ok.seats.items c.as_mut_slice.result.now _ _ _ _ _ _ _ _ _ _ c.in-Ok.ensures.state (sizes_same _ _ c.args.racks.items) c.in-Ok.ensures.entries
    c.in-Ok.ensures.side c.in-Ok.ensures.canvas c.in-Ok.ensures.fresh c.as_mut_slice.ensures.value c.scripts.ensures.value tt f))
    c.in-Ok.ensures.canvas.2 c.in-Ok-rounds.ensures.term c.left_by.ensures.end c.end_by-end.ensures

pub returns-clause-outcome : goal.returns-clause-outcome
returns-clause-outcome g c = handed_stops plainly NoMore _ _ _ _ _ _ _ _ _ _ _ _ _ _
    (c.in-Err.ensures.turn (begins c.args.session.now _ None) _ _ (λ f k. goes_open plainly NoMore _ _ _ _ c.args.session.now _ _ _ _ c.in-Ok.seats.items
    c.as_mut_slice.result.now _ _ _ _ _ _ _ _ _ _ c.in-Ok.ensures.state (sizes_same _ _ c.args.racks.items) c.in-Ok.ensures.entries
    c.in-Ok.ensures.side c.in-Ok.ensures.canvas c.in-Ok.ensures.fresh c.as_mut_slice.ensures.value c.scripts.ensures.value tt f))
    c.left_by-in-Err.ensures.entries c.left_by-in-Err.ensures.replies c.left_by-in-Err.ensures.ends c.left_by-in-Err.ensures.end
