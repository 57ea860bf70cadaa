use Rattle.std.proofs.Common.{None, ap, ◌∙◌}
use Rattle.con_link.specs.LinkReading.{mirrored}
use Rattle.con_actors.specs.Solo.{begins}
use Rattle.con_actors.specs.declared.outcome.Outcome.{Outcome}
use Rattle.con_actors.specs.declared.side.Side.{Side}
use Rattle.con_session.proofs.Ending.{term_by}
use Rattle.con_session.proofs.LastGiven.{followed_none}
use Rattle.con_session.proofs.MirrorEnding.{link_cause, mirror_none, mirror_stopped, mirror_whole, no_link, no_term, none_failed, open_second}
use Rattle.con_session.proofs.Mirroring.{cause_now}
use Rattle.con_actors.specs.Beginning.{all_follow, count_of, goes_open}
use Rattle.con_actors.specs.OpeningLaws.{sizes_same}
use Rattle.con_session.proofs.mirrored.run_mirrored.Goals as goal

pub returns-in_default-clause-outcome : goal.returns-in_default-clause-outcome
returns-in_default-clause-outcome g c = mirror_none _ _ _ _ _ _ _ _ _ _ _ c.left_with.ensures.outcome c.nothing_left.ensures.entries
    c.nothing_left.ensures.replies c.nothing_left.ensures.ends c.nothing_left.ensures.end
    c.left_with.ensures.ends c.none_attached-beside.ensures.ends.0 c.left_with.ensures.failed c.none_attached-beside.ensures.failed

pub mirror_rounds-requires-clause-followed : goal.mirror_rounds-requires-clause-followed
mirror_rounds-requires-clause-followed g c = followed_none _ _ c.none_attached-beside.ensures.given

pub mirror_rounds-requires-clause-going : goal.mirror_rounds-requires-clause-going
mirror_rounds-requires-clause-going g c = (
  begins c.args.session.now _ None,
  _,
  _,
  _,
  λ f k. (goes_open mirrored _ _ _ _ _ c.args.session.now _ _ _ _ c.in-Ok.seats.items c.as_mut_slice.result.now
      _ _ _ _ _ _ _ _ _ _ c.in-Ok.ensures.state (sizes_same _ _ c.args.racks.items) c.in-Ok.ensures.entries c.in-Ok.ensures.side c.in-Ok.ensures.canvas
      c.in-Ok.ensures.fresh c.as_mut_slice.ensures.value c.scripts.ensures.value (open_second _ _ _ _ _ _ _ (ap (λ (z : Side). z.ended) c.in-Ok.ensures.side.0)
      c.none_attached-beside.ensures.mirror c.none_attached-beside.ensures.ends c.none_attached-beside.ensures.failed) f),
)

pub returns-in-Ok-mirror_rounds-clause-outcome : goal.returns-in-Ok-mirror_rounds-clause-outcome
returns-in-Ok-mirror_rounds-clause-outcome g c = mirror_whole _ _ _ _ _ _ _ _ _ _ _ _ _ _ _ _ _ _
    (c.in-Ok-mirror_rounds.ensures.turn (begins c.args.session.now _ None) _ _ _
    (λ f k. (goes_open mirrored _ _ _ _ _ c.args.session.now _ _ _ _ c.in-Ok.seats.items c.as_mut_slice.result.now _ _ _ _ _ _ _ _ _ _
    c.in-Ok.ensures.state (sizes_same _ _ c.args.racks.items) c.in-Ok.ensures.entries c.in-Ok.ensures.side c.in-Ok.ensures.canvas c.in-Ok.ensures.fresh
    c.as_mut_slice.ensures.value c.scripts.ensures.value (open_second _ _ _ _ _ _ _ (ap (λ (z : Side). z.ended) c.in-Ok.ensures.side.0)
    c.none_attached-beside.ensures.mirror c.none_attached-beside.ensures.ends c.none_attached-beside.ensures.failed) f)))
    c.left_with-in-Ok-mirror_rounds.ensures.outcome c.left_by.ensures.entries c.left_by.ensures.replies c.left_by.ensures.ends
    c.left_by.ensures.end c.end_by-end.ensures
    (λ b s h. all_follow _ _ _ _ _ c.mirror_rounds.new.seats
    (count_of _ _ _ _ _ c.scripts.ensures.value c.in-Ok.ensures.count c.as_mut_slice.ensures.value c.mirror_rounds.auto.seats) b s h)
    c.left_with-in-Ok-mirror_rounds.ensures.ends c.left_with-in-Ok-mirror_rounds.ensures.failed

pub returns-in-Ok-mirror_rounds-clause-term : goal.returns-in-Ok-mirror_rounds-clause-term
returns-in-Ok-mirror_rounds-clause-term g c = term_by mirrored _ _ _ _ _ _ _ _ _ _ _
    (c.in-Ok-mirror_rounds.ensures.turn (begins c.args.session.now _ None) _ _ _
    (λ f k. (goes_open mirrored _ _ _ _ _ c.args.session.now _ _ _ _ c.in-Ok.seats.items c.as_mut_slice.result.now _ _ _ _ _ _ _ _ _ _
    c.in-Ok.ensures.state (sizes_same _ _ c.args.racks.items) c.in-Ok.ensures.entries c.in-Ok.ensures.side c.in-Ok.ensures.canvas c.in-Ok.ensures.fresh
    c.as_mut_slice.ensures.value c.scripts.ensures.value (open_second _ _ _ _ _ _ _ (ap (λ (z : Side). z.ended) c.in-Ok.ensures.side.0)
    c.none_attached-beside.ensures.mirror c.none_attached-beside.ensures.ends c.none_attached-beside.ensures.failed) f)))
    c.in-Ok.ensures.canvas.2 c.in-Ok-mirror_rounds.ensures.term
    (ap (λ (o : Outcome). o.end) c.left_with-in-Ok-mirror_rounds.ensures.outcome ∙ c.left_by.ensures.end) c.end_by-end.ensures

pub returns-in-Ok-mirror_rounds-clause-second : goal.returns-in-Ok-mirror_rounds-clause-second
returns-in-Ok-mirror_rounds-clause-second g c =
    cause_now _ _ _ _ c.none_attached-beside.ensures.failed c.in-Ok-mirror_rounds.ensures.second c.left_with-in-Ok-mirror_rounds.ensures.failed

pub returns-clause-second : goal.returns-clause-second
returns-clause-second g c = cause_now _ _ _ _ c.none_attached-beside.ensures.failed c.in-Err.ensures.second c.left_with-in-Err.ensures.failed

pub returns-clause-outcome : goal.returns-clause-outcome
returns-clause-outcome g c = mirror_stopped _ _ _ _ _ _ _ _ _ _ _ _ _ _ _ _ _ _
    (c.in-Err.ensures.turn (begins c.args.session.now _ None) _ _ _ (λ f k. (goes_open mirrored _ _ _ _ _ c.args.session.now _ _ _ _ c.in-Ok.seats.items
    c.as_mut_slice.result.now _ _ _ _ _ _ _ _ _ _ c.in-Ok.ensures.state (sizes_same _ _ c.args.racks.items) c.in-Ok.ensures.entries c.in-Ok.ensures.side
    c.in-Ok.ensures.canvas c.in-Ok.ensures.fresh c.as_mut_slice.ensures.value c.scripts.ensures.value (open_second _ _ _ _ _ _ _ (ap (λ (z : Side). z.ended)
    c.in-Ok.ensures.side.0) c.none_attached-beside.ensures.mirror c.none_attached-beside.ensures.ends c.none_attached-beside.ensures.failed) f)))
    c.left_with-in-Err.ensures.outcome c.left_by-in-Err.ensures.entries c.left_by-in-Err.ensures.replies c.left_by-in-Err.ensures.ends
    c.left_by-in-Err.ensures.end c.left_with-in-Err.ensures.ends c.left_with-in-Err.ensures.failed

pub returns-in_default-clause-link : goal.returns-in_default-clause-link
returns-in_default-clause-link g c = no_link _ _ (ap (λ (o : Outcome). o.end) c.left_with.ensures.outcome ∙ c.nothing_left.ensures.end)

pub returns-in_default-clause-term : goal.returns-in_default-clause-term
returns-in_default-clause-term g c = no_term _ _ (ap (λ (o : Outcome). o.end) c.left_with.ensures.outcome ∙ c.nothing_left.ensures.end)

pub returns-in_default-clause-second : goal.returns-in_default-clause-second
returns-in_default-clause-second g c = none_failed _ _ _ c.left_with.ensures.failed c.none_attached-beside.ensures.failed

pub returns-in-Ok-mirror_rounds-clause-link : goal.returns-in-Ok-mirror_rounds-clause-link
returns-in-Ok-mirror_rounds-clause-link g c = link_cause _ _ _ _ _ _ (ap (λ (z : Side). z.end) c.in-Ok.ensures.side.0) c.in-Ok-mirror_rounds.ensures.link
    (ap (λ (o : Outcome). o.end) c.left_with-in-Ok-mirror_rounds.ensures.outcome ∙ c.left_by.ensures.end) c.end_by-end.ensures

pub returns-clause-link : goal.returns-clause-link
returns-clause-link g c = no_link _ _ (ap (λ (o : Outcome). o.end) c.left_with-in-Err.ensures.outcome ∙ c.left_by-in-Err.ensures.end)

pub returns-clause-term : goal.returns-clause-term
returns-clause-term g c = no_term _ _ (ap (λ (o : Outcome). o.end) c.left_with-in-Err.ensures.outcome ∙ c.left_by-in-Err.ensures.end)
