use Rattle.std.proofs.Common.{rules, arith, ap, map, ◌∙◌}
use Rattle.con_actors.specs.OpeningLaws.{sizes_same}
use Rattle.con_actors.specs.Worker.{told_kind}
use Rattle.con_threads.specs.declared.ledger.LedgerView.{LedgerView}
use Rattle.con_run.proofs.Ending.{none_left}
use Rattle.con_run.proofs.Making.{few_scripts, state_begun, was_fine}
use Rattle.con_run.proofs.session.run_session.Goals as goal

pub returns-in_default-clause-outcome : goal.returns-in_default-clause-outcome
returns-in_default-clause-outcome g c =
    none_left _ _ _ _ _ _ _ _ c.nothing_left.ensures.entries c.nothing_left.ensures.replies c.nothing_left.ensures.ends c.nothing_left.ensures.end

pub returns-in_default-made-clause-outcome : goal.returns-in_default-made-clause-outcome
returns-in_default-made-clause-outcome g c =
    none_left _ _ _ _ _ _ _ _ c.nothing_left-in_default-made.ensures.entries c.nothing_left-in_default-made.ensures.replies
    c.nothing_left-in_default-made.ensures.ends c.nothing_left-in_default-made.ensures.end

pub play-requires-clause-few : goal.play-requires-clause-few
play-requires-clause-few g c κs within = let f = few_scripts c.scripts-scripts.result.now c.scripts-scripts.ensures.within in omega (arith, f)

pub returns-clause-outcome : goal.returns-clause-outcome
returns-clause-outcome g c =
    let racks = map (λ rack. map (λ x. told_kind ((goal.CtrlHandler-dyn g (x.vtable, x.value)).memory x.value)) rack.items) c.args.racks.items in
    let begun = state_begun _ racks _ _ c.in-Ok.ensures.state (sizes_same _ _ c.args.racks.items) in
    c.play.ensures.outcome c.args.session.now _ (ap (λ (p : LedgerView). p.state) c.in-Ok-made.ensures.start ∙ begun) (search rules)
    (c.in-Ok-made.ensures.go _ _ _ _ begun) (c.in-Ok-made.ensures.crew_goes _ _ begun c.scripts-scripts.ensures.value c.in-Ok.ensures.fresh)

pub returns-clause-term : goal.returns-clause-term
returns-clause-term g c = λ t.
    let racks = map (λ rack. map (λ x. told_kind ((goal.CtrlHandler-dyn g (x.vtable, x.value)).memory x.value)) rack.items) c.args.racks.items in
    let begun = state_begun _ racks _ _ c.in-Ok.ensures.state (sizes_same _ _ c.args.racks.items) in
    was_fine _ _ c.in-Ok-made.ensures.fine.1
    (c.play.ensures.term c.args.session.now _ (ap (λ (p : LedgerView). p.state) c.in-Ok-made.ensures.start ∙ begun) (c.in-Ok-made.ensures.go _ _ _ _ begun) t)
