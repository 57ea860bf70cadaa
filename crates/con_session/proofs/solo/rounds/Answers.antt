use Rattle.std.proofs.Common.{◌∙◌, arith}
use Rattle.con_machine.specs.Turns.{paints}
use Rattle.con_link.specs.LinkReading.{plainly}
use Rattle.con_actors.specs.Words.Sender.{NoMore}
use Rattle.con_session.proofs.Going.{cause_more, failing, fails_now, goes_idle, goes_longer, goes_on, rounds_err}
use Rattle.con_session.proofs.solo.rounds.Goals as goal

pub returns-in_err-round-clause-turn : goal.returns-in_err-round-clause-turn
returns-in_err-round-clause-turn g c = λ b before old init f k. rounds_err plainly NoMore NoMore _ _ _ _ _ _ c.from_residual.ensures.0
    (c.in_err-round.ensures.turn b before old (c.loop.invariant.turn b before old init) f k)

pub returns-clause-turn : goal.returns-clause-turn
returns-clause-turn g c = λ b before old init f k.
    goes_idle plainly NoMore _ _ _ _ _ _ _ c.if-branch.false (c.in_ok-round.ensures.turn b before old (c.loop.invariant.turn b before old init) f k)

pub loop-preserved : goal.loop-preserved
loop-preserved g c = record {
  seats = c.round.auto.seats ∙ c.loop.invariant.seats;
  taken = c.in_ok-round.ensures.taken;
  served = c.in_ok-round.ensures.served;
  tied = c.in_ok-round.ensures.tied;
  going = (
    c.loop.invariant.going.0,
    c.loop.invariant.going.1,
    c.loop.invariant.going.2,
    λ f k. goes_on plainly NoMore _ _ _ _ _ _ _
        (c.in_ok-round.ensures.turn c.loop.invariant.going.0 c.loop.invariant.going.1 c.loop.invariant.going.2 c.loop.invariant.going.3 f k),
  );
  turn = λ b before old init f k. goes_on plainly NoMore _ _ _ _ _ _ _ (c.in_ok-round.ensures.turn b before old (c.loop.invariant.turn b before old init) f k);
  link = cause_more _ _ _ _ _ _ c.loop.invariant.link c.in_ok-round.ensures.link c.loop.invariant.link_never_falls c.in_ok-round.ensures.link_never_falls;
  term = cause_more _ _ _ _ _ _ c.loop.invariant.term c.in_ok-round.ensures.term c.loop.invariant.term_never_falls c.in_ok-round.ensures.term_never_falls;
  link_never_falls = omega (arith, c.loop.invariant.link_never_falls, c.in_ok-round.ensures.link_never_falls);
  term_never_falls = omega (arith, c.loop.invariant.term_never_falls, c.in_ok-round.ensures.term_never_falls);
}

pub loop-smaller : goal.loop-smaller
loop-smaller g c =
    let longer = goes_longer plainly NoMore _ _ _ _ _ _ _ c.if-branch.true
    (c.in_ok-round.ensures.turn c.loop.invariant.going.0 c.loop.invariant.going.1 c.loop.invariant.going.2 c.loop.invariant.going.3
    (failing c.round.new.stage.canvas.failed (paints c.round.new.stage.desk.entries.items))
    (fails_now c.round.new.stage.canvas.failed (paints c.round.new.stage.desk.entries.items))) in
    omega (arith, longer)
