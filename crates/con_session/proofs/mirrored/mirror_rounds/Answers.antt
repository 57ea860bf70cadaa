use Rattle.std.proofs.Common.{◌∙◌, arith}
use Rattle.con_machine.specs.Turns.{paints}
use Rattle.con_link.specs.LinkReading.{mirrored}
use Rattle.con_session.proofs.Going.{cause_more, failing, fails_now, goes_idle, goes_longer, goes_on, rounds_err}
use Rattle.con_session.proofs.mirrored.mirror_rounds.Goals as goal

pub returns-in_err-mirror_round-clause-turn : goal.returns-in_err-mirror_round-clause-turn
returns-in_err-mirror_round-clause-turn g c = λ b before old was init f k. rounds_err mirrored _ _ _ _ _ _ _ _ c.from_residual.ensures.0
    (c.in_err-mirror_round.ensures.turn b before old was (c.loop.invariant.turn b before old was init) f k)

pub returns-clause-turn : goal.returns-clause-turn
returns-clause-turn g c = λ b before old was init f k.
    goes_idle mirrored _ _ _ _ _ _ _ _ c.if-branch.false (c.in_ok-mirror_round.ensures.turn b before old was (c.loop.invariant.turn b before old was init) f k)

pub loop-preserved : goal.loop-preserved
loop-preserved g c = record {
  seats = c.mirror_round.auto.seats ∙ c.loop.invariant.seats;
  taken = c.in_ok-mirror_round.ensures.taken;
  served = c.in_ok-mirror_round.ensures.served;
  tied = c.in_ok-mirror_round.ensures.tied;
  followed = c.in_ok-mirror_round.ensures.followed;
  going = (
    c.loop.invariant.going.0,
    c.loop.invariant.going.1,
    c.loop.invariant.going.2,
    c.loop.invariant.going.3,
    λ f k. goes_on mirrored _ _ _ _ _ _ _ _ (c.in_ok-mirror_round.ensures.turn c.loop.invariant.going.0 c.loop.invariant.going.1
        c.loop.invariant.going.2 c.loop.invariant.going.3 c.loop.invariant.going.4 f k),
  );
  turn = λ b before old was init f k.
      goes_on mirrored _ _ _ _ _ _ _ _ (c.in_ok-mirror_round.ensures.turn b before old was (c.loop.invariant.turn b before old was init) f k);
  link = cause_more _ _ _ _ _ _ c.loop.invariant.link c.in_ok-mirror_round.ensures.link c.loop.invariant.link_never_falls
      c.in_ok-mirror_round.ensures.link_never_falls;
  term = cause_more _ _ _ _ _ _ c.loop.invariant.term c.in_ok-mirror_round.ensures.term c.loop.invariant.term_never_falls
      c.in_ok-mirror_round.ensures.term_never_falls;
  second = cause_more _ _ _ _ _ _ c.loop.invariant.second c.in_ok-mirror_round.ensures.second c.loop.invariant.second_never_falls
      c.in_ok-mirror_round.ensures.second_never_falls;
  second_never_falls = omega (arith, c.loop.invariant.second_never_falls, c.in_ok-mirror_round.ensures.second_never_falls);
  link_never_falls = omega (arith, c.loop.invariant.link_never_falls, c.in_ok-mirror_round.ensures.link_never_falls);
  term_never_falls = omega (arith, c.loop.invariant.term_never_falls, c.in_ok-mirror_round.ensures.term_never_falls);
}

pub loop-smaller : goal.loop-smaller
loop-smaller g c =
    let longer = goes_longer mirrored _ _ _ _ _ _ _ _ c.if-branch.true (c.in_ok-mirror_round.ensures.turn c.loop.invariant.going.0
    c.loop.invariant.going.1 c.loop.invariant.going.2 c.loop.invariant.going.3 c.loop.invariant.going.4
    (failing c.mirror_round.new.stage.canvas.failed (paints c.mirror_round.new.stage.desk.entries.items))
    (fails_now c.mirror_round.new.stage.canvas.failed (paints c.mirror_round.new.stage.desk.entries.items))) in
    omega (arith, longer)
