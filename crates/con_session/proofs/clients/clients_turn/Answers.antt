use Rattle.std.proofs.Common.{arith, refl, ap, ◌∙◌}
use Rattle.con_events.specs.declared.script.Script.{Script}
use Rattle.con_actors.specs.RanLaws.{ran_then, ran_same}
use Rattle.con_actors.specs.SeatLaws.{clients_none, clients_step, clients_fail, clients_done}
use Rattle.con_session.proofs.clients.clients_turn.Goals as goal

pub loop-k-init : goal.loop-k-init
loop-k-init g c = record { turns = λ b all. clients_none b _ _ _ _ _ _ _ _ all; ran = ran_same _ _ _ _ refl refl }

pub loop-k-preserved : goal.loop-k-preserved
loop-k-preserved g c = record {
  turns = λ b all. clients_step _ _ _ _ b _ _ _ _ _ _ _ _ _ c.loop-k.k _ c.index-scripts-k.result _ c.loop-k.seats c.index-seats-k.result
      c.client_turn.new.seat c.loop-k.acted c.in_ok-acted.field-0
      (omega (arith, c.loop-k-test.true, c.loop-k.auto.seats)) (omega (arith, c.loop-k-test.true, c.requires.scripts)) c.index-seats-k.is c.index-scripts-k.is
      (c.as_slice.ensures.value ∙ ap (λ (z : Script). z.steps) c.script.view_is) (c.in_ok-acted.ensures.turn b) (c.loop-k.invariant.turns b all);
  ran = ran_then _ _ _ _ _ _ c.loop-k.invariant.ran c.in_ok-acted.ensures.ran;
}

pub returns-in_err-acted-clause-turn : goal.returns-in_err-acted-clause-turn
returns-in_err-acted-clause-turn g c =
    λ b all. clients_fail _ _ _ _ b _ _ _ _ _ _ _ _ _ c.loop-k.k _ c.index-scripts-k.result _ c.loop-k.seats c.index-seats-k.result c.loop-k.acted _ _ _
    _ _ _ c.from_residual.ensures.0 (omega (arith, c.loop-k.auto.seats)) (omega (arith, c.loop-k.auto.seats, c.requires.scripts))
    (omega (arith, c.loop-k-test.true, c.loop-k.auto.seats)) (omega (arith, c.loop-k-test.true, c.requires.scripts)) c.index-seats-k.is c.index-scripts-k.is
    (c.as_slice.ensures.value ∙ ap (λ (z : Script). z.steps) c.script.view_is) (c.in_err-acted.ensures.turn b) (c.loop-k.invariant.turns b all)

pub returns-clause-turn : goal.returns-clause-turn
returns-clause-turn g c = λ b all. clients_done b _ _ _ _ _ _ c.loop-k.acted c.loop-k.k _ _ _ _ _ _
    (omega (arith, c.loop-k-test.false, c.loop-k.auto.k-end)) (c.loop-k.invariant.turns b all)
