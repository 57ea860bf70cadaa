-- Rounds so far.
use Rattle.std.proofs.Common.{◌≡◌, ◌⊎◌, ℕ, ◌-◌, ◌≤◌, true, false, List, length, Option}
use Rattle.con_outside.specs.Outside.{Rose}
use Rattle.con_events.specs.declared.end.End.TheVariants as ends
use Rattle.con_laws.specs.Rounds.{Begun}
use Rattle.con_machine.specs.Turns.{paints}
use Rattle.con_actors.specs.Held.{moment}
use Rattle.con_actors.specs.Painting.{IsTied}
use Rattle.con_actors.specs.Words.Sender.{FailsBy}
use Rattle.con_actors.specs.Solo.{Goes, fails_at}
use Rattle.con_session.proofs.solo.rounds.Given as goal

abbrev pub invariant-loop : goal.invariant-loop
invariant-loop g l = record {
  seats : length l.seats ≡ length l.initial.seats;
  taken : l.stage.side.ended ≡ false → l.stage.reader ≤ 16777216;
  served : (l.stage.desk.console.state.asked ≡ false) ⊎ (l.stage.canvas.failed ≡ true);
  tied : IsTied l.stage.desk.console.state l.stage.canvas.painter;
  going : (b : Begun) × (before : Option (List ℕ)) × (old : Option (List ℕ))
      × ((f : Option ℕ) → FailsBy l.stage.canvas.failed f (paints l.stage.desk.entries.items) → Goes (fails_at b f) l.scripts before old
      (moment (λ x. (goal.CtrlHandler-dyn g (x.vtable, x.value)).memory x.value) l.stage l.seats (g.I.Source.left l.link) (g.O.Sink.written l.term)));
  turn : (b : Begun) (before old : Option (List ℕ)) → ((f : Option ℕ) → FailsBy l.initial.stage.canvas.failed f (paints l.initial.stage.desk.entries.items)
      → Goes (fails_at b f) l.scripts before old (moment (λ x. (goal.CtrlHandler-dyn g (x.vtable, x.value)).memory x.value)
      l.initial.stage l.initial.seats (g.I.Source.left l.initial.link) (g.O.Sink.written l.initial.term)))
      → ((f : Option ℕ) → FailsBy l.stage.canvas.failed f (paints l.stage.desk.entries.items) → Goes (fails_at b f) l.scripts before old
      (moment (λ x. (goal.CtrlHandler-dyn g (x.vtable, x.value)).memory x.value) l.stage l.seats (g.I.Source.left l.link) (g.O.Sink.written l.term)));
  link : l.stage.side.end ≡ ends.Link → (l.initial.stage.side.end ≡ ends.Link) ⊎ Rose (g.I.Source.faults l.initial.link) (g.I.Source.faults l.link);
  term : l.stage.canvas.failed ≡ true → (l.initial.stage.canvas.failed ≡ true) ⊎ Rose (g.O.Sink.faults l.initial.term) (g.O.Sink.faults l.term);
  link_never_falls : g.I.Source.faults l.initial.link ≤ g.I.Source.faults l.link;
  term_never_falls : g.O.Sink.faults l.initial.term ≤ g.O.Sink.faults l.term;
}

abbrev pub decreases-loop : goal.decreases-loop
decreases-loop g l = 18446744073709551616 - length l.stage.desk.entries.items
