-- The clients before k had their turns.
use Rattle.std.proofs.Common.{Ok}
use Rattle.con_laws.specs.Rounds.{Begun}
use Rattle.con_actors.specs.Words.Desk.{Ran}
use Rattle.con_actors.specs.Held.{AllStand, ClientsTurn}
use Rattle.con_session.proofs.clients.clients_turn.Given as goal

abbrev pub invariant-loop-k : goal.invariant-loop-k
invariant-loop-k g l = record {
  turns : (b : Begun) → AllStand b l.initial.desk.console.state l.initial.desk.entries.items l.scripts
      (λ x. (goal.CtrlHandler-dyn g (x.vtable, x.value)).memory x.value) l.initial.seats
      → ClientsTurn (Ok l.acted) b l.initial.desk.console.state l.desk.console.state l.initial.desk.entries.items l.desk.entries.items
      l.initial.desk.replies.items l.desk.replies.items l.k l.scripts (λ x. (goal.CtrlHandler-dyn g (x.vtable, x.value)).memory x.value) l.seats;
  ran : Ran l.initial.desk.console.state l.desk.console.state l.initial.desk.entries.items l.desk.entries.items;
}
