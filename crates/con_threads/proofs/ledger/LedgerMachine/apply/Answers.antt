use Rattle.std.proofs.Common.{sym, subst}
use Rattle.con_machine.specs.Numbered.{actor_of}
use Rattle.con_machine.specs.State.{State}
use Rattle.con_threads.specs.Ledger.{TellsPicture}
use Rattle.con_threads.specs.declared.ledger.Told.{Told}
use Rattle.con_threads.proofs.Ledgering.{tells_on}
use Rattle.con_threads.proofs.ledger.LedgerMachine.apply.Goals as goal

pub returns-clause-tells : goal.returns-clause-tells
returns-clause-tells c =
    let s : State = c.args.self.now.console.state in
    let w = c.view_is_whole.ensures in
    let P : Told → Type 0 = λ t. TellsPicture t s (actor_of c.args.actor) c.args.event.now in
    subst P (sym c.of-told.ensures.0)
    (tells_on s w.whole w.wide w.high w.window (actor_of c.args.actor) c.args.event.now c.apply-reply.result c.requires.ready c.apply-reply.ensures.answer c.apply-reply.ensures.tells)
