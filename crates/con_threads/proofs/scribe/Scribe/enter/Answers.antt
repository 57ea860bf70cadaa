use Rattle.std.proofs.Common.{refl}
use Rattle.con_threads.specs.declared.scribe.Scribe.{Scribe}
use Rattle.con_threads.proofs.Scribing.{always_ready, turn_same, turn_is, turn_entered, turn_refused}
use Rattle.con_threads.proofs.scribe.Scribe.enter.Goals as goal

pub turn-requires-clause-ready : goal.turn-requires-clause-ready
turn-requires-clause-ready g c = λ p. always_ready c.args.self.now c.requires.scribe c.args.event c.requires.ready p

pub returns-clause-same : goal.returns-clause-same
returns-clause-same g c =
    let new : Scribe = record c.args.self.now { pass = c.turn.new.pass } in
    turn_same c.args.self.now new c.requires.scribe c.turn.ensures.pass refl c.args.event c.turn.result c.turn.ensures.entered c.turn.ensures.refused

pub returns-clause-scribe : goal.returns-clause-scribe
returns-clause-scribe g c =
    let new : Scribe = record c.args.self.now { pass = c.turn.new.pass } in
    turn_is c.args.self.now new c.requires.scribe c.turn.ensures.pass refl c.args.event c.turn.result c.turn.ensures.entered c.turn.ensures.refused

pub returns-clause-entered : goal.returns-clause-entered
returns-clause-entered g c =
    let new : Scribe = record c.args.self.now { pass = c.turn.new.pass } in
    turn_entered c.args.self.now new c.requires.scribe c.turn.ensures.pass refl c.args.event c.turn.result c.turn.ensures.entered

pub returns-clause-refused : goal.returns-clause-refused
returns-clause-refused g c =
    let new : Scribe = record c.args.self.now { pass = c.turn.new.pass } in
    turn_refused c.args.self.now new c.requires.scribe c.turn.ensures.pass refl c.args.event c.turn.result c.turn.ensures.refused
