use Rattle.std.proofs.Common.{refl}
use Rattle.con_threads.specs.declared.scribe.Scribe.{Scribe}
use Rattle.con_threads.proofs.Scribing.{may_same, may_is, may_entered, may_blocked, may_refused}
use Rattle.con_threads.proofs.scribe.Scribe.enter_if_ready.Goals as goal

pub returns-clause-same : goal.returns-clause-same
returns-clause-same g c =
    let new : Scribe = record c.args.self.now { pass = c.turn_if_ready.new.pass } in
    may_same c.args.self.now new c.requires.scribe c.turn_if_ready.ensures.pass refl _ c.turn_if_ready.result c.turn_if_ready.ensures.entered
    c.turn_if_ready.ensures.blocked c.turn_if_ready.ensures.refused

pub returns-clause-scribe : goal.returns-clause-scribe
returns-clause-scribe g c =
    let new : Scribe = record c.args.self.now { pass = c.turn_if_ready.new.pass } in
    may_is c.args.self.now new c.requires.scribe c.turn_if_ready.ensures.pass refl _ c.turn_if_ready.result c.turn_if_ready.ensures.entered
    c.turn_if_ready.ensures.blocked c.turn_if_ready.ensures.refused

pub returns-clause-entered : goal.returns-clause-entered
returns-clause-entered g c =
    let new : Scribe = record c.args.self.now { pass = c.turn_if_ready.new.pass } in
    may_entered c.args.self.now new c.requires.scribe c.turn_if_ready.ensures.pass refl c.args.event c.turn_if_ready.result c.turn_if_ready.ensures.entered

pub returns-clause-blocked : goal.returns-clause-blocked
returns-clause-blocked g c =
    let new : Scribe = record c.args.self.now { pass = c.turn_if_ready.new.pass } in
    may_blocked c.args.self.now new c.requires.scribe c.turn_if_ready.ensures.pass refl c.args.event c.turn_if_ready.result c.turn_if_ready.ensures.blocked

pub returns-clause-refused : goal.returns-clause-refused
returns-clause-refused g c =
    let new : Scribe = record c.args.self.now { pass = c.turn_if_ready.new.pass } in
    may_refused c.args.self.now new c.requires.scribe c.turn_if_ready.ensures.pass refl c.args.event c.turn_if_ready.result c.turn_if_ready.ensures.refused
