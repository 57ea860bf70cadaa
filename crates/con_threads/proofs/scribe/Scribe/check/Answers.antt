use Rattle.std.proofs.Common.{refl, ◌∙◌}
use Rattle.con_threads.specs.declared.scribe.Scribe.{Scribe}
use Rattle.con_threads.proofs.Scribing.{saw, saw_is, saw_more, ready_now}
use Rattle.con_threads.proofs.scribe.Scribe.check.Goals as goal

pub returns-clause-same : goal.returns-clause-same
returns-clause-same g c =
    let new : Scribe = record c.args.self.now { pass = c.check.new.pass } in
    record { pass = c.check.ensures.pass; actor = refl; more = saw_more c.args.self.now new c.requires.scribe c.check.ensures.pass c.check.ensures.seen }

pub returns-clause-scribe : goal.returns-clause-scribe
returns-clause-scribe g c =
    let new : Scribe = record c.args.self.now { pass = c.check.new.pass } in
    saw_is c.args.self.now new c.requires.scribe c.check.ensures.pass refl c.check.ensures.seen

pub returns-clause-seen : goal.returns-clause-seen
returns-clause-seen g c =
    let new : Scribe = record c.args.self.now { pass = c.check.new.pass } in
    saw c.args.self.now new c.requires.scribe c.check.ensures.pass c.check.ensures.seen

pub returns-clause-ready : goal.returns-clause-ready
returns-clause-ready g c =
    let new : Scribe = record c.args.self.now { pass = c.check.new.pass } in
    c.check.ensures.ready ∙ ready_now c.args.self.now new c.requires.scribe c.check.ensures.pass c.args.event.now refl
