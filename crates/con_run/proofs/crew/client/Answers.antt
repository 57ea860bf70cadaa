use Rattle.std.proofs.Common.{rules, refl}
use Rattle.con_book.specs.Laws.{has_pass-above}
use Rattle.con_book.specs.Passes.{view_of}
use Rattle.con_run.proofs.Crewing.{client_begins, client_named}
use Rattle.con_run.proofs.crew.client.Goals as goal

pub new-requires-clause-fresh : goal.new-requires-clause-fresh
new-requires-clause-fresh g c = has_pass-above c.args.number (view_of c.args.opening.now) c.requires.real c.requires.below

pub new-requires-clause-named : goal.new-requires-clause-named
new-requires-clause-named g c = client_named c.args.number c.requires.real (search rules)

pub returns-clause-client : goal.returns-clause-client
returns-clause-client g c =
    client_begins c.args.number c.args.opening.now c.args.script.now _ c.requires.real c.new.ensures.book c.new.ensures.view c.new.ensures.scribe
    c.new.ensures.actor.0 c.new.ensures.history.1 refl
    (search rules) refl
