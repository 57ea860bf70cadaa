-- Calls are the same where their names and their arguments are.
use Rattle.std.proofs.Common.{sym}
use Rattle.con_copies.proofs.SameLemmas.{same_both}
use Rattle.con_copies.proofs.same.same_call.Goals as goal

pub returns-then-eq : goal.returns-then-eq
returns-then-eq c = same_both c.args.a.now c.args.b.now c.name.result.now c.name-2.result.now _ _ c.same_args.result c.name.ensures c.name-2.ensures
    (sym c.if-eq.ensures) c.arguments_of.ensures c.arguments_of-then-eq.ensures c.same_args.ensures
