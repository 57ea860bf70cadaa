-- Nothing, or a character.
use Rattle.std.proofs.Common.{take, arith}
use Rattle.con_term.proofs.FrontLemmas.{none_is, character_is}
use Rattle.con_term.proofs.terminal.character_printed.Goals as goal

pub returns-in_default-clause-printed : goal.returns-in_default-clause-printed
returns-in_default-clause-printed c = none_is c.args.page.now

pub returns-then-front-lt160-clause-printed : goal.returns-then-front-lt160-clause-printed
returns-then-front-lt160-clause-printed c = none_is c.args.page.now

pub returns-clause-printed : goal.returns-clause-printed
returns-clause-printed c = let f = c.in-Some.front in
    character_is c.args.page.now _ (take f.count c.args.input.now) f.code (rw c.in-Some.is at c.front_character.ensures).whole (omega (arith, c.if-front-lt160.false)) c.print_character.ensures
