use Rattle.std.proofs.Common.{◌<◌, ◌≤◌, length, rules, ◌∙◌}
use Rattle.con_vtgram.proofs.TitleLemmas.{push_some, push_none}
use Rattle.con_vtgram.proofs.automaton.push_up_to.Goals as goal

pub returns-then-len-lt255-clause-title : goal.returns-then-len-lt255-clause-title
returns-then-len-lt255-clause-title c = λ text e. let few : length c.args.title.now.items < 255 = search rules in
    c.push_reserved.ensures.items ∙ push_some c.args.title.now.items text c.args.unit e few

pub returns-else-len-lt255-clause-title : goal.returns-else-len-lt255-clause-title
returns-else-len-lt255-clause-title c = λ text e. let many : 255 ≤ length c.args.title.now.items = search rules in
    push_none c.args.title.now.items text c.args.unit e many
