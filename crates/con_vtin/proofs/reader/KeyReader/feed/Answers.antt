use Rattle.std.proofs.Common.{rules}
use Rattle.con_vtin.proofs.FewLemmas.{fed_few}
use Rattle.con_vtin.proofs.SentLemmas.{fed_short}
use Rattle.con_vtin.proofs.reader.KeyReader.feed.Goals as goal

pub returns-clause-few : goal.returns-clause-few
returns-clause-few c =
    let few = fed_few c.args.out.now.items c.take.new.out.items c.note.new.self.held c.take.new.self.held c.args.byte c.take.ensures.keys c.take.ensures.held in
    let few_of = rw c.note.ensures.held at few in
    search (rules, few_of)

pub returns-clause-units : goal.returns-clause-units
returns-clause-units c = λ cursor_keys.
    let few = fed_short c.args.out.now.items c.take.new.out.items c.note.new.self.held c.take.new.self.held c.args.byte cursor_keys c.take.ensures.keys c.take.ensures.held in
    let few_of = rw c.note.ensures.held at few in
    search (rules, few_of)

pub returns-clause-ended : goal.returns-clause-ended
returns-clause-ended c = search rules
