use Rattle.std.proofs.Common.{arith, ◌≡◌, ◌∙◌, length}
use Rattle.con_threads.specs.Ledger.{page_of}
use Rattle.con_threads.specs.LedgerLaws.{log_entries, log_replies, log_counted}
use Rattle.con_threads.proofs.Ledgering.{no_items}
use Rattle.con_threads.proofs.ledger.Ledger.left.Goals as goal

pub listed_in-requires-clause-none : goal.listed_in-requires-clause-none
listed_in-requires-clause-none c =
    let n = c.args.self.counted.0 in
    let e : length c.args.self.entries.items ≡ 0 = omega arith in
    no_items c.args.self.entries.items e

pub listed_in-requires-clause-room : goal.listed_in-requires-clause-room
listed_in-requires-clause-room c =
    let n : length c.args.log.items ≡ length c.args.self.replies.items = log_counted c.requires.0 c.args.log.items (page_of c.args.self) c.requires.1 in
    let m = c.args.self.counted.1 in
    omega arith

pub returns-clause-entries : goal.returns-clause-entries
returns-clause-entries c = λ start is. c.listed_in.ensures ∙ log_entries start c.args.log.items (page_of c.args.self) is

pub returns-clause-replies : goal.returns-clause-replies
returns-clause-replies c = λ start is. log_replies start c.args.log.items (page_of c.args.self) is
