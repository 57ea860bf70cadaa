-- The line takes the first record.
use Rattle.std.proofs.Common.{◌∙◌, ap}
use Rattle.con_records.specs.Queue.{Queue}
use Rattle.con_readers.proofs.OneRecord.{line-read, line-told, line-records, line-histories}
use Rattle.con_readers.proofs.Units.{queue_is}
use Rattle.con_readers.proofs.open.take_line.Goals as goal

pub returns-in-Some-clause-read : goal.returns-in-Some-clause-read
returns-in-Some-clause-read c = c.take_one.ensures.read ∙ line-read c.args.process c.args.aliases.now.programs c.args.line c.in-Some.one c.pop.new.self.items c.args.records.now.items c.args.histories.now c.in-Some.ensures.items

pub returns-in-Some-clause-step : goal.returns-in-Some-clause-step
returns-in-Some-clause-step c = c.take_one.ensures.step ∙ line-told c.args.process c.args.aliases.now.programs c.args.line c.in-Some.one c.pop.new.self.items c.args.records.now.items c.args.histories.now c.in-Some.ensures.items

pub returns-in-Some-clause-records : goal.returns-in-Some-clause-records
returns-in-Some-clause-records c = queue_is c.pop.new.self _ _ (line-records c.args.process c.args.aliases.now.programs c.args.line c.in-Some.one c.pop.new.self.items c.args.records.now.items c.args.histories.now c.in-Some.ensures.items) (ap (λ (q : Queue). q.spare) c.in-Some.ensures.rest)

pub returns-in-Some-clause-histories : goal.returns-in-Some-clause-histories
returns-in-Some-clause-histories c = c.take_one.ensures.histories ∙ line-histories c.args.process c.args.aliases.now.programs c.args.line c.in-Some.one c.pop.new.self.items c.args.records.now.items c.args.histories.now c.in-Some.ensures.items
