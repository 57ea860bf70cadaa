-- Pumping on settles, and ends.
use Rattle.con_readers.proofs.Settling.{settled-pumped}
use Rattle.con_readers.proofs.Work.{pump_less}
use Rattle.con_readers.proofs.Texts.{text_after}
use Rattle.con_readers.proofs.readers.Readers.pump.Goals as goal

pub returns-clause-settles : goal.returns-clause-settles
returns-clause-settles c = settled-pumped c.args.aliases.now.programs c.args.self.now.reads c.args.records.now.items c.args.histories.now

pub returns-clause-less : goal.returns-clause-less
returns-clause-less c = pump_less c.args.aliases.now.programs c.args.self.now.reads c.args.records.now.items c.args.histories.now

pub returns-clause-text : goal.returns-clause-text
returns-clause-text c = text_after c.args.aliases.now.programs c.args.self.now.reads c.args.records.now.items c.args.histories.now
