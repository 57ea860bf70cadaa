use Rattle.std.proofs.Common.{rules}
use Rattle.con_vtin.proofs.reader.KeyReader.ended.Goals as goal

pub returns : goal.returns
returns c = search rules
