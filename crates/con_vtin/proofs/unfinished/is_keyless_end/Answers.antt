use Rattle.con_vtin.proofs.PieceLemmas.{keyless_escape}
use Rattle.con_vtin.proofs.unfinished.is_keyless_end.Goals as goal

pub returns-in-Escape : goal.returns-in-Escape
returns-in-Escape c = keyless_escape c.args.bytes.now c.args.byte (rw c.in-Escape.is at c.requires.holds)
