use Rattle.con_vtin.proofs.CharacterLemmas.{reads_characters}
use Rattle.con_vtin.proofs.laws.is_read_as_characters.Goals as goal

pub returns : goal.returns
returns c = reads_characters
