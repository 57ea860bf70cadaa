use Rattle.con_units.proofs.EncodeLemmas.{decodes_encoded}
use Rattle.con_units.proofs.utf8.is_inverse_of_encoding.Goals as goal

pub returns : goal.returns
returns c = decodes_encoded
