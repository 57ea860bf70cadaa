use Rattle.std.proofs.Common.{refl}
use Rattle.con_units.specs.Split.{next, split_after}
use Rattle.con_vtgram.specs.Numbers.{pieces, parameters}
use Rattle.con_vtgram.specs.Text.{sixteen, csi_items, is_front, whole, kept}
use Rattle.tests_screens.proofs.screen.rows.a_text_is_unfinished.Goals as goal

pub returns-clause-front : goal.returns-clause-front
unfolding next split_after pieces parameters sixteen csi_items is_front whole kept
returns-clause-front c = refl

pub returns-clause-anew : goal.returns-clause-anew
unfolding next split_after pieces parameters sixteen csi_items is_front whole kept
returns-clause-anew c = refl
