use Rattle.con_page.proofs.WordLemmas.{attr_of_word}
use Rattle.con_page.proofs.page.Page.set_attr.Goals as goal

pub returns-clause-attr : goal.returns-clause-attr
returns-clause-attr c = attr_of_word c.args.word
