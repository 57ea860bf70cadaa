use Rattle.std.proofs.Common.{rules}
use Rattle.con_term.proofs.page.Page.view.Goals as goal

pub returns : goal.returns
returns c = search rules
