use Rattle.std.proofs.Common.{rules}
use Rattle.con_forms.proofs.Rests.{small}
use Rattle.con_forms.proofs.keeping.signed.Goals as goal
use mir.Syntax.{w16}
use mir.Val.{SFits}

pub returns : goal.returns
returns c = (let f : SFits w16 c.args.n.now = search rules in small c.args.n.now f)
