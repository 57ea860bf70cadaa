use Rattle.std.proofs.Common.{rules}
use Rattle.con_forms.proofs.Rests.{wide}
use Rattle.con_forms.proofs.keeping.whole.Goals as goal
use mir.Syntax.{w64}
use mir.Val.{SFits}

pub returns : goal.returns
returns c = (let f : SFits w64 c.args.n.now = search rules in wide c.args.n.now f)
