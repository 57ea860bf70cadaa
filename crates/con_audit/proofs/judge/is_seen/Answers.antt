-- An answer that has a view.
use Rattle.con_audit.proofs.Behind.{seen_view, none_seen}
use Rattle.con_audit.proofs.judge.is_seen.Goals as goal

pub returns-in-View : goal.returns-in-View
returns-in-View c = λ v t. seen_view c.args.answer.now _ _ _ v _ c.args.watch.now.partial c.in-View.is t c.knows.ensures

pub returns-in_default : goal.returns-in_default
returns-in_default c = λ v t. none_seen c.args.answer.now v c.args.watch.now.partial c.in_default.not-View t
