-- The window follows.
use Rattle.std.proofs.Common.{ap}
use Rattle.con_vtgram.specs.State.{item_of}
use Rattle.con_page.specs.Page.{Page}
use Rattle.con_page.proofs.ApplyLemmas.{followed_if}
use Rattle.con_page.proofs.page.Page.apply.Goals as goal

pub returns-clause-effect : goal.returns-clause-effect
returns-clause-effect c =
    followed_if c.args.self.now _ _ _ _ (item_of c.args.found c.args.unit c.args.csi.now) (ap (λ (q : Page). q.x) c.self.view_is) (ap (λ (q : Page). q.y) c.self.view_is) c.act.ensures.effect c.follow.ensures.effect
