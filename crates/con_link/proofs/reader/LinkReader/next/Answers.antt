use Rattle.std.proofs.Common.{◌≡◌, ℕ, List, rules, length}
use Rattle.con_link.specs.Plainly.{Answers}
use Rattle.con_link.proofs.Said.{said}
use Rattle.con_link.proofs.Pieces.{tagged}
use Rattle.con_link.proofs.reader.LinkReader.next.Goals as goal

pub returns-clause-took : goal.returns-clause-took
returns-clause-took g c =
    let t = c.in-Full.ensures.took in
    let u = c.plain_frame.ensures.took in
    let long : length c.fill.new.buf ≡ 1 = search rules in
    let P : List ℕ → Type 0 = λ x. Answers c.plain_frame.result c.self.inside.taken x (g.I.Source.left c.plain_frame.new.link) in
    rw (← c.self.view_is) (tagged P t.0 c.fill.new.buf u.0 c.self.inside.taken c.fill.new.taken c.plain_frame.new.taken _ _ _ t.3.0 long t.2 t.1 u.1 u.2 (said c.plain_frame.result c.self.inside.taken _ _ u.3))
