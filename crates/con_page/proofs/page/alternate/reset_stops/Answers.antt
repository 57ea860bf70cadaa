use Rattle.std.proofs.Common.{rules, ◌≡◌, length, arith, ap, ◌∙◌}
use Rattle.con_page.specs.Setters.{default_tabs}
use Rattle.con_page.proofs.AlternateLemmas.{default_from}
use Rattle.con_page.proofs.page.alternate.reset_stops.Goals as goal

pub returns : goal.returns
returns c =
    let long : c.len-count.result ≡ length c.args.tabs.now.items = search (rules, c.len-count.ensures) in
    let end : c.loop-at.at ≡ c.len-count.result = omega arith in
    default_from c.loop-at.tabs.items c.len-count.result c.loop-at.invariant.0 (λ k h. c.loop-at.invariant.1 k (omega (arith, h))) ∙ ap (λ n. default_tabs n) long
