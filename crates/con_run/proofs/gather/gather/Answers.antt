use Rattle.std.proofs.Common.{rules, sym, ◌∙◌}
use Rattle.std.specs.Vec.Iter.{into_iter_items}
use Rattle.con_run.proofs.Taking.{gather_first, gather_next}
use Rattle.con_run.proofs.gather.gather.Goals as goal

pub loop-client-init : goal.loop-client-init
loop-client-init g c =
    gather_first _ _ _ c.args.into.now (into_iter_items c.into_iter-client-iterator.result) c.args.crew.items c.requires.into.1
    (λ k d lt. c.requires.books k d lt ∙ sym c.requires.into.0) c.requires.single (search rules)

pub loop-client-preserved : goal.loop-client-preserved
loop-client-preserved g c =
    gather_next _ _ _ c.args.into.now c.loop-client.into c.take_client.new.into c.loop-client.all c.still_gone-all.result
    (into_iter_items c.loop-client.client-iterator) (into_iter_items c.next.new.self) c.args.crew.items c.in-Some.client
    (search rules) c.loop-client.invariant c.take_client.ensures.taken c.take_client.ensures.covers c.still_gone-all.ensures
