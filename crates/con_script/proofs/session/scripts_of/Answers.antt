use Rattle.std.proofs.Common.{length}
use borrow.Author.Count.{falls}
use Rattle.con_document.specs.Session.{client_at}
use Rattle.con_document.specs.Steps.{step_in}
use Rattle.con_script.proofs.ListLemmas.{each_on, all_each, none_yet}
use Rattle.con_script.proofs.session.scripts_of.Goals as goal

pub loop-i-init : goal.loop-i-init
loop-i-init c = none_yet c.new-scripts.result.items _ c.new-scripts.ensures.items

pub loop-i-preserved : goal.loop-i-preserved
loop-i-preserved c =
    each_on (client_at (step_in c.args.version)) c.args.items.now c.loop-i.i c.index-items-i.result c.loop-i.scripts.items c.push.new.self.items c.in-Ok.script _
    c.loop-i.invariant c.loop-i-test.true c.index-items-i.is c.in-Ok.ensures c.in-Ok-push.ensures.items

pub loop-i-smaller : goal.loop-i-smaller
loop-i-smaller c = falls (length c.args.items.now) c.loop-i.i c.loop-i-test.true

pub returns : goal.returns
returns c = all_each (client_at (step_in c.args.version)) c.args.items.now c.loop-i.i c.loop-i.scripts.items _ c.loop-i.invariant c.loop-i-test.false
