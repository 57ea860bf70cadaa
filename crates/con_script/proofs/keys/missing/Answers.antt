use Rattle.std.proofs.Common.{length, refl}
use borrow.Author.Count.{falls}
use Rattle.serde_json.specs.View.{view}
use Rattle.con_script.proofs.KeyLemmas.{missing_on, missing_here, missing_none}
use Rattle.con_script.proofs.keys.missing.Goals as goal

pub loop-key-init : goal.loop-key-init
loop-key-init c = refl

pub loop-key-preserved : goal.loop-key-preserved
loop-key-preserved c =
    missing_on _ c.args.keys.now c.loop-key.key-index _ _ c.get.result (view c.args.value.now) _ _
    c.loop-key.invariant c.loop-key-test.true c.get.ensures c.is_none.ensures c.if-is_none.false

pub returns-then-is_none : goal.returns-then-is_none
returns-then-is_none c =
    missing_here _ c.args.keys.now c.loop-key.key-index _ _ c.get.result (view c.args.value.now) _ _
    c.loop-key.invariant c.loop-key-test.true c.get.ensures c.is_none.ensures c.if-is_none.true

pub returns : goal.returns
returns c = missing_none _ c.args.keys.now c.loop-key.key-index (view c.args.value.now) _ c.loop-key.invariant c.loop-key-test.false

pub loop-key-smaller : goal.loop-key-smaller
loop-key-smaller c = falls (length c.args.keys.now) c.loop-key.key-index c.loop-key-test.true
