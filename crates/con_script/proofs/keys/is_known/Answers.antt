use Rattle.std.proofs.Common.{length, refl}
use borrow.Author.Count.{falls}
use Rattle.con_script.proofs.KeyLemmas.{known_on, known_here, known_never}
use Rattle.con_script.proofs.keys.is_known.Goals as goal

pub loop-key-init : goal.loop-key-init
loop-key-init c = refl

pub loop-key-preserved : goal.loop-key-preserved
loop-key-preserved c =
    known_on _ c.args.keys.now c.loop-key.key-index _ c.args.name.now _ _ c.loop-key.invariant c.loop-key-test.true c.eq.ensures c.if-eq.false

pub returns-then-eq : goal.returns-then-eq
returns-then-eq c = known_here _ c.args.keys.now c.loop-key.key-index _ c.args.name.now _ _ c.loop-key.invariant c.loop-key-test.true c.eq.ensures c.if-eq.true

pub returns : goal.returns
returns c = known_never _ c.args.keys.now c.loop-key.key-index c.args.name.now _ c.loop-key.invariant c.loop-key-test.false

pub loop-key-smaller : goal.loop-key-smaller
loop-key-smaller c = falls (length c.args.keys.now) c.loop-key.key-index c.loop-key-test.true
