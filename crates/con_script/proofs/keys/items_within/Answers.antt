use Rattle.std.proofs.Common.{arith, inl, inr}
use Rattle.con_script.proofs.ArrayLemmas.{kept_within, lost_within}
use Rattle.con_script.proofs.keys.items_within.Goals as goal

pub returns-then-count-most : goal.returns-then-count-most
returns-then-count-most c = kept_within c.args.least c.args.most c.args.items.now c.if-least-count.true c.if-count-most.true

pub returns-else-least-count : goal.returns-else-least-count
returns-else-least-count c =
    lost_within c.args.least c.args.most c.args.items.now (λ p q. elim c.else-least-count.either [ inl h ↦ omega arith | inr h ↦ omega arith ])
