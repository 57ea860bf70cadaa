use Rattle.std.proofs.Common.{◌≡◌, true, sym, ap, ◌∙◌, ◌++◌}
use Rattle.rtrb.specs.Ring.{received, known_items}
use Rattle.con_pipe.specs.Pieces.{pieces, is_ended, is_proper}
use Rattle.con_pipe.proofs.Lists.{pieces-append, proper-all}
use Rattle.con_pipe.proofs.ends.compare.Goals as goal

pub returns-clause-first : goal.returns-clause-first
returns-clause-first c =
    let out = received c.slots_beside.new.self in
    let left = known_items c.slots_beside.new.self in
    (pieces left, ap pieces (sym c.slots_beside.ensures.fifo) ∙ pieces-append out left)

pub returns-clause-all : goal.returns-clause-all
returns-clause-all c ended =
    let out = received c.slots_beside.new.self in
    let left = known_items c.slots_beside.new.self in
    let fifo = c.slots_beside.ensures.fifo in
    let same = c.slots_beside.ensures.producer.1 in
    let ends = c.args.put.now.ends in
    let proper : is_proper (out ++ left) ≡ true = ap is_proper (fifo ∙ same) ∙ ends.1 in
    let taken : is_ended out ≡ true = ap is_ended c.slots_beside.ensures.looked.1 ∙ (sym c.args.take.now.ends ∙ ended) in
    let k = proper-all out left proper taken in
    (sym k.0 ∙ ap pieces fifo, ends.0 ∙ (ap is_ended (sym (fifo ∙ same)) ∙ k.1))
