use Rattle.std.proofs.Common.{◌+◌, ◌<◌, length, refl, sym, ◌∙◌, arith}
use Rattle.std.proofs.lemmas.Option.{slice_get_read}
use Rattle.con_grid.specs.Ring.{turned}
use Rattle.con_grid.proofs.RingLemmas.{in_block}
use Rattle.con_grid.proofs.ring.Ring.get.Goals as goal

pub index-at-requires-clause-inside : goal.index-at-requires-clause-inside
index-at-requires-clause-inside c = let h = in_block c.self.inside.block.items c.args.self.now c.self.inside.top (c.args.at + 1) c.self.view_is (omega (arith, c.requires)) in omega (arith, h)

pub returns : goal.returns
returns c =
    let inside : c.args.at < length (turned c.self.inside.block.items c.self.inside.top) = rw c.self.view_is c.requires in
    rw (← c.self.view_is)
    (slice_get_read (turned c.self.inside.block.items c.self.inside.top) _ c.args.at c.index.result.now refl inside (c.index.ensures ∙ sym (c.index-at.ensures.get c.index.result.now)))
