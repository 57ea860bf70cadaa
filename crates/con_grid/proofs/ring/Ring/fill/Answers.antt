use Rattle.std.proofs.Common.{ap, ◌∙◌}
use Rattle.con_units.specs.Glyph.{Glyph}
use Rattle.std.proofs.Common.{List}
use Rattle.con_grid.specs.Picture.{filled}
use Rattle.con_grid.proofs.RingLemmas.{in_block}
use Rattle.con_grid.proofs.ring.Ring.fill.Goals as goal

pub fill-requires-clause-inside : goal.fill-requires-clause-inside
fill-requires-clause-inside c = in_block c.self.inside.block.items c.args.self.now c.self.inside.top c.args.upto c.self.view_is c.requires.inside

pub returns : goal.returns
returns c = c.fill.ensures.cells ∙ ap (λ (xs : List Glyph). filled xs c.args.from c.args.upto c.args.cell) c.self.view_is
