use Rattle.std.proofs.Common.{rules}
use Rattle.con_units.proofs.MaskLemmas.{masked_twice, shaded_kept}
use Rattle.con_units.proofs.attr.Attr.shaded.Goals as goal

pub invariant_of-result : goal.invariant_of-result
invariant_of-result c = record { word = masked_twice c.args.word; shades = shaded_kept c.args.word c.args.fore c.args.back c.requires }

pub returns : goal.returns
returns c = search rules
