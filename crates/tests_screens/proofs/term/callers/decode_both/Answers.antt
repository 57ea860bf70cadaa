-- Decoding in two pieces is decoding both at once.
use Rattle.std.proofs.Common.{refl}
use Rattle.std.proofs.lemmas.Grind.{flat_map-append}
use Rattle.con_units.specs.Split.{split_after}
use Rattle.con_units.specs.SplitLaws.{split_after-append}
use Rattle.con_units.specs.Utf8.{utf8}
use Rattle.con_term.specs.Play.{units_of}
use Rattle.tests_screens.proofs.term.callers.decode_both.Goals as goal

pub returns-clause-units : goal.returns-clause-units
returns-clause-units c = rw (c.decode.ensures.units, c.decode-2.ensures.units, c.decode.ensures.held, split_after-append utf8 c.args.decoder.now c.args.first.now c.args.second.now, flat_map-append units_of (split_after utf8 c.args.decoder.now c.args.first.now).items (split_after utf8 (split_after utf8 c.args.decoder.now c.args.first.now).tail c.args.second.now).items) refl

pub returns-clause-held : goal.returns-clause-held
returns-clause-held c = rw (c.decode-2.ensures.held, c.decode.ensures.held, split_after-append utf8 c.args.decoder.now c.args.first.now c.args.second.now) refl
