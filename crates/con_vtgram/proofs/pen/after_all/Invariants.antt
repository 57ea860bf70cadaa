-- The pen so far.
use Rattle.std.proofs.Common.{◌≡◌, fold, take}
use Rattle.con_vtgram.specs.Pen.{IsPen}
use Rattle.con_vtgram.specs.Sgr.{styled, with_next}
use Rattle.con_vtgram.specs.declared.pen.ParameterRole.TheVariants.{Plain}
use Rattle.con_vtgram.proofs.pen.after_all.Given as goal

abbrev pub invariant-loop-parameter : goal.invariant-loop-parameter
invariant-loop-parameter l = (l.styling ≡ fold styled (with_next l.fn.pen Plain) (take l.parameter-index l.parameters)) × IsPen l.styling.pen
