use Rattle.std.proofs.Common.{ap}
use Rattle.con_units.specs.declared.place.Size.{Size}
use Rattle.con_screens.specs.LentLaws.{resized_keeps}
use Rattle.con_machine.proofs.Lent.{lent_counts}
use Rattle.con_machine.proofs.Sized.{alternate_size}
use Rattle.con_machine.proofs.calls.sizing.refit.Goals as goal

pub returns-clause-kept : goal.returns-clause-kept
returns-clause-kept c = resized_keeps c.args.screens.now c.args.id.0 c.resize.new.self c.args.fit.buffer c.args.fit.window _ _ c.requires.buffers c.requires.live c.resize.ensures.page c.resize.ensures.sides
    (ap (λ (z : Size). z.w) c.requires.fit.2) (ap (λ (z : Size). z.h) c.requires.fit.2)
    (alternate_size c.args.screens.now c.args.id.0 c.args.w c.args.h c.args.fit c.requires.size c.requires.fit.1 c.requires.fit.2)

pub returns-clause-counted : goal.returns-clause-counted
returns-clause-counted c = lent_counts c.args.screens.now c.args.id.0 c.resize.new.self
