-- What a step tells.
use Rattle.std.proofs.Common.{◌∙◌, ap, [], refl}
use Rattle.con_cooked.specs.Cooked.{line_of}
use Rattle.con_readers.specs.Steps.{is_idle}
use Rattle.con_readers.proofs.Texts.{text_after, idle_told}
use Rattle.con_readers.proofs.Rest.{pump_rests}
use Rattle.con_readers.proofs.Telling.{told_by, in_text}
use Rattle.con_readers.proofs.readers.Readers.step.Goals as goal

pub returns-clause-idle : goal.returns-clause-idle
returns-clause-idle c = rw (← c.self.view_is, ← c.as_mut_slice.ensures.value) (ap is_idle c.pump_reads.ensures.step ∙ idle_told _)

pub returns-clause-rest : goal.returns-clause-rest
returns-clause-rest c = rw (← c.self.view_is, ← c.as_mut_slice.ensures.value) (ap is_idle c.pump_reads.ensures.step ∙ idle_told _ ∙ pump_rests c.args.aliases.now.programs c.as_mut_slice.result.now c.args.records.now.items c.args.histories.now)

pub returns-clause-tells : goal.returns-clause-tells
returns-clause-tells c = rw (← c.self.view_is, ← c.as_mut_slice.ensures.value) (told_by _ _ c.pump_reads.ensures.step)

pub returns-clause-inside : goal.returns-clause-inside
returns-clause-inside c =
    rw (← c.self.view_is, ← c.as_mut_slice.ensures.value) (in_text _ _ _ c.pump_reads.ensures.step
    (λ old new. (c.a_common_front_is_not_drawn.ensures [] (line_of old).line (line_of new).line ((line_of old).line.units, refl) ((line_of new).line.units, refl)).end)
    (text_after c.args.aliases.now.programs c.as_mut_slice.result.now c.args.records.now.items c.args.histories.now))
