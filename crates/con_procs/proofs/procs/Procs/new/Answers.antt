use Rattle.std.proofs.Common.{rules, ◌∙◌, sym, ap, take}
use Rattle.con_procs.specs.Procs.{programs_of}
use Rattle.con_procs.proofs.Programs.{programs_started}
use Rattle.con_procs.proofs.procs.Procs.new.Goals as goal

pub invariant_of-result : goal.invariant_of-result
invariant_of-result c =
    (search rules, c.loop-start.invariant.programs ∙ programs_started (take c.loop-start.start-index c.args.starts.now) ∙ sym (ap programs_of c.loop-start.invariant.procs))
