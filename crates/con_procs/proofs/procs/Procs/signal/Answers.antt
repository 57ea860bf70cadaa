-- One more is told.
use Rattle.std.proofs.Common.{arith, ◌<◌, ◌≤◌, length, ◌∙◌, ap, slice_set}
use Rattle.std.proofs.lemmas.List.Edits.{map_over_more}
use Rattle.con_procs.specs.Words.Procs.{told}
use Rattle.con_procs.proofs.Programs.{programs_all, told_keeps}
use Rattle.con_procs.proofs.procs.Procs.signal.Goals as goal

pub loop-i-preserved : goal.loop-i-preserved
loop-i-preserved c =
    let within : c.loop-i.i < length c.args.self.now = omega arith in
    record {
      told = ap (slice_set c.loop-i.self-inside.procs.items c.loop-i.i) c.tell.ensures ∙ map_over_more (told c.args.event c.args.group) c.args.self.now c.loop-i.self-inside.procs.items c.loop-i.i c.index_mut-p.result.now within c.loop-i.invariant.told c.index_mut-p.ensures.value;
      end = c.loop-i.invariant.end;
      programs = c.loop-i.invariant.programs;
      few = c.loop-i.invariant.few;
    }

pub invariant_of-self : goal.invariant_of-self
invariant_of-self c =
    let past : length c.args.self.now ≤ c.loop-i.i = omega arith in
    (c.loop-i.invariant.few, c.loop-i.invariant.programs ∙ programs_all (told c.args.event c.args.group) (told_keeps c.args.event c.args.group) c.args.self.now c.loop-i.self-inside.procs.items c.loop-i.i past c.loop-i.invariant.told)
