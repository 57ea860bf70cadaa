use Rattle.std.proofs.Common.{◌≡◌, ◌≤◌, length, take, vec_len, vec_capacity}
use Rattle.std.specs.Prelude.{map}
use Rattle.con_procs.specs.Procs.{started}
use Rattle.con_procs.specs.declared.proc.ProcStart.{ProcStart}
use Rattle.con_procs.proofs.procs.Procs.new.Given as goal

abbrev pub invariant-loop-start : goal.invariant-loop-start
invariant-loop-start l = record {
  procs : l.procs.items ≡ map started (take l.start-index l.starts);
  len : vec_len l.procs ≡ l.start-index;
  room : length l.starts ≤ vec_capacity l.procs;
  programs : l.programs.items ≡ map (λ (s : ProcStart). s.program) (take l.start-index l.starts);
  programs_len : vec_len l.programs ≡ l.start-index;
  programs_room : length l.starts ≤ vec_capacity l.programs;
}
