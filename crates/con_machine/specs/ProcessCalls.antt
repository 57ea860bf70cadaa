-- Which control events can be sent.
use Rattle.std.specs.Prelude.{ℕ, ◌==◌, ◌&&◌, ◌||◌, Bool, not, nat_lt, List}
use Rattle.con_procs.specs.Procs.{group_known}
use Rattle.con_procs.specs.declared.proc.Proc.{Proc}

-- ctrl+C (0) and ctrl+break (1) can be sent, and ctrl+break to a group that there is
abbrev pub is_no_signal : List Proc → ℕ → ℕ → Bool
is_no_signal ps event group = nat_lt 1 event || ((event == 1) && not (group == 0) && not (group_known ps group))
