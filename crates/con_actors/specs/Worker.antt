-- The kinds of handlers, as the places of a rack have them.
use Rattle.std.specs.Prelude.{ℕ, ◌==◌, if◌then◌else◌}
use Rattle.con_handlers.specs.Memory.{Memory}

-- the kind of a handler that was never asked; one that was counts as of kind 0
abbrev pub told_kind : Memory → ℕ
told_kind m = if m.asked == 0 then m.kind else 0
