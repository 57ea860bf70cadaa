-- Steps that do nothing.
use Rattle.std.specs.Prelude.{Bool, true, false}
use Rattle.con_readers.specs.declared.step.ReadStep.{ReadStep}
use Rattle.con_readers.specs.declared.step.ReadStep.TheVariants as steps

abbrev pub is_idle : ReadStep → Bool
is_idle steps.Idle = true
is_idle (steps.Started p) = false
is_idle (steps.Echo p e) = false
is_idle (steps.Dropped p) = false
is_idle (steps.Finished p n) = false
is_idle (steps.Woken p) = false
