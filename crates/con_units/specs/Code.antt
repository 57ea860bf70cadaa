-- The system error codes of refusals.
use Rattle.std.specs.Prelude.{ℕ}
use Rattle.con_units.specs.declared.code.Code.{Code}
use Rattle.con_units.specs.declared.code.Code.TheVariants as code

abbrev pub number_of : Code → ℕ
number_of code.Denied = 5
number_of code.BadHandle = 6
number_of code.NoAlias = 31
number_of code.BadArgument = 87
number_of code.Closed = 109
number_of code.Aborted = 995
number_of code.Limit = 1816
