-- The words of the code and of laws about Fits, which a reader need not believe.
use Rattle.std.specs.Prelude.{ℤ, List}
use Rattle.std.specs.List.{AllByRecursion}
use Rattle.con_records.specs.declared.record.Record.{Record}
use Rattle.con_events.specs.Arg.{Arg}
use Rattle.con_events.specs.Fits.{IsSigned, RecordFits, ArgFits}

abbrev pub IsSmall : ℤ → Type 0
IsSmall z = IsSigned 32768 z

abbrev pub RecordsFit : List Record → Type 0
RecordsFit rs = AllByRecursion RecordFits rs

abbrev pub ArgsFit : List Arg → Type 0
ArgsFit xs = AllByRecursion ArgFits xs
