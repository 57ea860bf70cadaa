-- What the types of a call's arguments keep.
use Rattle.std.specs.Prelude.{ℕ, ◌<◌, ℤ, pos, negsuc, List}
use Rattle.std.specs.List.{AllByRecursion}
use Rattle.std.specs.Option.{IfSome}
use Rattle.con_units.specs.declared.place.Rect.{Rect}
use Rattle.con_records.specs.declared.record.Record.{Record}
use Rattle.con_records.specs.declared.record.Record.TheVariants as record_of
use Rattle.con_events.specs.declared.call.Words.TheVariants.{One, Each}
use Rattle.con_events.specs.Arg.{Arg, Number, Signed, OneUnit, Flag, Text, Area, Clip, WordsOf, WordList, Records}

abbrev pub AreUnits : List ℕ → Type 0
AreUnits us = AllByRecursion (λ u. u < 65536) us

-- from -k to k - 1
abbrev pub IsSigned : ℕ → ℤ → Type 0
IsSigned k (pos n) = n < k
IsSigned k (negsuc n) = n < k

abbrev pub RectFits : Rect → Type 0
RectFits r = IsSigned 32768 r.left × IsSigned 32768 r.top × IsSigned 32768 r.right × IsSigned 32768 r.bottom

abbrev pub RecordFits : Record → Type 0
RecordFits (record_of.Key k) = (k.repeat < 65536) × (k.vk < 65536) × (k.scan < 65536) × (k.unit < 65536) × (k.state < 4294967296)
RecordFits (record_of.Mouse m) = IsSigned 32768 m.x × IsSigned 32768 m.y × (m.buttons < 4294967296) × (m.state < 4294967296) × (m.flags < 4294967296)
RecordFits (record_of.Size s) = (s.w < 65536) × (s.h < 65536)
RecordFits (record_of.Menu n) = n < 4294967296
RecordFits (record_of.Focus b) = Unit {0}

abbrev pub ArgFits : Arg → Type 0
ArgFits (Number n) = n < 4294967296
ArgFits (Signed z) = IsSigned 32768 z
ArgFits (OneUnit u) = u < 65536
ArgFits (Flag b) = Unit {0}
ArgFits (Text us) = AreUnits us
ArgFits (Area r) = RectFits r
ArgFits (Clip r) = IfSome r RectFits
ArgFits (WordsOf (One w)) = w < 65536
ArgFits (WordsOf (Each ws)) = AreUnits ws
ArgFits (WordList ws) = AreUnits ws
ArgFits (Records rs) = AllByRecursion RecordFits rs
