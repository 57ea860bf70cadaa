-- Which arguments of a call are numbers alone.
use Rattle.std.specs.Prelude.{ℕ}
use Rattle.con_events.specs.declared.args.Args.{Args}
use Rattle.con_events.specs.declared.args.Args.TheVariants as args

-- 0 numbers alone, 1 others: each compared by a function of its own
abbrev pub shape_of : Args → ℕ
shape_of args.Nothing = 0
shape_of (args.Number a) = 0
shape_of (args.TwoNumbers a b) = 0
shape_of (args.ThreeNumbers a b c) = 0
shape_of (args.CursorInfo a b c) = 0
shape_of (args.Place a b c) = 0
shape_of (args.Run a b c d) = 0
shape_of (args.Fill a b c d e) = 0
shape_of (args.Units a b c d) = 1
shape_of (args.Attrs a b c d) = 1
shape_of (args.Attr a b) = 0
shape_of (args.Write a b) = 1
shape_of (args.Records a b) = 1
shape_of (args.Area a b) = 1
shape_of (args.Cells a b c d) = 1
shape_of (args.Scroll a b c d e) = 1
shape_of (args.Text a) = 1
shape_of (args.TwoTexts a b) = 1
shape_of (args.ThreeTexts a b c) = 1
shape_of (args.Flag a) = 0
