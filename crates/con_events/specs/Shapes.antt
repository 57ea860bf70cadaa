-- The arguments of a call, of which those with the same kinds are alike.
use Rattle.std.specs.Prelude.{List, [], ◌∷◌}
use Rattle.con_events.specs.declared.args.Args.{Args}
use Rattle.con_events.specs.declared.args.Args.TheVariants as args
use Rattle.con_events.specs.Arg.{Arg, Number, Signed, OneUnit, Flag, Text, Area, Clip, WordsOf, WordList, Records}

abbrev pub told : Args → List Arg
told args.Nothing = []
told (args.Number a) = Number a ∷ []
told (args.TwoNumbers a b) = Number a ∷ Number b ∷ []
told (args.ThreeNumbers a b c) = Number a ∷ Number b ∷ Number c ∷ []
told (args.CursorInfo a b c) = Number a ∷ Number b ∷ Flag c ∷ []
told (args.Place a b c) = Number a ∷ Signed b ∷ Signed c ∷ []
told (args.Run a b c d) = Number a ∷ Signed b ∷ Signed c ∷ Number d ∷ []
told (args.Fill a b c d e) = Number a ∷ Signed b ∷ Signed c ∷ Number d ∷ OneUnit e ∷ []
told (args.Units a b c d) = Number a ∷ Signed b ∷ Signed c ∷ Text d.now ∷ []
told (args.Attrs a b c d) = Number a ∷ Signed b ∷ Signed c ∷ WordList d.now ∷ []
told (args.Attr a b) = Number a ∷ OneUnit b ∷ []
told (args.Write a b) = Number a ∷ Text b.now ∷ []
told (args.Records a b) = Number a ∷ Records b.now ∷ []
told (args.Area a b) = Number a ∷ Area b ∷ []
told (args.Cells a b c d) = Number a ∷ Area b ∷ Text c.now ∷ WordsOf d.now ∷ []
told (args.Scroll a b c d e) = Number a ∷ Area b ∷ Clip c ∷ Signed d.0 ∷ Signed d.1 ∷ OneUnit e.0 ∷ OneUnit e.1 ∷ []
told (args.Text a) = Text a.now ∷ []
told (args.TwoTexts a b) = Text a.now ∷ Text b.now ∷ []
told (args.ThreeTexts a b c) = Text a.now ∷ Text b.now ∷ Text c.now ∷ []
told (args.Flag a) = Flag a ∷ []
