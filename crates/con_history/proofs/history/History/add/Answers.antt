-- Lines stay short.
use Rattle.std.proofs.Common.{◌++◌, ◌∷◌, [], All, not}
use Rattle.std.proofs.lemmas.List.Elements.{All-filter, All-append}
use Rattle.con_units.specs.Words.Units.{same_units}
use Rattle.con_history.specs.Words.Histories.{IsShort}
use Rattle.con_history.proofs.Keeps.{All-newest, All-one}
use Rattle.con_history.proofs.history.History.add.Goals as goal
use Rattle.con_history.proofs.history.History.add.Goals.{then-no_duplicates, else-no_duplicates}

pub invariant_of-self-2 : goal.invariant_of-self-2
invariant_of-self-2 c =
    let short : All IsShort c.if-no_duplicates.lines.items = elim c.if-no_duplicates.branch [ then-no_duplicates w ↦ rw (w.lines-is, w.remove_same.ensures.lines) (All-filter (λ other. not (same_units other c.args.line)) IsShort c.self.inside.lines.items c.self.invariant) | else-no_duplicates w ↦ rw w.lines-is c.self.invariant ] in
    rw (c.push.ensures.lines, c.new.ensures) (All-newest IsShort c.if-no_duplicates.lines.capacity (c.if-no_duplicates.lines.items ++ c.args.line ∷ [])
    (All-append IsShort c.if-no_duplicates.lines.items (c.args.line ∷ []) short (All-one IsShort c.args.line c.requires)))
