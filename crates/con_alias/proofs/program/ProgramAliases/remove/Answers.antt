use Rattle.std.proofs.Common.{List, ap, ◌∙◌, is_some}
use Rattle.con_alias.specs.Aliases.{Entry}
use Rattle.con_alias.specs.Room.{Listed, entries_of}
use Rattle.con_alias.proofs.Entries.{without-entries, known-entries}
use Rattle.con_alias.proofs.program.ProgramAliases.remove.Goals as goal

pub returns-clause-list : goal.returns-clause-list
returns-clause-list c =
    let with : List Entry → Listed = λ l. record { entries = l; spare = c.self.inside.spare } in
    rw (← c.self.view_is) (ap with (ap entries_of c.shift_remove.ensures.entries ∙ without-entries c.self.inside.aliases.entries c.args.source.now))

pub returns-clause-found : goal.returns-clause-found
returns-clause-found c =
    rw (← c.self.view_is) (c.is_some.ensures ∙ ap is_some c.shift_remove.ensures.value ∙ known-entries c.self.inside.aliases.entries c.args.source.now)
