-- A partial terminal as contracts see it.
use Rattle.std.specs.Prelude.{◌≡◌}
use Rattle.con_audit.specs.Known.{marked}
use Rattle.con_audit.specs.Partial.{Partial}
use Rattle.con_audit.specs.Flags.{known_by}
use Rattle.con_audit.specs.Playing.{partial_of}
use Rattle.con_audit.specs.declared.partial.Partial.TheInside.{Inside}

abbrev pub partial_of_parts : Inside → Partial
partial_of_parts p = partial_of p.bytes p.page p.units p.marks p.flags

-- the page of marks is the page, with a mark for each cell
pub record IsTied (p : Inside) : Type 0 where
  pub marks : p.marks ≡ marked p.page (known_by p.marks p.flags)
