-- The code's own words: handlers as numbers.
use Rattle.std.specs.Prelude.{List, map}
use Rattle.con_machine.specs.Chain.{Handler}
use Rattle.con_audit.specs.declared.chain.Link.{Link}

abbrev pub handler_of : Link → Handler
handler_of l = record { place = l.place; kind = l.kind; asked = l.asked }

abbrev pub handlers_of : List Link → List Handler
handlers_of ls = map handler_of ls
