-- The words of the code and of laws about Playing, which a reader need not believe.
use Rattle.std.specs.Prelude.{ℕ, List, flat_map}
use Rattle.con_text.specs.Encoded.{unit_bytes}
use Rattle.con_term.specs.Page.{Page}
use Rattle.con_dump.specs.Dump.{dump}

-- the dump of a screen, in UTF-8
abbrev pub dump_bytes : Page → List ℕ
dump_bytes screen = flat_map unit_bytes (dump screen)
