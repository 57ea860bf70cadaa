-- The words of the code and of laws about Pieces, which a reader need not believe.
use Rattle.std.specs.Prelude.{ℕ, List, [], ◌∷◌, if◌then◌else◌}
use Rattle.con_records.specs.declared.record.Record.{Record}
use Rattle.con_history.specs.declared.histories.Histories.{Histories}
use Rattle.con_alias.specs.Aliases.{AliasList}
use Rattle.con_readers.specs.Serving.{is_done, served}
use Rattle.con_readers.specs.Pieces.{front}
use Rattle.con_readers.specs.declared.open.Open.{Open}

-- a process and what its read took
unfoldable pub pieces_of : List AliasList → List Open → List Record → Histories → List (ℕ × List Record)
pieces_of al [] rs hs = []
pieces_of al (o ∷ os) rs hs =
    if is_done o.read then pieces_of al os rs hs
    else (let s = served o.process al o.read rs hs in (o.process, front rs s.records) ∷ (if is_done s.read then pieces_of al os s.records s.histories else []))
