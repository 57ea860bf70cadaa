-- The words of the code and of laws about Pieces, which a reader need not believe.
use Rattle.std.specs.Prelude.{◌≡◌, ℕ, not, ◌&&◌, List, [], ◌∷◌, ◌++◌, Option, Some, None, if◌then◌else◌}
use Rattle.con_units.specs.Split.{Split, next, split}
use Rattle.con_vtin.specs.Keys.{is_front}
use Rattle.con_vtin.specs.Words.Keys.{grammar}
use Rattle.con_vtin.specs.Pieces.{is_keyless, Piece, Ended, typed, piece_grammar}

-- the whole control sequence without a key that a byte ends, after the bytes held
abbrev pub ended_by : List ℕ → ℕ → Option (List ℕ)
ended_by held byte = if not (is_front (held ++ byte ∷ [])) && is_keyless (held ++ byte ∷ []) then Some (held ++ byte ∷ []) else None

-- what a reader has: the bytes that are no key yet, and the control sequence that the last byte ended and that gave no key
pub record KeyReading : Type 0 where
  pub held : List ℕ
  pub ended : Option (List ℕ)

-- the pieces of bytes in their order, and what of the bytes is unfinished
abbrev pub pieces : List ℕ → Split Piece
pieces bytes = split piece_grammar bytes

abbrev pub ended_piece : Option (List ℕ) → List Piece
ended_piece None = []
ended_piece (Some bytes) = Ended bytes ∷ []

-- a byte's pieces are its keys, and then the sequence that it ended without one
abbrev pub IsReadInPieces : Type 0
IsReadInPieces = (held : List ℕ) (byte : ℕ) → next piece_grammar held byte
    ≡ record { items = typed (next grammar held byte).items ++ ended_piece (ended_by held byte); tail = (next grammar held byte).tail }
