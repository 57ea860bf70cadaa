-- Bytes fall into pieces: keys, and the control sequences that give none.
use Rattle.std.specs.Prelude.{ℕ, Bool, true, false, ◌&&◌, ◌==◌, List, [], ◌∷◌, map, Option, Some, None, option_map}
use Rattle.con_units.specs.Split.{Grammar}
use Rattle.con_records.specs.declared.record.Key.{Key}
use Rattle.con_vtin.specs.Keys.{is_front, whole, broken}

-- the bytes begin with ESC [
abbrev pub is_control : List ℕ → Bool
is_control [] = false
is_control (a ∷ []) = false
is_control (a ∷ b ∷ bytes) = (a == 0x1B) && (b == 0x5B)

abbrev pub gives_none : Option (List Key) → Bool
gives_none None = false
gives_none (Some []) = true
gives_none (Some (k ∷ ks)) = false

-- a whole control sequence that gives no key
abbrev pub is_keyless : List ℕ → Bool
is_keyless bytes = is_control bytes && gives_none (whole bytes)

-- a key, or the bytes of a control sequence that gives none
pub data Piece : Type 0 where
  Typed : Key → Piece
  Ended : List ℕ → Piece

abbrev pub typed : List Key → List Piece
typed keys = map Typed keys

-- the pieces of a whole sequence: its keys, or itself
abbrev pub pieces_of : List ℕ → Bool → List Key → List Piece
pieces_of bytes true keys = Ended bytes ∷ []
pieces_of bytes false keys = typed keys

abbrev pub piece_grammar : Grammar Piece
piece_grammar = record {
  is_front = is_front;
  whole = λ bytes. option_map (pieces_of bytes (is_keyless bytes)) (whole bytes);
  broken = λ bytes. typed (broken bytes);
  kept = λ _. [];
}
