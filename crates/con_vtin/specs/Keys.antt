-- The keys of a terminal's bytes, by cases on their sequences.
use Rattle.std.specs.Prelude.{ℕ, Bool, true, false, not, ◌&&◌, ◌==◌, nat_lt, nat_le, List, [], ◌∷◌, ◌++◌, length, map, flat_map, Option, Some, None, option_map, option_to_list, if◌then◌else◌}
use Rattle.std.specs.Int.{is_in_range}
use Rattle.con_units.specs.Utf8.{is_cut_character, whole_character}
use Rattle.con_records.specs.declared.record.Key.{Key}
use Rattle.con_vtin.specs.Table.{escape, replacement, byte_key, with_alt, character_keys, letter_key, control_sequence_key}

-- the bytes from the first on that fails the test, and those before it
abbrev pub skip_while : (ℕ → Bool) → List ℕ → List ℕ
skip_while p [] = []
skip_while p (x ∷ xs) = if p x then skip_while p xs else x ∷ xs

abbrev pub front_while : (ℕ → Bool) → List ℕ → List ℕ
front_while p [] = []
front_while p (x ∷ xs) = if p x then x ∷ front_while p xs else []

abbrev pub is_empty : List ℕ → Bool
is_empty [] = true
is_empty (x ∷ xs) = false

abbrev pub is_parameter : ℕ → Bool
is_parameter = is_in_range 0x30 0x3F

abbrev pub is_intermediate : ℕ → Bool
is_intermediate = is_in_range 0x20 0x2F

abbrev pub is_last : ℕ → Bool
is_last = is_in_range 0x40 0x7E

-- ---- by what stands after ESC [

-- parameter bytes and then intermediate ones, 32 bytes at most with ESC [
abbrev pub control_is_front : List ℕ → Bool
control_is_front body = nat_le (length body) 30 && is_empty (skip_while is_intermediate (skip_while is_parameter body))

abbrev pub control_ends : List ℕ → List ℕ → Option (List Key)
control_ends body [] = None
control_ends body (last ∷ []) = if is_last last then Some (option_to_list (control_sequence_key body last)) else None
control_ends body (last ∷ b ∷ bs) = None

abbrev pub control_whole : List ℕ → Option (List Key)
control_whole bytes = control_ends (front_while is_parameter bytes ++ front_while is_intermediate (skip_while is_parameter bytes))
    (skip_while is_intermediate (skip_while is_parameter bytes))

-- ---- by what stands after ESC O

abbrev pub single_whole : List ℕ → Option (List Key)
single_whole [] = None
single_whole (last ∷ []) = if is_last last then Some (option_to_list (letter_key 0 last)) else None
single_whole (last ∷ b ∷ bs) = None

-- ---- by what stands after ESC

abbrev pub alt_whole : ℕ → List ℕ → Option (List Key)
alt_whole b [] = if nat_lt b 0x80 && not (b == 0x1B) then Some (with_alt (byte_key b) ∷ []) else None
alt_whole b (c ∷ bs) = None

abbrev pub escape_is_front : List ℕ → Bool
escape_is_front [] = true
escape_is_front (b ∷ bs) = if b == 0x5B then control_is_front bs else ((b == 0x4F) && is_empty bs)

abbrev pub escape_whole : List ℕ → Option (List Key)
escape_whole [] = None
escape_whole (b ∷ bs) = if b == 0x5B then control_whole bs else if b == 0x4F then single_whole bs else alt_whole b bs

-- ---- a text of bytes

abbrev pub replacements : List ℕ → List Key
replacements bytes = map (λ _. replacement) bytes

-- ESC alone is a key, and of more bytes each one is none
abbrev pub escape_broken : List ℕ → List Key
escape_broken [] = escape ∷ []
escape_broken (b ∷ bs) = replacement ∷ replacements (b ∷ bs)

unfoldable pub is_front : List ℕ → Bool
is_front [] = false
is_front (b ∷ bs) = if b == 0x1B then escape_is_front bs else is_cut_character (b ∷ bs)

unfoldable pub whole : List ℕ → Option (List Key)
whole [] = None
whole (b ∷ bs) = if b == 0x1B then escape_whole bs else option_map (flat_map character_keys) (whole_character (b ∷ bs))

unfoldable pub broken : List ℕ → List Key
broken [] = []
broken (b ∷ bs) = if b == 0x1B then escape_broken bs else replacement ∷ []

-- what unfinished bytes become where nothing comes after them for a while
abbrev pub quieted : List ℕ → List Key
quieted [] = []
quieted (b ∷ bs) = if (b == 0x1B) && is_empty bs then escape ∷ [] else replacements (b ∷ bs)
