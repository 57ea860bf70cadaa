-- Which words are a form.
pub mod Words
use Rattle.std.specs.Prelude.{ℕ, ◌+◌, ◌-◌, Bool, false, not, ◌&&◌, ◌||◌, ◌==◌, List, [], ◌∷◌, take, drop, map, slice_index, codes}
use Rattle.std.specs.Prelude.{Option, Some, None, option_map, option_and_then, if◌then◌else◌}
use Rattle.std.specs.Char.{is_ascii_digit}
use Rattle.std.specs.Int.{is_in_range}
use Rattle.std.specs.Int.Digits.{number_from_digits}
use Rattle.std.specs.List.{list_all, position}
use Rattle.std.specs.Str.{bytes_eq}
use Rattle.con_units.specs.Limits.{most_columns, most_window_rows}
use Rattle.con_units.specs.declared.place.Size.{Size}

-- what the words ask for: a text to be typed, bytes to be played at a size, the session of a file by threads, by turns, or by turns with a second terminal,
-- an audit of the files of a session, its link, its stream and its report, the generated session of a number
pub data Asked : Type 0 where
  typing : Asked
  playing : Size → Asked
  running : List ℕ → Asked
  solo : List ℕ → Asked
  mirroring : List ℕ → Asked
  auditing : List ℕ → List ℕ → List ℕ → List ℕ → Asked
  generating : ℕ → Asked

-- the number from low to high that a word spells: '0', or decimal digits of which the first is not 0
abbrev pub number_in : ℕ → ℕ → List ℕ → Option ℕ
number_in low high word = let n = number_from_digits 10 (map (λ d. d - 0x30) word) in if list_all is_ascii_digit word
    && (bytes_eq word (codes "0") || is_in_range 0x31 0x39 (slice_index word 0)) && is_in_range low high n then Some n else None

-- the size that a word WxH names: W of 1 to 512, H of 1 to 256
abbrev pub size_of : List ℕ → Option Size
size_of word = option_and_then (λ at. option_and_then (λ w. option_map (λ h. record { w = w; h = h }) (number_in 1 most_window_rows (drop (at + 1) word)))
    (number_in 1 most_columns (take at word))) (position (λ byte. byte == 0x78) word)

-- not empty, and does not begin with '-'
abbrev pub is_word : List ℕ → Bool
is_word [] = false
is_word (byte ∷ bytes) = not (byte == 0x2D)

abbrev pub with_word : List ℕ → List ℕ → Option Asked
with_word name word =
    if bytes_eq (codes "play") name then option_map playing (size_of word)
    else if bytes_eq (codes "solo") name then Some (solo word)
    else if bytes_eq (codes "gen") name then option_map generating (number_in 0 4294967295 word)
    else if bytes_eq (codes "run") name then Some (running word)
    else if bytes_eq (codes "mirror") name then Some (mirroring word)
    else None

abbrev pub of_words : List (List ℕ) → Option Asked
of_words (name ∷ []) = if bytes_eq (codes "type") name then Some typing else None
of_words (name ∷ word ∷ []) = with_word name word
of_words (name ∷ session ∷ link ∷ stream ∷ report ∷ []) = if bytes_eq (codes "audit") name then Some (auditing session link stream report) else None
of_words _ = None

-- what the words ask for; they are no form where one of them is empty or begins with '-'
abbrev pub form_of : List (List ℕ) → Option Asked
form_of words = if list_all is_word words then of_words words else None
