-- The code's own words: how it reads a target, sign by sign.
use Rattle.std.specs.Prelude.{ℕ, zero, suc, ◌+◌, ◌-◌, Bool, nat_le, nat_lt, ◌==◌, ◌&&◌, List, [], ◌∷◌, length, slice_index, if◌then◌else◌}
use Rattle.con_alias.specs.Aliases.{folded_unit}
use Rattle.con_alias.specs.Expansion.{word_in, after_word, after_spaces}
use Rattle.con_alias.specs.declared.expand.Sign.{Sign}
use Rattle.con_alias.specs.declared.expand.Sign.TheVariants as sign

-- a text after n words
abbrev pub after_words : ℕ → List ℕ → List ℕ
after_words zero text = text
after_words (suc n) text = after_word (after_spaces (after_words n text))

-- the word behind n others
abbrev pub nth_word : ℕ → List ℕ → List ℕ
nth_word n text = word_in (after_spaces (after_words n text))

-- what the unit behind a dollar says, letters in either case
abbrev pub letter_sign : ℕ → Sign
letter_sign u =
    if u == 116 then sign.LineEnd
    else if u == 103 then sign.Unit 62
    else if u == 108 then sign.Unit 60
    else if u == 98 then sign.Unit 124
    else sign.Stays

abbrev pub sign_of : ℕ → Sign
sign_of u =
    if nat_le 49 u && nat_le u 57 then sign.Argument (u - 49)
    else if u == 42 then sign.Rest
    else if u == 36 then sign.Unit 36
    else letter_sign (folded_unit u)

-- what stands for it
abbrev pub replaced : List ℕ → ℕ → List ℕ → Sign → List ℕ
replaced line_end u rest (sign.Argument n) = nth_word n rest
replaced line_end u rest sign.Rest = after_spaces rest
replaced line_end u rest sign.LineEnd = line_end
replaced line_end u rest (sign.Unit v) = v ∷ []
replaced line_end u rest sign.Stays = 36 ∷ u ∷ []

-- whether a sign stands at a place, and how many units are spelled out together there
abbrev pub signed_at : List ℕ → ℕ → Bool
signed_at target i = (slice_index target i == 36) && nat_lt (i + 1) (length target)

abbrev pub width_at : List ℕ → ℕ → ℕ
width_at target i = if signed_at target i then 2 else 1
