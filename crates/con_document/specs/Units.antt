-- The UTF-16 units of a text in UTF-8 (RFC 3629; RFC 2781, section 2.1).
use Rattle.std.specs.Prelude.{ℕ, List, flat_map}
use Rattle.std.specs.Str.{chars}
use Rattle.std.specs.Char.Escape.{encode_utf16}

-- one or two units for each character
unfoldable pub text_units : List ℕ → List ℕ
text_units text = flat_map encode_utf16 (chars text)
