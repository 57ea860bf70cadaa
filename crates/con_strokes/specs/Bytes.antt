-- The bytes that a painter writes.
use Rattle.std.specs.Prelude.{ℕ, ◌+◌, ◌/◌, ◌%◌, nat_lt, Bool, true, false, List, [], ◌∷◌, ◌++◌, if◌then◌else◌}
use Rattle.con_units.specs.Decimal.{decimal}

-- further numbers, each behind a semicolon
abbrev pub more_numbers : List ℕ → List ℕ
more_numbers [] = []
more_numbers (n ∷ ns) = 0x3B ∷ (decimal n ++ more_numbers ns)

-- numbers with semicolons between them; where some stand before them, with one in front too
abbrev pub separated : Bool → List ℕ → List ℕ
separated some [] = []
separated true (n ∷ ns) = more_numbers (n ∷ ns)
separated false (n ∷ ns) = decimal n ++ more_numbers ns

-- the numbers, where they are wanted
abbrev pub parts : Bool → List ℕ → List ℕ
parts wanted ns = if wanted then ns else []

-- the number, where it is wanted
abbrev pub part : Bool → ℕ → List ℕ
part wanted n = parts wanted (n ∷ [])

-- a control sequence with these numbers
unfoldable pub csi_bytes : List ℕ → ℕ → List ℕ
csi_bytes ns last = 0x1B ∷ 0x5B ∷ (separated false ns ++ last ∷ [])

-- a character of one unit, in UTF-8
unfoldable pub utf8_of : ℕ → List ℕ
utf8_of u = if nat_lt u 0x80 then u ∷ []
    else if nat_lt u 0x800 then (0xC0 + u / 64) ∷ (0x80 + u % 64) ∷ []
    else (0xE0 + u / 4096) ∷ (0x80 + u / 64 % 64) ∷ (0x80 + u % 64) ∷ []

-- CSI ! p (DECSTR), CSI ? 69 l (DECLRMM); CSI ? 6 l (DECOM), CSI 4 l (IRM), CSI 20 l (LNM); CSI ? 7 h (DECAWM),
-- CSI ? 5 l (DECSCNM); CSI ? 2026 l (synchronized output); CSI r (DECSTBM), ESC ( B (ASCII as G0), SI, CSI 0 m (SGR)
abbrev pub ground_bytes : List ℕ
ground_bytes =
    0x1B ∷ 0x5B ∷ 0x21 ∷ 0x70 ∷ 0x1B ∷ 0x5B ∷ 0x3F ∷ 0x36 ∷ 0x39 ∷ 0x6C
    ∷ 0x1B ∷ 0x5B ∷ 0x3F ∷ 0x36 ∷ 0x6C ∷ 0x1B ∷ 0x5B ∷ 0x34 ∷ 0x6C ∷ 0x1B ∷ 0x5B ∷ 0x32 ∷ 0x30 ∷ 0x6C
    ∷ 0x1B ∷ 0x5B ∷ 0x3F ∷ 0x37 ∷ 0x68 ∷ 0x1B ∷ 0x5B ∷ 0x3F ∷ 0x35 ∷ 0x6C
    ∷ 0x1B ∷ 0x5B ∷ 0x3F ∷ 0x32 ∷ 0x30 ∷ 0x32 ∷ 0x36 ∷ 0x6C
    ∷ 0x1B ∷ 0x5B ∷ 0x72 ∷ 0x1B ∷ 0x28 ∷ 0x42 ∷ 0x0F ∷ 0x1B ∷ 0x5B ∷ 0x30 ∷ 0x6D ∷ []
