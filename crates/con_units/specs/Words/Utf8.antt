-- The words of the code and of laws about Utf8, which a reader need not believe: the codes of characters, as proofs name them.
use Rattle.std.specs.Prelude.{ℕ, ◌+◌, ◌-◌, ◌*◌}

abbrev pub code_of_two : ℕ → ℕ → ℕ
code_of_two a b = (a - 0xC0) * 64 + (b - 0x80)

abbrev pub code_of_three : ℕ → ℕ → ℕ → ℕ
code_of_three a b c = (a - 0xE0) * 4096 + (b - 0x80) * 64 + (c - 0x80)

abbrev pub code_of_four : ℕ → ℕ → ℕ → ℕ → ℕ
code_of_four a b c d = (a - 0xF0) * 262144 + (b - 0x80) * 4096 + (c - 0x80) * 64 + (d - 0x80)
