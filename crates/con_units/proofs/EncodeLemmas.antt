-- What the standard library encodes, the split of UTF-8 decodes.
use Rattle.std.proofs.Common.{◌≡◌, ℕ, ◌+◌, ◌-◌, ◌*◌, ◌/◌, ◌%◌, ◌<◌, ◌≤◌, Bool, true, false, cond, ◌&&◌, nat_lt, nat_le, List, [], ◌∷◌, Some, refl, arith, ◌⊎◌, inl, inr}
use Rattle.std.proofs.lemmas.Bool.Decides.{nat_tests}
use Rattle.std.specs.Char.{encode_utf8, IsScalar}
use Rattle.con_units.specs.Split.{split, split_after}
use Rattle.con_units.specs.Utf8.{utf8, is_cut_character, whole_character, may_follow}
use Rattle.con_units.specs.ReadLaws.{read_so}

-- one character, and nothing held
abbrev pub Decodes : List ℕ → ℕ → Type 0
Decodes bytes c = split utf8 bytes ≡ record { items = c ∷ []; tail = [] }

one_byte : (c : ℕ) → c < 0x80 → Decodes (c ∷ []) c
unfolding split_after
one_byte c small =
    let not_cut : is_cut_character (c ∷ []) ≡ false = grind (arith, nat_tests) in
    let whole : nat_lt c 0x80 ≡ true = grind (arith, nat_tests) in
    (read_so utf8).whole [] [] c (c ∷ []) tt not_cut (rw whole refl)

two_bytes : (u a b : ℕ) → 0x80 ≤ u → u < 0x800 → a ≡ 0xC0 + u / 64 → b ≡ 0x80 + u % 64 → Decodes (a ∷ b ∷ []) u
unfolding split_after
two_bytes u a b low high ea eb =
    let a1 : 0xC2 ≤ a = omega arith in let a2 : a ≤ 0xDF = omega arith in let b1 : 0x80 ≤ b = omega arith in let b2 : b ≤ 0xBF = omega arith in
    let code : (a - 0xC0) * 64 + (b - 0x80) ≡ u = omega arith in
    let cut : is_cut_character (a ∷ []) ≡ true = grind (arith, nat_tests) in
    let past : (nat_le 0xE0 a && nat_le a 0xF4) ≡ false = grind (arith, nat_tests) in
    let c1 : (nat_le 0xC2 a && nat_le a 0xDF) ≡ true = grind (arith, nat_tests) in
    let c2 : (nat_le 0x80 b && nat_le b 0xBF) ≡ true = grind (arith, nat_tests) in
    (read_so utf8).whole (a ∷ []) [] b (u ∷ []) (cut, tt) (rw past refl) (rw (c1, c2, code) refl)

three_bytes : (u a b c : ℕ) → 0x800 ≤ u → u < 0x10000 → (u < 0xD800) ⊎ (0xDFFF < u) → a ≡ 0xE0 + u / 4096 → b ≡ 0x80 + u / 64 % 64 → c ≡ 0x80 + u % 64 → Decodes (a ∷ b ∷ c ∷ []) u
unfolding split_after
three_bytes u a b c low high outside ea eb ec =
    let a1 : 0xE0 ≤ a = omega arith in let a2 : a ≤ 0xEF = omega arith in let b1 : 0x80 ≤ b = omega arith in let b2 : b ≤ 0xBF = omega arith in
    let c1 : 0x80 ≤ c = omega arith in let c2 : c ≤ 0xBF = omega arith in
    let code : (a - 0xE0) * 4096 + (b - 0x80) * 64 + (c - 0x80) ≡ u = omega arith in
    let low_second : a ≡ 0xE0 → 0xA0 ≤ b = λ e. omega arith in
    let high_second : a ≡ 0xED → b ≤ 0x9F = λ e. omega arith in
    let cut : is_cut_character (a ∷ []) ≡ true = grind (arith, nat_tests) in
    let follows : may_follow a b ≡ true = grind (arith, nat_tests) in
    let r : (nat_le 0xE0 a && nat_le a 0xF4) ≡ true = grind (arith, nat_tests) in
    let t : (nat_le 0xE0 a && nat_le a 0xEF) ≡ true = grind (arith, nat_tests) in
    let past : (nat_le 0xF0 a && nat_le a 0xF4) ≡ false = grind (arith, nat_tests) in
    let d : (nat_le 0x80 c && nat_le c 0xBF) ≡ true = grind (arith, nat_tests) in
    let second : is_cut_character (a ∷ b ∷ []) ≡ true = rw r follows in
    let third : is_cut_character (a ∷ b ∷ c ∷ []) ≡ false = rw past refl in
    let e : whole_character (a ∷ b ∷ c ∷ []) ≡ Some (u ∷ []) = whole_three u a b c t follows d code in
    (read_so utf8).whole (a ∷ b ∷ []) [] c (u ∷ []) (cut, (second, tt)) third e
  where
    whole_three : (u a b c : ℕ) → (nat_le 0xE0 a && nat_le a 0xEF) ≡ true → may_follow a b ≡ true → (nat_le 0x80 c && nat_le c 0xBF) ≡ true → (a - 0xE0) * 4096 + (b - 0x80) * 64 + (c - 0x80) ≡ u → whole_character (a ∷ b ∷ c ∷ []) ≡ Some (u ∷ [])
    whole_three u a b c t follows d code = rw (t, follows, d, code) refl

four_bytes : (u a b c d : ℕ) → 0x10000 ≤ u → u < 0x110000 → a ≡ 0xF0 + u / 262144 → b ≡ 0x80 + u / 4096 % 64 → c ≡ 0x80 + u / 64 % 64 → d ≡ 0x80 + u % 64 → Decodes (a ∷ b ∷ c ∷ d ∷ []) u
unfolding split_after
four_bytes u a b c d low high ea eb ec ed =
    let a1 : 0xF0 ≤ a = omega arith in let a2 : a ≤ 0xF4 = omega arith in let b1 : 0x80 ≤ b = omega arith in let b2 : b ≤ 0xBF = omega arith in
    let c1 : 0x80 ≤ c = omega arith in let c2 : c ≤ 0xBF = omega arith in let d1 : 0x80 ≤ d = omega arith in let d2 : d ≤ 0xBF = omega arith in
    let code : (a - 0xF0) * 262144 + (b - 0x80) * 4096 + (c - 0x80) * 64 + (d - 0x80) ≡ u = omega arith in
    let low_second : a ≡ 0xF0 → 0x90 ≤ b = λ e. omega arith in
    let high_second : a ≡ 0xF4 → b ≤ 0x8F = λ e. omega arith in
    let cut : is_cut_character (a ∷ []) ≡ true = grind (arith, nat_tests) in
    let follows : may_follow a b ≡ true = grind (arith, nat_tests) in
    let r : (nat_le 0xE0 a && nat_le a 0xF4) ≡ true = grind (arith, nat_tests) in
    let t : (nat_le 0xF0 a && nat_le a 0xF4) ≡ true = grind (arith, nat_tests) in
    let k : (nat_le 0x80 c && nat_le c 0xBF) ≡ true = grind (arith, nat_tests) in
    let l : (nat_le 0x80 d && nat_le d 0xBF) ≡ true = grind (arith, nat_tests) in
    let second : is_cut_character (a ∷ b ∷ []) ≡ true = rw r follows in
    let third : is_cut_character (a ∷ b ∷ c ∷ []) ≡ true = rw (t, follows) k in
    let e : whole_character (a ∷ b ∷ c ∷ d ∷ []) ≡ Some (u ∷ []) = whole_four u a b c d t follows k l code in
    (read_so utf8).whole (a ∷ b ∷ c ∷ []) [] d (u ∷ []) (cut, (second, (third, tt))) refl e
  where
    whole_four : (u a b c d : ℕ) → (nat_le 0xF0 a && nat_le a 0xF4) ≡ true → may_follow a b ≡ true → (nat_le 0x80 c && nat_le c 0xBF) ≡ true → (nat_le 0x80 d && nat_le d 0xBF) ≡ true → (a - 0xF0) * 262144 + (b - 0x80) * 4096 + (c - 0x80) * 64 + (d - 0x80) ≡ u → whole_character (a ∷ b ∷ c ∷ d ∷ []) ≡ Some (u ∷ [])
    whole_four u a b c d t follows k l code = rw (t, follows, k, l, code) refl

-- the size of the encoding goes by three tests
by_size : (c : ℕ) (x y z : Bool) → nat_lt c 0x80 ≡ x → nat_lt c 0x800 ≡ y → nat_lt c 0x10000 ≡ z → c < 0x110000 → (c < 0xD800) ⊎ (0xDFFF < c)
    → Decodes (cond x (c ∷ []) (cond y ((192 + c / 64) ∷ (128 + c % 64) ∷ []) (cond z ((224 + c / 4096) ∷ (128 + c / 64 % 64) ∷ (128 + c % 64) ∷ []) ((240 + c / 262144) ∷ (128 + c / 4096 % 64) ∷ (128 + c / 64 % 64) ∷ (128 + c % 64) ∷ [])))) c
by_size c true y z p q r most outside = one_byte c (grind (arith, nat_tests))
by_size c false true z p q r most outside = two_bytes c _ _ (grind (arith, nat_tests)) (grind (arith, nat_tests)) refl refl
by_size c false false true p q r most outside = three_bytes c _ _ _ (grind (arith, nat_tests)) (grind (arith, nat_tests)) outside refl refl refl
by_size c false false false p q r most outside = four_bytes c _ _ _ _ (grind (arith, nat_tests)) most refl refl refl refl

outside_of : (c : ℕ) (x : Bool) → nat_lt c 55296 ≡ x → cond x true (nat_le 57344 c && nat_lt c 1114112) ≡ true → (c < 0x110000) × ((c < 0xD800) ⊎ (0xDFFF < c))
outside_of c true e h = let low : c < 0xD800 = grind (arith, nat_tests) in (omega arith, inl low)
outside_of c false e h = let high : 57344 ≤ c = grind (arith, nat_tests) in let most : c < 0x110000 = grind (arith, nat_tests) in (most, inr (omega arith))

-- what is encoded is decoded
pub decodes_encoded : (c : ℕ) → IsScalar c → Decodes (encode_utf8 c) c
unfolding encode_utf8
decodes_encoded c scalar =
    let fits = outside_of c (nat_lt c 55296) refl scalar in
    by_size c (nat_lt c 0x80) (nat_lt c 0x800) (nat_lt c 0x10000) refl refl refl fits.0 fits.1
