-- The rows of a dump, one after another.
use Rattle.std.proofs.Common.{◌≡◌, ℕ, zero, suc, false, ◌==◌, ◌+◌, ◌-◌, ◌*◌, List, [], ◌∷◌, ◌++◌, take, drop, refl, sym, ap, ◌∙◌, append_assoc, arith}
use Rattle.std.specs.Prelude.{flat_map}
use Rattle.std.specs.List.{range_with_len}
use Rattle.con_units.specs.Attr.{Attribute, plain}
use Rattle.con_units.specs.Decimal.{decimal}
use Rattle.con_units.specs.Glyph.{Glyph}
use Rattle.con_units.specs.View.{row_of}
use Rattle.con_term.specs.Same.{same_attr}
use Rattle.con_dump.specs.Dump.{row_line, rows_text, runs_text, hex_word, shade_text, run_line, run_lines}

append_none : (xs : List ℕ) → xs ++ [] ≡ xs
append_none [] = refl
append_none (x ∷ xs) = ap (λ zs. x ∷ zs) (append_none xs)

slice_is : (y w : ℕ) (cells : List Glyph) → take (y * w + w - y * w) (drop (y * w) cells) ≡ take w (drop (y * w) cells)
slice_is y w cells = let e : y * w + w - y * w ≡ w = omega arith in rw e refl

-- one more
range_more : (f : ℕ → List ℕ) (a n j : ℕ) → a + n ≡ j → flat_map f (range_with_len a (suc n)) ≡ flat_map f (range_with_len a n) ++ f j
range_more f a zero j e = let k : a ≡ j = omega (arith, e) in append_none (f a) ∙ ap f k
range_more f a (suc n) j e = let k : a + 1 + n ≡ j = omega (arith, e) in
    ap (λ (zs : List ℕ). f a ++ zs) (range_more f (a + 1) n j k) ∙ sym (append_assoc (f a) (flat_map f (range_with_len (a + 1) n)) (f j))

lines_more : (f : ℕ → List ℕ) (old mid new : List ℕ) (y : ℕ) → mid ≡ old ++ flat_map f (range_with_len 0 y) → new ≡ mid ++ f y → new ≡ old ++ flat_map f (range_with_len 0 (y + 1))
lines_more f old mid new y h k =
    let next : suc y ≡ y + 1 = omega arith in
    let same : 0 + y ≡ y = omega arith in
    k ∙ ap (λ (zs : List ℕ). zs ++ f y) h ∙ append_assoc old (flat_map f (range_with_len 0 y)) (f y)
    ∙ ap (λ (zs : List ℕ). old ++ zs) (sym (range_more f 0 y y same)) ∙ ap (λ (n : ℕ). old ++ flat_map f (range_with_len 0 n)) next

pub rows_none : (old : List ℕ) (w : ℕ) (cells : List Glyph) → old ≡ old ++ rows_text w cells 0
unfolding rows_text
rows_none old w cells = sym (append_none old)

pub runs_none : (old : List ℕ) (w : ℕ) (cells : List Glyph) → old ≡ old ++ runs_text w cells 0
unfolding runs_text
runs_none old w cells = sym (append_none old)

pub rows_more : (old mid new : List ℕ) (w y : ℕ) (cells : List Glyph) → mid ≡ old ++ rows_text w cells y → new ≡ mid ++ row_line (take (y * w + w - y * w) (drop (y * w) cells)) → new ≡ old ++ rows_text w cells (y + 1)
unfolding rows_text
rows_more old mid new w y cells h k = lines_more (λ n. row_line (row_of w cells n)) old mid new y h (k ∙ ap (λ row. mid ++ row_line row) (slice_is y w cells))

pub runs_more : (old mid new : List ℕ) (w y : ℕ) (cells : List Glyph) → mid ≡ old ++ runs_text w cells y → new ≡ mid ++ run_lines y 0 0 (plain 7) (take (y * w + w - y * w) (drop (y * w) cells)) → new ≡ old ++ runs_text w cells (y + 1)
unfolding runs_text
runs_more old mid new w y cells h k = lines_more (λ n. run_lines n 0 0 (plain 7) (row_of w cells n)) old mid new y h (k ∙ ap (λ row. mid ++ run_lines y 0 0 (plain 7) row) (slice_is y w cells))

-- a run's line, part by part
twelve : (o p a q b r c s w f k z : List ℕ) → ((((((((((o ++ p) ++ a) ++ q) ++ b) ++ r) ++ c) ++ s) ++ w) ++ f) ++ k) ++ z ≡ o ++ (p ++ a ++ q ++ b ++ r ++ c ++ s ++ w ++ f ++ k ++ z)
twelve o p a q b r c s w f k z = simp append_assoc

pub run_told : (old : List ℕ) {a b c d e f g h i j new : List ℕ} (y x n : ℕ) (attr : Attribute)
    → a ≡ old ++ 0x40 ∷ [] → b ≡ a ++ decimal y → c ≡ b ++ 0x2C ∷ [] → d ≡ c ++ decimal x → e ≡ d ++ 0x2B ∷ [] → f ≡ e ++ decimal n → g ≡ f ++ 0x20 ∷ []
    → h ≡ g ++ hex_word attr.word → i ≡ h ++ shade_text 0x66 attr.fore → j ≡ i ++ shade_text 0x62 attr.back → new ≡ j ++ 0x0A ∷ []
    → same_attr attr (plain 7) ≡ false → (n == 0) ≡ false → new ≡ old ++ run_line y x n attr
unfolding run_line
run_told old y x n attr p1 p2 p3 p4 p5 p6 p7 p8 p9 p10 p11 told some =
    rw (p11, p10, p9, p8, p7, p6, p5, p4, p3, p2, p1, told, some)
    (twelve old (0x40 ∷ []) (decimal y) (0x2C ∷ []) (decimal x) (0x2B ∷ []) (decimal n) (0x20 ∷ []) (hex_word attr.word) (shade_text 0x66 attr.fore) (shade_text 0x62 attr.back) (0x0A ∷ []))
