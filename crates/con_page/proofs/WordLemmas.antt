-- A pen of an attribute word has that word.
use Rattle.std.proofs.Common.{◌≡◌, ℕ, ◌+◌, ◌*◌, ◌/◌, ◌%◌, ◌^◌, ◌<◌, ◌==◌, cond, ap, ◌∙◌, arith, bit_and}
use Rattle.std.proofs.lemmas.Nat.{and_block, and_mask, and_assoc}
use Rattle.std.proofs.lemmas.Nat.Bits.{and_high}
use Rattle.std.proofs.lemmas.Bool.Decides.{nat_tests}
use Rattle.con_units.specs.Attr.{plain}
use Rattle.con_units.specs.Words.Attr.{masked}
use Rattle.con_units.specs.declared.shade.Shade.TheVariants as shade
use Rattle.con_vtgram.specs.Pen.{word_of, attr_of}
use Rattle.con_page.specs.Setters.{pen_of_word}

halves : (a r : ℕ) → r < 2 ^ 8 → bit_and (a * 2 ^ 8 + r) 0xC0FF ≡ (a / 2 ^ 6 % 2 ^ 2) * 2 ^ 6 * 2 ^ 8 + r % 2 ^ 8
halves a r small =
    let block : bit_and (a * 2 ^ 8 + r) (0xC0 * 2 ^ 8 + 0xFF) ≡ bit_and a 0xC0 * 2 ^ 8 + bit_and r 0xFF = and_block 8 a 0xC0 r 0xFF small (omega arith) in
    let high : bit_and a 0xC0 ≡ (a / 2 ^ 6 % 2 ^ 2) * 2 ^ 6 = and_high a 2 6 in
    let low : bit_and r 0xFF ≡ r % 2 ^ 8 = and_mask r 8 in
    block ∙ ap (λ n. n * 2 ^ 8 + bit_and r 0xFF) high ∙ ap (λ n. (a / 2 ^ 6 % 2 ^ 2) * 2 ^ 6 * 2 ^ 8 + n) low

masked_is : (w : ℕ) → masked w ≡ (w / 256 / 64 % 4) * 16384 + w % 256
masked_is w =
    let whole : w ≡ (w / 256) * 2 ^ 8 + w % 256 = omega arith in
    let small : w % 256 < 2 ^ 8 = omega arith in
    ap (λ n. bit_and n 0xC0FF) whole ∙ halves (w / 256) (w % 256) small ∙ omega arith

flag : (n k : ℕ) → cond (n % 2 == 1) k 0 ≡ n % 2 * k
flag n k = let two : n % 2 < 2 = omega arith in by (n % 2) two
  where
    by : (m : ℕ) → m < 2 → cond (m == 1) k 0 ≡ m * k
    by m small = grind (arith, nat_tests)

low : (w : ℕ) → w % 16 + 16 * (w / 16 % 16) ≡ w % 256
low w = omega arith

high : (w : ℕ) → w / 0x4000 % 2 * 0x4000 + w / 0x8000 % 2 * 0x8000 ≡ (w / 256 / 64 % 4) * 16384
high w = omega arith

word_back : (w : ℕ) → word_of (pen_of_word w) ≡ masked w
word_back w =
    let a = flag (w / 0x4000) 0x4000 in
    let b = flag (w / 0x8000) 0x8000 in
    let l = low w in
    let h = high w in
    rw (a, b, masked_is w) (omega (arith, l, h))

-- the attribute of the pen of a word
pub attr_of_word : (w : ℕ) → attr_of (pen_of_word w) ≡ plain w
attr_of_word w = ap plain (word_back w) ∙ ap (λ n. record { word = n; fore = shade.Plain; back = shade.Plain }) (and_assoc 0xC0FF w 0xC0FF)
