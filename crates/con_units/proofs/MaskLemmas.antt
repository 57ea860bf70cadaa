-- The mask of attribute words leaves their colours.
use Rattle.std.proofs.Common.{◌≡◌, ℕ, ◌/◌, ◌%◌, ◌<◌, bit_and, refl, sym, ap, ◌∙◌, arith}
use Rattle.std.proofs.lemmas.Nat.{and_assoc, and_mask}
use Rattle.con_units.specs.Words.Attr.{masked, foreground, background, IsShaded}
use Rattle.con_units.specs.declared.shade.Shade.{Shade}

pub masked_twice : (word : ℕ) → masked (masked word) ≡ masked word
masked_twice word = and_assoc 0xC0FF word 0xC0FF

low_byte : (word : ℕ) → masked word % 256 ≡ word % 256
low_byte word = sym (and_mask (masked word) 8) ∙ (and_assoc 0xFF word 0xC0FF ∙ and_mask word 8)

of_byte : (word : ℕ) → foreground word ≡ foreground (word % 256)
of_byte word = omega arith

of_high : (word : ℕ) → background word ≡ background (word % 256)
of_high word = omega arith

pub foreground_kept : (word : ℕ) → foreground (masked word) ≡ foreground word
foreground_kept word = of_byte (masked word) ∙ (ap foreground (low_byte word) ∙ sym (of_byte word))

pub background_kept : (word : ℕ) → background (masked word) ≡ background word
background_kept word = of_high (masked word) ∙ (ap background (low_byte word) ∙ sym (of_high word))

pub shaded_kept : (word : ℕ) (fore back : Shade) → IsShaded word fore back → IsShaded (masked word) fore back
shaded_kept word fore back h = record {
  of_foreground = rw (foreground_kept word) h.of_foreground;
  of_background = rw (background_kept word) h.of_background;
}
