-- Laws of the attribute that a pen writes: its word is a foreground, 16 times a background, and the bits of two flags.
use Rattle.std.proofs.Common.{◌≡◌, ℕ, ◌+◌, ◌*◌, ◌/◌, ◌%◌, ◌<◌, Bool, true, false, refl, inl, inr, arith}
use Rattle.std.specs.Prelude.{if◌then◌else◌}
use Rattle.con_units.specs.Words.Attr.{foreground, background, IsShaded}
use Rattle.con_units.specs.Shade.{near, IsNearest}
use Rattle.con_units.specs.Words.Shade.{IsNearestOrBright}
use Rattle.con_units.specs.declared.shade.Shade.{Shade}
use Rattle.con_units.specs.declared.shade.Shade.TheVariants.{Plain, Index}

-- the word of a pen whose foreground is f already with its intensity
abbrev pub pen_word : ℕ → ℕ → Bool → Bool → ℕ
pen_word f b negative underline = f + 16 * b + (if negative then 0x4000 else 0) + (if underline then 0x8000 else 0)

pub foreground_of : (f b : ℕ) (n u : Bool) → f < 16 → foreground (pen_word f b n u) ≡ f
foreground_of f b true true h = omega arith
foreground_of f b true false h = omega arith
foreground_of f b false true h = omega arith
foreground_of f b false false h = omega arith

pub background_of : (f b : ℕ) (n u : Bool) → f < 16 → b < 16 → background (pen_word f b n u) ≡ b
background_of f b true true h k = omega arith
background_of f b true false h k = omega arith
background_of f b false true h k = omega arith
background_of f b false false h k = omega arith

-- a colour is as near without its intensity set, and with it
pub as_it_is : (s : Shade) (f : ℕ) → IsNearest s f → IsNearestOrBright s f
as_it_is Plain f h = tt
as_it_is (Index n) f h = (h.0, h.1, inl h.2)

pub with_intensity : (s : Shade) (f : ℕ) → IsNearest s f → IsNearestOrBright s (f % 8 + 8)
with_intensity Plain f h = tt
with_intensity (Index n) f h = (h.0, h.1, inr (rw h.2 refl))

-- the shades of a pen stand beside its word's colours
pub is_shaded : (s t : Shade) (f b : ℕ) (n u : Bool) → f < 16 → b < 16 → IsNearestOrBright s f → IsNearest t b → IsShaded (pen_word f b n u) s t
is_shaded s t f b n u h k i j = record {
  of_foreground = rw (foreground_of f b n u h) i;
  of_background = rw (background_of f b n u h k) j;
}
