-- A piece that was heard.
use Rattle.std.proofs.Common.{◌≡◌, ℕ, List, refl}
use Rattle.std.specs.Prelude.{flat_map}
use Rattle.con_units.specs.Split.{split_after}
use Rattle.con_units.specs.Utf8.{utf8}
use Rattle.con_term.specs.Play.{units_of}
use Rattle.con_screens.specs.Buffers.{Buffers}
use Rattle.con_text.specs.Words.Typing.{Typing, heard, units_typed}

pub heard_is : (s : Typing) (b new : Buffers) (h us vs held bytes : List ℕ) → s ≡ record { buffers = b; held = h } → vs ≡ flat_map units_of (split_after utf8 h bytes).items → us ≡ vs → held ≡ (split_after utf8 h bytes).tail
    → new ≡ units_typed b us → record { buffers = new; held = held } ≡ heard s bytes
unfolding heard
heard_is s b new h us vs held bytes is units same tail typed = rw (is, typed, same, units, tail) refl
