-- The shades of a pen stand beside its word's colours.
use Rattle.std.proofs.Common.{ℕ, ◌+◌, ◌%◌, ◌<◌, arith}
use Rattle.std.specs.Prelude.{if◌then◌else◌}
use Rattle.std.proofs.lemmas.Bool.{cond_both}
use Rattle.con_units.specs.Words.Attr.{IsShaded}
use Rattle.con_units.specs.Words.Shade.{IsNearestOrBright}
use Rattle.con_units.specs.PenLaws.{as_it_is, with_intensity, is_shaded}
use Rattle.con_vtgram.specs.Pen.{word_of, IsPen}
use Rattle.con_vtgram.specs.declared.pen.Pen.{Pen}

-- the foreground's four bits, with their intensity where the pen is bold
abbrev lit : Pen → ℕ
lit p = if p.bold then p.foreground % 8 + 8 else p.foreground

pub pen_shaded : (p : Pen) → IsPen p → IsShaded (word_of p) p.fore p.back
pen_shaded p ok = is_shaded p.fore p.back (lit p) p.background p.negative p.underline
    (cond_both p.bold (p.foreground % 8 + 8) p.foreground (λ n. n < 16) (λ _. omega arith) (λ _. ok.foreground)) ok.background
    (cond_both p.bold (p.foreground % 8 + 8) p.foreground (λ n. IsNearestOrBright p.fore n) (λ _. with_intensity p.fore p.foreground ok.fore) (λ _. as_it_is p.fore p.foreground ok.fore)) ok.back
