-- The first frame behind an attach, on any terminal of the size, and marks of which nothing has to be known.
use Rattle.std.proofs.Common.{◌≡◌, ℕ, Bool, List, length, Option, Some, None, sym, ap, ◌∙◌, subst}
use Rattle.con_units.specs.View.{row_of}
use Rattle.con_units.specs.declared.view.View.{View}
use Rattle.con_term.specs.Play.{play}
use Rattle.con_term.specs.Terminal.{Terminal, IsTerminal, Shows}
use Rattle.con_paint.specs.Painter.{Kept, unpainted}
use Rattle.con_mirror.specs.Mirror.{AreSince, IsMirrored}
use Rattle.con_mirror.specs.Part.{part}

shows : (w h : ℕ) (new : Option Kept) (v : View) (bytes : List ℕ) → IsMirrored (Some (unpainted w h)) new v bytes
    → (t : Terminal) → IsTerminal w h t → Shows (play t bytes) (part v (record { w = w; h = h }))
shows w h None v bytes m t i = absurd m
shows w h (Some after) v bytes m t i = (m.paints t (record { terminal = i; agrees = λ e. absurd (cc) })).shows

pub first_shows : (w h : ℕ) (old new : Option Kept) (v : View) (bytes : List ℕ) → old ≡ Some (unpainted w h) → IsMirrored old new v bytes
    → (t : Terminal) → IsTerminal w h t → Shows (play t bytes) (part v (record { w = w; h = h }))
first_shows w h old new v bytes e m = let P : Option Kept → Type 0 = λ k. IsMirrored k new v bytes in shows w h new v bytes (subst P e m)

-- where no view was given, and where this one was
pub since_none : (given : Option View) (v : View) (marks : List Bool) → given ≡ None → length marks ≡ v.size.h → AreSince given v marks
since_none given v marks e count = record { count = count; same = λ last i y low unmarked. absurd (let none : None ≡ Some last = sym e ∙ i in cc) }

pub since_itself : (given : Option View) (v : View) (marks : List Bool) → given ≡ Some v → length marks ≡ v.size.h → AreSince given v marks
since_itself given v marks e count = record {
  count = count;
  same = λ last i y low unmarked.
      let same : v ≡ last = (let q : Some v ≡ Some last = sym e ∙ i in cc) in (ap (λ (z : View). z.size.w) (sym same), ap (λ (z : View). row_of v.size.w z.rows y) same);
}
