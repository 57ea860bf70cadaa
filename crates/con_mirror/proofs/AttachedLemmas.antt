-- A terminal that is attached, behind a frame of it.
use Rattle.std.proofs.Common.{◌≡◌, ℕ, ◌+◌, ◌*◌, ◌<◌, Bool, true, false, List, length, drop, get_or, Option, None, Some, refl, sym, ap, ◌∙◌, subst, arith}
use Rattle.std.specs.Prelude.{IfSome}
use Rattle.con_units.specs.Glyph.{Glyph}
use Rattle.con_units.specs.Words.Limits.{IsWindow}
use Rattle.con_units.specs.View.{row_of}
use Rattle.con_units.specs.Words.View.{IsWhole}
use Rattle.con_units.specs.declared.place.Coord.{Coord}
use Rattle.con_units.specs.declared.place.Size.{Size}
use Rattle.con_units.specs.declared.view.View.{View}
use Rattle.con_term.specs.Terminal.{Terminal}
use Rattle.con_paint.specs.Painter.{Kept, Allows, IsShown, Paints, unpainted}
use Rattle.con_mirror.specs.Part.{part, part_row}
use Rattle.con_mirror.specs.Parts.{left_of, padded, part_rows, top_of}
use Rattle.con_mirror.specs.PartLaws.{part_is_whole}
use Rattle.con_mirror.specs.Inside.{IsAttached, IsGiven, IsSince, given_in}
use Rattle.con_mirror.specs.Mirror.{AreSince, Mirrored, size_in}
use Rattle.con_mirror.specs.declared.attached.Attached.{Attached}
use Rattle.con_mirror.specs.declared.attached.Given.{Given}
use Rattle.con_mirror.proofs.RowLemmas.{part_row_of}

size_is : (a : Attached) → IsAttached a → a.shown.size ≡ size_in a.painter
size_is a k = λ i. record { w = k.wide i; h = k.high i }

pub part_is : (a : Attached) (v shown : View) → IsAttached a → shown ≡ part v a.shown.size → shown ≡ part v (size_in a.painter)
part_is a v shown k e = e ∙ ap (λ (z : Size). part v z) (size_is a k)

pub whole_part : (a : Attached) (v shown : View) → IsAttached a → shown ≡ part v a.shown.size → IsWhole shown
whole_part a v shown k e = let P : View → Type 0 = λ z. IsWhole z in
    subst P (sym (part_is a v shown k e)) (part_is_whole v (size_in a.painter) k.window.some_columns k.window.some_rows)

pub attached_on : (a : Attached) (v shown : View) (after : Kept) (marks : List Bool) (g : Given) → IsAttached a → shown ≡ part v a.shown.size → after.w ≡ a.painter.w → after.h ≡ a.painter.h
    → length marks ≡ a.shown.size.h → IsShown after shown → g.view.value ≡ v → g.corner.left ≡ left_of v a.shown.size.w → g.corner.top ≡ top_of v a.shown.size.h
    → IsAttached (record { painter = after; shown = shown; marks = marks; given = Some g })
attached_on a v shown after marks g k e w t count is_shown value left top =
    let size : shown.size ≡ a.shown.size = ap (λ (z : View). z.size) e in
    let is = part_is a v shown k e in
    let wide : shown.size.w ≡ after.w = ap (λ (z : View). z.size.w) is ∙ sym w in
    let high : shown.size.h ≡ after.h = ap (λ (z : View). z.size.h) is ∙ sym t in
    let whole = whole_part a v shown k e in
    let P : ℕ → Type 0 = λ x. IsWindow x a.painter.h in let Q : ℕ → Type 0 = λ x. IsWindow after.w x in
    record {
      window = subst Q (sym t) (subst P (sym w) k.window);
      wide = wide;
      high = high;
      cells = whole.cells ∙ (ap (λ (x : ℕ). x * shown.size.w) high ∙ ap (λ (x : ℕ). after.h * x) wide);
      marks = count ∙ k.high ∙ sym t;
      same = λ known. is_shown.cells;
      given' = record {
        shown = e ∙ ap (λ (z : Size). part v z) (sym size) ∙ ap (λ (z : View). part z shown.size) (sym value);
        left = left ∙ ap (λ (z : Size). left_of v z.w) (sym size) ∙ ap (λ (z : View). left_of z shown.size.w) (sym value);
        top = top ∙ ap (λ (z : Size). top_of v z.h) (sym size) ∙ ap (λ (z : View). top_of z shown.size.h) (sym value);
      };
    }

-- a row without a mark, where the part begins where the one before did
since_given : (a : Attached) (g : Given) (v : View) (marks : List Bool) (left top : ℕ) → IsGiven a g → AreSince (Some g.view.value) v marks → g.corner.left ≡ left → g.corner.top ≡ top
    → (k : ℕ) → k < a.shown.size.h → top + k < length marks → get_or marks (top + k) false ≡ false → part_row v left a.shown.size.w (top + k) ≡ row_of a.shown.size.w a.shown.rows k
since_given a g v marks left top is since l t k low inside unmarked =
    let last = g.view.value in
    let w = a.shown.size.w in
    let h = a.shown.size.h in
    let y : ℕ = top + k in
    let P : ℕ → Type 0 = λ n. y < n in
    let same = since.same last refl y (subst P since.count inside) unmarked in
    let row : row_of v.size.w v.rows y ≡ row_of last.size.w last.rows y = same.1 ∙ ap (λ (n : ℕ). row_of n last.rows y) (sym same.0) in
    let rows : a.shown.rows ≡ part_rows last left top w h =
    ap (λ (z : View). z.rows) is.shown ∙ ap (λ (n : ℕ). part_rows last n (top_of last h) w h) (sym is.left ∙ l) ∙ ap (λ (n : ℕ). part_rows last left n w h) (sym is.top ∙ t) in
    ap (λ (xs : List Glyph). padded w (drop left xs)) row ∙ sym (part_row_of last left top w h k low) ∙ ap (λ (xs : List Glyph). row_of w xs k) (sym rows)

pub since_by : (a : Attached) (given : Option Given) (v : View) (marks : List Bool) (left top : ℕ) (stays : Bool) → IfSome given (λ g. IsGiven a g) → AreSince (given_in given) v marks
    → (stays ≡ true → ¬ (given ≡ None)) → IfSome given (λ g. stays ≡ true → (g.corner.left ≡ left) × (g.corner.top ≡ top))
    → IsSince v marks left top a.shown.size.w a.shown.size.h stays a.shown.rows
since_by a None v marks left top stays is since some at = λ on. absurd (some on refl)
since_by a (Some g) v marks left top stays is since some at = λ on k low inside unmarked. let c = at on in since_given a g v marks left top is since c.0 c.1 k low inside unmarked

pub mirrors : (a : Attached) (v shown : View) (after : Kept) (bytes : List ℕ) → IsAttached a → shown ≡ part v a.shown.size
    → after.w ≡ a.painter.w → after.h ≡ a.painter.h
    → ((t : Terminal) → Allows a.painter t → Paints a.painter after shown bytes t) → IsShown after shown → Mirrored a.painter after v bytes
mirrors a v shown after bytes k e w t paints is_shown =
    let is = part_is a v shown k e in
    let P : View → Type 0 = λ z. (u : Terminal) → Allows a.painter u → Paints a.painter after z bytes u in
    let Q : View → Type 0 = λ z. IsShown after z in
    record { paints = subst P is paints; shown = subst Q is is_shown; wide = w; high = t }

-- where the part of the view is what was shown last, the part that was put is
pub was_shown : (a : Attached) (v shown : View) → IsAttached a → shown ≡ part v a.shown.size → IsShown a.painter (part v (size_in a.painter))
    → IsShown a.painter shown
was_shown a v shown k e was = let P : View → Type 0 = λ z. IsShown a.painter z in subst P (sym (part_is a v shown k e)) was

same_size : (a : Attached) (after : Kept) → after.w ≡ a.painter.w → after.h ≡ a.painter.h → size_in a.painter ≡ size_in after
same_size a after w t = λ i. record { w = sym w i; h = sym t i }

-- behind the frame the painter's last view is the part
pub now_shown : (a : Attached) (v shown : View) (after : Kept) → IsAttached a → shown ≡ part v a.shown.size → after.w ≡ a.painter.w → after.h ≡ a.painter.h
    → IsShown after shown → IsShown after (part v (size_in after))
now_shown a v shown after k e w t is = let P : View → Type 0 = λ z. IsShown after z in
    subst P (part_is a v shown k e ∙ ap (λ (z : Size). part v z) (same_size a after w t)) is

-- a row of the part without a mark is as the painter painted it last
pub unmarked_row : (a : Attached) (shown : View) (marks : List Bool) → IsAttached a
    → ((y : ℕ) → y < a.shown.size.h → get_or marks y false ≡ false → row_of a.shown.size.w shown.rows y ≡ row_of a.shown.size.w a.shown.rows y)
    → a.painter.known ≡ true → (y : ℕ) → y < a.painter.h → get_or marks y false ≡ false → row_of a.painter.w shown.rows y ≡ row_of a.painter.w a.painter.cells y
unmarked_row a shown marks k same known y below unmarked =
    let low : y < a.shown.size.h = omega (arith, below, k.high) in
    ap (λ (n : ℕ). row_of n shown.rows y) (sym k.wide) ∙ same y low unmarked ∙ ap (λ (n : ℕ). row_of n a.shown.rows y) k.wide ∙ ap (λ (xs : List Glyph). row_of a.painter.w xs y) (k.same known)

pub marks_count : (a : Attached) (marks : List Bool) → IsAttached a → length marks ≡ a.shown.size.h → length marks ≡ a.painter.h
marks_count a marks k count = count ∙ k.high

-- a terminal of which nothing is known
pub attached_anew : (p : Kept) (size : Size) (rows : List Glyph) (marks : List Bool) (c : Coord) → IsWindow size.w size.h → p ≡ unpainted size.w size.h → length rows ≡ size.h * size.w → length marks ≡ size.h
    → IsAttached (record { painter = p; shown = record { size = size; rows = rows; cursor = c; visible = false }; marks = marks; given = None })
attached_anew p size rows marks c window is long count =
    let wide : size.w ≡ p.w = ap (λ (q : Kept). q.w) (sym is) in
    let high : size.h ≡ p.h = ap (λ (q : Kept). q.h) (sym is) in
    let unknown : p.known ≡ false = ap (λ (q : Kept). q.known) is in
    let P : ℕ → Type 0 = λ x. IsWindow x size.h in let Q : ℕ → Type 0 = λ x. IsWindow p.w x in
    record {
      window = subst Q high (subst P wide window);
      wide = wide;
      high = high;
      cells = long ∙ (ap (λ (x : ℕ). x * size.w) high ∙ ap (λ (x : ℕ). p.h * x) wide);
      marks = count ∙ high;
      same = λ known. absurd (let no : false ≡ true = sym unknown ∙ known in cc);
      given' = tt;
    }
