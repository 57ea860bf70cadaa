-- The part of a row that is written.
use Rattle.std.proofs.Common.{◌≡◌, ℕ, ◌+◌, ◌-◌, ◌*◌, ◌<◌, ◌≤◌, Bool, true, false, List, [], ◌∷◌, ◌++◌, length, take, drop, replicate, get_or, refl, sym, ap, ◌∙◌, append_assoc, arith, length-append, length-drop, add-one}
use Rattle.std.proofs.lemmas.List.{take_at, drop_at, drop-drop, length-take-le, take-append-drop, take-append-le, drop-append-le, drop_all, take_more, drop_more, drop-replicate, length-replicate}
use Rattle.std.proofs.lemmas.Nat.{mul-le}
use Rattle.std.proofs.Math.Seq.{take-add}
use Rattle.con_units.specs.Attr.{Attribute, plain}
use Rattle.con_units.specs.Glyph.{Glyph, blank_cell}
use Rattle.con_units.specs.View.{row_of}
use Rattle.con_vtgram.specs.Pen.{IsPen}
use Rattle.con_term.specs.Page.{Page, erased, filled, place}
use Rattle.con_term.specs.Effect.{row_end, unpended}
use Rattle.con_strokes.specs.Leads.{Leads}
use Rattle.con_strokes.specs.Ink.{pen_for}
use Rattle.con_strokes.specs.Paint.{pasted}
use Rattle.con_paint.specs.Columns.{Columns}
use Rattle.con_strokes.specs.Compared.{same_cell}
use Rattle.con_paint.specs.Frame.{Stands, Painted}
use Rattle.con_paint.specs.Span.{IsSpan, piece, behind, patched, end_erased, RowEnd}
use Rattle.con_paint.specs.declared.span.Span.{Span}
use Rattle.con_strokes.specs.Spot.{IsAt}
use Rattle.con_strokes.specs.declared.spot.State.{State}
use Rattle.con_strokes.proofs.LeadLemmas.{leads_then, leads-none}
use Rattle.con_strokes.proofs.SameLemmas.{one_same}

-- ---- cells that are the same

pub take_same_more : (row was : List Glyph) (i : ℕ) (a b : Glyph) (t : Bool) → i < length row → length row ≡ length was → a ≡ get_or row i a → b ≡ get_or was i b → take i row ≡ take i was → t ≡ same_cell a b → t ≡ true → take (i + 1) row ≡ take (i + 1) was
take_same_more row was i a b t lt e ea eb h k one =
    let inside : i < length was = omega arith in
    let ma : take (i + 1) row ≡ take i row ++ a ∷ [] = take_more row i a lt ∙ ap (λ z. take i row ++ z ∷ []) (sym ea) in
    let mb : take (i + 1) was ≡ take i was ++ b ∷ [] = take_more was i b inside ∙ ap (λ z. take i was ++ z ∷ []) (sym eb) in
    rw (ma, mb, h, one_same a b (sym k ∙ one)) refl

pub drop_same_more : (row was : List Glyph) (k i : ℕ) (a b : Glyph) (t : Bool) → i ≡ length row - 1 - k → k < length row → length row ≡ length was → a ≡ get_or row i a → b ≡ get_or was i b → drop (length row - k) row ≡ drop (length row - k) was → t ≡ same_cell a b → t ≡ true
    → drop (length row - (k + 1)) row ≡ drop (length row - (k + 1)) was
drop_same_more row was k i a b t at lt e ea eb h s one =
    let n : length row - (k + 1) ≡ i = omega arith in
    let m : length row - k ≡ i + 1 = omega arith in
    let in1 : i < length row = omega arith in let in2 : i < length was = omega arith in
    let ma : drop i row ≡ a ∷ drop (i + 1) row = drop_more row i a in1 ∙ ap (λ z. z ∷ drop (i + 1) row) (sym ea) in
    let mb : drop i was ≡ b ∷ drop (i + 1) was = drop_more was i b in2 ∙ ap (λ z. z ∷ drop (i + 1) was) (sym eb) in
    rw (n, ma, mb, one_same a b (sym s ∙ one)) (ap (λ zs. b ∷ zs) (rw m at h))

pub blank_more : (row : List Glyph) (k i : ℕ) (a : Glyph) (t : Bool) → i ≡ length row - 1 - k → k < length row → a ≡ get_or row i a → drop (length row - k) row ≡ replicate k blank_cell → t ≡ same_cell a blank_cell → t ≡ true → drop (length row - (k + 1)) row ≡ replicate (k + 1) blank_cell
blank_more row k i a t at lt ea h s one =
    let n : length row - (k + 1) ≡ i = omega arith in
    let m : length row - k ≡ i + 1 = omega arith in
    let in1 : i < length row = omega arith in
    let ma : drop i row ≡ a ∷ drop (i + 1) row = drop_more row i a in1 ∙ ap (λ z. z ∷ drop (i + 1) row) (sym ea) in
    let longer : replicate (k + 1) blank_cell ≡ blank_cell ∷ replicate k blank_cell = rw add-one refl in
    rw (n, ma, one_same a blank_cell (sym s ∙ one), longer) (ap (λ zs. blank_cell ∷ zs) (rw m at h))

pub drop_none : (row : List Glyph) → drop (length row - 0) row ≡ []
drop_none row = let e : length row - 0 ≡ length row = omega arith in rw e (drop_all (length row) row (omega arith))

pub both_none : (row was : List Glyph) → length row ≡ length was → drop (length row - 0) row ≡ drop (length row - 0) was
both_none row was e = drop_none row ∙ sym (rw e (drop_none was))

-- a column behind such a one is one as well
pub later_same : (row was : List Glyph) (a b : ℕ) → a ≤ b → drop a row ≡ drop a was → drop b row ≡ drop b was
later_same row was a b le e =
    let k : a + (b - a) ≡ b = omega arith in
    ap (λ z. drop z row) (sym k) ∙ sym (drop-drop (b - a) a row) ∙ ap (drop (b - a)) e ∙ drop-drop (b - a) a was ∙ ap (λ z. drop z was) k

pub later_blank : (row : List Glyph) (a b : ℕ) → a ≤ b → drop a row ≡ replicate (length row - a) blank_cell → drop b row ≡ replicate (length row - b) blank_cell
later_blank row a b le e =
    let k : a + (b - a) ≡ b = omega arith in
    let n : length row - a - (b - a) ≡ length row - b = omega arith in
    ap (λ z. drop z row) (sym k) ∙ sym (drop-drop (b - a) a row) ∙ ap (drop (b - a)) e ∙ drop-replicate (b - a) (length row - a) blank_cell ∙ ap (λ z. replicate z blank_cell) n

-- ---- pasted cells

pub length-pasted : (c : List Glyph) (at : ℕ) (new : List Glyph) → at + length new ≤ length c → length (pasted c at new) ≡ length c
unfolding pasted
length-pasted c at new h = omega (arith, length-append (take at c ++ new) (drop (at + length new) c), length-append (take at c) new, length-take-le at c (omega arith), length-drop (at + length new) c)

pasted_same : (c : List Glyph) (at w : ℕ) → at + w ≤ length c → pasted c at (take w (drop at c)) ≡ c
unfolding pasted
pasted_same c at w h =
    let n : length (take w (drop at c)) ≡ w = length-take-le w (drop at c) (omega (arith, length-drop at c)) in
    let e : take at c ++ take w (drop at c) ≡ take (at + w) c = sym (take-add at w c) in
    rw (n, e) (take-append-drop (at + w) c)

pub pasted_twice : (c : List Glyph) (at : ℕ) (p : List Glyph) (u : ℕ) (r : List Glyph) → at + length p ≤ length c → u + length r ≤ length p → pasted (pasted c at p) (at + u) r ≡ pasted c at (pasted p u r)
unfolding pasted
pasted_twice c at p u r fits inside =
    let t : List Glyph = take at c in let d : List Glyph = drop (at + length p) c in
    let tl : length t ≡ at = length-take-le at c (omega arith) in
    let assoc : (t ++ p) ++ d ≡ t ++ (p ++ d) = append_assoc t p d in
    let front : take (at + u) ((t ++ p) ++ d) ≡ t ++ take u p =
    rw (assoc, take-add at u (t ++ (p ++ d)), take_at t (p ++ d) at tl, drop_at t (p ++ d) at tl, take-append-le u p d (omega arith)) refl in
    let back : drop (at + u + length r) ((t ++ p) ++ d) ≡ drop (u + length r) p ++ d =
    let sum : at + u + length r ≡ at + (u + length r) = omega arith in
    rw (sum, assoc, ← drop-drop (u + length r) at (t ++ (p ++ d)), drop_at t (p ++ d) at tl, drop-append-le (u + length r) p d (omega arith)) refl in
    let long : length ((take u p ++ r) ++ drop (u + length r) p) ≡ length p = length-pasted p u r inside in
    rw (front, back, long) (simp append_assoc)

-- columns that are written in a row of a page
pub pasted_within : (c : List Glyph) (at w from : ℕ) (sub : List Glyph) → at + w ≤ length c → from + length sub ≤ w → pasted c (at + from) sub ≡ pasted c at (pasted (take w (drop at c)) from sub)
pasted_within c at w from sub h k =
    let n : length (take w (drop at c)) ≡ w = length-take-le w (drop at c) (omega (arith, length-drop at c)) in
    ap (λ z. pasted z (at + from) sub) (sym (pasted_same c at w h)) ∙ pasted_twice c at (take w (drop at c)) from sub (omega arith) (omega arith)

pub filled_is : (c : List Glyph) (a b : ℕ) (x : Glyph) → a ≤ b → filled c a b x ≡ pasted c a (replicate (b - a) x)
unfolding filled pasted
filled_is c a b x h = let e : a + (b - a) ≡ b = omega arith in rw (length-replicate (b - a) x, e) refl

-- ---- a row after its columns are written

written : (now row : List Glyph) (from upto : ℕ) → length now ≡ length row → from ≤ upto → upto ≤ length row → take from row ≡ take from now → pasted now from (piece row from upto) ≡ take upto row ++ drop upto now
unfolding pasted
written now row from upto e order ends same =
    let n : length (piece row from upto) ≡ upto - from = length-take-le (upto - from) (drop from row) (omega (arith, length-drop from row)) in
    let k : from + (upto - from) ≡ upto = omega arith in
    let front : take from row ++ take (upto - from) (drop from row) ≡ take upto row = sym (take-add from (upto - from) row) ∙ ap (λ z. take z row) k in
    rw (n, k, ← same, front) refl

pasted_first : (now p : List Glyph) (n : ℕ) → length p ≡ n → pasted now 0 p ≡ p ++ drop n now
unfolding pasted
pasted_first now p n e = let k : 0 + n ≡ n = omega arith in rw (e, k) refl

pub span_kept : (now row : List Glyph) (from upto : ℕ) → length now ≡ length row → from ≤ upto → upto ≤ length row → take from row ≡ take from now → drop upto row ≡ drop upto now → patched now row (record { from = from; upto = upto; erase = false }) ≡ row
span_kept now row from upto e order ends front back = written now row from upto e order ends front ∙ rw (← back) (take-append-drop upto row)

pub span_erased : (now row : List Glyph) (from upto : ℕ) → length now ≡ length row → from ≤ upto → upto ≤ length row → take from row ≡ take from now → drop upto row ≡ replicate (length row - upto) blank_cell → patched now row (record { from = from; upto = upto; erase = true }) ≡ row
unfolding pasted
span_erased now row from upto e order ends front back =
    let x : List Glyph = take upto row ++ drop upto now in
    let is : pasted now from (piece row from upto) ≡ x = written now row from upto e order ends front in
    let tl : length (take upto row) ≡ upto = length-take-le upto row ends in
    let xl : length x ≡ length row = omega (arith, length-append (take upto row) (drop upto now), length-drop upto now) in
    let rl : length (replicate (length row - upto) blank_cell) ≡ length row - upto = length-replicate (length row - upto) blank_cell in
    let sum : upto + (length row - upto) ≡ length row = omega arith in
    let gone : drop (length row) x ≡ [] = drop_all (length row) x (omega arith) in
    let first : take upto x ≡ take upto row = take_at (take upto row) (drop upto now) upto tl in
    ap (λ z. behind true z upto) is ∙ rw (xl, rl, sum, gone, first, ← back) (append_none (take upto row ++ drop upto row) ∙ take-append-drop upto row)
  where
    append_none : (xs : List Glyph) → xs ++ [] ≡ xs
    append_none [] = refl
    append_none (x ∷ xs) = ap (λ zs. x ∷ zs) (append_none xs)

-- ---- the bytes of a row

pub small_pen : IsPen (pen_for (plain 7))
small_pen = record { foreground = omega arith; background = omega arith; fore = tt; back = tt }

-- the page behind the end of a row
record Ended (w y : ℕ) (old_cells row : List Glyph) (upto : ℕ) (after : State) (c d : List ℕ) (r : Page) : Type 0 where
  pub to : Page
  pub count : ℕ
  pub leads : Leads c d r to count
  pub few : count + upto ≤ w
  pub cells : to.cells ≡ pasted old_cells (y * w) row
  pub stands : Stands r.w r.h after.attr to
  pub place : IsAt after.spot to
  pub visible : to.visible ≡ r.visible

ends : (erase : Bool) (w h y upto : ℕ) (state after : State) (cells p row : List Glyph) (c d : List ℕ) (r : Page) → Stands w h state.attr r → IsAt state.spot r → y < h → upto ≤ w → (erase ≡ true → upto < w) → length cells ≡ h * w → length p ≡ w
    → r.cells ≡ pasted cells (y * w) p → behind erase p upto ≡ row → RowEnd erase upto y state after c d → Ended w y cells row upto after c d r
ends false w h y upto state after cells p row c d r st at lt le er cl pl is same step = record {
  to = r;
  count = 0;
  leads = rw step.0 (leads-none c r);
  few = omega arith;
  cells = is ∙ ap (pasted cells (y * w)) same;
  stands = rw step.1 (record { page = st.page; wide = refl; high = refl; pen = st.pen });
  place = rw step.1 at;
  visible = refl;
}
ends true w h y upto state after cells p row c d r st at lt le er cl pl is same step =
    let below : y * w + w ≤ h * w = omega (arith, mul-le (y + 1) w h w (omega arith) (omega arith)) in
    let inside : upto < w = er refl in
    let size : y * w + w - (y * w + upto) ≡ length p - upto = omega arith in
    let rl : length (replicate (length p - upto) blank_cell) ≡ length p - upto = length-replicate (length p - upto) blank_cell in
    let filled_cells : filled r.cells (y * r.w + upto) (y * r.w + r.w) blank_cell ≡ pasted cells (y * w) row =
    rw (st.wide, filled_is r.cells (y * w + upto) (y * w + w) blank_cell (omega arith), size, is) (pasted_twice cells (y * w) p upto (replicate (length p - upto) blank_cell) (omega arith) (omega arith) ∙ ap (pasted cells (y * w)) same) in
    let row_length : length row ≡ w = ap length (sym same) ∙ length-pasted p upto (replicate (length p - upto) blank_cell) (omega arith) ∙ pl in
    let long : length (filled r.cells (y * r.w + upto) (y * r.w + r.w) blank_cell) ≡ h * w = ap length filled_cells ∙ length-pasted cells (y * w) row (omega arith) ∙ cl in
    let xs : upto < r.w = omega (arith, inside, st.wide) in
    let ys : y < r.h = omega (arith, lt, st.high) in
    record {
      to = end_erased r upto y;
      count = r.w - upto;
      leads = step.0 r st.pen at (xs, ys);
      few = omega (arith, st.wide, inside);
      cells = filled_cells;
      stands = rw step.1 (record {
        page = record { width = st.page.width; height = st.page.height; cells = long ∙ rw (st.wide, st.high) refl; column = xs; row = ys; pen = small_pen };
        wide = refl;
        high = refl;
        pen = refl;
      });
      place = rw step.1 (record { at = λ _. (refl, refl, refl) });
      visible = refl;
    }

pub lined : (w h y : ℕ) (before state after : State) (row : List Glyph) (span : Span) (a c d : List ℕ) (s : Page) → w ≡ length row → Stands w h before.attr s → y < h → IsSpan row span → take span.from row ≡ take span.from (row_of w s.cells y) → patched (row_of w s.cells y) row span ≡ row
    → Columns w h (y * w) (take span.upto row) span.upto state a c s → RowEnd span.erase span.upto y state after c d → Painted w h y after row a d s
lined w h y before state after row span a c d s ew st lt is front whole cols end =
    record {
      to = e.to;
      count = cols.count + e.count;
      leads = leads_then a c d s cols.to e.to cols.count e.count (cols.count + e.count) cols.leads e.leads refl;
      few = omega (arith, e.few, cols.few);
      cells = e.cells;
      stands = record { page = e.stands.page; wide = e.stands.wide ∙ cols.stands.wide; high = e.stands.high ∙ cols.stands.high; pen = e.stands.pen };
      place = e.place;
      visible = e.visible ∙ cols.visible;
    }
  where
    now : List Glyph
    now = row_of w s.cells y

    upto_in : span.upto ≤ w
    upto_in = omega (arith, is.ends, ew)

    long : length s.cells ≡ h * w
    long = st.page.cells ∙ rw (st.wide, st.high) refl

    below : y * w + w ≤ h * w
    below = omega (arith, mul-le (y + 1) w h w (omega arith) (omega arith))

    now_length : length now ≡ w
    now_length = length-take-le w (drop (y * w) s.cells) (omega (arith, length-drop (y * w) s.cells, long, below))

    sub_length : length (take span.upto row) ≡ span.upto
    sub_length = length-take-le span.upto row is.ends

    patch : List Glyph
    patch = take span.upto row ++ drop span.upto now

    patch_length : length patch ≡ w
    patch_length = omega (arith, length-append (take span.upto row) (drop span.upto now), length-drop span.upto now, now_length, sub_length, upto_in)

    patch_is : pasted now 0 (take span.upto row) ≡ patch
    patch_is = pasted_first now (take span.upto row) span.upto sub_length

    cells_are : cols.to.cells ≡ pasted s.cells (y * w) patch
    cells_are = cols.cells ∙ ap (λ z. pasted s.cells z (take span.upto row)) (omega arith) ∙ pasted_within s.cells (y * w) w 0 (take span.upto row) (omega (arith, long, below)) (omega (arith, sub_length, upto_in)) ∙ ap (pasted s.cells (y * w)) patch_is

    same : behind span.erase patch span.upto ≡ row
    same = ap (λ z. behind span.erase z span.upto) (sym (written now row span.from span.upto (now_length ∙ ew) is.order is.ends front)) ∙ whole

    erased_in : span.erase ≡ true → span.upto < w
    erased_in t = omega (arith, is.erased t, ew)

    e : Ended w y s.cells row span.upto after c d cols.to
    e = ends span.erase w h y span.upto state after s.cells patch row c d cols.to cols.stands cols.place lt upto_in erased_in long patch_length cells_are same end

pub row_ended : (erase : Bool) (x y : ℕ) (before : State) (ink : Attribute) (a b c d : List ℕ) → erase ≡ true → ink ≡ plain 7 → ((s : Page) → (x < s.w) × (y < s.h) → IsAt before.spot s → Leads a b s (record s { x = x; y = y; pending = false }) 0)
    → ((s : Page) → s.pen ≡ pen_for before.attr → Leads b c s (record s { pen = pen_for (plain 7) }) 0) → ((s : Page) → Leads c d s (unpended (erased s (place s) (row_end s))) (s.w - s.x)) → RowEnd erase x y before (record { attr = ink; spot = record { known = true; x = x; y = y } }) a d
row_ended true x y before ink a b c d e seven go pen end = (
  λ s h at inside.
      let g : Page = record s { x = x; y = y; pending = false } in
      let g2 : Page = record g { pen = pen_for (plain 7) } in
      leads_then a c d s g2 (end_erased s x y) 0 (s.w - x) (s.w - x) (leads_then a b c s g g2 0 0 0 (go s inside at) (pen g h) (omega arith)) (end g2) (omega arith),
  rw seven refl,
)
row_ended false x y before ink a b c d e seven go pen end = cc

-- ---- columns that are the same

pub front_same : (known : Bool) (from : ℕ) (row was now : List Glyph) → (known ≡ true → take from row ≡ take from was) → (known ≡ false → from ≡ 0) → (known ≡ true → now ≡ was) → take from row ≡ take from now
front_same true from row was now h k e = h refl ∙ ap (take from) (sym (e refl))
front_same false from row was now h k e = rw (k refl) refl

pub back_same : (known : Bool) (upto : ℕ) (row was now : List Glyph) → length now ≡ length row → (known ≡ true → drop upto row ≡ drop upto was) → (known ≡ false → upto ≡ length row) → (known ≡ true → now ≡ was) → drop upto row ≡ drop upto now
back_same true upto row was now n h k e = h refl ∙ ap (drop upto) (sym (e refl))
back_same false upto row was now n h k e = let end : upto ≡ length row = k refl in drop_all upto row (omega arith) ∙ sym (drop_all upto now (omega arith))
