-- A partial terminal stays true.
use Rattle.std.proofs.Common.{◌≡◌, inl, inr, ℕ, pos, ◌==◌, ◌++◌, ◌*◌, Bool, true, false, cond, not, ◌&&◌, ◌||◌, List, [], ◌∷◌, drop, arith, refl, sym, ap, ◌∙◌, subst}
use Rattle.std.specs.Prelude.{fold, flat_map, replicate, slice_index, min, max}
use Rattle.std.proofs.lemmas.List.{length-replicate}
use Rattle.con_units.specs.Glyph.{Glyph, blank_in}
use Rattle.con_units.specs.Split.{Split, split_after}
use Rattle.con_units.specs.Utf8.{utf8}
use Rattle.con_units.specs.declared.view.View.{View}
use Rattle.con_vtgram.specs.Text.{grammar}
use Rattle.con_vtgram.specs.declared.item.Item.{Item}
use Rattle.con_vtgram.specs.declared.item.Item.TheVariants as items
use Rattle.con_vtgram.specs.Pen.{attr_of}
use Rattle.con_term.specs.Page.{Page}
use Rattle.con_term.specs.Effect.{effect}
use Rattle.con_term.specs.Play.{units_of, play}
use Rattle.con_term.specs.Steps.{typed}
use Rattle.con_term.specs.SidesLaws.{effect-sides}
use Rattle.con_term.specs.Terminal.{Terminal, IsTerminal, Shows}
use Rattle.con_vtgram.specs.declared.pen.Pen.{Pen}
use Rattle.con_audit.specs.Known.{Known, ink, marked, no_marks, marks_after, rests_on_cursor, tells_cursor, tells_visible, tells_pen, learned, all_learned}
use Rattle.con_audit.specs.Playing.{items_of}
use Rattle.con_audit.specs.Partial.{Partial, unknown, played, IsKnown}
use Rattle.con_audit.specs.Agrees.{SameCells, HasPlace, PageAgrees, Agrees, StaysTrue}
use Rattle.con_audit.proofs.Cells.{same-drop, same-append, same-replicate, same-unknown, same-all}
use Rattle.con_audit.proofs.Near.{look, Inked, Alike, effect-alike}
use Rattle.con_audit.proofs.Tells.{one_of, visible_after, effect-visible, told_visible, pen_after_item, effect-pen, told_pen, SameCursor, told_cursor, free_cells, effect-free}
use Rattle.con_audit.proofs.Places.{effect-place}

-- ---- one item

same_look : (s t : Page) → t.w ≡ s.w → t.h ≡ s.h → t.x ≡ s.x → t.y ≡ s.y → t.pending ≡ s.pending → t ≡ look s t.cells t.pen t.visible
same_look s t a b c d e =
    let mk : ℕ → ℕ → ℕ → ℕ → Bool → Page = λ w h x y p. record { w = w; h = h; cells = t.cells; x = x; y = y; pen = t.pen; pending = p; visible = t.visible } in
    ap (λ w. mk w t.h t.x t.y t.pending) a ∙ ap (λ h. mk s.w h t.x t.y t.pending) b ∙ ap (λ x. mk s.w s.h x t.y t.pending) c ∙ ap (λ y. mk s.w s.h s.x y t.pending) d ∙ ap (λ p. mk s.w s.h s.x s.y p) e

inked : (b : Bool) (p q : Pen) → (b ≡ true → q ≡ p) → Inked (ink b) p q
inked true p q h e = h refl
inked false p q h e = absurd (let c : false ≡ true = e in cc)

-- where a list goes up, or stays
free_same : (i : Item) (w h : ℕ) (ms xs ys : List Glyph) (m a t : Pen) → SameCells ms xs ys → Inked m a t → SameCells (free_cells i w h m ms) (free_cells i w h a xs) (free_cells i w h t ys)
free_same (items.Csi c) w h ms xs ys m a t s i = by (c.inter == 0) c.private (c.last == 0x53)
  where
    n : ℕ
    n = min (max (slice_index c.params 0) 1) h * w

    up : (l : Bool) → SameCells (cond l (drop n ms ++ replicate n (blank_in (attr_of m))) ms) (cond l (drop n xs ++ replicate n (blank_in (attr_of a))) xs) (cond l (drop n ys ++ replicate n (blank_in (attr_of t))) ys)
    up true = same-append (same-drop n s) (same-replicate n _ _ _ (λ e. ap (λ p. blank_in (attr_of p)) (i e)))
    up false = s

    by : (p q l : Bool) → SameCells (cond p (cond q ms (cond l (drop n ms ++ replicate n (blank_in (attr_of m))) ms)) ms) (cond p (cond q xs (cond l (drop n xs ++ replicate n (blank_in (attr_of a))) xs)) xs) (cond p (cond q ys (cond l (drop n ys ++ replicate n (blank_in (attr_of t))) ys)) ys)
    by true true l = s
    by true false l = up l
    by false q l = s
free_same (items.Print u) w h ms xs ys m a t s i = s
free_same (items.Control u) w h ms xs ys m a t s i = s
free_same (items.Escape u) w h ms xs ys m a t s i = s
free_same (items.Charset u) w h ms xs ys m a t s i = s
free_same items.Title w h ms xs ys m a t s i = s

module _ (s t : Page) (k : Known) (i : Item) (h : PageAgrees s k t) where
  -- where the cursor is known, the three pages go on alike
  with_cursor : k.cursor ≡ true → Alike (effect (marked s k) i) (effect s i) (effect t i)
  with_cursor e =
      let l = same_look s t h.width h.height (h.column e) (h.row e) (h.pending e) in
      let Q : Page → Type 0 = λ x. Alike (effect (marked s k) i) (effect s i) (effect x i) in
      subst Q (sym l) (effect-alike s k.marks t.cells (ink k.pen) t.pen s.visible t.visible h.cells (inked k.pen s.pen t.pen h.pen) i)

  sides_s : ((effect s i).w ≡ s.w) × ((effect s i).h ≡ s.h)
  sides_s = effect-sides s i

  sides_t : ((effect t i).w ≡ t.w) × ((effect t i).h ≡ t.h)
  sides_t = effect-sides t i

  place_s : HasPlace (effect s i)
  place_s = effect-place s h.place i

  place_t : HasPlace (effect t i)
  place_t = effect-place t h.place' i

  -- where the cells do not rest on the cursor
  freely : rests_on_cursor i ≡ false → SameCells (effect (marked s k) i).cells (effect s i).cells (effect t i).cells
  freely e =
      let a = free_same i s.w s.h k.marks s.cells t.cells (ink k.pen) s.pen t.pen h.cells (inked k.pen s.pen t.pen h.pen) in
      let f = effect-free (marked s k) i e in let g = effect-free s i e in let j = effect-free t i e in
      rw (f, g, j, h.width, h.height) a

  cells_after : SameCells (marks_after s k i) (effect s i).cells (effect t i).cells
  cells_after = by k.cursor (rests_on_cursor i) refl refl
    where
      by : (c r : Bool) → k.cursor ≡ c → rests_on_cursor i ≡ r → SameCells (cond (not c && r) (no_marks s) (effect (marked s k) i).cells) (effect s i).cells (effect t i).cells
      by true r e f = (with_cursor e).cells
      by false false e f = freely f
      by false true e f = same-unknown (s.h * s.w) _ _ _ refl (place_s.cells ∙ rw (sides_s.0, sides_s.1) refl) (place_t.cells ∙ rw (sides_t.0, sides_t.1, h.width, h.height) refl)

  cursor_after : (k.cursor || tells_cursor i) ≡ true → SameCursor (effect s i) (effect t i)
  cursor_after e = elim (one_of k.cursor (tells_cursor i) e) [
    | inl c ↦ (let l = (with_cursor c).there in record { column = ap (λ (p : Page). p.x) l; row = ap (λ (p : Page). p.y) l; pending = ap (λ (p : Page). p.pending) l })
    | inr c ↦ told_cursor i s t h.width h.height c
  ]

  pen_after : (k.pen || tells_pen i) ≡ true → (effect t i).pen ≡ (effect s i).pen
  pen_after e = elim (one_of k.pen (tells_pen i) e) [
    | inl c ↦ effect-pen t i ∙ ap (pen_after_item i) (h.pen c) ∙ sym (effect-pen s i)
    | inr c ↦ effect-pen t i ∙ told_pen i t.pen s.pen c ∙ sym (effect-pen s i)
  ]

  visible_then : (k.visible || tells_visible i) ≡ true → (effect t i).visible ≡ (effect s i).visible
  visible_then e = elim (one_of k.visible (tells_visible i) e) [
    | inl c ↦ effect-visible t i ∙ ap (visible_after i) (h.visible c) ∙ sym (effect-visible s i)
    | inr c ↦ effect-visible t i ∙ told_visible i t.visible s.visible c ∙ sym (effect-visible s i)
  ]

  pub item_agrees : PageAgrees (effect s i) (learned s k i) (effect t i)
  unfolding learned
  item_agrees = record {
    width = sides_t.0 ∙ h.width ∙ sym sides_s.0;
    height = sides_t.1 ∙ h.height ∙ sym sides_s.1;
    place = place_s;
    place' = place_t;
    cells = cells_after;
    pen = pen_after;
    visible = visible_then;
    column = λ e. (cursor_after e).column;
    row = λ e. (cursor_after e).row;
    pending = λ e. (cursor_after e).pending;
  }

-- ---- items, and bytes

items_agree : (s t : Page) (k : Known) (is : List Item) → PageAgrees s k t → PageAgrees (fold effect s is) (all_learned s k is) (fold effect t is)
items_agree s t k [] h = h
items_agree s t k (i ∷ is) h = items_agree (effect s i) (effect t i) (learned s k i) is (item_agrees s t k i h)

bytes_agree : (p : Partial) (t : Terminal) (bytes : List ℕ) → Agrees p t → Agrees (played p bytes) (play t bytes)
unfolding played play typed
bytes_agree p t bytes h =
    let cs : split_after utf8 t.bytes bytes ≡ split_after utf8 p.terminal.bytes bytes = ap (λ b. split_after utf8 b bytes) h.bytes in
    let us : split_after grammar t.units (flat_map units_of (split_after utf8 t.bytes bytes).items) ≡ split_after grammar p.terminal.units (flat_map units_of (split_after utf8 p.terminal.bytes bytes).items)
    = ap (λ b. split_after grammar b (flat_map units_of (split_after utf8 t.bytes bytes).items)) h.units ∙ ap (λ (c : Split ℕ). split_after grammar p.terminal.units (flat_map units_of c.items)) cs in
    let is = items_of p.terminal bytes in
    let Q : List Item → Type 0 = λ js. PageAgrees (fold effect p.terminal.page is) (all_learned p.terminal.page p.known is) (fold effect t.page js) in
    record { page = subst Q (sym (ap (λ (c : Split Item). c.items) us)) (items_agree p.terminal.page t.page p.known is h.page); bytes = ap (λ (c : Split ℕ). c.tail) cs; units = ap (λ (c : Split Item). c.tail) us }

-- ---- the begin and the end

unknown_agrees : (w h : ℕ) (t : Terminal) → IsTerminal w h t → Agrees (unknown w h) t
unknown_agrees w h t is =
    let size : t.page.h * t.page.w ≡ h * w = rw (is.wide, is.high) refl in
    record {
      page = record {
        width = is.wide;
        height = is.high;
        place = record { cells = length-replicate (h * w) _; column = omega (arith, is.page.column, is.wide); row = omega (arith, is.page.row, is.high) };
        place' = record { cells = is.page.cells; column = is.page.column; row = is.page.row };
        cells = same-unknown (h * w) _ _ _ refl (length-replicate (h * w) _) (is.page.cells ∙ size);
        pen = λ e. absurd (let c : false ≡ true = e in cc);
        visible = λ e. absurd (let c : false ≡ true = e in cc);
        column = λ e. absurd (let c : false ≡ true = e in cc);
        row = λ e. absurd (let c : false ≡ true = e in cc);
        pending = λ e. absurd (let c : false ≡ true = e in cc);
      };
      bytes = is.no_bytes;
      units = is.no_units;
    }

known_shows : (p : Partial) (t : Terminal) (v : View) → Agrees p t → IsKnown p v → Shows t v
known_shows p t v h k = record {
  width = h.page.width ∙ k.shows.width;
  height = h.page.height ∙ k.shows.height;
  cells = same-all h.page.cells k.cells ∙ k.shows.cells;
  visible = h.page.visible k.visible ∙ k.shows.visible;
  column = λ e. ap (λ n. pos n) (h.page.column (k.cursor e)) ∙ k.shows.column e;
  row = λ e. ap (λ n. pos n) (h.page.row (k.cursor e)) ∙ k.shows.row e;
  no_bytes = h.bytes ∙ k.shows.no_bytes;
  no_units = h.units ∙ k.shows.no_units;
}

pub stays_true : StaysTrue
stays_true = record { begins = unknown_agrees; goes_on = bytes_agree; shows = known_shows }
