-- Rows, one after another.
use Rattle.std.proofs.Common.{◌≡◌, ℕ, ◌+◌, ◌-◌, ◌*◌, ◌<◌, ◌≤◌, Bool, true, false, cond, nat_lt, ◌&&◌, ◌||◌, not, ◌⊎◌, inl, inr, List, [], ◌∷◌, ◌++◌, length, take, drop, replicate, get_or, refl, sym, ap, ◌∙◌, append_assoc, arith, length-append, length-drop, add-one, zero, suc}
use Rattle.std.proofs.lemmas.Nat.{mul-le}
use Rattle.std.proofs.lemmas.List.{take_at, drop_at, drop-drop, length-take-le, take-append-drop, take_all, drop_all, take_more, length-replicate, replicate-append-replicate, replicate_more, same_lists, places}
use Rattle.std.proofs.Math.Seq.{take-add}
use borrow.Rule.Slice.PartMut.{put_mid}
use Rattle.std.proofs.lemmas.Bool.Decides.{nat_tests}
use Rattle.con_units.specs.Attr.{Attribute, plain}
use Rattle.con_units.specs.Glyph.{Glyph, blank_cell}
use Rattle.con_units.specs.View.{row_of}
use Rattle.con_term.specs.Page.{Page, erased, filled, place}
use Rattle.con_term.specs.Effect.{unpended}
use Rattle.con_vtgram.specs.Pen.{IsPen}
use Rattle.con_strokes.specs.Leads.{Leads}
use Rattle.con_strokes.specs.Ink.{pen_for}
use Rattle.con_strokes.specs.Paint.{pasted}
use Rattle.con_strokes.specs.Compared.{same_cell, same_cells, differing}
use Rattle.con_paint.specs.Frame.{rows_to_paint, mixed, Stands, Painted, Rows, RowStep}
use Rattle.con_paint.specs.Rest.{RestStep, cleared_from}
use Rattle.con_strokes.specs.Spot.{IsAt}
use Rattle.con_strokes.specs.declared.spot.State.{State}
use Rattle.con_strokes.proofs.LeadLemmas.{leads_then, leads-none}
use Rattle.con_strokes.proofs.SameLemmas.{are_same, same_by, one_same}
use Rattle.con_paint.proofs.SpanLemmas.{filled_is}

pub small_pen : IsPen (pen_for (plain 7))
small_pen = record { foreground = omega arith; background = omega arith; fore = tt; back = tt }

-- ---- the first rows are those of a view

pub mixed_row : (v c : List Glyph) (n w : ℕ) → n + w ≤ length v → length c ≡ length v → pasted (mixed v c n) n (take w (drop n v)) ≡ mixed v c (n + w)
unfolding pasted
mixed_row v c n w fits same =
    let front : length (take n v) ≡ n = length-take-le n v (omega arith) in
    let row : length (take w (drop n v)) ≡ w = length-take-le w (drop n v) (omega (arith, length-drop n v)) in
    let behind : drop (n + w) (take n v ++ drop n c) ≡ drop (n + w) c = sym (drop-drop w n (take n v ++ drop n c)) ∙ ap (drop w) (drop_at (take n v) (drop n c) n front) ∙ drop-drop w n c in
    rw (row, behind, take_at (take n v) (drop n c) n front, take-add n w v) refl

pub mixed_same : (v c : List Glyph) (n w : ℕ) → take w (drop n v) ≡ take w (drop n c) → mixed v c n ≡ mixed v c (n + w)
mixed_same v c n w e = rw (take-add n w v, e, ← drop-drop w n c) (ap (λ xs. take n v ++ xs) (sym (take-append-drop w (drop n c))) ∙ sym (append_assoc (take n v) (take w (drop n c)) (drop w (drop n c))))

pub length-mixed : (v c : List Glyph) (n : ℕ) → n ≤ length v → length c ≡ length v → length (mixed v c n) ≡ length v
length-mixed v c n h e = omega (arith, length-append (take n v) (drop n c), length-take-le n v h, length-drop n c)

pub mixed_none : (v c : List Glyph) → mixed v c 0 ≡ c
mixed_none v c = refl

pub mixed_all : (v c : List Glyph) (n : ℕ) → length v ≡ n → length c ≡ n → mixed v c n ≡ v
mixed_all v c n h k = rw (take_all n v (omega arith), drop_all n c (omega arith)) (append_none v)
  where
    append_none : (xs : List Glyph) → xs ++ [] ≡ xs
    append_none [] = refl
    append_none (x ∷ xs) = ap (λ zs. x ∷ zs) (append_none xs)

mixed_behind : (v c : List Glyph) (n : ℕ) → n ≤ length v → drop n (mixed v c n) ≡ drop n c
mixed_behind v c n h = drop_at (take n v) (drop n c) n (length-take-le n v h)

-- ---- how many rows differ

pub differing_none : (w y : ℕ) (a b : List Glyph) → ((i : ℕ) → i < y → row_of w a i ≡ row_of w b i) → differing w y a b ≡ 0
unfolding differing
differing_none w zero a b h = refl
differing_none w (suc y) a b h = rw (same_by _ _ (h y (omega arith)), differing_none w y a b (λ i lt. h i (omega arith))) (omega arith)

pub differing-self : (w y : ℕ) (v shadow : List Glyph) → v ≡ shadow → differing w y v shadow ≡ 0
differing-self w y v shadow e = differing_none w y v shadow (λ i lt. ap (λ xs. row_of w xs i) e)

pub one_row_more : (known : Bool) (w y : ℕ) (v shadow : List Glyph) → (known ≡ true → same_cells (row_of w v y) (row_of w shadow y) ≡ false) → rows_to_paint known w (y + 1) v shadow ≡ rows_to_paint known w y v shadow + 1
unfolding differing
one_row_more true w y v shadow h = rw (add-one, h refl) refl
one_row_more false w y v shadow h = refl

pub no_more : (known : Bool) (w y : ℕ) (v shadow : List Glyph) → known ≡ true → same_cells (row_of w v y) (row_of w shadow y) ≡ true → rows_to_paint known w (y + 1) v shadow ≡ rows_to_paint known w y v shadow
unfolding differing
no_more true w y v shadow k h = rw (add-one, h) (omega arith)
no_more false w y v shadow k h = cc

pub none_to_paint : (known : Bool) (w : ℕ) (v shadow : List Glyph) → 0 ≡ rows_to_paint known w 0 v shadow
unfolding differing
none_to_paint true w v shadow = refl
none_to_paint false w v shadow = refl

-- ---- one more row

pub next_row : (y w : ℕ) → (y + 1) * w ≡ y * w + w
next_row y w = omega arith

pub rows_none : (w h : ℕ) (v shadow : List Glyph) (known : Bool) (before : State) (old : List ℕ) → Rows w h v shadow known before old old 0 before
rows_none w h v shadow known before old = record {
  reach = λ s stands at e. record { to = s; count = 0; leads = leads-none old s; few = omega arith; stands = stands; place = at; cells = ap (mixed v s.cells) zeros; visible = refl };
  quiet = λ k e. (refl, refl);
}
  where
    zeros : 0 ≡ 0 * w
    zeros = omega arith

rows_painted : (w h y : ℕ) (before state after : State) (v shadow row was : List Glyph) (known : Bool) (old mid new : List ℕ) → Rows w h v shadow known before old mid y state → y < h → length v ≡ h * w → row ≡ row_of w v y → was ≡ row_of w shadow y
    → (known ≡ true → same_cells row was ≡ false)
    → ((s : Page) → Stands w h state.attr s → IsAt state.spot s → y < h → (known ≡ true → row_of w s.cells y ≡ was) → Painted w h y after row mid new s)
    → Rows w h v shadow known before old new (y + 1) after
rows_painted w h y before state after v shadow row was known old mid new rows lt long row_is was_is differs line = record {
  reach = λ s stands at e.
      let r = rows.reach s stands at e in
      let c_length : length s.cells ≡ h * w = stands.page.cells ∙ rw (stands.wide, stands.high) refl in
      let below : y * w + w ≤ h * w = omega (arith, mul-le (y + 1) w h w (omega arith) (omega arith)) in
      let now : row_of w r.to.cells y ≡ row_of w s.cells y = ap (λ xs. row_of w xs y) r.cells ∙ ap (take w) (mixed_behind v s.cells (y * w) (omega arith)) in
      let p : Painted w h y after row mid new r.to = line r.to r.stands r.place lt (λ k. now ∙ ap (λ xs. row_of w xs y) (e k) ∙ sym was_is) in
      let more = one_row_more known w y v shadow (λ k. ap (λ z. same_cells z (row_of w shadow y)) (sym row_is) ∙ ap (same_cells row) (sym was_is) ∙ differs k) in
      record {
        to = p.to;
        count = r.count + p.count;
        leads = leads_then old mid new s r.to p.to r.count p.count (r.count + p.count) r.leads p.leads refl;
        few = let f = r.few in let g = p.few in rw more (omega arith);
        stands = p.stands;
        place = p.place;
        cells = p.cells ∙ rw (r.cells, row_is, next_row y w) (mixed_row v s.cells (y * w) w (omega arith) (c_length ∙ sym long));
        visible = p.visible ∙ r.visible;
      };
  quiet = λ k e. let same : same_cells row was ≡ true = same_by row was (row_is ∙ ap (λ xs. row_of w xs y) e ∙ sym was_is) in let f : true ≡ false = sym same ∙ differs k in cc;
}

rows_kept : (w h y : ℕ) (before state : State) (v shadow : List Glyph) (known : Bool) (old new : List ℕ) → Rows w h v shadow known before old new y state → known ≡ true → row_of w v y ≡ row_of w shadow y
    → Rows w h v shadow known before old new (y + 1) state
rows_kept w h y before state v shadow known old new rows k row_is = record {
  reach = λ s stands at e.
      let r = rows.reach s stands at e in
      record {
        to = r.to;
        count = r.count;
        leads = r.leads;
        few = rw (no_more known w y v shadow k (same_by _ _ row_is)) r.few;
        stands = r.stands;
        place = r.place;
        cells = r.cells ∙ rw (next_row y w) (mixed_same v s.cells (y * w) w (rw (e k) row_is));
        visible = r.visible;
      };
  quiet = rows.quiet;
}

pub slice_is : (y w : ℕ) (cells : List Glyph) → take (y * w + w - y * w) (drop (y * w) cells) ≡ row_of w cells y
slice_is y w cells = let e : y * w + w - y * w ≡ w = omega arith in rw e refl

pub must_differ : (known marked same : Bool) → true ≡ (not known || (marked && not same)) → known ≡ true → same ≡ false
must_differ true true true e k = cc
must_differ true true false e k = refl
must_differ true false same e k = cc
must_differ false marked same e k = cc

pub must_equal : (known marked same : Bool) → false ≡ (not known || (marked && not same)) → (known ≡ true) × ((marked ≡ false) ⊎ (same ≡ true))
must_equal true true true e = (refl, inr refl)
must_equal true true false e = cc
must_equal true false same e = (refl, inl refl)
must_equal false marked same e = cc

pub rows_turn : (w h y : ℕ) (before state after : State) (v shadow row was : List Glyph) (known marked paint : Bool) (old mid new : List ℕ) → Rows w h v shadow known before old mid y state → y < h → length v ≡ h * w
    → row ≡ take (y * w + w - y * w) (drop (y * w) v) → was ≡ take (y * w + w - y * w) (drop (y * w) shadow) → paint ≡ (not known || (marked && not (same_cells row was)))
    → (known ≡ true → marked ≡ false → row_of w v y ≡ row_of w shadow y) → RowStep paint known y row was state mid new after → Rows w h v shadow known before old new (y + 1) after
rows_turn w h y before state after v shadow row was known marked true old mid new rows lt long row_is was_is e equal step =
    let below : y * w + w ≤ h * w = omega (arith, mul-le (y + 1) w h w (omega arith) (omega arith)) in
    let row_length : length row ≡ w = ap length (row_is ∙ slice_is y w v) ∙ length-take-le w (drop (y * w) v) (omega (arith, length-drop (y * w) v)) in
    rows_painted w h y before state after v shadow row was known old mid new rows lt long (row_is ∙ slice_is y w v) (was_is ∙ slice_is y w shadow) (must_differ known marked (same_cells row was) e) (rw row_length at (step h))
rows_turn w h y before state after v shadow row was known marked false old mid new rows lt long row_is was_is e equal step =
    let m = must_equal known marked (same_cells row was) e in
    let same : row_of w v y ≡ row_of w shadow y = elim m.1 [ inl f ↦ equal m.0 f | inr t ↦ sym (row_is ∙ slice_is y w v) ∙ are_same row was t ∙ was_is ∙ slice_is y w shadow ] in
    rw (step.0, step.1) (rows_kept w h y before state v shadow known old mid rows m.0 same)

pub slice_length : (y w h : ℕ) (cells : List Glyph) → y < h → length cells ≡ h * w → length (take (y * w + w - y * w) (drop (y * w) cells)) ≡ w
slice_length y w h cells lt long =
    let below : y * w + w ≤ h * w = omega (arith, mul-le (y + 1) w h w (omega arith) (omega arith)) in
    ap length (slice_is y w cells) ∙ length-take-le w (drop (y * w) cells) (omega (arith, length-drop (y * w) cells))

pub row_used : (out used used' y w k : ℕ) → used' ≤ used + 11 + 57 * k → used ≤ out + y * (11 + 57 * w) → k ≤ w → used' ≤ out + (y + 1) * (11 + 57 * w)
row_used out used used' y w k a b c = omega arith

pub room_left : (out cap used y h w k : ℕ) → used ≤ out + y * (11 + 57 * w) → y < h → out + h * (11 + 57 * w) ≤ cap → k ≤ w → used + 11 + 57 * k ≤ cap
room_left out cap used y h w k a lt b c = omega (arith, mul-le (y + 1) (11 + 57 * w) h (11 + 57 * w) (omega arith) (omega arith))

-- a row that cannot differ stands there already
pub cannot_differ : (lifted marked result : Bool) (y first : ℕ) → (lifted ≡ true → result ≡ false → y < first) → (lifted ≡ false → result ≡ marked) → result ≡ false → ((lifted ≡ true) × (y < first)) ⊎ ((lifted ≡ false) × (marked ≡ false))
cannot_differ true marked result y first behind is f = inl (refl, behind refl f)
cannot_differ false marked result y first behind is f = inr (refl, sym (is refl) ∙ f)

-- ---- the view is kept, row by row

pub part_pasted : (cells row now : List Glyph) (at : ℕ) → at + length row ≤ length cells → now ≡ row → put_mid at (at + length row - at) cells now ≡ pasted cells at row
unfolding pasted
part_pasted cells row now at fits is = rw is (same_lists _ _ (grind (arith, places)) (λ k d h. grind (arith, places)))

keeps : (w h y : ℕ) (v old now new row : List Glyph) (wanted : Bool) → y < h → length v ≡ h * w → length old ≡ h * w → now ≡ mixed v old (y * w) → row ≡ take (y * w + w - y * w) (drop (y * w) v) → new ≡ cond wanted (pasted now (y * w) row) now
    → (wanted ≡ false → row_of w v y ≡ row_of w old y) → new ≡ mixed v old ((y + 1) * w)
keeps w h y v old now new row true lt long same is row_is new_is equal =
    let below : y * w + w ≤ h * w = omega (arith, mul-le (y + 1) w h w (omega arith) (omega arith)) in
    new_is ∙ rw (is, row_is ∙ slice_is y w v, next_row y w) (mixed_row v old (y * w) w (omega (arith, long)) (same ∙ sym long))
keeps w h y v old now new row false lt long same is row_is new_is equal = new_is ∙ is ∙ rw (next_row y w) (mixed_same v old (y * w) w (equal refl))

pub kept_more : (w h y first : ℕ) (v old now new row : List Glyph) (known lifted mark marked wanted : Bool) → y < h → length v ≡ h * w → length old ≡ h * w → now ≡ mixed v old (y * w) → row ≡ take (y * w + w - y * w) (drop (y * w) v)
    → new ≡ cond wanted (pasted now (y * w) row) now → wanted ≡ (not known || marked) → (lifted ≡ true → marked ≡ false → y < first) → (lifted ≡ false → marked ≡ mark)
    → (known ≡ true → lifted ≡ false → mark ≡ false → row_of w v y ≡ row_of w old y) → (known ≡ true → lifted ≡ true → y < first → row_of w v y ≡ row_of w old y) → new ≡ mixed v old ((y + 1) * w)
kept_more w h y first v old now new row known lifted mark marked wanted lt long same is row_is new_is wanted_is behind is_mark by_mark by_lift =
    keeps w h y v old now new row wanted lt long same is row_is new_is (λ f. let p = unwanted known marked (sym wanted_is ∙ f) in elim (cannot_differ lifted mark marked y first behind is_mark p.1) [ inl q ↦ by_lift p.0 q.0 q.1 | inr q ↦ by_mark p.0 q.0 q.1 ])
  where
    unwanted : (known marked : Bool) → (not known || marked) ≡ false → (known ≡ true) × (marked ≡ false)
    unwanted true marked e = (refl, e)
    unwanted false marked e = cc

-- ---- the last rows, where they are blank

pub emptied_more : (known : Bool) (w h k y : ℕ) (v shadow row was : List Glyph) → y ≡ h - 1 - k → k < h → length v ≡ h * w → row ≡ take (y * w + w - y * w) (drop (y * w) v) → was ≡ take (y * w + w - y * w) (drop (y * w) shadow)
    → row ≡ replicate (length row) blank_cell → (known ≡ true → same_cells row was ≡ false) → drop ((h - k) * w) v ≡ replicate (k * w) blank_cell → rows_to_paint known w h v shadow ≡ rows_to_paint known w (h - k) v shadow + k
    → (drop ((h - (k + 1)) * w) v ≡ replicate ((k + 1) * w) blank_cell) × (rows_to_paint known w h v shadow ≡ rows_to_paint known w (h - (k + 1)) v shadow + (k + 1))
emptied_more known w h k y v shadow row was at lt long row_is was_is blank differs rest count =
    let n : h - (k + 1) ≡ y = omega arith in
    let m : h - k ≡ y + 1 = omega arith in
    let ry : row ≡ row_of w v y = row_is ∙ slice_is y w v in
    let wy : was ≡ row_of w shadow y = was_is ∙ slice_is y w shadow in
    let rl : length row ≡ w = ap length row_is ∙ slice_length y w h v (omega arith) long in
    let first : row_of w v y ≡ replicate w blank_cell = sym ry ∙ blank ∙ ap (λ z. replicate z blank_cell) rl in
    let second : drop (y * w + w) v ≡ replicate (k * w) blank_cell = ap (λ z. drop z v) (sym (next_row y w)) ∙ rw m at rest in
    let split : drop (y * w) v ≡ row_of w v y ++ drop (y * w + w) v = sym (take-append-drop w (drop (y * w) v)) ∙ ap (λ z. row_of w v y ++ z) (drop-drop w (y * w) v) in
    let size : w + k * w ≡ (k + 1) * w = omega arith in
    let more = one_row_more known w y v shadow (λ t. ap (λ z. same_cells z (row_of w shadow y)) (sym ry) ∙ ap (same_cells row) (sym wy) ∙ differs t) in
    let c2 : rows_to_paint known w h v shadow ≡ rows_to_paint known w y v shadow + 1 + k = (rw m at count) ∙ ap (λ z. z + k) more in
    (rw n (split ∙ rw (first, second) (replicate-append-replicate w (k * w) blank_cell ∙ ap (λ z. replicate z blank_cell) size)), rw n (omega arith))

pub emptied_none : (known : Bool) (w h : ℕ) (v shadow : List Glyph) → length v ≡ h * w → (drop ((h - 0) * w) v ≡ replicate (0 * w) blank_cell) × (rows_to_paint known w h v shadow ≡ rows_to_paint known w (h - 0) v shadow + 0)
emptied_none known w h v shadow long =
    let e : h - 0 ≡ h = omega arith in let z : 0 * w ≡ 0 = omega arith in (rw (e, z) (drop_all (h * w) v (omega arith)), rw e (omega arith))

cleared : (w h tail : ℕ) (v c : List Glyph) → tail ≤ h → length v ≡ h * w → length c ≡ h * w → drop (tail * w) v ≡ replicate ((h - tail) * w) blank_cell → filled (mixed v c (tail * w)) (tail * w) (h * w) blank_cell ≡ v
unfolding pasted
cleared w h tail v c le long same blank =
    let below : tail * w ≤ h * w = mul-le tail w h w le (omega arith) in
    let front : length (take (tail * w) v) ≡ tail * w = length-take-le (tail * w) v (omega arith) in
    let size : h * w - tail * w ≡ (h - tail) * w = let e : h ≡ tail + (h - tail) = omega arith in omega (arith, ap (λ z. z * w) e) in
    let ml : length (mixed v c (tail * w)) ≡ h * w = length-mixed v c (tail * w) (omega arith) (same ∙ sym long) ∙ long in
    let rl : length (replicate ((h - tail) * w) blank_cell) ≡ (h - tail) * w = length-replicate ((h - tail) * w) blank_cell in
    let gone : drop (tail * w + (h - tail) * w) (mixed v c (tail * w)) ≡ [] = drop_all (tail * w + (h - tail) * w) (mixed v c (tail * w)) (omega arith) in
    filled_is (mixed v c (tail * w)) (tail * w) (h * w) blank_cell below
    ∙ rw (size, rl, gone, take_at (take (tail * w) v) (drop (tail * w) c) (tail * w) front, ← blank) (append_none (take (tail * w) v ++ drop (tail * w) v) ∙ take-append-drop (tail * w) v)
  where
    append_none : (xs : List Glyph) → xs ++ [] ≡ xs
    append_none [] = refl
    append_none (x ∷ xs) = ap (λ zs. x ∷ zs) (append_none xs)

none_left : (b : Bool) (w h tail : ℕ) (v shadow : List Glyph) → b ≡ true → v ≡ shadow → tail < h → rows_to_paint b w h v shadow ≡ rows_to_paint b w tail v shadow + (h - tail) → ⊥
none_left true w h tail v shadow k e lt count = omega (arith, differing-self w h v shadow e, count)
none_left false w h tail v shadow k e lt count = cc

pub rows_rest : (w h tail : ℕ) (before state after : State) (v shadow : List Glyph) (known : Bool) (old mid new : List ℕ) → 0 < w → tail ≤ h → length v ≡ h * w → drop (tail * w) v ≡ replicate ((h - tail) * w) blank_cell
    → rows_to_paint known w h v shadow ≡ rows_to_paint known w tail v shadow + (h - tail) → Rows w h v shadow known before old mid tail state → RestStep w h tail state mid new after → Rows w h v shadow known before old new h after
rows_rest w h tail before state after v shadow known old mid new some le long blank count rows rest = by_test (nat_lt tail h) refl
  where
    all_erased : tail < h → Rows w h v shadow known before old new h after
    all_erased lt = let step = rest.some lt in record {
      reach = λ s stands at e.
          let r = rows.reach s stands at e in
          let to : Page = cleared_from tail r.to in
          let c_length : length s.cells ≡ h * w = stands.page.cells ∙ rw (stands.wide, stands.high) refl in
          let cells : to.cells ≡ v = rw (r.stands.wide, r.stands.high, r.cells) (cleared w h tail v s.cells le long c_length blank) in
          let lead : Leads mid new r.to to (h * w - tail * w) = step.0 r.to r.stands.pen r.place r.stands.wide r.stands.high in
          let size : h * w - tail * w ≡ (h - tail) * w = let q : h ≡ tail + (h - tail) = omega arith in omega (arith, ap (λ z. z * w) q) in
          record {
            to = to;
            count = r.count + (h * w - tail * w);
            leads = leads_then old mid new s r.to to r.count (h * w - tail * w) (r.count + (h * w - tail * w)) r.leads lead refl;
            few = let f = r.few in rw (count, size) (omega arith);
            stands = record {
              page = record { width = r.stands.page.width; height = r.stands.page.height; cells = ap length cells ∙ long ∙ rw (r.stands.wide, r.stands.high) refl; column = omega (arith, r.stands.wide); row = omega (arith, r.stands.high); pen = small_pen };
              wide = r.stands.wide;
              high = r.stands.high;
              pen = rw step.1 refl;
            };
            place = rw step.1 (record { at = λ _. (refl, refl, refl) });
            cells = cells ∙ sym (mixed_all v s.cells (h * w) long c_length);
            visible = r.visible;
          };
      quiet = λ k e. absurd (none_left known w h tail v shadow k e lt count);
    }

    by_test : (b : Bool) → nat_lt tail h ≡ b → Rows w h v shadow known before old new h after
    by_test true t = all_erased (grind (arith, nat_tests))
    by_test false f =
        let ge : h ≤ tail = grind (arith, nat_tests) in
        let e : tail ≡ h = omega arith in
        let step = rest.none ge in
        rw (step.0, step.1) (rw e at rows)

pub blank_turn : (row : List Glyph) (i : ℕ) (a : Glyph) (t : Bool) → i < length row → a ≡ get_or row i a → take i row ≡ replicate i blank_cell → t ≡ same_cell a blank_cell → t ≡ true → take (i + 1) row ≡ replicate (i + 1) blank_cell
blank_turn row i a t lt ea h s one = take_more row i a lt ∙ rw (h, ← ea, one_same a blank_cell (sym s ∙ one)) (replicate_more i blank_cell)

pub rest_erased : (w h tail : ℕ) (before : Attribute) (a b c d : List ℕ) (s : Page) → s.pen ≡ pen_for before → s.w ≡ w → s.h ≡ h → Leads a b s (record s { x = 0; y = tail; pending = false }) 0 → ((r : Page) → r.pen ≡ pen_for before → Leads b c r (record r { pen = pen_for (plain 7) }) 0)
    → ((r : Page) → Leads c d r (unpended (erased r (place r) (r.h * r.w))) (r.h * r.w - place r)) → Leads a d s (cleared_from tail s) (h * w - tail * w)
rest_erased w h tail before a b c d s p ew eh go pen rest =
    let g : Page = record s { x = 0; y = tail; pending = false } in
    let g2 : Page = record g { pen = pen_for (plain 7) } in
    let at : tail * s.w + 0 ≡ tail * s.w = omega arith in
    let same : unpended (erased g2 (place g2) (g2.h * g2.w)) ≡ cleared_from tail s = rw at refl in
    let size : g2.h * g2.w - place g2 ≡ h * w - tail * w = rw (at, ew, eh) refl in
    leads_then a b d s g (cleared_from tail s) 0 (h * w - tail * w) (h * w - tail * w) go (leads_then b c d g g2 (cleared_from tail s) 0 (h * w - tail * w) (h * w - tail * w) (pen g p) (rw (same, size) at (rest g2)) (omega arith)) (omega arith)

pub stands_row : (w h y : ℕ) (ink : Attribute) (s : Page) → Stands w h ink s → y < h → length (row_of w s.cells y) ≡ w
stands_row w h y ink s st lt =
    let long : length s.cells ≡ h * w = st.page.cells ∙ rw (st.wide, st.high) refl in
    let below : y * w + w ≤ h * w = omega (arith, mul-le (y + 1) w h w (omega arith) (omega arith)) in
    length-take-le w (drop (y * w) s.cells) (omega (arith, length-drop (y * w) s.cells))
