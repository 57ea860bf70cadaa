-- Rows that are lifted.
use Rattle.std.proofs.Common.{◌≡◌, ℕ, zero, suc, ◌+◌, ◌-◌, ◌*◌, ◌<◌, ◌≤◌, Bool, true, false, cond, ◌&&◌, ◌||◌, not, inl, inr, nat_lt, min, List, [], ◌∷◌, ◌++◌, append_assoc, get_or, set, length, take, drop, replicate, refl, sym, ap, ◌∙◌, arith, length-append, length-drop, below_more}
use Rattle.std.proofs.lemmas.Nat.{mul-le}
use Rattle.std.proofs.lemmas.Grind.{replicate_next}
use Rattle.std.proofs.Math.Seq.{set-append_seam}
use Rattle.std.proofs.lemmas.List.{take_at, drop-take, length-replicate, take-take, drop_more, drop_all}
use Rattle.std.proofs.lemmas.Bool.Decides.{nat_tests}
use Rattle.con_units.specs.Attr.{Attribute, plain}
use Rattle.con_units.specs.Glyph.{Glyph, blank_cell}
use Rattle.con_units.specs.View.{row_of}
use Rattle.con_term.specs.Page.{Page}
use Rattle.con_vtgram.specs.Pen.{starting_pen}
use Rattle.con_term.specs.Steps.{lifted}
use Rattle.con_strokes.specs.Leads.{Leads}
use Rattle.con_strokes.specs.Ink.{pen_for}
use Rattle.con_strokes.specs.Compared.{same_cells, differing, IsLifted}
use Rattle.con_paint.specs.Lift.{IsLeastBelow, Lifted, Lifts, Rises, lifted_cells}
use Rattle.con_strokes.specs.Spot.{IsAt}
use Rattle.con_strokes.specs.declared.spot.Spot.{Spot}
use Rattle.con_strokes.proofs.LeadLemmas.{leads_then, leads-none}
use Rattle.con_strokes.proofs.SameLemmas.{are_same, same_by}
use Rattle.con_paint.specs.Frame.{rows_to_paint}
use Rattle.con_paint.proofs.FrameLemmas.{must_differ, must_equal, one_row_more, no_more, slice_is, small_pen, differing_none, differing-self}

pub here : (w h k : ℕ) (v old : List Glyph) (b : Bool) → length v ≡ h * w → b ≡ same_cells (take (length v - k * w) v) (drop (k * w) old) → b ≡ true → IsLifted w h k v old
here w h k v old b long e t = rw (← long) (are_same _ _ (sym e ∙ t))

pub not_here : (w h k : ℕ) (v old : List Glyph) (b : Bool) → length v ≡ h * w → b ≡ same_cells (take (length v - k * w) v) (drop (k * w) old) → b ≡ false → IsLifted w h k v old → ⊥
not_here w h k v old b long e f is = let same : same_cells (take (length v - k * w) v) (drop (k * w) old) ≡ true = rw long (same_by _ _ is) in let t : true ≡ false = sym same ∙ sym e ∙ f in cc

pub lower_more : (w h k : ℕ) (v old : List Glyph) → ((j : ℕ) → 0 < j → j < k → IsLifted w h j v old → ⊥) → (IsLifted w h k v old → ⊥) → (j : ℕ) → 0 < j → j < k + 1 → IsLifted w h j v old → ⊥
lower_more w h k v old below now j some lt is = below_more (λ i. 0 < i → IsLifted w h i v old → ⊥) k (λ i l p q. below i p l q) (λ p q. now q) j lt some is

pub count_turn : (known : Bool) (w y count : ℕ) (v shadow row was : List Glyph) (marked paint : Bool) → count ≡ rows_to_paint known w y v shadow → row ≡ take (y * w + w - y * w) (drop (y * w) v) → was ≡ take (y * w + w - y * w) (drop (y * w) shadow)
    → paint ≡ (not known || (marked && not (same_cells row was))) → (known ≡ true → marked ≡ false → row_of w v y ≡ row_of w shadow y) → count + cond paint 1 0 ≡ rows_to_paint known w (y + 1) v shadow
count_turn known w y count v shadow row was marked true h row_is was_is e equal =
    rw h (sym (one_row_more known w y v shadow (λ k. rw (row_is ∙ slice_is y w v, was_is ∙ slice_is y w shadow) at (must_differ known marked (same_cells row was) e k))))
count_turn known w y count v shadow row was marked false h row_is was_is e equal =
    let m = must_equal known marked (same_cells row was) e in
    let same : row_of w v y ≡ row_of w shadow y = elim m.1 [ inl f ↦ equal m.0 f | inr t ↦ sym (row_is ∙ slice_is y w v) ∙ are_same row was t ∙ was_is ∙ slice_is y w shadow ] in
    rw h (plus_none _ ∙ sym (no_more known w y v shadow m.0 (same_by _ _ same)))
  where
    plus_none : (n : ℕ) → n + 0 ≡ n
    plus_none n = omega arith

-- ---- how many rows differ from the lifted ones

pub prefix_row : (n y w : ℕ) (a b : List Glyph) → take n a ≡ take n b → y * w + w ≤ n → row_of w a y ≡ row_of w b y
prefix_row n y w a b e fits =
    let one : (xs : List Glyph) → row_of w xs y ≡ drop (y * w) (take (y * w + w) (take n xs)) = λ xs. sym (rw take-take (drop-take (y * w) w xs)) in
    one a ∙ ap (λ xs. drop (y * w) (take (y * w + w) xs)) e ∙ sym (one b)

at_most_one : (b : Bool) → cond b 0 1 ≤ 1
at_most_one true = omega arith
at_most_one false = omega arith

differing_behind : (w y k : ℕ) (a b : List Glyph) → differing w (y + k) a b ≤ differing w y a b + k
unfolding differing
differing_behind w y zero a b = let e : y + 0 ≡ y = omega arith in rw e (omega arith)
differing_behind w y (suc k) a b = let e : y + suc k ≡ suc (y + k) = omega arith in rw e (omega (arith, differing_behind w y k a b, at_most_one (same_cells (row_of w a (y + k)) (row_of w b (y + k)))))

same_front : (w h k : ℕ) (v was : List Glyph) → IsLifted w h k v was → k ≤ h → length was ≡ h * w → take (h * w - k * w) v ≡ take (h * w - k * w) (lifted_cells was (k * w))
same_front w h k v was is most long =
    let below : k * w ≤ h * w = mul-le k w h w most (omega arith) in
    let front : length (drop (k * w) was) ≡ h * w - k * w = omega (arith, length-drop (k * w) was) in
    is ∙ sym (take_at (drop (k * w) was) (replicate (k * w) blank_cell) (h * w - k * w) front)

-- the rows above those that come are the view's
front_row : (w h k y : ℕ) (v was : List Glyph) → IsLifted w h k v was → k ≤ h → length was ≡ h * w → y < h - k → row_of w v y ≡ row_of w (lifted_cells was (k * w)) y
front_row w h k y v was is most long lt = prefix_row (h * w - k * w) y w v (lifted_cells was (k * w)) (same_front w h k v was is most long) (omega (arith, mul-le (y + 1 + k) w h w (omega arith) (omega arith)))

pub differing_lifted : (w h k : ℕ) (v was : List Glyph) → IsLifted w h k v was → k ≤ h → length was ≡ h * w → differing w h v (lifted_cells was (k * w)) ≤ k
differing_lifted w h k v was is most long =
    let none : differing w (h - k) v (lifted_cells was (k * w)) ≡ 0 = differing_none w (h - k) v (lifted_cells was (k * w)) (λ i lt. front_row w h k i v was is most long lt) in
    let e : h - k + k ≡ h = omega arith in
    let few = differing_behind w (h - k) k v (lifted_cells was (k * w)) in
    omega (arith, none, rw e at few)

-- ---- the bytes

-- a new row behind the last one
pub adds_row : (a b : List ℕ) (s : Page) (at : Spot) (by h : ℕ) → s.h ≡ h → IsAt at s → at.known ≡ true → at.y ≡ h - 1 → by ≡ 1 → by ≤ h → (s.y + 1 ≡ s.h → s.pending ≡ false → Leads a b s (record (lifted s 1) { x = 0 }) 0) → Rises by (record { known = true; x = 0; y = at.y }) a b s
adds_row a b s at by h eh is known ey one most feed =
    let k = is.at known in
    let last : s.y + 1 ≡ s.h = omega (arith, k.1, ey, eh, one, most) in
    record { x = 0; leads = rw one (feed last k.2); inside = λ lt. omega (arith, lt); place = record { at = λ _. (refl, k.1, k.2) } }

pub scrolls : (a b c : List ℕ) (s : Page) (by w h : ℕ) (after : Spot) → s.w ≡ w → s.h ≡ h → s.x < s.w → by ≤ h → Leads a b s (record s { pen = pen_for (plain 7) }) 0 → Rises by after b c (record s { pen = pen_for (plain 7) })
    → Lifted w (lifted_cells s.cells (by * w)) after (plain 7) a c s
scrolls a b c s by w h after ew eh less most first r =
    let e : min by s.h * s.w ≡ by * w = rw (ew, eh) (let m : min by h ≡ by = omega arith in rw m refl) in
    record {
      x = r.x;
      leads = leads_then a b c s (record s { pen = pen_for (plain 7) }) (record s { cells = lifted_cells s.cells (by * w); x = r.x; pen = pen_for (plain 7) }) 0 0 0 first (rw e at r.leads) (omega arith);
      inside = omega (arith, r.inside less, ew);
      place = record { at = r.place.at };
    }

length-lifted : (was : List Glyph) (count n : ℕ) → length was ≡ n → count ≤ n → length (lifted_cells was count) ≡ n
length-lifted was count n e h = omega (arith, length-append (drop count was) (replicate count blank_cell), length-drop count was, length-replicate count blank_cell)

pub stays : (w h rows : ℕ) (v was : List Glyph) (at : Spot) (before : Attribute) (old : List ℕ) → length was ≡ h * w → rows ≤ h → (v ≡ was → rows ≡ 0) → ((k : ℕ) → 0 < k → k ≤ h → IsLifted w h k v was → differing w h v was ≤ k)
    → Lifts w h true v was was at at before before false rows old old
stays w h rows v was at before old long most none few = record {
  leads = λ s st is p e. (s.cells, record { x = s.x; leads = rw (← p refl) (leads-none old s); inside = omega (arith, st.page.column, st.wide); place = record { at = is.at } }, st.page.cells ∙ rw (st.wide, st.high) refl, e);
  pen = λ p. p refl;
  same = λ f. refl;
  size = long;
  inside = most;
  front = λ k f. absurd (cc);
  few = λ k. omega arith;
  lifted = λ k. few;
  quiet = λ k e. (refl, refl, refl, none e, refl);
}

-- known ground, where nothing was known
pub begun : (w h : ℕ) (v was : List Glyph) (at : Spot) (before : Attribute) (old new : List ℕ) → length was ≡ h * w → ((s : Page) → Leads old new s (record s { pen = starting_pen }) 0) → Lifts w h false v was was at at before (plain 7) false h old new
begun w h v was at before old new long go = record {
  leads = λ s st is p e. (s.cells, record { x = s.x; leads = go s; inside = omega (arith, st.page.column, st.wide); place = record { at = is.at } }, st.page.cells ∙ rw (st.wide, st.high) refl, e);
  pen = λ p. small_pen;
  same = λ f. refl;
  size = long;
  inside = omega arith;
  front = λ k. absurd (cc);
  few = λ k. omega arith;
  lifted = λ k. absurd (cc);
  quiet = λ k. absurd (cc);
}

pub no_rows : (w h rows : ℕ) (v was : List Glyph) → rows ≡ differing w h v was → v ≡ was → rows ≡ 0
no_rows w h rows v was e same = e ∙ differing-self w h v was same

pub few_by : (w h least rows : ℕ) (v was : List Glyph) → IsLeastBelow w h rows v was least → rows ≡ differing w h v was → rows ≤ least → (k : ℕ) → 0 < k → k ≤ h → IsLifted w h k v was → differing w h v was ≤ k
few_by w h least rows v was is e le k some most lift = by_order (nat_lt k least) refl
  where
    by_order : (b : Bool) → nat_lt k least ≡ b → differing w h v was ≤ k
    by_order true t = absurd (is.least k some (grind (arith, nat_tests)) lift)
    by_order false t = let ge : least ≤ k = grind (arith, nat_tests) in omega (arith, e, le, ge)

pub moves : (w h least rows : ℕ) (v was now : List Glyph) (at after : Spot) (before : Attribute) (old new : List ℕ) → length was ≡ h * w → rows ≤ h → IsLeastBelow w h rows v was least → rows ≡ differing w h v was → least < rows → now ≡ lifted_cells was (least * w)
    → ((s : Page) → s.w ≡ w → s.h ≡ h → s.x < s.w → s.pen ≡ pen_for before → IsAt at s → Lifted w (lifted_cells s.cells (least * w)) after (plain 7) old new s)
    → Lifts w h true v was now at after before (plain 7) true least old new
moves w h least rows v was now at after before old new long most is e lt now_is go =
    let within : least ≤ h = omega arith in
    let below : least * w ≤ h * w = mul-le least w h w within (omega arith) in
    let few : differing w h v now ≤ least = rw now_is (differing_lifted w h least v was (is.is lt) within long) in
    record {
      leads = λ s st cursor p k. (lifted_cells s.cells (least * w), go s st.wide st.high st.page.column (p refl) cursor, length-lifted s.cells (least * w) (h * w) (st.page.cells ∙ rw (st.wide, st.high) refl) below, λ t. rw (k t) (sym now_is));
      pen = λ p. small_pen;
      same = λ f. cc;
      size = ap length now_is ∙ length-lifted was (least * w) (h * w) long below;
      inside = within;
      front = λ k t y less. rw now_is (front_row w h least y v was (is.is lt) within long less);
      few = λ k. omega arith;
      lifted = λ t k some most lift. at_least k (nat_lt k least) refl some lift few;
      quiet = λ t same. absurd (omega (arith, differing-self w h v was same, e, lt));
    }
  where
    at_least : (k : ℕ) (b : Bool) → nat_lt k least ≡ b → 0 < k → IsLifted w h k v was → differing w h v now ≤ least → differing w h v now ≤ k
    at_least k true t some lift few = absurd (is.least k some (grind (arith, nat_tests)) lift)
    at_least k false t some lift few = let ge : least ≤ k = grind (arith, nat_tests) in omega arith

pub one_more : (r count y : ℕ) (b : Bool) → r ≡ count + cond b 1 0 → count ≤ y → r ≤ y + 1
one_more r count y true e h = omega arith
one_more r count y false e h = omega arith

pub few_rows : (w h rows k : ℕ) (v was : List Glyph) → rows ≡ differing w h v was → rows < 2 → 0 < k → differing w h v was ≤ k
few_rows w h rows k v was e few some = omega arith

-- ---- blanks behind

pub emptied-more : (old : List Glyph) (i : ℕ) (cell : Glyph) → cell ≡ blank_cell → i < length old → set (replicate i blank_cell ++ drop i old) i cell ≡ replicate (i + 1) blank_cell ++ drop (i + 1) old
emptied-more old i cell e lt =
    rw (e, drop_more old i cell lt, replicate_next i blank_cell) (set_at (replicate i blank_cell) (get_or old i cell) (drop (i + 1) old) blank_cell i (length-replicate i blank_cell) ∙ sym (append_assoc (replicate i blank_cell) (blank_cell ∷ []) (drop (i + 1) old)))
  where
    set_at : (xs : List Glyph) (y : Glyph) (ys : List Glyph) (c : Glyph) (n : ℕ) → length xs ≡ n → set (xs ++ y ∷ ys) n c ≡ xs ++ c ∷ ys
    set_at xs y ys c n h = rw (← h) (set-append_seam xs y ys c)

pub emptied_all : (old : List Glyph) (n : ℕ) → n ≡ length old → replicate n blank_cell ++ drop n old ≡ replicate (length old) blank_cell
emptied_all old n e = rw (drop_all n old (omega arith), e) (append_none (replicate (length old) blank_cell))
  where
    append_none : (xs : List Glyph) → xs ++ [] ≡ xs
    append_none [] = refl
    append_none (x ∷ xs) = ap (λ zs. x ∷ zs) (append_none xs)
