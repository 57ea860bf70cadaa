-- Rows that are not stamped with the number are what they were.
use Rattle.std.proofs.Common.{◌≡◌, ℕ, ◌+◌, ◌-◌, ◌*◌, ◌/◌, ◌%◌, ◌<◌, ◌≤◌, List, true, false, ◌++◌, length, take, drop, replicate, get_or, set, min, nat_lt, refl, sym, ap, ◌∙◌, ◌⊎◌, inl, inr, arith, rules, Option, Some, None}
use Rattle.std.proofs.lemmas.List.{same_lists, length-take, length-drop, length-set, get_or-take, get_or-drop, get_or-set_other, get_or_default, get_or_past, length-replicate, length-map, places, take_at}
use Rattle.std.proofs.lemmas.Grind.{common_steps, rows}
use Rattle.std.proofs.lemmas.Nat.{le-div}
use Rattle.std.proofs.lemmas.Bool.{cases_lt}
use Rattle.std.proofs.Math.Nat.{mul-le-mul_right}
use Rattle.con_units.specs.Attr.{Attribute}
use Rattle.con_units.specs.Glyph.{Glyph, cell_of as glyph_of}
use Rattle.con_units.specs.View.{row_of}
use Rattle.con_grid.specs.Picture.{Picture, raised, filled, lifted, lowered, part_lifted, part_lowered}
use Rattle.con_grid.specs.Words.Picture.{IsRowOf, written_over, part_of, glyphs_of, units_put}
use Rattle.con_grid.proofs.FillLemmas.{fill-none, fill-more}
use Rattle.con_grid.specs.Stamps.{RowStamps, AreStamps, AreStampedBy, AreStampsOf}

-- two lists that agree at a row's places have the same row
row_same : (w : ℕ) (xs ys : List Glyph) (y : ℕ) → length xs ≡ length ys → ((i : ℕ) (d : Glyph) → i < w → get_or xs (y * w + i) d ≡ get_or ys (y * w + i) d) → row_of w xs y ≡ row_of w ys y
row_same w xs ys y e same =
    same_lists (row_of w xs y) (row_of w ys y)
    (length-take w (drop (y * w) xs) ∙ ap (λ n. min w n) (length-drop (y * w) xs ∙ ap (λ n. n - y * w) e ∙ sym (length-drop (y * w) ys)) ∙ sym (length-take w (drop (y * w) ys)))
    (λ k d h.
    let k_in : k < w = omega (arith, length-take w (drop (y * w) xs)) in
    get_or-take w (drop (y * w) xs) k d k_in ∙ get_or-drop (y * w) xs k d ∙ same k d k_in
    ∙ sym (get_or-drop (y * w) ys k d) ∙ sym (get_or-take w (drop (y * w) ys) k d k_in))

still : (before : Option (List Glyph)) (w : ℕ) (xs ys : List Glyph) (y : ℕ) → row_of w ys y ≡ row_of w xs y → IsRowOf before w xs y → IsRowOf before w ys y
still None w xs ys y e h = h
still (Some before) w xs ys y e h = e ∙ h

outside_run : (y i w from upto : ℕ) → i < w → (from < upto → ((y + 1) * w ≤ from) ⊎ (upto ≤ y * w)) → (y * w + i < from) ⊎ (upto ≤ y * w + i)
outside_run y i w from upto i_in out = elim (cases_lt from upto) [
  | inl some ↦ elim (out some) [ inl h ↦ inl (omega (arith, h)) | inr h ↦ inr (omega (arith, h)) ]
  | inr empty ↦ elim (cases_lt (y * w + i) from) [ inl h ↦ inl h | inr h ↦ inr (omega (arith, h, empty)) ]
]

-- cells that differ in a run alone, whose rows are stamped
pub run_keeps : (p q : Picture) (old new : RowStamps) (from upto : ℕ) → AreStampsOf p old → q.width ≡ p.width → q.height ≡ p.height → q.now ≡ p.now → q.moment ≡ p.moment → length q.cells ≡ length p.cells
    → ((k : ℕ) (d : Glyph) → (k < from) ⊎ (upto ≤ k) → get_or q.cells k d ≡ get_or p.cells k d) → AreStampedBy old new p.width from upto → AreStampsOf q new
run_keeps p q old new from upto ok w h n m long same by = record {
  picture = record {
    wide = omega (arith, w, ok.picture.wide);
    tall = omega (arith, h, ok.picture.tall);
    at_most_wide = omega (arith, w, ok.picture.at_most_wide);
    at_most_tall = omega (arith, h, ok.picture.at_most_tall);
    cells = long ∙ ok.picture.cells ∙ ap (λ n. n * p.height) (sym w) ∙ ap (λ n. q.width * n) (sym h);
  };
  number = by.same ∙ ok.number ∙ sym n;
  count = by.count ∙ ok.count ∙ sym h;
  untouched = λ y y_in un.
      let y_was : y < length old.rows = omega (arith, ok.count, h) in
      elim (by.each y y_was) [
        | inl stamped ↦ absurd (omega (arith, un, stamped, ok.number, n))
        | inr kept ↦
            let before = ok.untouched y (omega (arith, h)) (omega (arith, un, kept.0, n)) in
            rw (w, m) (still p.moment p.width p.cells q.cells y
            (row_same p.width q.cells p.cells y long (λ i d i_in. same (y * p.width + i) d (outside_run y i p.width from upto i_in kept.1)))
            before)
      ];
}

-- a part of the cells, written over
pub part_keeps : (p : Picture) (old new : RowStamps) (from upto : ℕ) (part : List Glyph) → AreStampsOf p old → from ≤ upto → upto ≤ length p.cells → length part ≡ upto - from → AreStampedBy old new p.width from upto
    → AreStampsOf (record p { cells = written_over p.cells from upto part }) new
part_keeps p old new from upto part ok order inside long covers =
    run_keeps p (record p { cells = written_over p.cells from upto part }) old new from upto ok refl refl refl refl
    (grind (arith, places))
    (λ k d out. elim out [ inl h ↦ grind (arith, places) | inr h ↦ grind (arith, places) ])
    covers

pub length-lifted : (cells : List Glyph) (n : ℕ) (c : Glyph) → length (lifted cells n c) ≡ length cells
unfolding lifted
length-lifted cells n c = grind (arith, places)

pub length-lowered : (cells : List Glyph) (n : ℕ) (c : Glyph) → length (lowered cells n c) ≡ length cells
unfolding lowered
length-lowered cells n c = grind (arith, places)

length-part : (cells : List Glyph) (from upto : ℕ) → from ≤ upto → upto ≤ length cells → length (part_of cells from upto) ≡ upto - from
length-part cells from upto order inside = grind (arith, places)

pub filled_keeps : (p : Picture) (old new : RowStamps) (from upto : ℕ) (c : Glyph) → AreStampsOf p old → from ≤ upto → upto ≤ length p.cells → AreStampedBy old new p.width from upto
    → AreStampsOf (record p { cells = filled p.cells from upto c }) new
unfolding filled
filled_keeps p old new from upto c ok order inside covers = part_keeps p old new from upto (replicate (upto - from) c) ok order inside (length-replicate (upto - from) c) covers

pub lifted_keeps : (p : Picture) (old new : RowStamps) (from upto n : ℕ) (c : Glyph) → AreStampsOf p old → from ≤ upto → upto ≤ length p.cells → AreStampedBy old new p.width from upto
    → AreStampsOf (record p { cells = part_lifted p.cells from upto n c }) new
unfolding part_lifted
lifted_keeps p old new from upto n c ok order inside covers =
    part_keeps p old new from upto (lifted (part_of p.cells from upto) n c) ok order inside (length-lifted (part_of p.cells from upto) n c ∙ length-part p.cells from upto order inside) covers

pub lowered_keeps : (p : Picture) (old new : RowStamps) (from upto n : ℕ) (c : Glyph) → AreStampsOf p old → from ≤ upto → upto ≤ length p.cells → AreStampedBy old new p.width from upto
    → AreStampsOf (record p { cells = part_lowered p.cells from upto n c }) new
unfolding part_lowered
lowered_keeps p old new from upto n c ok order inside covers =
    part_keeps p old new from upto (lowered (part_of p.cells from upto) n c) ok order inside (length-lowered (part_of p.cells from upto) n c ∙ length-part p.cells from upto order inside) covers

pub units_keeps : (p : Picture) (old new : RowStamps) (at : ℕ) (us : List ℕ) (attr : Attribute) → AreStampsOf p old → at + length us ≤ length p.cells → AreStampedBy old new p.width at (at + length us)
    → AreStampsOf (record p { cells = units_put p.cells at us attr }) new
unfolding units_put
units_keeps p old new at us attr ok inside covers = part_keeps p old new at (at + length us) (glyphs_of us attr) ok (omega arith) inside (length-map us (λ u. glyph_of u attr) ∙ omega arith) covers

-- ---- which rows a run stamps

pub run_none : (s : RowStamps) (w from upto : ℕ) → from ≡ upto → AreStampedBy s s w from upto
run_none s w from upto e = record { same = refl; count = refl; each = λ y h. inr (refl, λ some. absurd (omega (arith, some, e))) }

below_div : (y m w : ℕ) → 0 < w → y < m / w → (y + 1) * w ≤ m
below_div y m w wide h = let split : w * (m / w) + m % w ≡ m = omega arith in omega (arith, mul-le-mul_right w (let le : y + 1 ≤ m / w = omega arith in le))

above_div : (y m w : ℕ) → 0 < w → m / w < y → m < y * w
above_div y m w wide h = let split : w * (m / w) + m % w ≡ m = omega arith in let small : m % w < w = omega arith in omega (arith, mul-le-mul_right w (let le : m / w + 1 ≤ y = omega arith in le))

pub run_rows : (old : RowStamps) (w from upto first last : ℕ) → 0 < w → from < upto → last < length old.rows → first ≤ last → first ≡ from / w → last ≡ (upto - 1) / w
    → AreStampedBy old (record old { rows = take first old.rows ++ (replicate (last + 1 - first) old.now ++ drop (last + 1) old.rows) }) w from upto
run_rows old w from upto first last wide some inside order f l = record {
  same = refl;
  count = grind (arith, places);
  each = λ y h. elim (cases_lt y first) [
    | inl a ↦ inr (before y h a, λ _. inl (below_div y from w wide (rw (← f) a)))
    | inr a ↦ elim (cases_lt y (last + 1)) [
      | inl b ↦ inl (within y h a b)
      | inr b ↦ inr (behind y h b, λ _. inr (omega (arith, above_div y (upto - 1) w wide (rw (← l) (omega arith)))))
    ]
  ];
}
  where
    before : (y : ℕ) → y < length old.rows → y < first → get_or (take first old.rows ++ (replicate (last + 1 - first) old.now ++ drop (last + 1) old.rows)) y old.now ≡ get_or old.rows y old.now
    before y h a = grind (arith, places)

    within : (y : ℕ) → y < length old.rows → first ≤ y → y < last + 1 → get_or (take first old.rows ++ (replicate (last + 1 - first) old.now ++ drop (last + 1) old.rows)) y old.now ≡ old.now
    within y h a b = grind (arith, places)

    behind : (y : ℕ) → y < length old.rows → last + 1 ≤ y → get_or (take first old.rows ++ (replicate (last + 1 - first) old.now ++ drop (last + 1) old.rows)) y old.now ≡ get_or old.rows y old.now
    behind y h b = grind (arith, places)

pub row_stamped : (old : RowStamps) (row : ℕ) → row < length old.rows → set old.rows row old.now ≡ take row old.rows ++ (replicate (row + 1 - row) old.now ++ drop (row + 1) old.rows)
row_stamped old row inside = ap (λ (l : List ℕ). set l row old.now) (fill-none old.rows row old.now) ∙ fill-more old.rows row row old.now (omega arith) inside

pub one_row : (old : RowStamps) (w from upto row : ℕ) → 0 < w → from < upto → row < length old.rows → row ≡ from / w → row ≡ (upto - 1) / w
    → AreStampedBy old (record old { rows = set old.rows row old.now }) w from upto
one_row old w from upto row wide some inside f l = rw (row_stamped old row inside) (run_rows old w from upto row row wide some inside (omega arith) f l)

cell_row : (at w : ℕ) → at / w ≡ (at + 1 - 1) / w
cell_row at w = let e : at + 1 - 1 ≡ at = omega arith in rw e refl

pub put_keeps : (p : Picture) (old : RowStamps) (at : ℕ) (c : Glyph) → AreStampsOf p old → at < length p.cells → AreStampsOf (record p { cells = set p.cells at c }) (record old { rows = set old.rows (at / p.width) old.now })
put_keeps p old at c ok inside =
    let row : at / p.width < length old.rows = grind (arith, common_steps, rows, ok.count, ok.picture.cells, ok.picture.wide) in
    run_keeps p (record p { cells = set p.cells at c }) old (record old { rows = set old.rows (at / p.width) old.now }) at (at + 1) ok refl refl refl refl
    (length-set p.cells at c)
    (λ k d out. get_or-set_other p.cells at k c d (λ e. elim out [ inl h ↦ omega (arith, h, e) | inr h ↦ omega (arith, h, e) ]))
    (one_row old p.width at (at + 1) (at / p.width) ok.picture.wide (omega arith) row refl (cell_row at p.width))

pub row_inside : (p : Picture) (s : RowStamps) (at : ℕ) → AreStampsOf p s → at < length p.cells → at / p.width < length s.rows
row_inside p s at ok inside = grind (arith, common_steps, rows, ok.count, ok.picture.cells, ok.picture.wide)

-- the number that the stamps have is the picture's
pub renumbered : (p : Picture) (s : RowStamps) → AreStampsOf p s → AreStampsOf (record p { now = s.now }) s
renumbered p s ok = record {
  picture = record { wide = ok.picture.wide; tall = ok.picture.tall; at_most_wide = ok.picture.at_most_wide; at_most_tall = ok.picture.at_most_tall; cells = ok.picture.cells };
  number = refl;
  count = ok.count;
  untouched = λ y h un. ok.untouched y h (omega (arith, un, ok.number));
}

-- ---- no stamp is above the number

pub raised_bound : (s : RowStamps) (n : ℕ) → AreStamps s → s.now ≤ n → AreStamps (record s { now = n })
raised_bound s n h low = λ y. elim (cases_lt y (length s.rows)) [
  | inl inside ↦ omega (arith, h y, low, get_or_default s.rows y n s.now inside)
  | inr past ↦ omega (arith, get_or_past s.rows y n (omega (arith, past)))
]

pub written_bound : (s : RowStamps) (from upto : ℕ) (written : List ℕ) → AreStamps s → from ≤ upto → upto ≤ length s.rows → written ≡ take from s.rows ++ (replicate (upto - from) s.now ++ drop upto s.rows)
    → AreStamps (record s { rows = written })
written_bound s from upto written h order inside e = λ y. rw e (elim (cases_lt y from) [
  | inl a ↦ omega (arith, h y, before y a)
  | inr a ↦ elim (cases_lt y upto) [
    | inl b ↦ omega (arith, within y a b)
    | inr b ↦ omega (arith, h y, behind y b)
  ]
])
  where
    before : (y : ℕ) → y < from → get_or (take from s.rows ++ (replicate (upto - from) s.now ++ drop upto s.rows)) y s.now ≡ get_or s.rows y s.now
    before y a = grind (arith, places)

    within : (y : ℕ) → from ≤ y → y < upto → get_or (take from s.rows ++ (replicate (upto - from) s.now ++ drop upto s.rows)) y s.now ≡ s.now
    within y a b = grind (arith, places)

    behind : (y : ℕ) → upto ≤ y → get_or (take from s.rows ++ (replicate (upto - from) s.now ++ drop upto s.rows)) y s.now ≡ get_or s.rows y s.now
    behind y b = grind (arith, places)

-- ---- the number

pub number_keeps : (p : Picture) (s : RowStamps) (n : ℕ) → AreStampsOf p s → p.now ≤ n → AreStampsOf (raised p n) (record s { now = n })
number_keeps p s n ok low = elim (cases_lt p.now n) [
  | inl more ↦ let e : nat_lt p.now n ≡ true = search (arith, rules) in rw e (record { picture = record { wide = ok.picture.wide; tall = ok.picture.tall; at_most_wide = ok.picture.at_most_wide; at_most_tall = ok.picture.at_most_tall; cells = ok.picture.cells }; number = refl; count = ok.count; untouched = λ y h un. refl })
  | inr no_more ↦ let e : nat_lt p.now n ≡ false = search (arith, rules) in
      let same : s.now ≡ n = omega (arith, ok.number, low, no_more) in
      rw (e, ← same) ok
]

-- ---- what the code shows of it

pub whole : {X : Type 0} (len : ℕ) (items now : List X) → length now ≡ len → take len (now ++ drop (length now) items) ≡ now
whole len items now e = take_at now (drop (length now) items) len e

pub last_inside : (w h from upto : ℕ) → 0 < w → from ≤ upto → (from ≡ upto → ⊥) → upto ≤ w * h → (upto - 1) / w < h
last_inside w h from upto wide order some inside = let split : w * ((upto - 1) / w) + (upto - 1) % w ≡ upto - 1 = omega arith in grind (arith, common_steps, rows)

pub first_last : (w from upto : ℕ) → 0 < w → from ≤ upto → (from ≡ upto → ⊥) → from / w ≤ (upto - 1) / w
first_last w from upto wide order some = let split : w * (from / w) + from % w ≡ from = omega arith in le-div (from / w) (upto - 1) w wide (omega arith)
