-- A grid that a rule makes, cell by cell, in the order of the rows or against it.
use Rattle.std.proofs.Common.{◌≡◌, ℕ, ◌+◌, ◌-◌, ◌*◌, ◌/◌, ◌%◌, ◌<◌, ◌≤◌, inl, inr, List, map, length, get_or, set, refl, sym, ap, subst, add-zero, ◌∙◌, arith}
use Rattle.std.specs.List.{range_with_len}
use Rattle.std.proofs.lemmas.List.{get_or-set_same, get_or-set_other}
use Rattle.std.proofs.lemmas.List.FromFn.{fill_by_all, length-map-range_with_len, get_or-map-range_with_len}
use Rattle.std.proofs.lemmas.Nat.{mul-add-lt}
use Rattle.std.proofs.lemmas.Bool.{cases_eq, cases_lt}
use Rattle.std.proofs.Math.Nat.{mul-le-mul_right, mul-add-mod_self_right, mul-add-div_right, mod-eq_of_lt, div-eq_of_lt}
use Rattle.con_units.specs.Glyph.{Glyph}
use Rattle.con_grid.specs.Picture.{Picture}
use Rattle.con_grid.specs.Words.Picture.{IsPicture}
use Rattle.con_rects.specs.Rules.{redrawn}
use Rattle.con_rects.specs.Parts.{blank}
use Rattle.con_rects.specs.declared.area.Area.{Area}
use Rattle.con_rects.proofs.AreaLemmas.{IsWithin}

-- a place of the list of cells is its row and its column
pub place_again : (i w : ℕ) → 0 < w → i / w * w + i % w ≡ i
place_again i w some = omega arith

pub column_is : (w x y : ℕ) → x < w → (y * w + x) % w ≡ x
column_is w x y x_in = mul-add-mod_self_right y w x ∙ mod-eq_of_lt x_in

pub row_is : (w x y : ℕ) → x < w → (y * w + x) / w ≡ y
row_is w x y x_in = let some : 0 < w = omega arith in mul-add-div_right some y x ∙ ap (λ n. y + n) (div-eq_of_lt x_in) ∙ add-zero y

-- the rule of a grid as a rule of places in its list of cells
abbrev pub flat : Picture → (ℕ → ℕ → Glyph) → ℕ → Glyph
flat p rule k = rule (k % p.width) (k / p.width)

-- the places before i are as the rule says, and the others are as they were
pub record DoneBefore (old now : Picture) (f : ℕ → Glyph) (i : ℕ) : Type 0 where
  pub same : now ≡ record old { cells = now.cells }
  pub picture : IsPicture now
  pub done : (j : ℕ) → j < i → get_or now.cells j blank ≡ f j
  pub left : (j : ℕ) → i ≤ j → get_or now.cells j blank ≡ get_or old.cells j blank

-- the places from i on are as the rule says, and the others are as they were
pub record DoneFrom (old now : Picture) (f : ℕ → Glyph) (i : ℕ) : Type 0 where
  pub same : now ≡ record old { cells = now.cells }
  pub picture : IsPicture now
  pub done : (j : ℕ) → i ≤ j → j < old.width * old.height → get_or now.cells j blank ≡ f j
  pub left : (j : ℕ) → j < i → get_or now.cells j blank ≡ get_or old.cells j blank

pub before_start : (old : Picture) (f : ℕ → Glyph) → IsPicture old → DoneBefore old old f 0
before_start old f ok = record { same = refl; picture = ok; done = λ j h. absurd (omega (arith, h)); left = λ j h. refl }

pub from_start : (old : Picture) (f : ℕ → Glyph) → IsPicture old → DoneFrom old old f (old.width * old.height)
from_start old f ok = record { same = refl; picture = ok; done = λ j h k. absurd (omega (arith, h, k)); left = λ j h. refl }

-- where the rule changes nothing, the places are passed over
pub before_skip : (old now : Picture) (f : ℕ → Glyph) (i n : ℕ) → DoneBefore old now f i → i ≤ n → ((j : ℕ) → i ≤ j → j < n → f j ≡ get_or old.cells j blank) → DoneBefore old now f n
before_skip old now f i n before order same = record {
  same = before.same;
  picture = before.picture;
  done = λ j h. elim (cases_lt j i) [ inl lt ↦ before.done j lt | inr ge ↦ before.left j ge ∙ sym (same j ge h) ];
  left = λ j h. before.left j (omega (arith, h, order));
}

pub from_skip : (old now : Picture) (f : ℕ → Glyph) (i n : ℕ) → DoneFrom old now f i → n ≤ i → ((j : ℕ) → n ≤ j → j < i → f j ≡ get_or old.cells j blank) → DoneFrom old now f n
from_skip old now f i n after order same = record {
  same = after.same;
  picture = after.picture;
  done = λ j h k. elim (cases_lt j i) [ inl lt ↦ after.left j lt ∙ sym (same j h lt) | inr ge ↦ after.done j ge k ];
  left = λ j h. after.left j (omega (arith, h, order));
}

-- the cell of one more place is written
pub before_put : (old mid new : Picture) (f : ℕ → Glyph) (i : ℕ) (cell : Glyph) → DoneBefore old mid f i → i < length mid.cells → cell ≡ f i → new ≡ record mid { cells = set mid.cells i cell } → IsPicture new → DoneBefore old new f (i + 1)
before_put old mid new f i cell before within is new_is ok =
    let cells : new.cells ≡ set mid.cells i cell = ap (λ (p : Picture). p.cells) new_is in
    let other : (j : ℕ) → (j ≡ i → ⊥) → get_or new.cells j blank ≡ get_or mid.cells j blank = λ j ne. ap (λ (c : List Glyph). get_or c j blank) cells ∙ get_or-set_other mid.cells i j cell blank ne in
    record {
      same = new_is ∙ ap (λ (p : Picture). record p { cells = set mid.cells i cell }) before.same ∙ ap (λ (c : List Glyph). record old { cells = c }) (sym cells);
      picture = ok;
      done = λ j h. elim (cases_eq j i) [
        | inl e ↦ rw e (ap (λ (c : List Glyph). get_or c i blank) cells ∙ get_or-set_same mid.cells i cell blank within ∙ is)
        | inr ne ↦ other j ne ∙ before.done j (omega (arith, h, ne))
      ];
      left = λ j h. let ne : j ≡ i → ⊥ = λ e. omega (arith, h, e) in other j ne ∙ before.left j (omega (arith, h));
    }

pub from_put : (old mid new : Picture) (f : ℕ → Glyph) (i : ℕ) (cell : Glyph) → DoneFrom old mid f (i + 1) → i < length mid.cells → cell ≡ f i → new ≡ record mid { cells = set mid.cells i cell } → IsPicture new → DoneFrom old new f i
from_put old mid new f i cell after within is new_is ok =
    let cells : new.cells ≡ set mid.cells i cell = ap (λ (p : Picture). p.cells) new_is in
    let other : (j : ℕ) → (j ≡ i → ⊥) → get_or new.cells j blank ≡ get_or mid.cells j blank = λ j ne. ap (λ (c : List Glyph). get_or c j blank) cells ∙ get_or-set_other mid.cells i j cell blank ne in
    record {
      same = new_is ∙ ap (λ (p : Picture). record p { cells = set mid.cells i cell }) after.same ∙ ap (λ (c : List Glyph). record old { cells = c }) (sym cells);
      picture = ok;
      done = λ j h k. elim (cases_eq j i) [
        | inl e ↦ rw e (ap (λ (c : List Glyph). get_or c i blank) cells ∙ get_or-set_same mid.cells i cell blank within ∙ is)
        | inr ne ↦ other j ne ∙ after.done j (omega (arith, h, ne)) k
      ];
      left = λ j h. let ne : j ≡ i → ⊥ = λ e. omega (arith, h, e) in other j ne ∙ after.left j (omega (arith, h));
    }

-- as many cells as the grid had
pub count_is : (old now : Picture) → now ≡ record old { cells = now.cells } → IsPicture now → length now.cells ≡ old.width * old.height
count_is old now same ok = ok.cells ∙ ap (λ (p : Picture). p.width * p.height) same

-- the cell of a row and a column is written
pub area_put : (old mid new : Picture) (f : ℕ → Glyph) (x y width : ℕ) (cell : Glyph) → DoneBefore old mid f (y * old.width + x) → x < old.width → y < old.height → width ≡ old.width → cell ≡ f (y * old.width + x)
    → new ≡ record mid { cells = set mid.cells (y * width + x) cell } → IsPicture new → DoneBefore old new f (y * old.width + (x + 1))
area_put old mid new f x y width cell before x_in y_in same_width is new_is ok =
    let within : y * old.width + x < length mid.cells = omega (arith, count_is old mid before.same before.picture, mul-add-lt y old.width x old.height y_in x_in) in
    let new_is' : new ≡ record mid { cells = set mid.cells (y * old.width + x) cell } = new_is ∙ ap (λ w. record mid { cells = set mid.cells (y * w + x) cell }) same_width in
    subst (λ (i : ℕ). DoneBefore old new f i) (omega arith) (before_put old mid new f (y * old.width + x) cell before within is new_is' ok)

pub area_put_from : (old mid new : Picture) (f : ℕ → Glyph) (x y width : ℕ) (cell : Glyph) → DoneFrom old mid f (y * old.width + (x + 1)) → x < old.width → y < old.height → width ≡ old.width → cell ≡ f (y * old.width + x)
    → new ≡ record mid { cells = set mid.cells (y * width + x) cell } → IsPicture new → DoneFrom old new f (y * old.width + x)
area_put_from old mid new f x y width cell after x_in y_in same_width is new_is ok =
    let within : y * old.width + x < length mid.cells = omega (arith, count_is old mid after.same after.picture, mul-add-lt y old.width x old.height y_in x_in) in
    let new_is' : new ≡ record mid { cells = set mid.cells (y * old.width + x) cell } = new_is ∙ ap (λ w. record mid { cells = set mid.cells (y * w + x) cell }) same_width in
    from_put old mid new f (y * old.width + x) cell (subst (λ (i : ℕ). DoneFrom old mid f i) (omega arith) after) within is new_is' ok

-- a grid with the cells that a rule gives is the one that the rule makes
pub redrawn_from : (old now : Picture) (rule : ℕ → ℕ → Glyph) → now ≡ record old { cells = now.cells } → IsPicture now → ((k : ℕ) → k < old.width * old.height → get_or now.cells k blank ≡ flat old rule k) → now ≡ redrawn old rule
unfolding redrawn
redrawn_from old now rule same ok each =
    same ∙ ap (λ (c : List Glyph). record old { cells = c }) (fill_by_all (flat old rule) now.cells (old.width * old.height) blank (count_is old now same ok) each)

-- a cell of a grid that a rule makes
pub get_or-redrawn : (p : Picture) (rule : ℕ → ℕ → Glyph) (k : ℕ) → k < p.width * p.height → get_or (redrawn p rule).cells k blank ≡ flat p rule k
unfolding redrawn
get_or-redrawn p rule k h = get_or-map-range_with_len (flat p rule) 0 (p.width * p.height) k k blank h (omega arith)

pub shape-redrawn : (p : Picture) (rule : ℕ → ℕ → Glyph) → redrawn p rule ≡ record p { cells = (redrawn p rule).cells }
unfolding redrawn
shape-redrawn p rule = refl

pub length-redrawn : (p : Picture) (rule : ℕ → ℕ → Glyph) → length (redrawn p rule).cells ≡ p.width * p.height
unfolding redrawn
length-redrawn p rule = length-map-range_with_len (flat p rule) 0 (p.width * p.height)

-- rules that agree on the grid's places make the same grid
pub redrawn_same : (p : Picture) (f g : ℕ → ℕ → Glyph) → ((k : ℕ) → k < p.width * p.height → flat p f k ≡ flat p g k) → redrawn p f ≡ redrawn p g
unfolding redrawn
redrawn_same p f g same =
    ap (λ (c : List Glyph). record p { cells = c })
    (fill_by_all (flat p g) (map (flat p f) (range_with_len 0 (p.width * p.height))) (p.width * p.height) blank (length-map-range_with_len (flat p f) 0 (p.width * p.height))
    (λ k h. get_or-map-range_with_len (flat p f) 0 (p.width * p.height) k k blank h (omega arith) ∙ same k h))

-- the rule changes places of the area alone
abbrev pub ChangesIn : Picture → Area → (ℕ → Glyph) → Type 0
ChangesIn p a f = (j : ℕ) → j < p.width * p.height → (IsWithin a (j % p.width) (j / p.width) → ⊥) → f j ≡ get_or p.cells j blank

-- an area of the grid, with a cell
pub record IsAreaOf (p : Picture) (a : Area) : Type 0 where
  pub wide : 0 < p.width
  pub columns : a.left < a.right
  pub rows : a.top < a.bottom
  pub right : a.right ≤ p.width
  pub bottom : a.bottom ≤ p.height

-- a place of one row
row_at : (w y j : ℕ) → 0 < w → y * w ≤ j → j < (y + 1) * w → (j / w ≡ y) × (j % w + y * w ≡ j)
row_at w y j some low high =
    let x : ℕ = j - y * w in
    let x_in : x < w = omega arith in
    let is : y * w + x ≡ j = omega arith in
    let e : j / w ≡ y = ap (λ n. n / w) (sym is) ∙ row_is w x y x_in in
    let f : j % w ≡ x = ap (λ n. n % w) (sym is) ∙ column_is w x y x_in in
    (e, omega arith)

pub row_below : (w t j : ℕ) → 0 < w → j < t * w → j / w < t
row_below w t j some h = elim (cases_lt (j / w) t) [ inl lt ↦ lt | inr ge ↦ absurd (omega (arith, mul-le-mul_right w ge)) ]

row_above : (w b j : ℕ) → 0 < w → b * w ≤ j → b ≤ j / w
row_above w b j some h = elim (cases_lt (j / w) b) [ inl lt ↦ let le : j / w + 1 ≤ b = omega arith in absurd (omega (arith, mul-le-mul_right w le)) | inr ge ↦ ge ]

within_grid : (p : Picture) (y j : ℕ) → y < p.height → j < (y + 1) * p.width → j < p.width * p.height
within_grid p y j y_in h = let le : y + 1 ≤ p.height = omega arith in omega (arith, mul-le-mul_right p.width le)

-- the places above an area, below it, and on both sides of a row
above_same : (p : Picture) (a : Area) (f : ℕ → Glyph) → IsAreaOf p a → ChangesIn p a f → (j : ℕ) → j < a.top * p.width → f j ≡ get_or p.cells j blank
above_same p a f is only j h =
    let le : a.top ≤ p.height = omega (arith, is.rows, is.bottom) in
    only j (omega (arith, h, mul-le-mul_right p.width le)) (λ i. omega (arith, i.from_top, row_below p.width a.top j is.wide h))

below_same : (p : Picture) (a : Area) (f : ℕ → Glyph) → IsAreaOf p a → ChangesIn p a f → (j : ℕ) → a.bottom * p.width ≤ j → j < p.width * p.height → f j ≡ get_or p.cells j blank
below_same p a f is only j low h = only j h (λ i. omega (arith, i.to_bottom, row_above p.width a.bottom j is.wide low))

left_same : (p : Picture) (a : Area) (f : ℕ → Glyph) (y : ℕ) → IsAreaOf p a → ChangesIn p a f → y < a.bottom → (j : ℕ) → y * p.width ≤ j → j < y * p.width + a.left → f j ≡ get_or p.cells j blank
left_same p a f y is only y_in j low high =
    let next : j < (y + 1) * p.width = omega (arith, high, is.columns, is.right) in
    let at = row_at p.width y j is.wide low next in
    only j (within_grid p y j (omega (arith, y_in, is.bottom)) next) (λ i. omega (arith, i.from_left, at.1, high))

right_same : (p : Picture) (a : Area) (f : ℕ → Glyph) (y : ℕ) → IsAreaOf p a → ChangesIn p a f → y < a.bottom → (j : ℕ) → y * p.width + a.right ≤ j → j < (y + 1) * p.width → f j ≡ get_or p.cells j blank
right_same p a f y is only y_in j low high =
    let at = row_at p.width y j is.wide (omega (arith, low)) high in
    only j (within_grid p y j (omega (arith, y_in, is.bottom)) high) (λ i. omega (arith, i.to_right, at.1, low))

-- the steps of a loop over an area, row by row
pub first_row : (old : Picture) (a : Area) (f : ℕ → Glyph) → IsAreaOf old a → ChangesIn old a f → IsPicture old → DoneBefore old old f (a.top * old.width)
first_row old a f is only ok = before_skip old old f 0 (a.top * old.width) (before_start old f ok) (omega arith) (λ j low high. above_same old a f is only j high)

pub row_start : (old now : Picture) (a : Area) (f : ℕ → Glyph) (y : ℕ) → IsAreaOf old a → ChangesIn old a f → y < a.bottom → DoneBefore old now f (y * old.width) → DoneBefore old now f (y * old.width + a.left)
row_start old now a f y is only y_in before = before_skip old now f (y * old.width) (y * old.width + a.left) before (omega arith) (λ j low high. left_same old a f y is only y_in j low high)

pub row_end : (old now : Picture) (a : Area) (f : ℕ → Glyph) (y : ℕ) → IsAreaOf old a → ChangesIn old a f → y < a.bottom → DoneBefore old now f (y * old.width + a.right) → DoneBefore old now f ((y + 1) * old.width)
row_end old now a f y is only y_in before = before_skip old now f (y * old.width + a.right) ((y + 1) * old.width) before (omega (arith, is.right)) (λ j low high. right_same old a f y is only y_in j low high)

pub last_row : (old now : Picture) (a : Area) (rule : ℕ → ℕ → Glyph) → IsAreaOf old a → ChangesIn old a (flat old rule) → DoneBefore old now (flat old rule) (a.bottom * old.width) → now ≡ redrawn old rule
last_row old now a rule is only before =
    let all : DoneBefore old now (flat old rule) (old.width * old.height) =
    before_skip old now (flat old rule) (a.bottom * old.width) (old.width * old.height) before (omega (arith, mul-le-mul_right old.width is.bottom))
    (λ j low high. below_same old a (flat old rule) is only j low high) in
    redrawn_from old now rule all.same all.picture all.done

-- the same against the order of the rows
pub from_last_row : (old : Picture) (a : Area) (f : ℕ → Glyph) → IsAreaOf old a → ChangesIn old a f → IsPicture old → DoneFrom old old f (a.bottom * old.width)
from_last_row old a f is only ok =
    from_skip old old f (old.width * old.height) (a.bottom * old.width) (from_start old f ok) (omega (arith, mul-le-mul_right old.width is.bottom))
    (λ j low high. below_same old a f is only j low high)

pub from_row_end : (old now : Picture) (a : Area) (f : ℕ → Glyph) (y : ℕ) → IsAreaOf old a → ChangesIn old a f → y < a.bottom → DoneFrom old now f ((y + 1) * old.width) → DoneFrom old now f (y * old.width + a.right)
from_row_end old now a f y is only y_in after = from_skip old now f ((y + 1) * old.width) (y * old.width + a.right) after (omega (arith, is.right)) (λ j low high. right_same old a f y is only y_in j low high)

pub from_row_start : (old now : Picture) (a : Area) (f : ℕ → Glyph) (y : ℕ) → IsAreaOf old a → ChangesIn old a f → y < a.bottom → DoneFrom old now f (y * old.width + a.left) → DoneFrom old now f (y * old.width)
from_row_start old now a f y is only y_in after = from_skip old now f (y * old.width + a.left) (y * old.width) after (omega arith) (λ j low high. left_same old a f y is only y_in j low high)

pub from_first_row : (old now : Picture) (a : Area) (rule : ℕ → ℕ → Glyph) → IsAreaOf old a → ChangesIn old a (flat old rule) → DoneFrom old now (flat old rule) (a.top * old.width) → now ≡ redrawn old rule
from_first_row old now a rule is only after =
    let all : DoneFrom old now (flat old rule) 0 = from_skip old now (flat old rule) (a.top * old.width) 0 after (omega arith) (λ j low high. above_same old a (flat old rule) is only j high) in
    redrawn_from old now rule all.same all.picture (λ k h. all.done k (omega arith) h)
