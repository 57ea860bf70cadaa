-- Prints that end before the row does.
use Rattle.std.proofs.Common.{◌≡◌, ℕ, suc, ◌+◌, ◌-◌, ◌*◌, ◌<◌, ◌≤◌, Bool, true, false, ◌==◌, ◌&&◌, nat_lt, List, [], ◌∷◌, ◌++◌, map, length, set, take, drop, refl, sym, ap, ◌∙◌, arith, append_assoc}
use Rattle.std.specs.Prelude.{fold}
use Rattle.std.specs.List.{list_all}
use Rattle.std.proofs.lemmas.Nat.{mul-add-lt}
use Rattle.std.proofs.lemmas.Bool.Decides.{nat_tests}
use Rattle.std.proofs.lemmas.List.{take-append-drop, length-take-le, length-set, take_more_set, drop-set-lt}
use Rattle.con_grid.specs.Words.Picture.{units_put}
use Rattle.con_units.specs.Attr.{Attribute}
use Rattle.con_units.specs.Glyph.{Glyph, cell_of}
use Rattle.con_units.specs.Plain.{is_plain}
use Rattle.con_vtgram.specs.declared.item.Item.TheVariants as items
use Rattle.con_page.specs.Page.{Page, place, attr, shown, least_shift}
use Rattle.con_page.specs.Words.Page.{IsPage}
use Rattle.con_page.specs.Print.{line_of, printed, wrapped, put, advanced}
use Rattle.con_page.specs.Effect.{effect, act, follow}
use Rattle.con_page.specs.Run.{drawn, is_printed, print_next, all_printed, CanRun, run_cells, ran, run_of}

both : (a b : Bool) → (a && b) ≡ true → (a ≡ true) × (b ≡ true)
both true b h = (refl, h)
both false b h = cc

plain_is_printed : (u : ℕ) → is_plain u ≡ true → is_printed u ≡ true
plain_is_printed u h = grind (arith, nat_tests)

pub plain_printed : (us : List ℕ) → list_all is_plain us ≡ true → list_all is_printed us ≡ true
plain_printed [] h = refl
plain_printed (u ∷ us) h = let p = both (is_plain u) (list_all is_plain us) h in rw (plain_is_printed u p.0) (plain_printed us p.1)

-- ---- one print

pub still : (from size at : ℕ) → from ≤ at → at < from + size → least_shift from size at ≡ from
still from size at h k = let a : nat_lt at from ≡ false = grind (arith, nat_tests) in let b : nat_lt at (from + size) ≡ true = grind (arith, nat_tests) in rw (a, b) refl

moved : (x : ℕ) → (x + 1 == x) ≡ false
moved x = grind (arith, nat_tests)

print_one : (p : Page) (u : ℕ) → CanRun p 1 → effect p (items.Print u) ≡ run_of p (u ∷ [])
unfolding effect act printed wrapped put advanced follow shown ran
print_one p u can =
    let on : nat_lt (p.x + 1) p.grid.width ≡ true = grind (arith, nat_tests, can.inside) in
    let l : least_shift p.left p.w (p.x + 1) ≡ p.left = still p.left p.w (p.x + 1) (omega (arith, can.left)) (omega (arith, can.right)) in
    let t : least_shift p.top p.h p.y ≡ p.top = still p.top p.h p.y can.top can.bottom in
    rw (can.late, on, moved p.x, l, t) refl

less : (p : Page) (n : ℕ) → CanRun p (suc n) → CanRun p 1
less p n can = record {
  late = can.late;
  inside = omega (arith, can.inside);
  left = can.left;
  right = omega (arith, can.right);
  top = can.top;
  bottom = can.bottom;
}

onward : (p : Page) (u n : ℕ) → CanRun p (suc n) → CanRun (run_of p (u ∷ [])) n
unfolding ran
onward p u n can = record {
  late = can.late;
  inside = omega (arith, can.inside);
  left = omega (arith, can.left);
  right = omega (arith, can.right);
  top = can.top;
  bottom = can.bottom;
}

ran-more : (p : Page) (u : ℕ) (us : List ℕ) → ran (ran p (u ∷ [])) us ≡ ran p (u ∷ us)
unfolding ran
ran-more p u us =
    let x : p.x + 1 + length us ≡ p.x + suc (length us) = omega arith in
    let at : p.y * p.grid.width + (p.x + 1) ≡ p.y * p.grid.width + p.x + 1 = omega arith in
    rw (x, at) refl

same_drawn : (p : Page) (u : ℕ) (us : List ℕ) → map (drawn (run_of p (u ∷ []))) us ≡ map (drawn p) us
unfolding ran
same_drawn p u us = refl

ran-none : (p : Page) → ran p [] ≡ p
unfolding ran
ran-none p = let x : p.x + 0 ≡ p.x = omega arith in rw x refl

-- ---- prints in a row

run_is : (p : Page) (us : List ℕ) → CanRun p (length us) → all_printed p us ≡ run_of p us
unfolding all_printed
run_is p [] can = sym (ran-none p)
run_is p (u ∷ us) can =
    ap (λ (q : Page). fold print_next q us) (print_one p u (less p (length us) can))
    ∙ run_is (run_of p (u ∷ [])) us (onward p u (length us) can)
    ∙ ap (ran (run_of p (u ∷ []))) (same_drawn p u us)
    ∙ ran-more p (drawn p u) (map (drawn p) us)

-- units that are written as they are
pub as_they_are : (p : Page) (us : List ℕ) → CanRun p (length us) → p.drawing ≡ false → ran p us ≡ all_printed p us
as_they_are p us can off = ap (ran p) (sym (same us)) ∙ sym (run_is p us can)
  where
    same : (vs : List ℕ) → map (drawn p) vs ≡ vs
    same [] = refl
    same (v ∷ vs) = rw (off, same vs) refl

-- the first ones of some units
pub printed_so : (p after : Page) (units : List ℕ) (n : ℕ) → n ≤ length units → CanRun p n → p.drawing ≡ false → after ≡ ran p (take n units) → after ≡ all_printed p (take n units)
printed_so p after units n le can off e = e ∙ as_they_are p (take n units) (rw (length-take-le n units le) can) off

-- units for which lines are drawn
pub as_lines : (p : Page) (us : List ℕ) → CanRun p (length us) → p.drawing ≡ true → ran p (map line_of us) ≡ all_printed p us
as_lines p us can on = ap (ran p) (sym (same us)) ∙ sym (run_is p us can)
  where
    same : (vs : List ℕ) → map (drawn p) vs ≡ map line_of vs
    same [] = refl
    same (v ∷ vs) = rw (on, same vs) refl

pub lines_so : (p after : Page) (units : List ℕ) (n : ℕ) → n ≤ length units → CanRun p n → p.drawing ≡ true → after ≡ ran p (map line_of (take n units)) → after ≡ all_printed p (take n units)
lines_so p after units n le can on e = e ∙ as_lines p (take n units) (rw (length-take-le n units le) can) on

-- nothing is printed
pub none_printed : (p : Page) → p ≡ all_printed p []
unfolding all_printed
none_printed p = refl

over : (cells : List Glyph) (c : Glyph) (at upto : ℕ) (part : List Glyph) → at < length cells → at < upto → take (at + 1) (set cells at c) ++ (part ++ drop upto (set cells at c)) ≡ take at cells ++ ((c ∷ part) ++ drop upto cells)
over cells c at upto part inside order =
    rw (take_more_set cells at c inside, drop-set-lt upto cells at c order) (append_assoc (take at cells) (c ∷ []) (part ++ drop upto cells))

-- the units, put one by one, are put at once
pub run_cells_put : (cells : List Glyph) (at : ℕ) (w : Attribute) (us : List ℕ) → at + length us ≤ length cells → run_cells cells at w us ≡ units_put cells at us w
unfolding units_put
run_cells_put cells at w [] inside = let e : at + 0 ≡ at = omega arith in rw e (sym (take-append-drop at cells))
run_cells_put cells at w (u ∷ us) inside =
    let long = length-set cells at (cell_of u w) in
    let e : at + 1 + length us ≡ at + suc (length us) = omega arith in
    run_cells_put (set cells at (cell_of u w)) (at + 1) w us (omega (arith, long, inside))
    ∙ rw e (over cells (cell_of u w) at (at + suc (length us)) (map (λ v. cell_of v w) us) (omega (arith, inside)) (omega arith))

run_inside : (p : Page) (n : ℕ) → IsPage p → CanRun p n → place p + n ≤ length p.grid.cells
run_inside p n ok can = rw ok.grid.cells (let lt = mul-add-lt p.y p.grid.width (p.x + n) p.grid.height ok.row can.inside in omega (arith, lt))

-- the cells of the units, put from the cursor on
pub ran_put : (p : Page) (us : List ℕ) (at : ℕ) (a : Attribute) → IsPage p → CanRun p (length us) → at ≡ place p → a ≡ attr p
    → record p { grid = record p.grid { cells = units_put p.grid.cells at us a }; x = p.x + length us } ≡ ran p us
unfolding ran
ran_put p us at a ok can at_is a_is = rw (at_is, a_is, run_cells_put p.grid.cells (place p) (attr p) us (run_inside p (length us) ok can)) refl
