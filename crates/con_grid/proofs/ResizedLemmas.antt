-- The cells of a grid of another size.
use Rattle.std.proofs.Common.{◌≡◌, ℕ, ◌+◌, ◌*◌, ◌/◌, ◌%◌, ◌<◌, ◌≤◌, nat_lt, List, length, map, get_or, refl, sym, ap, add-zero, ◌∙◌, arith}
use Rattle.std.specs.List.{range_with_len}
use Rattle.std.proofs.lemmas.List.{get_or_default, get_or_past}
use Rattle.std.proofs.lemmas.List.FromFn.{get_or-map-range_with_len, length-map-range_with_len}
use Rattle.std.proofs.lemmas.Nat.{mul-add-lt}
use Rattle.std.proofs.lemmas.Bool.{cond-true, cond-false, cond_both, lt-ltb, le-ltb}
use Rattle.std.proofs.Math.Nat.{mul-le-mul_right, mul-add-mod_self_right, mul-add-div_right, mod-eq_of_lt, div-eq_of_lt}
use Rattle.con_units.specs.Glyph.{Glyph}
use Rattle.con_grid.specs.Picture.{resized_cells}
use Rattle.con_grid.specs.Words.Picture.{cell_of}

pub cell_of_inside : (cells : List Glyph) (w x y : ℕ) (b r : Glyph) → x < w → y * w + x < length cells → r ≡ get_or cells (y * w + x) r → r ≡ cell_of cells w x y b
cell_of_inside cells w x y b r x_in at_in read = read ∙ get_or_default cells (y * w + x) r b at_in ∙ sym (cond-true (nat_lt x w) _ _ (lt-ltb x w x_in))

pub cell_of_right : (cells : List Glyph) (w x y : ℕ) (b : Glyph) → w ≤ x → b ≡ cell_of cells w x y b
cell_of_right cells w x y b out = sym (cond-false (nat_lt x w) _ _ (le-ltb x w out))

pub cell_of_below : (cells : List Glyph) (w h x y : ℕ) (b : Glyph) → length cells ≡ w * h → h ≤ y → b ≡ cell_of cells w x y b
cell_of_below cells w h x y b long out =
    let past : length cells ≤ y * w + x = omega (arith, long, mul-le-mul_right w out) in
    cond_both (nat_lt x w) (get_or cells (y * w + x) b) b (λ v. b ≡ v) (λ e. sym (get_or_past cells (y * w + x) b past)) (λ e. refl)

pub length-resized_cells : (cells : List Glyph) (ow w h lost : ℕ) (b : Glyph) → length (resized_cells cells ow w h lost b) ≡ w * h
unfolding resized_cells
length-resized_cells cells ow w h lost b = length-map-range_with_len (λ k. cell_of cells ow (k % w) (k / w + lost) b) 0 (w * h)

-- the cell of each column and row
pub resized_cell : (cells : List Glyph) (ow w h lost x y : ℕ) (b : Glyph) → 0 < w → x < w → y < h → cell_of (resized_cells cells ow w h lost b) w x y b ≡ cell_of cells ow x (y + lost) b
unfolding resized_cells
resized_cell cells ow w h lost x y b wide x_in y_in =
    let m : (y * w + x) % w ≡ x = mul-add-mod_self_right y w x ∙ mod-eq_of_lt x_in in
    let q : (y * w + x) / w ≡ y = mul-add-div_right wide y x ∙ ap (λ n. y + n) (div-eq_of_lt x_in) ∙ add-zero y in
    let f : ℕ → Glyph = λ k. cell_of cells ow (k % w) (k / w + lost) b in
    let read : get_or (map f (range_with_len 0 (w * h))) (y * w + x) b ≡ f (y * w + x) = get_or-map-range_with_len f 0 (w * h) (y * w + x) (y * w + x) b (mul-add-lt y w x h y_in x_in) (omega arith) in
    cond-true (nat_lt x w) _ _ (lt-ltb x w x_in) ∙ read ∙ ap (λ n. cell_of cells ow n ((y * w + x) / w + lost) b) m ∙ ap (λ n. cell_of cells ow x (n + lost) b) q
