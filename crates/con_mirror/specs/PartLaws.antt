-- A part is whole, and each of its cells is the view's at the same place from the corner on, or a space.
use Rattle.std.proofs.Common.{◌≡◌, ℕ, zero, suc, pos, ◌+◌, ◌-◌, ◌*◌, ◌<◌, ◌≤◌, ◌≤ℤ◌, ◌<ℤ◌, Bool, true, false, List, [], ◌∷◌, append_assoc}
use Rattle.std.proofs.Common.{◌++◌, length, drop, get_or, replicate, refl, sym, ap, ◌∙◌, arith, length-append}
use Rattle.std.specs.Prelude.{◌&&◌, nat_lt, flat_map, if◌then◌else◌}
use Rattle.std.specs.List.{range_with_len}
use Rattle.std.proofs.lemmas.Bool.Decides.{nat_tests}
use Rattle.std.proofs.lemmas.List.{length-take, get_or-take, get_or-drop, get_or_append_left, get_or-append-add, get_or-replicate}
use Rattle.std.proofs.Math.Seq.{get_or-append_right}
use Rattle.std.proofs.Math.ListN.{get_or-eq_default}
use Rattle.std.proofs.Math.Nat.{mul-le-mul_right}
use Rattle.std.proofs.lemmas.List.{length-take-le}
use Rattle.std.proofs.lemmas.Int.{ints}
use Rattle.con_units.specs.Glyph.{Glyph, blank_cell}
use Rattle.con_units.specs.Natural.{natural}
use Rattle.con_units.specs.View.{row_of}
use Rattle.con_units.specs.Words.View.{IsWhole}
use Rattle.con_units.specs.declared.place.Size.{Size}
use Rattle.con_units.specs.declared.view.View.{View}
use Rattle.con_mirror.specs.Part.{corner, part_row, part}
use Rattle.con_mirror.specs.Words.Part.{cell_at}
use Rattle.con_mirror.specs.Parts.{padded, part_rows, cursor_from, left_of, top_of}

pub length-replicate : (n : ℕ) (c : Glyph) → length (replicate n c) ≡ n
length-replicate zero c = refl
length-replicate (suc n) c = ap suc (length-replicate n c)

pub length-padded : (n : ℕ) (cells : List Glyph) → length (padded n cells) ≡ n
length-padded n cells = length-take-le n (cells ++ replicate n blank_cell)
    (omega (arith, length-append cells (replicate n blank_cell), length-replicate n blank_cell))

append_none : (xs : List Glyph) → xs ++ [] ≡ xs
append_none [] = refl
append_none (x ∷ xs) = ap (λ (zs : List Glyph). x ∷ zs) (append_none xs)

-- one row more
range_more : (f : ℕ → List Glyph) (a n j : ℕ) → a + n ≡ j → flat_map f (range_with_len a (suc n)) ≡ flat_map f (range_with_len a n) ++ f j
range_more f a zero j e = let k : a ≡ j = omega (arith, e) in append_none (f a) ∙ ap f k
range_more f a (suc n) j e = let k : a + 1 + n ≡ j = omega (arith, e) in
    ap (λ (zs : List Glyph). f a ++ zs) (range_more f (a + 1) n j k) ∙ sym (append_assoc (f a) (flat_map f (range_with_len (a + 1) n)) (f j))

pub part_rows-more : (v : View) (left top w n : ℕ) → part_rows v left top w (suc n) ≡ part_rows v left top w n ++ part_row v left w (top + n)
part_rows-more v left top w n = let same : 0 + n ≡ n = omega arith in range_more (λ y. part_row v left w (top + y)) 0 n n same

pub length-part_rows : (v : View) (left top w n : ℕ) → length (part_rows v left top w n) ≡ n * w
length-part_rows v left top w zero = omega arith
length-part_rows v left top w (suc n) =
    ap (λ (rows : List Glyph). length rows) (part_rows-more v left top w n)
    ∙ length-append (part_rows v left top w n) (part_row v left w (top + n))
    ∙ omega (arith, length-part_rows v left top w n, length-padded w (drop left (row_of v.size.w v.rows (top + n))))

-- the cursor stands inside
pub within : (at n : ℕ) → 0 < n → at - (at - (n - 1)) < n
within at n some = omega arith

not_below : (n : ℕ) → pos 0 ≤ℤ pos n
not_below n = grind (arith, ints)

below : (m n : ℕ) → m < n → pos m <ℤ pos n
below m n l = grind (arith, ints)

cursor_inside : (shown : Bool) (x y w h : ℕ) → 0 < w → 0 < h → shown ≡ true
    → let c = cursor_from shown x y (corner shown x w) (corner shown y h) in
    ((pos 0 ≤ℤ c.x) × (c.x <ℤ pos w)) × ((pos 0 ≤ℤ c.y) × (c.y <ℤ pos h))
cursor_inside true x y w h a b e = (
  (not_below (x - (x - (w - 1))), below (x - (x - (w - 1))) w (within x w a)),
  (not_below (y - (y - (h - 1))), below (y - (y - (h - 1))) h (within y h b)),
)
cursor_inside false x y w h a b e = absurd (cc)

pub part_is_whole : (v : View) (size : Size) → 0 < size.w → 0 < size.h → IsWhole (part v size)
part_is_whole v size a b = record {
  cells = length-part_rows v (left_of v size.w) (top_of v size.h) size.w size.h;
  column = λ e. (cursor_inside v.visible (natural v.cursor.x) (natural v.cursor.y) size.w size.h a b e).0;
  row = λ e. (cursor_inside v.visible (natural v.cursor.x) (natural v.cursor.y) size.w size.h a b e).1;
}

-- ---- cell by cell

by_place : (n : ℕ) (row : List Glyph) (x : ℕ) → x < n → (b : Bool) → nat_lt x (length row) ≡ b
    → get_or (row ++ replicate n blank_cell) x blank_cell ≡ get_or row x blank_cell
by_place n row x l true e = get_or_append_left row (replicate n blank_cell) blank_cell x (grind (arith, nat_tests))
by_place n row x l false e =
    let past : length row ≤ x = grind (arith, nat_tests) in
    get_or-append_right row (replicate n blank_cell) x blank_cell past
    ∙ (get_or-replicate n (x - length row) blank_cell blank_cell (omega arith) ∙ sym (get_or-eq_default row blank_cell past))

-- a cell of a row that is padded with spaces
pub padded_at : (n : ℕ) (row : List Glyph) (x : ℕ) → x < n → get_or (padded n row) x blank_cell ≡ get_or row x blank_cell
padded_at n row x l = get_or-take n (row ++ replicate n blank_cell) x blank_cell l ∙ by_place n row x l (nat_lt x (length row)) refl

-- a cell of a row of a view, from a column on
in_row : (v : View) (left x y : ℕ) → IsWhole v → (a b : Bool) → nat_lt (left + x) v.size.w ≡ a → nat_lt y v.size.h ≡ b
    → get_or (drop left (row_of v.size.w v.rows y)) x blank_cell ≡ (if a && b then get_or v.rows (y * v.size.w + (left + x)) blank_cell else blank_cell)
in_row v left x y k true true e f =
    let l : left + x < v.size.w = grind (arith, nat_tests) in
    get_or-drop left (row_of v.size.w v.rows y) x blank_cell
    ∙ (get_or-take v.size.w (drop (y * v.size.w) v.rows) (left + x) blank_cell l ∙ get_or-drop (y * v.size.w) v.rows (left + x) blank_cell)
in_row v left x y k true false e f =
    let l : left + x < v.size.w = grind (arith, nat_tests) in
    let m : v.size.h ≤ y = grind (arith, nat_tests) in
    let past : length v.rows ≤ y * v.size.w + (left + x) = omega (arith, k.cells, mul-le-mul_right v.size.w m) in
    get_or-drop left (row_of v.size.w v.rows y) x blank_cell
    ∙ (get_or-take v.size.w (drop (y * v.size.w) v.rows) (left + x) blank_cell l
    ∙ (get_or-drop (y * v.size.w) v.rows (left + x) blank_cell ∙ get_or-eq_default v.rows blank_cell past))
in_row v left x y k false b e f =
    let l : v.size.w ≤ left + x = grind (arith, nat_tests) in
    let past : length (row_of v.size.w v.rows y) ≤ left + x = omega (arith, length-take v.size.w (drop (y * v.size.w) v.rows)) in
    get_or-drop left (row_of v.size.w v.rows y) x blank_cell ∙ get_or-eq_default (row_of v.size.w v.rows y) blank_cell past

-- the cell at column x and row y of the part is the view's at the same place from the corner on, or a space
by_row : (v : View) (left top w n x y : ℕ) → IsWhole v → x < w → y < suc n
    → (y < n → get_or (part_rows v left top w n) (y * w + x) blank_cell ≡ cell_at v (left + x) (top + y)) → (c : Bool) → nat_lt y n ≡ c
    → get_or (part_rows v left top w n ++ part_row v left w (top + n)) (y * w + x) blank_cell ≡ cell_at v (left + x) (top + y)
by_row v left top w n x y k a b before true e =
    let l : y < n = grind (arith, nat_tests) in
    let m : y + 1 ≤ n = omega arith in
    let inside : y * w + x < length (part_rows v left top w n) = omega (arith, length-part_rows v left top w n, mul-le-mul_right w m) in
    get_or_append_left (part_rows v left top w n) (part_row v left w (top + n)) blank_cell (y * w + x) inside ∙ before l
by_row v left top w n x y k a b before false e =
    let rows = part_rows v left top w n in
    let row = part_row v left w (top + n) in
    let l : n ≤ y = grind (arith, nat_tests) in
    let s : y ≡ n = omega arith in
    let at : y * w + x ≡ length rows + x = omega (arith, length-part_rows v left top w n, ap (λ (m : ℕ). m * w) s) in
    ap (λ (i : ℕ). get_or (rows ++ row) i blank_cell) at
    ∙ (get_or-append-add rows row x blank_cell
    ∙ (padded_at w (drop left (row_of v.size.w v.rows (top + n))) x a
    ∙ (in_row v left x (top + n) k (nat_lt (left + x) v.size.w) (nat_lt (top + n) v.size.h) refl refl
    ∙ ap (λ (m : ℕ). cell_at v (left + x) (top + m)) (sym s))))

cell_by : (v : View) (left top w n x y : ℕ) → IsWhole v → x < w → y < n
    → get_or (part_rows v left top w n) (y * w + x) blank_cell ≡ cell_at v (left + x) (top + y)
cell_by v left top w zero x y k a b = absurd (omega arith)
cell_by v left top w (suc n) x y k a b =
    ap (λ (rows : List Glyph). get_or rows (y * w + x) blank_cell) (part_rows-more v left top w n)
    ∙ by_row v left top w n x y k a b (λ l. cell_by v left top w n x y k a l) (nat_lt y n) refl

pub part_cell : (v : View) (size : Size) (x y : ℕ) → IsWhole v → x < size.w → y < size.h
    → get_or (part v size).rows (y * size.w + x) blank_cell ≡ cell_at v (left_of v size.w + x) (top_of v size.h + y)
part_cell v size x y k a b = cell_by v (left_of v size.w) (top_of v size.h) size.w size.h x y k a b
