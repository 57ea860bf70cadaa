-- Reading a window, row by row.
use Rattle.std.proofs.Common.{◌≡◌, ℕ, zero, suc, ◌+◌, ◌-◌, ◌*◌, ◌<◌, ◌≤◌, Some, List, [], ◌∷◌, ◌++◌, length, take, drop, get_or, set, slice_get, refl, sym, ap, subst, ◌∙◌, arith, append_assoc, append-nil, length-append, length-drop}
use Rattle.std.proofs.lemmas.List.{take_more, get_or-drop, get_or-take, length-take, length-take-le, drop-drop, take-append-drop, take_at, drop_at}
use Rattle.std.proofs.lemmas.List.Edits.{paste_more}
use Rattle.std.proofs.Math.Seq.{paste}
use Rattle.std.proofs.lemmas.Option.{get_or_from_slice_get}
use Rattle.std.proofs.lemmas.Nat.{mul-add-lt}
use Rattle.std.proofs.Math.Nat.{mul-le-mul_right}
use Rattle.con_units.specs.Glyph.{Glyph}
use Rattle.con_units.specs.View.{row_of, row_part}
use Rattle.con_grid.specs.Picture.{Picture}
use Rattle.con_grid.specs.Words.Picture.{IsPicture, IsUntouched}
use Rattle.con_screens.specs.View.{rows_in}
use Rattle.con_screens.specs.ViewLaws.{length-rows_in}

pub row_inside : (g : Picture) (y : ℕ) → IsPicture g → y < g.height → y * g.width + g.width ≤ length g.cells
row_inside g y ok h = let le : y + 1 ≤ g.height = omega arith in omega (arith, mul-le-mul_right g.width le, ok.cells)

-- y rows, and x cells of the next one
abbrev pub read_so : Picture → ℕ → ℕ → ℕ → ℕ → ℕ → List Glyph
read_so g left top w x y = rows_in g.width g.cells left top w y ++ take x (drop ((top + y) * g.width + left) g.cells)

pub read_more : (g : Picture) (left top w x y : ℕ) (cell : Glyph) (out now : List Glyph) → IsPicture g → x < w → left + w ≤ g.width → top + y < g.height → slice_get g.cells ((top + y) * g.width + (left + x)) ≡ Some cell
    → out ≡ read_so g left top w x y → now ≡ out ++ cell ∷ [] → now ≡ read_so g left top w (x + 1) y
read_more g left top w x y cell out now ok high wide tall read before is =
    let part : List Glyph = drop ((top + y) * g.width + left) g.cells in
    let within : x < length part = rw (length-drop ((top + y) * g.width + left) g.cells) (omega (arith, row_inside g (top + y) ok tall)) in
    let got : get_or part x cell ≡ cell = get_or-drop ((top + y) * g.width + left) g.cells x cell ∙ ap (λ k. get_or g.cells k cell) (omega arith) ∙ get_or_from_slice_get g.cells ((top + y) * g.width + (left + x)) cell cell read in
    let more : take (x + 1) part ≡ take x part ++ cell ∷ [] = take_more part x cell within ∙ ap (λ v. take x part ++ v ∷ []) got in
    is ∙ ap (λ (c : List Glyph). c ++ cell ∷ []) before ∙ append_assoc (rows_in g.width g.cells left top w y) (take x part) (cell ∷ []) ∙ ap (λ (c : List Glyph). rows_in g.width g.cells left top w y ++ c) (sym more)

pub read_room : (g : Picture) (left top w h x y : ℕ) → IsPicture g → x < w → left + w ≤ g.width → y < h → top + h ≤ g.height → length (read_so g left top w x y) < w * h
read_room g left top w h x y ok high wide below tall =
    let part : List Glyph = drop ((top + y) * g.width + left) g.cells in
    let e : length (rows_in g.width g.cells left top w y) ≡ y * w = length-rows_in g left top w y ok wide (omega arith) in
    let f : length (take x part) ≤ x = omega (arith, length-take x part) in
    omega (arith, length-append (rows_in g.width g.cells left top w y) (take x part), e, f, mul-add-lt y w x h below high)

-- ---- a window over the cells of the last one

-- one cell more of a row
pub read_on : (cells old now : List Glyph) (at from n x : ℕ) (c : Glyph) → x < n → at + n ≤ length cells → from + n ≤ length old → slice_get cells (at + x) ≡ Some c
    → now ≡ paste old from (take n (drop at cells)) x → set now (from + x) c ≡ paste old from (take n (drop at cells)) (x + 1)
read_on cells old now at from n x c below inside room read e =
    let row : List Glyph = take n (drop at cells) in
    let long : length row ≡ n = length-take-le n (drop at cells) (rw (length-drop at cells) (omega arith)) in
    let got : get_or row x c ≡ c = get_or-take n (drop at cells) x c below ∙ get_or-drop at cells x c ∙ get_or_from_slice_get cells (at + x) c c read in
    rw (e, ← got) (paste_more old from row x c (omega (arith, long, below)) (omega (arith, long, room)))

-- a row that is there already
pub stays : (old row : List Glyph) (from n : ℕ) → row ≡ take n (drop from old) → old ≡ take from old ++ (row ++ drop (from + n) old)
stays old row from n is =
    let back : row ++ drop (from + n) old ≡ drop from old =
    ap (λ (xs : List Glyph). xs ++ drop (from + n) old) is ∙ ap (λ (xs : List Glyph). take n (drop from old) ++ xs) (sym (drop-drop n from old)) ∙ take-append-drop n (drop from old) in
    sym (ap (λ (xs : List Glyph). take from old ++ xs) back ∙ take-append-drop from old)

-- y rows, and behind them the cells as they were
abbrev pub renewed_so : Picture → ℕ → ℕ → ℕ → ℕ → List Glyph → List Glyph
renewed_so g left top w y old = rows_in g.width g.cells left top w y ++ drop (y * w) old

pub renewed_none : (g : Picture) (left top w : ℕ) (old : List Glyph) → old ≡ renewed_so g left top w 0 old
renewed_none g left top w old = let z : 0 ≡ 0 * w = omega arith in ap (λ (n : ℕ). drop n old) z

-- behind them nothing changed
pub renewed_rest : (g : Picture) (left top w y : ℕ) (cells old : List Glyph) → IsPicture g → left + w ≤ g.width → top + y ≤ g.height → cells ≡ renewed_so g left top w y old → drop (y * w) cells ≡ drop (y * w) old
renewed_rest g left top w y cells old ok wide tall e =
    ap (λ (xs : List Glyph). drop (y * w) xs) e ∙ drop_at (rows_in g.width g.cells left top w y) (drop (y * w) old) (y * w) (length-rows_in g left top w y ok wide tall)

pub renewed_long : (g : Picture) (left top w h y : ℕ) (cells old : List Glyph) → IsPicture g → left + w ≤ g.width → top + h ≤ g.height → y < h → length old ≡ h * w → cells ≡ renewed_so g left top w y old → y * w + w ≤ length cells
renewed_long g left top w h y cells old ok wide tall below count e =
    let next : y + 1 ≤ h = omega arith in
    let high : top + y ≤ g.height = omega arith in
    let rows : length (rows_in g.width g.cells left top w y) ≡ y * w = length-rows_in g left top w y ok wide high in
    let rest : length (drop (y * w) old) ≡ length old - y * w = length-drop (y * w) old in
    let all : length cells ≡ length (rows_in g.width g.cells left top w y) + length (drop (y * w) old) = ap (λ (xs : List Glyph). length xs) e ∙ length-append (rows_in g.width g.cells left top w y) (drop (y * w) old) in
    omega (arith, all, rows, rest, count, mul-le-mul_right w next)

pub renewed_known : (g : Picture) (left top w h y : ℕ) (cells old : List Glyph) → IsPicture g → left + w ≤ g.width → top + h ≤ g.height → y < h → cells ≡ renewed_so g left top w y old
    → (IsUntouched g (top + y) → row_part g.width g.cells left w (top + y) ≡ row_of w old y) → IsUntouched g (top + y) → row_part g.width g.cells left w (top + y) ≡ take w (drop (y * w) cells)
renewed_known g left top w h y cells old ok wide tall below e known untouched =
    let high : top + y ≤ g.height = omega arith in
    known untouched ∙ ap (λ (xs : List Glyph). take w xs) (sym (renewed_rest g left top w y cells old ok wide high e))

-- one row more
pub renewed_more : (g : Picture) (left top w y : ℕ) (cells now old : List Glyph) → IsPicture g → left + w ≤ g.width → top + y < g.height → cells ≡ renewed_so g left top w y old
    → now ≡ take (y * w) cells ++ (row_part g.width g.cells left w (top + y) ++ drop (y * w + w) cells) → now ≡ renewed_so g left top w (y + 1) old
renewed_more g left top w y cells now old ok wide tall e is =
    let rows : List Glyph = rows_in g.width g.cells left top w y in
    let row : List Glyph = row_part g.width g.cells left w (top + y) in
    let high : top + y ≤ g.height = omega arith in
    let long : length rows ≡ y * w = length-rows_in g left top w y ok wide high in
    let front : take (y * w) cells ≡ rows = ap (λ (xs : List Glyph). take (y * w) xs) e ∙ take_at rows (drop (y * w) old) (y * w) long in
    let back : drop (y * w + w) cells ≡ drop (y * w + w) old =
    sym (drop-drop w (y * w) cells) ∙ ap (λ (xs : List Glyph). drop w xs) (renewed_rest g left top w y cells old ok wide high e) ∙ drop-drop w (y * w) old in
    let more : y * w + w ≡ suc y * w = omega arith in
    let next : suc y ≡ y + 1 = omega arith in
    let all : now ≡ renewed_so g left top w (suc y) old =
    is ∙ ap (λ (xs : List Glyph). xs ++ (row ++ drop (y * w + w) cells)) front ∙ ap (λ (xs : List Glyph). rows ++ (row ++ xs)) (back ∙ ap (λ (n : ℕ). drop n old) more)
    ∙ sym (append_assoc rows row (drop (suc y * w) old)) in
    subst (λ (n : ℕ). now ≡ renewed_so g left top w n old) next all

drop_past : (xs : List Glyph) (n : ℕ) → length xs ≤ n → drop n xs ≡ []
drop_past [] zero h = refl
drop_past [] (suc n) h = refl
drop_past (x ∷ xs) zero h = absurd (omega arith)
drop_past (x ∷ xs) (suc n) h = drop_past xs n (omega arith)

-- all rows
pub renewed_all : (g : Picture) (left top w h : ℕ) (cells old : List Glyph) → length old ≡ h * w → cells ≡ renewed_so g left top w h old → cells ≡ rows_in g.width g.cells left top w h
renewed_all g left top w h cells old long e =
    e ∙ ap (λ (xs : List Glyph). rows_in g.width g.cells left top w h ++ xs) (drop_past old (h * w) (omega (arith, long))) ∙ append-nil (rows_in g.width g.cells left top w h)
