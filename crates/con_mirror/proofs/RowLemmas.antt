-- Rows of a part, cell by cell and row by row.
use Rattle.std.proofs.Common.{◌≡◌, ℕ, zero, suc, ◌+◌, ◌-◌, ◌*◌, ◌<◌, ◌≤◌, Bool, true, false, List, [], ◌∷◌, ◌++◌, length, take, drop, get_or, replicate, inl, inr, refl, sym, ap, subst, ◌∙◌, append_assoc, arith, length-append, length-drop}
use Rattle.std.proofs.lemmas.List.{drop-take, drop-drop, take_at, drop_at, take_more, take_all, take_rest, length-set, get_or-set_same, get_or-set_other, take-append-drop, take-append-le, drop-append-le, length-take-le}
use Rattle.std.proofs.Math.Seq.{take-append-add, drop-append_seam}
use Rattle.std.proofs.lemmas.Grind.{replicate_next}
use Rattle.std.proofs.lemmas.Bool.{cases_eq}
use Rattle.std.proofs.Math.Nat.{mul-le-mul_right}
use Rattle.std.proofs.Common.{set}
use Rattle.std.proofs.Math.Seq.{paste}
use Rattle.std.proofs.lemmas.List.Edits.{paste_more}
use Rattle.con_units.specs.Glyph.{Glyph, blank_cell}
use Rattle.con_units.specs.View.{row_of}
use Rattle.con_units.specs.declared.view.View.{View}
use Rattle.con_mirror.specs.Inside.{IsSince}
use Rattle.con_mirror.specs.Part.{part_row}
use Rattle.con_mirror.specs.Parts.{padded, part_rows}
use Rattle.con_mirror.specs.PartLaws.{part_rows-more, length-part_rows, length-padded, padded_at}

-- the cells of a row from a column on stand together
pub row_is : (cells : List Glyph) (w left y : ℕ) → left < w → take (y * w + w - (y * w + left)) (drop (y * w + left) cells) ≡ drop left (row_of w cells y)
row_is cells w left y l =
    let k : y * w + w - (y * w + left) ≡ w - left = omega arith in
    let m : left + (w - left) ≡ w = omega arith in
    ap (λ (n : ℕ). take n (drop (y * w + left) cells)) k
    ∙ (ap (λ (xs : List Glyph). take (w - left) xs) (sym (drop-drop left (y * w) cells))
    ∙ (sym (drop-take left (w - left) (drop (y * w) cells)) ∙ ap (λ (n : ℕ). drop left (take n (drop (y * w) cells))) m))

-- one more cell
pub put_more : (old row now : List Glyph) (at n x : ℕ) (c : Glyph) → x < n → at + n ≤ length old
    → now ≡ paste old at (padded n row) x → c ≡ get_or row x blank_cell
    → set now (at + x) c ≡ paste old at (padded n row) (x + 1)
put_more old row now at n x c l room e i =
    let long = length-padded n row in
    rw (e, i, ← padded_at n row x l) (paste_more old at (padded n row) x blank_cell (omega arith) (omega (arith, long)))

-- one more row
pub rows_more : (v : View) (left top w y : ℕ) (cells old : List Glyph) → cells ≡ part_rows v left top w y ++ drop (y * w) old
    → take (y * w) cells ++ (part_row v left w (top + y) ++ drop (y * w + w) cells) ≡ part_rows v left top w (y + 1) ++ drop ((y + 1) * w) old
rows_more v left top w y cells old e =
    let rows = part_rows v left top w y in
    let row = part_row v left w (top + y) in
    let long = length-part_rows v left top w y in
    let front : take (y * w) cells ≡ rows = ap (λ (xs : List Glyph). take (y * w) xs) e ∙ take_at rows (drop (y * w) old) (y * w) long in
    let back : drop (y * w + w) cells ≡ drop (y * w + w) old =
    sym (drop-drop w (y * w) cells) ∙ (ap (λ (xs : List Glyph). drop w (drop (y * w) xs)) e
    ∙ (ap (λ (xs : List Glyph). drop w xs) (drop_at rows (drop (y * w) old) (y * w) long) ∙ drop-drop w (y * w) old)) in
    let more : y * w + w ≡ (y + 1) * w = omega arith in
    let next : y + 1 ≡ suc y = omega arith in
    rw (front, back, more, next, part_rows-more v left top w y) (sym (append_assoc rows row (drop (suc y * w) old)))

pub no_rows : (old : List Glyph) (w : ℕ) → old ≡ [] ++ drop (0 * w) old
no_rows old w = let z : 0 ≡ 0 * w = omega arith in ap (λ (n : ℕ). drop n old) z

drop_past : (xs : List Glyph) (n : ℕ) → length xs ≤ n → drop n xs ≡ []
drop_past [] zero h = refl
drop_past [] (suc n) h = refl
drop_past (x ∷ xs) zero h = absurd (omega arith)
drop_past (x ∷ xs) (suc n) h = drop_past xs n (omega arith)

append_none : (xs : List Glyph) → xs ++ [] ≡ xs
append_none [] = refl
append_none (x ∷ xs) = ap (λ (zs : List Glyph). x ∷ zs) (append_none xs)

-- all rows
pub rows_all : (v : View) (left top w h : ℕ) (cells old : List Glyph) → length old ≡ h * w → cells ≡ part_rows v left top w h ++ drop (h * w) old
    → cells ≡ part_rows v left top w h
rows_all v left top w h cells old long e =
    let rows = part_rows v left top w h in
    e ∙ (ap (λ (xs : List Glyph). rows ++ xs) (drop_past old (h * w) (omega (arith, long))) ∙ append_none rows)

-- ---- a row that is there already

-- one cell more is the same
pub same_more : (a b : List Glyph) (x : ℕ) (c d : Glyph) → x < length a → length a ≡ length b → c ≡ get_or a x c → d ≡ get_or b x d → c ≡ d → take x a ≡ take x b → take (x + 1) a ≡ take (x + 1) b
same_more a b x c d below long ec ed same before =
    let within : x < length b = omega arith in
    take_more a x c below ∙ ap (λ z. take x a ++ z ∷ []) (sym ec ∙ same ∙ ed) ∙ ap (λ (xs : List Glyph). xs ++ get_or b x d ∷ []) before ∙ sym (take_more b x d within)

pub same_end : (a b : List Glyph) (x : ℕ) → length a ≤ x → length a ≡ length b → take x a ≡ take x b → a ≡ b
same_end a b x end long e = sym (take_all x a end) ∙ e ∙ take_all x b (omega (arith, end, long))

-- one more is blank
pub blank_more : (a : List Glyph) (x : ℕ) (c d : Glyph) → x < length a → c ≡ get_or a x c → c ≡ d → d ≡ blank_cell → take x a ≡ replicate x blank_cell → take (x + 1) a ≡ replicate (x + 1) blank_cell
blank_more a x c d below ec same is before =
    take_more a x c below ∙ ap (λ z. take x a ++ z ∷ []) (sym ec ∙ same ∙ is) ∙ ap (λ (xs : List Glyph). xs ++ blank_cell ∷ []) before ∙ sym (replicate_next x blank_cell)

pub blank_end : (a : List Glyph) (x : ℕ) → length a ≡ x → take x a ≡ replicate x blank_cell → a ≡ replicate (length a) blank_cell
blank_end a x end e = let all : length a ≤ x = omega arith in sym (take_all x a all) ∙ e ∙ ap (λ n. replicate n blank_cell) (sym end)

-- a row that is as long as its cells or longer
pub stands_long : (cells row : List Glyph) → length cells ≤ length row → cells ≡ take (length cells) row → padded (length cells) row ≡ cells
stands_long cells row long same = take-append-le (length cells) row (replicate (length cells) blank_cell) long ∙ sym same

fewer : (k n : ℕ) → k ≤ n → take k (replicate n blank_cell) ≡ replicate k blank_cell
fewer zero n few = refl
fewer (suc k) zero few = absurd (omega arith)
fewer (suc k) (suc n) few = ap (λ (xs : List Glyph). blank_cell ∷ xs) (fewer k n (omega arith))

-- a shorter one, with spaces behind it
pub stands_short : (cells row : List Glyph) → length row ≤ length cells → take (length row) cells ≡ row → drop (length row) cells ≡ replicate (length (drop (length row) cells)) blank_cell → padded (length cells) row ≡ cells
stands_short cells row short same blank =
    let n : ℕ = length cells in
    let k : ℕ = n - length row in
    let all : n ≡ length row + k = omega arith in
    let rest : length (drop (length row) cells) ≡ k = length-drop (length row) cells in
    ap (λ (m : ℕ). take m (row ++ replicate n blank_cell)) all ∙ take-append-add row (replicate n blank_cell) k ∙ ap (λ (xs : List Glyph). row ++ xs) (fewer k n (omega arith))
    ∙ ap (λ (xs : List Glyph). row ++ xs) (sym (blank ∙ ap (λ (m : ℕ). replicate m blank_cell) rest)) ∙ ap (λ (xs : List Glyph). xs ++ drop (length row) cells) (sym same) ∙ take-append-drop (length row) cells

-- the cells behind a place, as the code cuts them
pub blank_rest : (cells : List Glyph) (n : ℕ) → take (length cells - n) (drop n cells) ≡ replicate (length (take (length cells - n) (drop n cells))) blank_cell → drop n cells ≡ replicate (length (drop n cells)) blank_cell
blank_rest cells n h = subst (λ (xs : List Glyph). xs ≡ replicate (length xs) blank_cell) (take_rest cells n) h

-- as the code cuts it
pub cut : (cells : List Glyph) (at n : ℕ) → take (at + n - at) (drop at cells) ≡ take n (drop at cells)
cut cells at n = let e : at + n - at ≡ n = omega arith in ap (λ (m : ℕ). take m (drop at cells)) e

pub cut_long : (cells : List Glyph) (at n : ℕ) → at + n ≤ length cells → length (take n (drop at cells)) ≡ n
cut_long cells at n room = length-take-le n (drop at cells) (rw (length-drop at cells) (omega arith))

pub stands_there : (cells row part : List Glyph) (at n : ℕ) → at + n ≤ length cells → part ≡ take (at + n - at) (drop at cells) → padded (length part) row ≡ part → padded n row ≡ take n (drop at cells)
stands_there cells row part at n room is same =
    let here : part ≡ take n (drop at cells) = is ∙ cut cells at n in
    let long : length part ≡ n = ap (λ (xs : List Glyph). length xs) here ∙ cut_long cells at n room in
    ap (λ (m : ℕ). padded m row) (sym long) ∙ same ∙ here

pub stays : (old row : List Glyph) (from n : ℕ) → row ≡ take n (drop from old) → old ≡ take from old ++ (row ++ drop (from + n) old)
stays old row from n is =
    let back : row ++ drop (from + n) old ≡ drop from old =
    ap (λ (xs : List Glyph). xs ++ drop (from + n) old) is ∙ ap (λ (xs : List Glyph). take n (drop from old) ++ xs) (sym (drop-drop n from old)) ∙ take-append-drop n (drop from old) in
    sym (ap (λ (xs : List Glyph). take from old ++ xs) back ∙ take-append-drop from old)

-- ---- rows that are marked

-- row y of a part
pub part_row_of : (v : View) (left top w n y : ℕ) → y < n → row_of w (part_rows v left top w n) y ≡ part_row v left w (top + y)
part_row_of v left top w zero y below = absurd (omega arith)
part_row_of v left top w (suc n) y below = let last : row_of w (part_rows v left top w n ++ part_row v left w (top + n)) y ≡ part_row v left w (top + y) = elim (cases_eq y n) [
  | inl e ↦
      let front : List Glyph = part_rows v left top w n in
      let row : List Glyph = part_row v left w (top + n) in
      let before : length front ≡ y * w = length-part_rows v left top w n ∙ ap (λ k. k * w) (sym e) in
      let long : length row ≤ w = omega (arith, length-padded w (drop left (row_of v.size.w v.rows (top + n)))) in
      ap (λ k. take w (drop k (front ++ row))) (sym before) ∙ ap (λ (l : List Glyph). take w l) (drop-append_seam front row) ∙ take_all w row long ∙ ap (λ k. part_row v left w (top + k)) (sym e)
  | inr ne ↦
      let front : List Glyph = part_rows v left top w n in
      let row : List Glyph = part_row v left w (top + n) in
      let full : length front ≡ n * w = length-part_rows v left top w n in
      let next : y + 1 ≤ n = omega arith in
      let room : y * w + w ≤ n * w = omega (arith, mul-le-mul_right w next) in
      let rest : w ≤ length (drop (y * w) front) = rw (length-drop (y * w) front) (omega (arith, full, room)) in
      ap (λ (l : List Glyph). take w l) (drop-append-le (y * w) front row (omega (arith, full, room))) ∙ take-append-le w (drop (y * w) front) row rest ∙ part_row_of v left top w n y (omega arith)
] in ap (λ (rows : List Glyph). row_of w rows y) (part_rows-more v left top w n) ∙ last

-- the first y rows: one without a mark is as it was
pub record Renewed (v : View) (left top w y : ℕ) (now old : List Glyph) (marks : List Bool) (h : ℕ) : Type 0 where
  pub cells : now ≡ part_rows v left top w y ++ drop (y * w) old
  pub count : length marks ≡ h
  pub same : (k : ℕ) → k < y → get_or marks k false ≡ false → part_row v left w (top + k) ≡ row_of w old k

-- behind them nothing changed
rest_same : (v : View) (left top w y : ℕ) (cells old : List Glyph) → cells ≡ part_rows v left top w y ++ drop (y * w) old → drop (y * w) cells ≡ drop (y * w) old
rest_same v left top w y cells old e = ap (λ (xs : List Glyph). drop (y * w) xs) e ∙ drop_at (part_rows v left top w y) (drop (y * w) old) (y * w) (length-part_rows v left top w y)

-- a row that is not looked at stands there
pub renewed_stands : (v : View) (since : List Bool) (left top w h y : ℕ) (stays wanted : Bool) (cells old : List Glyph) (marks : List Bool) → y < h → IsSince v since left top w h stays old
    → (wanted ≡ false → (stays ≡ true) × (top + y < length since) × (get_or since (top + y) false ≡ false)) → Renewed v left top w y cells old marks h → wanted ≡ false
    → part_row v left w (top + y) ≡ take w (drop (y * w) cells)
renewed_stands v since left top w h y stays wanted cells old marks below is tells k off =
    let t = tells off in is t.0 y below t.1 t.2 ∙ ap (λ (xs : List Glyph). take w xs) (sym (rest_same v left top w y cells old k.cells))

pub renewed_room : (v : View) (left top w h y : ℕ) (cells old : List Glyph) (marks : List Bool) → y < h → length old ≡ h * w → Renewed v left top w y cells old marks h → y * w + w ≤ length cells
renewed_room v left top w h y cells old marks below long k =
    let next : y + 1 ≤ h = omega arith in
    let all : length cells ≡ length (part_rows v left top w y) + length (drop (y * w) old) = ap (λ (xs : List Glyph). length xs) k.cells ∙ length-append (part_rows v left top w y) (drop (y * w) old) in
    omega (arith, all, length-part_rows v left top w y, length-drop (y * w) old, long, mul-le-mul_right w next)

pub renewed_none : (v : View) (left top w h : ℕ) (old : List Glyph) (marks : List Bool) → length marks ≡ h → Renewed v left top w 0 old old marks h
renewed_none v left top w h old marks count = record { cells = no_rows old w; count = count; same = λ k below unmarked. absurd (omega arith) }

pub renewed_more : (v : View) (left top w h y : ℕ) (cells now old : List Glyph) (marks : List Bool) (mark : Bool) → y < h → Renewed v left top w y cells old marks h
    → now ≡ take (y * w) cells ++ (part_row v left w (top + y) ++ drop (y * w + w) cells) → (mark ≡ false → part_row v left w (top + y) ≡ take w (drop (y * w) cells))
    → Renewed v left top w (y + 1) now old (set marks y mark) h
renewed_more v left top w h y cells now old marks mark below k is same = record {
  cells = is ∙ rows_more v left top w y cells old k.cells;
  count = length-set marks y mark ∙ k.count;
  same = λ i low unmarked. elim (cases_eq i y) [
    | inl e ↦
        let here : get_or (set marks y mark) y false ≡ mark = get_or-set_same marks y mark false (omega (arith, k.count)) in
        let none : mark ≡ false = sym here ∙ ap (λ (j : ℕ). get_or (set marks y mark) j false) (sym e) ∙ unmarked in
        ap (λ (j : ℕ). part_row v left w (top + j)) e ∙ same none ∙ ap (λ (xs : List Glyph). take w xs) (rest_same v left top w y cells old k.cells) ∙ ap (λ (j : ℕ). row_of w old j) (sym e)
    | inr ne ↦ k.same i (omega (arith, low, ne)) (sym (get_or-set_other marks y i mark false ne) ∙ unmarked)
  ];
}

-- all rows
pub renewed_same : (v : View) (left top w h : ℕ) (cells old : List Glyph) (marks : List Bool) → length old ≡ h * w → Renewed v left top w h cells old marks h
    → (y : ℕ) → y < h → get_or marks y false ≡ false → row_of w cells y ≡ row_of w old y
renewed_same v left top w h cells old marks long k y below unmarked =
    ap (λ (xs : List Glyph). row_of w xs y) (rows_all v left top w h cells old long k.cells) ∙ part_row_of v left top w h y below ∙ k.same y below unmarked
