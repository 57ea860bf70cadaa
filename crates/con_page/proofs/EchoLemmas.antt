-- What is shown of a line, cell by cell.
use Rattle.std.proofs.Common.{◌≡◌, ℕ, ℤ, pos, negsuc, ◌-ℤ◌, ◌+◌, ◌-◌, ◌*◌, ◌/◌, ◌<◌, ◌≤◌, min, Bool, true, false, cond, nat_lt, List, ◌++◌, map, length, take, drop, replicate, get_or, refl, ap, ◌∙◌, arith}
use Rattle.std.proofs.lemmas.Bool.{cond_both}
use Rattle.std.proofs.lemmas.Bool.Decides.{nat_tests}
use Rattle.std.proofs.lemmas.List.{length-take-le, length-drop, length-append, length-map, length-replicate, get_or_append_left, get_or-append_right, get_or-take, get_or-drop, get_or-map, get_or-replicate, take_all}
use Rattle.std.proofs.lemmas.List.FromFn.{fill_by_all}
use Rattle.std.proofs.lemmas.Grind.{common_steps}
use Rattle.con_units.specs.Attr.{Attribute}
use Rattle.con_units.specs.Glyph.{Glyph, cell_of}
use Rattle.std.proofs.lemmas.Int.{ints}
use Rattle.std.proofs.Math.Nat.{mul-le-mul_right, lt-div-mul-add}
use Rattle.con_units.specs.Natural.{natural}
use Rattle.con_grid.specs.Picture.{filled, lifted, part_lifted}
use Rattle.con_grid.specs.Words.Picture.{units_put, written_over, glyphs_of}
use Rattle.con_page.specs.Page.{Page, attr, blank}
use Rattle.con_page.specs.Words.Page.{IsPage}
use Rattle.con_page.specs.Echo.{rows_above, rows_past, ruled, drawn_by}
use Rattle.con_page.specs.Words.Echo.{scrolled, fallen, part_rule}
use Rattle.con_page.specs.declared.origin.Origin.{Origin}

-- ---- cells of which a part was written over

over_before : (cells part : List Glyph) (from upto i : ℕ) (d : Glyph) → from ≤ length cells → i < from → get_or (written_over cells from upto part) i d ≡ get_or cells i d
over_before cells part from upto i d inside h =
    let front : length (take from cells) ≡ from = length-take-le from cells inside in
    get_or_append_left (take from cells) (part ++ drop upto cells) d i (omega (arith, front, h)) ∙ get_or-take from cells i d h

over_inside : (cells part : List Glyph) (from upto i : ℕ) (d : Glyph) → from ≤ length cells → length part ≡ upto - from → from ≤ i → i < upto → get_or (written_over cells from upto part) i d ≡ get_or part (i - from) d
over_inside cells part from upto i d inside long h k =
    get_or-append_right (take from cells) (part ++ drop upto cells) from i d (length-take-le from cells inside) h
    ∙ get_or_append_left part (drop upto cells) d (i - from) (omega (arith, long, h, k))

over_behind : (cells part : List Glyph) (from upto i : ℕ) (d : Glyph) → from ≤ length cells → length part ≡ upto - from → from ≤ upto → upto ≤ i → get_or (written_over cells from upto part) i d ≡ get_or cells i d
over_behind cells part from upto i d inside long order h =
    let here : upto + (i - from - (upto - from)) ≡ i = omega (arith, order, h) in
    get_or-append_right (take from cells) (part ++ drop upto cells) from i d (length-take-le from cells inside) (omega (arith, order, h))
    ∙ get_or-append_right part (drop upto cells) (upto - from) (i - from) d long (omega (arith, order, h))
    ∙ get_or-drop upto cells (i - from - (upto - from)) d
    ∙ ap (λ n. get_or cells n d) here

over_length : (cells part : List Glyph) (from upto : ℕ) → from ≤ upto → upto ≤ length cells → length part ≡ upto - from → length (written_over cells from upto part) ≡ length cells
over_length cells part from upto order inside long =
    length-append (take from cells) (part ++ drop upto cells)
    ∙ rw (length-append part (drop upto cells), length-take-le from cells (omega (arith, order, inside)), long, length-drop upto cells) (omega (arith, order, inside))

-- ---- what a change of a line shows

yes_lt : (a b : ℕ) → nat_lt a b ≡ true → a < b
yes_lt a b e = grind (arith, nat_tests)

no_lt : (a b : ℕ) → nat_lt a b ≡ false → b ≤ a
no_lt a b e = grind (arith, nat_tests)

-- Place 0 stands in cell s - hid; the units from place off on are put, of which the first `skip` lie above row 0, and n
-- blanks behind them.
record Shows (cells : List Glyph) (s hid off : ℕ) (us : List ℕ) (n : ℕ) (w : Attribute) (b : Glyph) (after : List Glyph) : Type 0 where
  long : length after ≡ length cells
  cell : (i : ℕ) → i < length cells → get_or after i b ≡ cond (nat_lt (i + hid) s) (get_or cells i b) (cond (nat_lt (i + hid - s) off) (get_or cells i b) (cond (nat_lt (i + hid - s) (off + length us)) (cell_of (get_or us (i + hid - s - off) 0) w) (cond (nat_lt (i + hid - s) (off + length us + n)) b (get_or cells i b))))

abbrev put_from : ℕ → ℕ → ℕ → List ℕ → List ℕ
put_from s hid off us = drop (min (hid - (s + off)) (length us)) us

abbrev after_put : List Glyph → ℕ → ℕ → ℕ → List ℕ → Attribute → List Glyph
after_put cells s hid off us w = units_put cells (s + off - hid) (put_from s hid off us) w

abbrev after_all : List Glyph → ℕ → ℕ → ℕ → List ℕ → ℕ → Attribute → Glyph → List Glyph
after_all cells s hid off us n w b = filled (after_put cells s hid off us w) (s + off + length us - hid) (min (s + off + length us + n - hid) (length cells)) b

glyphs_length : (us : List ℕ) (w : Attribute) → length (glyphs_of us w) ≡ length us
glyphs_length us w = length-map us (λ u. cell_of u w)

put_count : (s hid off : ℕ) (us : List ℕ) → length (put_from s hid off us) ≡ length us - min (hid - (s + off)) (length us)
put_count s hid off us = length-drop (min (hid - (s + off)) (length us)) us

put_length : (cells : List Glyph) (s hid off : ℕ) (us : List ℕ) (w : Attribute) → s + (off + length us) < length cells + hid → length (after_put cells s hid off us w) ≡ length cells
unfolding units_put
put_length cells s hid off us w room =
    let count = put_count s hid off us in
    over_length cells (glyphs_of (put_from s hid off us) w) (s + off - hid) (s + off - hid + length (put_from s hid off us)) (omega arith) (omega (arith, count, room)) (glyphs_length (put_from s hid off us) w ∙ omega arith)

-- a cell before those that are put, and one behind them
put_outside : (cells : List Glyph) (s hid off : ℕ) (us : List ℕ) (w : Attribute) (i : ℕ) (d : Glyph) → s + (off + length us) < length cells + hid → i + hid < s + off → get_or (after_put cells s hid off us w) i d ≡ get_or cells i d
unfolding units_put
put_outside cells s hid off us w i d room h =
    over_before cells (glyphs_of (put_from s hid off us) w) (s + off - hid) (s + off - hid + length (put_from s hid off us)) i d (omega (arith, room)) (omega (arith, h))

put_behind : (cells : List Glyph) (s hid off : ℕ) (us : List ℕ) (w : Attribute) (i : ℕ) (d : Glyph) → s + (off + length us) < length cells + hid → s + off + length us ≤ i + hid → get_or (after_put cells s hid off us w) i d ≡ get_or cells i d
unfolding units_put
put_behind cells s hid off us w i d room h =
    let count = put_count s hid off us in
    over_behind cells (glyphs_of (put_from s hid off us) w) (s + off - hid) (s + off - hid + length (put_from s hid off us)) i d (omega (arith, room)) (glyphs_length (put_from s hid off us) w ∙ omega arith) (omega arith) (omega (arith, count, h))

put_inside : (cells : List Glyph) (s hid off : ℕ) (us : List ℕ) (w : Attribute) (i : ℕ) (d : Glyph) → s + (off + length us) < length cells + hid → s + off ≤ i + hid → i + hid < s + (off + length us) → get_or (after_put cells s hid off us w) i d ≡ cell_of (get_or us (i + hid - s - off) 0) w
unfolding units_put
put_inside cells s hid off us w i d room h k =
    let count = put_count s hid off us in
    let shown = put_from s hid off us in
    let at = i - (s + off - hid) in
    let here : min (hid - (s + off)) (length us) + at ≡ i + hid - s - off = omega (arith, h, k) in
    over_inside cells (glyphs_of shown w) (s + off - hid) (s + off - hid + length shown) i d (omega (arith, room)) (glyphs_length shown w ∙ omega arith) (omega (arith, h)) (omega (arith, count, h, k))
    ∙ get_or-map (λ u. cell_of u w) shown at 0 d (omega (arith, count, h, k))
    ∙ ap (λ u. cell_of u w) (get_or-drop (min (hid - (s + off)) (length us)) us at 0 ∙ ap (λ m. get_or us m 0) here)

shows_all : (cells : List Glyph) (s hid off : ℕ) (us : List ℕ) (n : ℕ) (w : Attribute) (b : Glyph) → s + (off + length us) < length cells + hid → Shows cells s hid off us n w b (after_all cells s hid off us n w b)
unfolding filled
shows_all cells s hid off us n w b room =
    let e : ℕ = s + off + length us - hid in
    let u : ℕ = min (s + off + length us + n - hid) (length cells) in
    let put : List Glyph = after_put cells s hid off us w in
    let long : length put ≡ length cells = put_length cells s hid off us w room in
    let inside : e ≤ length put = omega (arith, long, room) in
    let order : e ≤ u = omega (arith, room) in
    let blanks : length (replicate (u - e) b) ≡ u - e = length-replicate (u - e) b in
    let before : (i : ℕ) → i + hid < s + off → get_or (after_all cells s hid off us n w b) i b ≡ get_or cells i b =
    λ i h. over_before put (replicate (u - e) b) e u i b inside (omega (arith, h)) ∙ put_outside cells s hid off us w i b room h in
    record {
      long = over_length put (replicate (u - e) b) e u order (omega (arith, long)) blanks ∙ long;
      cell = λ i h. cond_both (nat_lt (i + hid) s) _ _ (λ v. get_or (after_all cells s hid off us n w b) i b ≡ v)
          (λ a. before i (omega (arith, yes_lt (i + hid) s a)))
          (λ a. cond_both (nat_lt (i + hid - s) off) _ _ (λ v. get_or (after_all cells s hid off us n w b) i b ≡ v)
          (λ f. before i (omega (arith, no_lt (i + hid) s a, yes_lt (i + hid - s) off f)))
          (λ f. cond_both (nat_lt (i + hid - s) (off + length us)) _ _ (λ v. get_or (after_all cells s hid off us n w b) i b ≡ v)
          (λ g. over_before put (replicate (u - e) b) e u i b inside (omega (arith, no_lt (i + hid) s a, yes_lt (i + hid - s) (off + length us) g))
          ∙ put_inside cells s hid off us w i b room (omega (arith, no_lt (i + hid) s a, no_lt (i + hid - s) off f)) (omega (arith, no_lt (i + hid) s a, yes_lt (i + hid - s) (off + length us) g)))
          (λ g. cond_both (nat_lt (i + hid - s) (off + length us + n)) _ _ (λ v. get_or (after_all cells s hid off us n w b) i b ≡ v)
          (λ j. over_inside put (replicate (u - e) b) e u i b inside blanks (omega (arith, no_lt (i + hid) s a, no_lt (i + hid - s) (off + length us) g)) (omega (arith, h, no_lt (i + hid) s a, yes_lt (i + hid - s) (off + length us + n) j))
          ∙ get_or-replicate (u - e) (i - e) b b (omega (arith, h, no_lt (i + hid) s a, no_lt (i + hid - s) (off + length us) g, yes_lt (i + hid - s) (off + length us + n) j)))
          (λ j. over_behind put (replicate (u - e) b) e u i b inside blanks order (omega (arith, h, no_lt (i + hid) s a, no_lt (i + hid - s) (off + length us + n) j))
          ∙ put_behind cells s hid off us w i b room (omega (arith, no_lt (i + hid) s a, no_lt (i + hid - s) (off + length us) g))))));
    }

-- ---- the scroll

natural_fallen : (y : ℤ) (n : ℕ) → natural (y -ℤ pos n) ≡ natural y - n
natural_fallen (pos a) n = grind (arith, ints)
natural_fallen (negsuc a) n = grind (arith, ints)

above_fallen : (y : ℤ) (n : ℕ) → rows_above (y -ℤ pos n) ≡ rows_above y + n - natural y
above_fallen (pos a) n = grind (arith, ints)
above_fallen (negsuc a) n = grind (arith, ints)

-- a row stands above row 0 or has a number
one_side : (y : ℤ) (P : ℕ → ℕ → Type 0) → ((a : ℕ) → P a 0) → ((v : ℕ) → P 0 v) → P (natural y) (rows_above y)
one_side (pos a) P f g = f a
one_side (negsuc v) P f g = g (v + 1)

-- so many rows down, the place behind a line is in the buffer
rows_fit : (y : ℤ) (q h n : ℕ) → 0 < h → n ≡ natural y + q - rows_above y - (h - 1) → natural y - n + (q + 1) ≤ h + (rows_above y + n - natural y)
rows_fit (pos a) q h n some e = omega (arith, e)
rows_fit (negsuc v) q h n some e = omega (arith, e)

room_below : (y : ℤ) (x w h end n : ℕ) → 0 < w → 0 < h → n ≡ natural y + (x + end) / w - rows_above y - (h - 1) → (natural y - n) * w + x + end < w * h + (rows_above y + n - natural y) * w
room_below y x w h end n wide tall e =
    let rows : (natural y - n + ((x + end) / w + 1)) * w ≤ (h + (rows_above y + n - natural y)) * w = mul-le-mul_right w (rows_fit y ((x + end) / w) h n tall e) in
    let last : x + end < (x + end) / w * w + w = lt-div-mul-add wide in
    omega (arith, rows, last)

pub room_for : (p q : Page) (o at : Origin) (end : ℕ) → IsPage p → IsPage q → q ≡ scrolled p o end → at ≡ fallen p o end → natural at.y * q.grid.width + at.x + end < length q.grid.cells + rows_above at.y * q.grid.width
room_for p q o at end ok new e f =
    let n : ℕ = rows_past p o end in
    let wide : 0 < p.grid.width = ok.grid.wide in
    let tall : 0 < p.grid.height = ok.grid.tall in
    rw (new.grid.cells, e, f, natural_fallen o.y n, above_fallen o.y n) (room_below o.y o.x p.grid.width p.grid.height end n wide tall refl)

none_lifted : (cells : List Glyph) (from upto n : ℕ) (b : Glyph) → from ≡ 0 → upto ≡ length cells → n ≡ 0 → cells ≡ part_lifted cells from upto n b
unfolding part_lifted lifted
none_lifted cells from upto n b e f g = rw (e, f, g) (grind (arith, common_steps))

pub none_scrolled : (p : Page) (o : Origin) (end : ℕ) → IsPage p → rows_past p o end ≡ 0 → p ≡ scrolled p o end
none_scrolled p o end ok none =
    let upto : p.grid.height * p.grid.width ≡ length p.grid.cells = omega (arith, ok.grid.cells) in
    let zero_rows : rows_past p o end * p.grid.width ≡ 0 = rw none (omega arith) in
    ap (λ (cells : List Glyph). record p { grid = record p.grid { cells = cells } }) (none_lifted p.grid.cells (0 * p.grid.width) (p.grid.height * p.grid.width) (rows_past p o end * p.grid.width) (blank p) (omega arith) upto zero_rows)

-- ---- the whole

drawn_is : (p : Page) (o : Origin) (offset n : ℕ) (us : List ℕ) (after : List Glyph) → Shows p.grid.cells (natural o.y * p.grid.width + o.x) (rows_above o.y * p.grid.width) offset us n (attr p) (blank p) after
    → record p { grid = record p.grid { cells = after } } ≡ drawn_by p o (part_rule p offset us n)
unfolding drawn_by
drawn_is p o offset n us after s =
    let f : ℕ → Glyph = λ i. ruled p o (part_rule p offset us n) i (get_or p.grid.cells i (blank p)) in
    ap (λ (cells : List Glyph). record p { grid = record p.grid { cells = cells } }) (fill_by_all f after (length p.grid.cells) (blank p) s.long s.cell)

-- the same of numbers and units that are equal to those
pub drawn_so : (p : Page) (o : Origin) (offset n : ℕ) (us part : List ℕ) (at skip e u : ℕ) (w : Attribute) → natural o.y * p.grid.width + o.x + (offset + length us) < length p.grid.cells + rows_above o.y * p.grid.width
    → at ≡ natural o.y * p.grid.width + o.x + offset - rows_above o.y * p.grid.width
    → skip ≡ min (rows_above o.y * p.grid.width - (natural o.y * p.grid.width + o.x + offset)) (length us)
    → part ≡ take (length us - skip) (drop skip us)
    → e ≡ natural o.y * p.grid.width + o.x + offset + length us - rows_above o.y * p.grid.width
    → u ≡ min (natural o.y * p.grid.width + o.x + offset + length us + n - rows_above o.y * p.grid.width) (length p.grid.cells)
    → w ≡ attr p
    → record p { grid = record p.grid { cells = filled (units_put p.grid.cells at part w) e u (blank p) } } ≡ drawn_by p o (part_rule p offset us n)
drawn_so p o offset n us part at skip e u w room at_is skip_is part_is e_is u_is w_is =
    let rest : take (length us - skip) (drop skip us) ≡ drop skip us = take_all (length us - skip) (drop skip us) (omega (arith, length-drop skip us)) in
    rw (part_is, rest, at_is, skip_is, e_is, u_is, w_is)
    (drawn_is p o offset n us _ (shows_all p.grid.cells (natural o.y * p.grid.width + o.x) (rows_above o.y * p.grid.width) offset us n (attr p) (blank p) room))
