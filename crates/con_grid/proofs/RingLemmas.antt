-- Cells whose first one may stand anywhere in their block.
use Rattle.std.proofs.Common.{◌≡◌, ℕ, ◌+◌, ◌-◌, ◌<◌, ◌≤◌, List, None, [], ◌∷◌, ◌++◌, length, take, drop, replicate, map, get_or, set, min, refl, sym, ap, ◌∙◌, append_assoc, arith}
use Rattle.std.proofs.lemmas.List.{same_lists, places, take-append-drop, length-replicate, length-map, length-take-le, length-drop, take_rest, map-append, take_more_set, drop-set-lt}
use Rattle.std.proofs.lemmas.Grind.{common_steps}
use Rattle.con_units.specs.Attr.{Attribute}
use Rattle.con_units.specs.Glyph.{Glyph, cell_of as glyph_of}
use Rattle.con_grid.specs.Picture.{Picture, lifted, lowered, filled, part_lifted, part_lowered}
use Rattle.con_grid.specs.Words.Picture.{written_over, part_of, units_put, glyphs_of}
use Rattle.con_grid.specs.Ring.{turned, copied, IsRun, IsSpot, IsIndex}
use Rattle.std.specs.List.{copy_within}

pub length-turned : (s : List Glyph) (t : ℕ) → length (turned s t) ≡ length s
unfolding turned
length-turned s t = grind (arith, places)

pub turned-none : (s : List Glyph) → turned s 0 ≡ s
unfolding turned
turned-none s = grind (arith, common_steps)

pub turned-all : (s : List Glyph) (t : ℕ) → t ≡ length s → turned s t ≡ s
unfolding turned
turned-all s t e = grind (arith, common_steps)

-- ---- another cell is the first

pub moved_low : (s : List Glyph) (t by : ℕ) → t + by ≤ length s → turned s (t + by) ≡ turned (turned s t) by
unfolding turned
moved_low s t by few = same_lists _ _ (grind (arith, places)) (λ k d h. grind (arith, places))

pub moved_high : (s : List Glyph) (t by n : ℕ) → n ≡ length s → t ≤ n → by ≤ n → n - t < by → turned s (by - (n - t)) ≡ turned (turned s t) by
unfolding turned
moved_high s t by n count inside few high = same_lists _ _ (grind (arith, places)) (λ k d h. grind (arith, places))

-- ---- cells in front of the seam

low_over : (s : List Glyph) (t from upto : ℕ) (part : List Glyph) → t ≤ length s → from ≤ upto → t + upto ≤ length s → length part ≡ upto - from
    → turned (written_over s (t + from) (t + from + (upto - from)) part) t ≡ written_over (turned s t) from upto part
unfolding turned
low_over s t from upto part inside order low long =
    same_lists _ _ (grind (arith, places)) (λ k d h. grind (arith, places))

low_part : (s : List Glyph) (t from upto : ℕ) → t ≤ length s → from ≤ upto → t + upto ≤ length s → part_of (turned s t) from upto ≡ part_of s (t + from) (t + from + (upto - from))
unfolding turned
low_part s t from upto inside order low =
    same_lists _ _ (grind (arith, places)) (λ k d h. grind (arith, places))

pub low_spot : (s : List Glyph) (t from upto : ℕ) → t ≤ length s → from ≤ upto → upto ≤ length s - t → IsSpot s t from upto (t + from)
low_spot s t from upto inside order low = record {
  inside = omega (arith, low, order, inside);
  over = λ part long. low_over s t from upto part inside order (omega (arith, low, inside)) long;
  part = low_part s t from upto inside order (omega (arith, low, inside));
}

-- ---- cells behind it

high_over : (s : List Glyph) (t from upto : ℕ) (part : List Glyph) → t ≤ length s → from ≤ upto → upto ≤ length s → length s - t ≤ from → length part ≡ upto - from
    → turned (written_over s (from - (length s - t)) (from - (length s - t) + (upto - from)) part) t ≡ written_over (turned s t) from upto part
unfolding turned
high_over s t from upto part inside order end high long =
    same_lists _ _ (grind (arith, places)) (λ k d h. grind (arith, places))

high_part : (s : List Glyph) (t from upto : ℕ) → t ≤ length s → from ≤ upto → upto ≤ length s → length s - t ≤ from → part_of (turned s t) from upto ≡ part_of s (from - (length s - t)) (from - (length s - t) + (upto - from))
unfolding turned
high_part s t from upto inside order end high =
    same_lists _ _ (grind (arith, places)) (λ k d h. grind (arith, places))

pub high_spot : (s : List Glyph) (t from upto : ℕ) → t ≤ length s → from ≤ upto → upto ≤ length s → length s - t ≤ from → IsSpot s t from upto (from - (length s - t))
high_spot s t from upto inside order end high = record {
  inside = omega (arith, end, order, inside, high);
  over = λ part long. high_over s t from upto part inside order end high long;
  part = high_part s t from upto inside order end high;
}

-- ---- all cells lifted

pub lift_turns : (s : List Glyph) (t by : ℕ) (c : Glyph) → t ≤ length s → by ≤ length s - t → turned (filled s t (t + by) c) (t + by) ≡ lifted (turned s t) by c
unfolding turned filled lifted
lift_turns s t by c inside few =
    same_lists _ _ (grind (arith, places)) (λ k d h. grind (arith, places))

-- the first cells lie on both sides of the seam
pub lift_wraps : (s : List Glyph) (t by : ℕ) (c : Glyph) → t ≤ length s → by ≤ length s → length s - t < by
    → turned (filled (filled s t (length s) c) 0 (by - (length s - t)) c) (by - (length s - t)) ≡ lifted (turned s t) by c
unfolding turned filled lifted
lift_wraps s t by c inside few over =
    same_lists _ _ (grind (arith, places)) (λ k d h. grind (arith, places))

-- no more cells are lifted than there are
pub lifted_all : (s : List Glyph) (by : ℕ) (c : Glyph) → lifted s (min by (length s)) c ≡ lifted s by c
unfolding lifted
lifted_all s by c = same_lists _ _ (grind (arith, places)) (λ k d h. grind (arith, places))

pub lifted_few : (s r : List Glyph) (t by n few : ℕ) (c : Glyph) → turned s t ≡ r → few ≡ min by n → n ≡ length s → lifted (turned s t) few c ≡ lifted r by c
lifted_few s r t by n few c same is count =
    let long : n ≡ length r = count ∙ sym (length-turned s t) ∙ ap length same in
    ap (λ (xs : List Glyph). lifted xs few c) same ∙ ap (λ k. lifted r k c) (is ∙ ap (λ k. min by k) long) ∙ lifted_all r by c

-- ---- all cells lowered

pub lower_turns : (s : List Glyph) (t by : ℕ) (c : Glyph) → t ≤ length s → by ≤ t → turned (filled s (t - by) t c) (t - by) ≡ lowered (turned s t) by c
unfolding turned filled lowered
lower_turns s t by c inside few =
    same_lists _ _ (grind (arith, places)) (λ k d h. grind (arith, places))

-- the last cells lie on both sides of the block's start
pub lower_wraps : (s : List Glyph) (t by : ℕ) (c : Glyph) → t ≤ length s → by ≤ length s → t < by
    → turned (filled (filled s (length s - (by - t)) (length s) c) 0 t c) (length s - (by - t)) ≡ lowered (turned s t) by c
unfolding turned filled lowered
lower_wraps s t by c inside few over =
    same_lists _ _ (grind (arith, places)) (λ k d h. grind (arith, places))

lowered_all : (s : List Glyph) (by : ℕ) (c : Glyph) → lowered s (min by (length s)) c ≡ lowered s by c
unfolding lowered
lowered_all s by c = same_lists _ _ (grind (arith, places)) (λ k d h. grind (arith, places))

pub lowered_few : (s r : List Glyph) (t by n few : ℕ) (c : Glyph) → turned s t ≡ r → few ≡ min by n → n ≡ length s → lowered (turned s t) few c ≡ lowered r by c
lowered_few s r t by n few c same is count =
    let long : n ≡ length r = count ∙ sym (length-turned s t) ∙ ap length same in
    ap (λ (xs : List Glyph). lowered xs few c) same ∙ ap (λ k. lowered r k c) (is ∙ ap (λ k. min by k) long) ∙ lowered_all r by c

-- ---- one cell

set_over : (s : List Glyph) (i : ℕ) (c : Glyph) → i < length s → set s i c ≡ written_over s i (i + (i + 1 - i)) (c ∷ [])
set_over s i c inside =
    let e : i + (i + 1 - i) ≡ i + 1 = omega arith in
    rw e (sym (take-append-drop (i + 1) (set s i c)) ∙ rw (take_more_set s i c inside, drop-set-lt (i + 1) s i c (omega arith)) (append_assoc (take i s) (c ∷ []) (drop (i + 1) s)))

one_long : (at : ℕ) (c : Glyph) → length (c ∷ []) ≡ at + 1 - at
one_long at c = omega arith

set_spot : (s : List Glyph) (t at i : ℕ) (c : Glyph) → IsSpot s t at (at + 1) i → at < length s → turned (set s i c) t ≡ set (turned s t) at c
set_spot s t at i c spot inside =
    let one : at + 1 - at ≡ i + 1 - i = omega arith in
    let i_in : i < length s = omega (arith, spot.inside) in
    let at_in : at < length (turned s t) = omega (arith, length-turned s t, inside) in
    let e : at + (at + 1 - at) ≡ at + 1 = omega arith in
    ap (λ (xs : List Glyph). turned xs t) (set_over s i c i_in ∙ ap (λ n. written_over s i (i + n) (c ∷ [])) (sym one))
    ∙ spot.over (c ∷ []) (one_long at c) ∙ sym (set_over (turned s t) at c at_in ∙ ap (λ n. written_over (turned s t) at n (c ∷ [])) e)

get_low : (s : List Glyph) (t at : ℕ) (d : Glyph) → t ≤ length s → at < length s - t → get_or (turned s t) at d ≡ get_or s (t + at) d
unfolding turned
get_low s t at d inside low = grind (arith, places)

get_high : (s : List Glyph) (t at : ℕ) (d : Glyph) → t ≤ length s → at < length s → length s - t ≤ at → get_or (turned s t) at d ≡ get_or s (at - (length s - t)) d
unfolding turned
get_high s t at d inside end high = grind (arith, places)

pub low_index : (s : List Glyph) (t at : ℕ) → t ≤ length s → at < length s - t → IsIndex s t at (t + at)
low_index s t at inside low = record {
  inside = omega (arith, low);
  get = λ d. get_low s t at d inside low;
  set = λ c. set_spot s t at (t + at) c (low_spot s t at (at + 1) inside (omega arith) (omega (arith, low))) (omega (arith, low));
}

pub high_index : (s : List Glyph) (t at : ℕ) → t ≤ length s → at < length s → length s - t ≤ at → IsIndex s t at (at - (length s - t))
high_index s t at inside end high = record {
  inside = omega (arith, end, high);
  get = λ d. get_high s t at d inside end high;
  set = λ c. set_spot s t at (at - (length s - t)) c (high_spot s t at (at + 1) inside (omega arith) (omega (arith, end)) high) end;
}

pub in_block : (s r : List Glyph) (t n : ℕ) → turned s t ≡ r → n ≤ length r → n ≤ length s
in_block s r t n e h = omega (arith, length-turned s t, ap length e, h)

-- ---- runs

pub front_run : (n t from count k : ℕ) → t ≤ n → from + count ≤ n → k ≡ min count (n - t - from) → IsRun n t from (from + k)
front_run n t from count k first inside is = record {
  first = first;
  order = omega arith;
  inside = omega (arith, inside, is);
  side = λ h. omega (arith, first, is, h);
}

pub back_run : (n t from count k : ℕ) → t ≤ n → from + count ≤ n → k ≡ min count (n - t - from) → IsRun n t (from + k) (from + count)
back_run n t from count k first inside is = record {
  first = first;
  order = omega (arith, is);
  inside = inside;
  side = λ h. omega (arith, first, inside, is, h);
}

-- ---- what is done at a spot

pub fill_spot : (s r : List Glyph) (t from upto at : ℕ) (c : Glyph) → IsSpot s t from upto at → turned s t ≡ r → turned (filled s at (at + (upto - from)) c) t ≡ filled r from upto c
unfolding filled
fill_spot s r t from upto at c spot same =
    let e : at + (upto - from) - at ≡ upto - from = omega arith in
    rw (e, ← same) (spot.over (replicate (upto - from) c) (length-replicate (upto - from) c))

pub units_spot : (s r : List Glyph) (t from at : ℕ) (us : List ℕ) (w : Attribute) → IsSpot s t from (from + length us) at → turned s t ≡ r → turned (units_put s at us w) t ≡ units_put r from us w
unfolding units_put
units_spot s r t from at us w spot same =
    let e : from + length us - from ≡ length us = omega arith in
    let over = rw e at (spot.over (glyphs_of us w)) in
    rw (← same) (over (length-map us (λ u. glyph_of u w)))

pub copy_spot : (s : List Glyph) (t from to n i j : ℕ) → IsSpot s t from (from + n) i → IsSpot s t to (to + n) j → turned (copy_within s i (i + n) j) t ≡ copied (turned s t) from to n
unfolding copied
copy_spot s t from to n i j source target =
    let a : i + n - i ≡ n = omega arith in
    let b : from + n - from ≡ n = omega arith in
    let d : to + n - to ≡ n = omega arith in
    let part = rw b at source.part in
    let over = rw d at target.over in
    let long : length (take n (drop i s)) ≡ n = grind (arith, places, source.inside) in
    rw (a, append_assoc (take j s) (take n (drop i s)) (drop (j + n) s)) (over (take n (drop i s)) long ∙ ap (λ (xs : List Glyph). written_over (turned s t) to (to + n) xs) (sym (rw a at part)))

none_copied : (r : List Glyph) (from to n : ℕ) → n ≡ 0 → to ≤ length r → r ≡ copied r from to n
unfolding copied
none_copied r from to n none inside =
    same_lists _ _ (grind (arith, places)) (λ k d h. grind (arith, places))

pub copied_none : (s : List Glyph) (t from to n : ℕ) → n ≡ 0 → to + n ≤ length s → turned s t ≡ copied (turned s t) from to n
copied_none s t from to n none inside = none_copied (turned s t) from to n none (omega (arith, none, inside, length-turned s t))

-- ---- what is done in two runs

pub filled_twice : (r : List Glyph) (from middle upto : ℕ) (c : Glyph) → from ≤ middle → middle ≤ upto → upto ≤ length r → filled (filled r from middle c) middle upto c ≡ filled r from upto c
unfolding filled
filled_twice r from middle upto c low high inside =
    same_lists _ _ (grind (arith, places)) (λ k d h. grind (arith, places))

written_twice : (r xs ys : List Glyph) (at n m k : ℕ) → length xs ≡ n → length ys ≡ m → at + k ≤ length r → n + m ≡ k → written_over (written_over r at (at + n) xs) (at + n) (at + n + m) ys ≡ written_over r at (at + k) (xs ++ ys)
written_twice r xs ys at n m k few rest inside all =
    same_lists _ _ (grind (arith, places)) (λ i d h. grind (arith, places))

pub units_twice : (r : List Glyph) (at k : ℕ) (us : List ℕ) (w : Attribute) → k ≤ length us → at + length us ≤ length r → units_put (units_put r at (take k us) w) (at + k) (drop k us) w ≡ units_put r at us w
unfolding units_put
units_twice r at k us w few inside =
    let f : ℕ → Glyph = λ u. glyph_of u w in
    let front : length (take k us) ≡ k = length-take-le k us few in
    let back : length (drop k us) ≡ length us - k = length-drop k us in
    let joined : map f (take k us) ++ map f (drop k us) ≡ map f us = sym (map-append f (take k us) (drop k us)) ∙ ap (λ (vs : List ℕ). map f vs) (take-append-drop k us) in
    rw (front, ← joined) (written_twice r (map f (take k us)) (map f (drop k us)) at k (length (drop k us)) (length us) (length-map (take k us) f ∙ front) (length-map (drop k us) f) inside (omega (arith, back, few)))

length-copied : (r : List Glyph) (from to n : ℕ) → from + n ≤ length r → to + n ≤ length r → length (copied r from to n) ≡ length r
unfolding copied
length-copied r from to n source target = grind (arith, places)

-- the cells in front are copied first
pub copied_upwards : (r : List Glyph) (from to n m : ℕ) → to ≤ from → from + (n + m) ≤ length r → copied (copied r from to n) (from + n) (to + n) m ≡ copied r from to (n + m)
unfolding copied
copied_upwards r from to n m up inside =
    same_lists _ _ (grind (arith, places)) (λ k d h. grind (arith, places))

-- the cells behind are copied first
pub copied_downwards : (r : List Glyph) (from to n m : ℕ) → from ≤ to → to + (n + m) ≤ length r → copied (copied r (from + n) (to + n) m) from to n ≡ copied r from to (n + m)
unfolding copied
copied_downwards r from to n m down inside =
    same_lists _ _ (grind (arith, places)) (λ k d h. grind (arith, places))

pub copied_up : (s s1 s2 s3 : List Glyph) (t from to a b n : ℕ) → turned s1 t ≡ copied (turned s t) from to a → turned s2 t ≡ copied (turned s1 t) (from + a) (to + a) (b - a) → turned s3 t ≡ copied (turned s2 t) (from + b) (to + b) (n - b)
    → to ≤ from → a ≤ b → b ≤ n → from + n ≤ length s → turned s3 t ≡ copied (turned s t) from to n
copied_up s s1 s2 s3 t from to a b n one two three up ab bn inside =
    let r = turned s t in
    let long = length-turned s t in
    let ab_is : a + (b - a) ≡ b = omega (arith, ab) in
    let bn_is : b + (n - b) ≡ n = omega (arith, bn) in
    three ∙ ap (λ (xs : List Glyph). copied xs (from + b) (to + b) (n - b)) (two ∙ ap (λ (xs : List Glyph). copied xs (from + a) (to + a) (b - a)) one
    ∙ copied_upwards r from to a (b - a) up (omega (arith, ab, bn, inside, long)) ∙ ap (λ k. copied r from to k) ab_is)
    ∙ copied_upwards r from to b (n - b) up (omega (arith, bn, inside, long)) ∙ ap (λ k. copied r from to k) bn_is

pub copied_down : (s s1 s2 s3 : List Glyph) (t from to a b n : ℕ) → turned s1 t ≡ copied (turned s t) (from + b) (to + b) (n - b) → turned s2 t ≡ copied (turned s1 t) (from + a) (to + a) (b - a) → turned s3 t ≡ copied (turned s2 t) from to a
    → from ≤ to → a ≤ b → b ≤ n → to + n ≤ length s → turned s3 t ≡ copied (turned s t) from to n
copied_down s s1 s2 s3 t from to a b n one two three down ab bn inside =
    let r = turned s t in
    let long = length-turned s t in
    let ab_is : a + (b - a) ≡ b = omega (arith, ab) in
    let bn_is : b + (n - b) ≡ n = omega (arith, bn) in
    three ∙ ap (λ (xs : List Glyph). copied xs from to a) (two ∙ ap (λ (xs : List Glyph). copied xs (from + a) (to + a) (b - a)) one)
    ∙ rest r long ab_is bn_is
  where
    rest : (r : List Glyph) → length r ≡ length s → a + (b - a) ≡ b → b + (n - b) ≡ n → copied (copied (copied r (from + b) (to + b) (n - b)) (from + a) (to + a) (b - a)) from to a ≡ copied r from to n
    rest r long ab_is bn_is =
        let same : length (copied r (from + b) (to + b) (n - b)) ≡ length r = length-copied r (from + b) (to + b) (n - b) (omega (arith, down, bn, inside, long)) (omega (arith, bn, inside, long)) in
        copied_downwards (copied r (from + b) (to + b) (n - b)) from to a (b - a) down (omega (arith, ab, bn, inside, long, same))
        ∙ rw ab_is (copied_downwards r from to b (n - b) down (omega (arith, bn, inside, long)))
        ∙ ap (λ k. copied r from to k) bn_is

pub filled_in_two : (s s1 s2 : List Glyph) (t from middle upto : ℕ) (c : Glyph) → turned s1 t ≡ filled (turned s t) from middle c → turned s2 t ≡ filled (turned s1 t) middle upto c → from ≤ middle → middle ≤ upto → upto ≤ length s
    → turned s2 t ≡ filled (turned s t) from upto c
filled_in_two s s1 s2 t from middle upto c one two low high inside =
    two ∙ ap (λ (xs : List Glyph). filled xs middle upto c) one ∙ filled_twice (turned s t) from middle upto c low high (omega (arith, inside, length-turned s t))

pub front_units : (s r : List Glyph) (t at k : ℕ) (us : List ℕ) → turned s t ≡ r → t ≤ length s → at + length us ≤ length r → k ≡ min (length us) (length s - t - at) → IsRun (length s) t at (at + length (take k us))
front_units s r t at k us same first inside is =
    let few : length (take k us) ≡ k = length-take-le k us (omega (arith, is)) in
    rw few (front_run (length s) t at (length us) k first (in_block s r t (at + length us) same inside) is)

pub back_units : (s s1 r : List Glyph) (t at k : ℕ) (us : List ℕ) → turned s t ≡ r → length s1 ≡ length s → t ≤ length s → at + length us ≤ length r → k ≡ min (length us) (length s - t - at) → IsRun (length s1) t (at + k) (at + k + length (take (length us - k) (drop k us)))
back_units s s1 r t at k us same long first inside is =
    let rest : at + k + length (drop k us) ≡ at + length us = omega (arith, length-drop k us, is) in
    rw (take_rest us k, rest, long) (back_run (length s) t at (length us) k first (in_block s r t (at + length us) same inside) is)

pub units_in_two : (s s1 s2 r : List Glyph) (t at k : ℕ) (us : List ℕ) (w : Attribute) → turned s t ≡ r → turned s1 t ≡ units_put (turned s t) at (take k us) w → turned s2 t ≡ units_put (turned s1 t) (at + k) (take (length us - k) (drop k us)) w
    → k ≤ length us → at + length us ≤ length r → turned s2 t ≡ units_put r at us w
units_in_two s s1 s2 r t at k us w same one two few inside =
    two ∙ ap (λ (vs : List ℕ). units_put (turned s1 t) (at + k) vs w) (take_rest us k)
    ∙ ap (λ (xs : List Glyph). units_put xs (at + k) (drop k us) w) (one ∙ ap (λ (xs : List Glyph). units_put xs at (take k us) w) same)
    ∙ units_twice r at k us w few inside

-- ---- parts

-- the others are copied to where they stand once all are lifted or lowered
lifted_over : (r xs : List Glyph) (from upto by : ℕ) (c : Glyph) → length xs ≡ by → from + by ≤ upto → upto ≤ length r
    → filled (copied (take from r ++ (drop (from + by) r ++ xs)) (upto - by) upto (length r - upto)) (upto - by) upto c ≡ part_lifted r from upto by c
unfolding copied filled part_lifted lifted
lifted_over r xs from upto by c long few inside =
    same_lists _ _ (grind (arith, places)) (λ k d h. grind (arith, places))

front_lowered : (r : List Glyph) (from by : ℕ) → from + by ≤ length r → turned (copied r 0 by from) by ≡ take from r ++ (drop (from + by) r ++ take by (copied r 0 by from))
unfolding copied turned
front_lowered r from by few = same_lists _ _ (grind (arith, places)) (λ k d h. grind (arith, places))

lowered_over : (r xs : List Glyph) (from upto by : ℕ) (c : Glyph) → length xs ≡ by → from + by ≤ upto → upto ≤ length r
    → filled (copied (xs ++ (take (upto - by) r ++ drop upto r)) by 0 from) from (from + by) c ≡ part_lowered r from upto by c
unfolding copied filled part_lowered lowered
lowered_over r xs from upto by c long few inside =
    same_lists _ _ (grind (arith, places)) (λ k d h. grind (arith, places))

back_lifted : (r : List Glyph) (upto by : ℕ) → by ≤ upto → upto ≤ length r
    → turned (copied r upto (upto - by) (length r - upto)) (length r - by) ≡ drop (length r - by) (copied r upto (upto - by) (length r - upto)) ++ (take (upto - by) r ++ drop upto r)
unfolding copied turned
back_lifted r upto by few inside = same_lists _ _ (grind (arith, places)) (λ k d h. grind (arith, places))

pub most_lifted : (s s1 s2 s3 : List Glyph) (t u from upto by n : ℕ) (c : Glyph) → n ≡ length s → length s1 ≡ length s → ((block : List Glyph) → length block ≡ n → turned block u ≡ turned (turned block t) by)
    → turned s1 t ≡ copied (turned s t) 0 by from → turned s2 u ≡ copied (turned s1 u) (upto - by) upto (n - upto) → turned s3 u ≡ filled (turned s2 u) (upto - by) upto c
    → from + by ≤ upto → upto ≤ length s → turned s3 u ≡ part_lifted (turned s t) from upto by c
most_lifted s s1 s2 s3 t u from upto by n c count same move one two three few inside =
    let r = turned s t in
    let long : length s ≡ length r = sym (length-turned s t) in
    let first : length (take by (copied r 0 by from)) ≡ by = length-take-le by (copied r 0 by from) (omega (arith, few, inside, long, length-copied r 0 by from (omega (arith, few, inside, long)) (omega (arith, few, inside, long)))) in
    three ∙ ap (λ (xs : List Glyph). filled xs (upto - by) upto c) (two ∙ ap (λ (xs : List Glyph). copied xs (upto - by) upto (n - upto)) (move s1 (same ∙ sym count) ∙ ap (λ (xs : List Glyph). turned xs by) one ∙ front_lowered r from by (omega (arith, few, inside, long))))
    ∙ ap (λ k. filled (copied (take from r ++ (drop (from + by) r ++ take by (copied r 0 by from))) (upto - by) upto (k - upto)) (upto - by) upto c) (count ∙ long)
    ∙ lifted_over r (take by (copied r 0 by from)) from upto by c first few (omega (arith, inside, long))

pub most_lowered : (s s1 s2 s3 : List Glyph) (t u from upto by n : ℕ) (c : Glyph) → n ≡ length s → length s1 ≡ length s → ((block : List Glyph) → length block ≡ n → turned block u ≡ turned (turned block t) (n - by))
    → turned s1 t ≡ copied (turned s t) upto (upto - by) (n - upto) → turned s2 u ≡ copied (turned s1 u) by 0 from → turned s3 u ≡ filled (turned s2 u) from (from + by) c
    → from + by ≤ upto → upto ≤ length s → turned s3 u ≡ part_lowered (turned s t) from upto by c
most_lowered s s1 s2 s3 t u from upto by n c count same move one two three few inside =
    let r = turned s t in
    let long : n ≡ length r = count ∙ sym (length-turned s t) in
    let lifted_back : List Glyph = copied r upto (upto - by) (length r - upto) in
    let last : length (drop (length r - by) lifted_back) ≡ by = length-drop (length r - by) lifted_back ∙ omega (arith, few, inside, count, long, length-copied r upto (upto - by) (length r - upto) (omega (arith, few, inside, count, long)) (omega (arith, few, inside, count, long))) in
    let moved_is : turned s1 u ≡ turned lifted_back (length r - by) = move s1 (same ∙ sym count) ∙ ap (λ (xs : List Glyph). turned xs (n - by)) one ∙ ap (λ k. turned (copied r upto (upto - by) (k - upto)) (k - by)) long in
    three ∙ ap (λ (xs : List Glyph). filled xs from (from + by) c) (two ∙ ap (λ (xs : List Glyph). copied xs by 0 from) (moved_is ∙ back_lifted r upto by (omega (arith, few)) (omega (arith, inside, count, long))))
    ∙ lowered_over r (drop (length r - by) lifted_back) from upto by c last few (omega (arith, inside, count, long))

-- no more cells are lifted or lowered than the part has
pub part_lift_few : (r q : List Glyph) (from upto by few : ℕ) (c : Glyph) → from ≤ upto → upto ≤ length r → few ≡ min by (upto - from) → q ≡ part_lifted r from upto few c → q ≡ part_lifted r from upto by c
unfolding part_lifted
part_lift_few r q from upto by few c order inside is e =
    let long : length (part_of r from upto) ≡ upto - from = grind (arith, places) in
    e ∙ ap (λ (xs : List Glyph). written_over r from upto xs) (ap (λ k. lifted (part_of r from upto) k c) (is ∙ ap (λ k. min by k) (sym long)) ∙ lifted_all (part_of r from upto) by c)

pub part_lower_few : (r q : List Glyph) (from upto by few : ℕ) (c : Glyph) → from ≤ upto → upto ≤ length r → few ≡ min by (upto - from) → q ≡ part_lowered r from upto few c → q ≡ part_lowered r from upto by c
unfolding part_lowered
part_lower_few r q from upto by few c order inside is e =
    let long : length (part_of r from upto) ≡ upto - from = grind (arith, places) in
    e ∙ ap (λ (xs : List Glyph). written_over r from upto xs) (ap (λ k. lowered (part_of r from upto) k c) (is ∙ ap (λ k. min by k) (sym long)) ∙ lowered_all (part_of r from upto) by c)

-- what is done to the part that is all cells
over_all : (xs : List Glyph) (f : List Glyph → List Glyph) → written_over xs 0 (length xs) (f (part_of xs 0 (length xs))) ≡ f xs
over_all xs f =
    let part : part_of xs 0 (length xs) ≡ xs = grind (arith, common_steps) in
    let past : drop (length xs) xs ≡ [] = grind (arith, common_steps) in
    rw (part, past) (append_none (f xs))
  where
    append_none : (zs : List Glyph) → zs ++ [] ≡ zs
    append_none zs = grind (arith, common_steps)

over_part : (xs : List Glyph) (from upto : ℕ) (f : List Glyph → List Glyph) → from ≤ upto → upto ≤ length xs → upto - from ≡ length xs → written_over xs from upto (f (part_of xs from upto)) ≡ f xs
over_part xs from upto f order inside all =
    let none : from ≡ 0 = omega (arith, order, inside, all) in
    let end : upto ≡ length xs = omega (arith, order, inside, all) in
    rw (none, end) (over_all xs f)

pub part_lift : (r : List Glyph) (from upto by few : ℕ) (c : Glyph) → from ≤ upto → upto ≤ length r → few ≡ min by (upto - from) → filled (copied r (from + few) from (upto - from - few)) (upto - few) upto c ≡ part_lifted r from upto by c
unfolding copied filled part_lifted lifted
part_lift r from upto by few c order inside is =
    same_lists _ _ (grind (arith, places)) (λ k d h. grind (arith, places))

pub part_lower : (r : List Glyph) (from upto by few : ℕ) (c : Glyph) → from ≤ upto → upto ≤ length r → few ≡ min by (upto - from) → filled (copied r from (from + few) (upto - from - few)) from (from + few) c ≡ part_lowered r from upto by c
unfolding copied filled part_lowered lowered
part_lower r from upto by few c order inside is =
    same_lists _ _ (grind (arith, places)) (λ k d h. grind (arith, places))

pub part_lift_is : (s s1 s2 r : List Glyph) (t from upto by few : ℕ) (c : Glyph) → turned s t ≡ r → turned s1 t ≡ copied (turned s t) (from + few) from (upto - from - few) → turned s2 t ≡ filled (turned s1 t) (upto - few) upto c
    → from ≤ upto → upto ≤ length r → few ≡ min by (upto - from) → turned s2 t ≡ part_lifted r from upto by c
part_lift_is s s1 s2 r t from upto by few c same one two order inside is =
    two ∙ ap (λ (xs : List Glyph). filled xs (upto - few) upto c) (one ∙ ap (λ (xs : List Glyph). copied xs (from + few) from (upto - from - few)) same) ∙ part_lift r from upto by few c order inside is

pub part_lower_is : (s s1 s2 r : List Glyph) (t from upto by few : ℕ) (c : Glyph) → turned s t ≡ r → turned s1 t ≡ copied (turned s t) from (from + few) (upto - from - few) → turned s2 t ≡ filled (turned s1 t) from (from + few) c
    → from ≤ upto → upto ≤ length r → few ≡ min by (upto - from) → turned s2 t ≡ part_lowered r from upto by c
part_lower_is s s1 s2 r t from upto by few c same one two order inside is =
    two ∙ ap (λ (xs : List Glyph). filled xs from (from + few) c) (one ∙ ap (λ (xs : List Glyph). copied xs from (from + few) (upto - from - few)) same) ∙ part_lower r from upto by few c order inside is

pub part_whole : (xs : List Glyph) (by : ℕ) (c : Glyph) → part_lifted xs 0 (length xs) by c ≡ lifted xs by c
unfolding part_lifted
part_whole xs by c = over_all xs (λ ys. lifted ys by c)

pub part_all : (xs r : List Glyph) (from upto by : ℕ) (c : Glyph) → from ≤ upto → upto ≤ length xs → upto - from ≡ length xs → r ≡ lifted xs by c → r ≡ part_lifted xs from upto by c
unfolding part_lifted
part_all xs r from upto by c order inside all is = is ∙ sym (over_part xs from upto (λ ys. lifted ys by c) order inside all)

pub part_all_lowered : (xs r : List Glyph) (from upto by : ℕ) (c : Glyph) → from ≤ upto → upto ≤ length xs → upto - from ≡ length xs → r ≡ lowered xs by c → r ≡ part_lowered xs from upto by c
unfolding part_lowered
part_all_lowered xs r from upto by c order inside all is = is ∙ sym (over_part xs from upto (λ ys. lowered ys by c) order inside all)

pub with_same : (q p : Picture) (xs ys : List Glyph) → q ≡ record p { cells = xs } → xs ≡ ys → q ≡ record p { cells = ys }
with_same q p xs ys e same = e ∙ rw same refl

pub made_same : (q : Picture) (w h m n : ℕ) (xs ys : List Glyph) → q ≡ record { width = w; height = h; cells = xs; now = m; moment = None } → m ≡ n → xs ≡ ys → q ≡ record { width = w; height = h; cells = ys; now = n; moment = None }
made_same q w h m n xs ys e number same = e ∙ rw (number, same) refl
