-- A unit completes at most one item, and a title has at most 255 units.
use Rattle.std.proofs.Common.{◌≡◌, ℕ, ◌+◌, ◌≤◌, Bool, true, false, not, cond, ◌==◌, ◌&&◌, List, [], ◌∷◌, ◌++◌, map, take, drop, length, Option, Some, None, refl, arith, length-append}
use Rattle.std.specs.Prelude.{fold}
use Rattle.std.proofs.lemmas.List.{length-take, length-map}
use Rattle.con_units.specs.Stored.{is_control}
use Rattle.con_units.specs.Split.{Split, next, begun, split_after}
use Rattle.con_units.specs.Words.Split.{begun_again, begun_after, ended, items_or_none, read_on}
use Rattle.con_vtgram.specs.Text.{is_front, whole, kept, is_acting, is_intermediate, opens_string, ends_escape, ends_control, alone, single, csi_items, csi_ends, csi_whole, csi_first, csi_rest, is_plain, front_while, skip_while, begins_title, string_text, string_items, string_ends, string_whole, stays, nested_items, nested_ends, escape_alone, escape_whole}
use Rattle.con_vtgram.specs.Spoken.{Spoken, spoken, spoken_by, voiced, title_in, text_of}
use Rattle.con_vtgram.specs.Few.{HaveShortTitles, AreFew}
use Rattle.con_vtgram.specs.declared.item.Item.{Item}
use Rattle.con_vtgram.specs.declared.item.Item.TheVariants as items

-- ---- a whole sequence has at most one item

abbrev IsOne : Option (List Item) → Type 0
IsOne None = Unit {0}
IsOne (Some is) = length is ≤ 1

one_if : (b : Bool) (x y : Option (List Item)) → IsOne x → IsOne y → IsOne (cond b x y)
one_if true x y h k = h
one_if false x y h k = k

few_if : (b : Bool) (x y : List Item) → length x ≤ 1 → length y ≤ 1 → length (cond b x y) ≤ 1
few_if true x y h k = h
few_if false x y h k = k

none_few : length {A = Item} [] ≤ 1
none_few = omega arith

one_few : 1 ≤ 1
one_few = omega arith

alone_few : (u : ℕ) → length (alone u) ≤ 1
alone_few u = few_if (is_acting u) _ _ one_few (few_if (is_control u) _ _ none_few one_few)

csi_few : (first is : List ℕ) (last : ℕ) → length (csi_items first is last) ≤ 1
unfolding csi_items
csi_few first is last = few_if (is_plain first is) _ _ one_few none_few

csi_one : (first is rest : List ℕ) → IsOne (csi_ends first is rest)
csi_one first is [] = tt
csi_one first is (last ∷ []) = one_if (ends_control last) _ _ (csi_few first is last) tt
csi_one first is (last ∷ u ∷ us) = tt

string_few : (opener : ℕ) (body : List ℕ) → length (string_items opener body) ≤ 1
string_few opener body = few_if ((opener == 0x5D) && begins_title (string_text body)) _ _ one_few none_few

string_one : (opener : ℕ) (body rest : List ℕ) → IsOne (string_ends opener body rest)
string_one opener body [] = tt
string_one opener body (u ∷ []) = one_if (u == 7) _ _ (string_few opener body) tt
string_one opener body (u ∷ v ∷ []) = one_if ((u == 0x1B) && (v == 0x5C)) _ _ (string_few opener body) tt
string_one opener body (u ∷ v ∷ w ∷ us) = tt

nested_few : (is : List ℕ) (last : ℕ) → length (nested_items is last) ≤ 1
nested_few [] last = none_few
nested_few (u ∷ []) last = few_if (u == 0x28) _ _ one_few none_few
nested_few (u ∷ v ∷ us) last = none_few

nested_one : (is rest : List ℕ) → IsOne (nested_ends is rest)
nested_one is [] = tt
nested_one is (last ∷ []) = one_if (ends_escape last) _ _ (nested_few is last) tt
nested_one is (last ∷ u ∷ us) = tt

escape_alone_one : (u : ℕ) (us : List ℕ) → IsOne (escape_alone u us)
escape_alone_one u [] = one_if (ends_escape u && not (opens_string u)) _ _ one_few tt
escape_alone_one u (v ∷ us) = tt

escape_one : (us : List ℕ) → IsOne (escape_whole us)
escape_one [] = tt
escape_one (u ∷ us) = one_if (u == 0x5B) _ _ (csi_one (csi_first us) (front_while is_intermediate (csi_rest us)) (skip_while is_intermediate (csi_rest us)))
    (one_if (is_intermediate u) _ _ (nested_one (front_while is_intermediate (u ∷ us)) (skip_while is_intermediate (u ∷ us)))
    (one_if (opens_string u) _ _ (string_one u (front_while stays us) (skip_while stays us)) (escape_alone_one u us)))

single_one : (u : ℕ) (us : List ℕ) → IsOne (single u us)
single_one u [] = alone_few u
single_one u (v ∷ us) = tt

whole_one : (us : List ℕ) → IsOne (whole us)
unfolding whole
whole_one [] = tt
whole_one (u ∷ us) = one_if (u == 0x1B) _ _ (escape_one us) (single_one u us)

-- ---- titles

title_short : (t : List ℕ) (i : Item) → length t ≤ 255 → length (spoken_by t i).title ≤ 255
title_short t items.Title h = h
title_short t (items.Print u) h = omega arith
title_short t (items.Control u) h = omega arith
title_short t (items.Escape u) h = omega arith
title_short t (items.Charset u) h = omega arith
title_short t (items.Csi c) h = omega arith

titles_short : (t : List ℕ) (is : List Item) → length t ≤ 255 → HaveShortTitles (map (spoken_by t) is)
titles_short t [] h = tt
titles_short t (i ∷ is) h = (title_short t i h, titles_short t is h)

in_short : (units : List ℕ) → length (title_in units) ≤ 255
in_short units = omega (arith, length-take 255 (drop 2 (string_text (front_while stays (drop 2 units)))))

-- ---- a unit

record Few (items : List Spoken) : Type 0 where
  one : length items ≤ 1
  titles : HaveShortTitles items

few_none : Few []
few_none = record { one = omega arith; titles = tt }

few_cond : (b : Bool) (x y : Split Spoken) → Few x.items → Few y.items → Few (cond b x y).items
few_cond true x y h k = h
few_cond false x y h k = k

few_voiced : (units : List ℕ) (w : Option (List Item)) → IsOne w → Few (items_or_none (voiced units w))
few_voiced units None h = few_none
few_voiced units (Some is) h = record { one = rw (length-map is (spoken_by (title_in units))) h; titles = titles_short (title_in units) is (in_short units) }

few_begun : (u : ℕ) → Few (begun spoken u).items
few_begun u = few_cond (is_front (u ∷ [])) _ _ few_none (few_voiced (u ∷ []) (whole (u ∷ [])) (whole_one (u ∷ [])))

few_again : (units : List ℕ) (u : ℕ) (w : Option (List Item)) → IsOne w → Few (begun_again spoken u (voiced units w)).items
few_again units u None h = few_begun u
few_again units u (Some is) h = few_voiced units (Some is) h

few_after : (ks : List ℕ) (u : ℕ) → Few (begun_after spoken ks u).items
few_after [] u = few_begun u
few_after (k ∷ ks) u = few_cond (is_front (k ∷ ks ++ u ∷ [])) _ _ few_none (few_again (k ∷ ks ++ u ∷ []) u (whole (k ∷ ks ++ u ∷ [])) (whole_one (k ∷ ks ++ u ∷ [])))

few_ended : (front units : List ℕ) (u : ℕ) (w : Option (List Item)) → IsOne w → Few (ended spoken front u (voiced units w)).items
few_ended front units u None h = few_after (kept front) u
few_ended front units u (Some is) h = few_voiced units (Some is) h

few_next : (tail : List ℕ) (u : ℕ) → Few (next spoken tail u).items
unfolding next
few_next [] u = few_begun u
few_next (v ∷ front) u = few_cond (is_front (v ∷ front ++ u ∷ [])) _ _ few_none (few_ended (v ∷ front) (v ∷ front ++ u ∷ []) u (whole (v ∷ front ++ u ∷ [])) (whole_one (v ∷ front ++ u ∷ [])))

-- ---- a text

short_append : (xs ys : List Spoken) → HaveShortTitles xs → HaveShortTitles ys → HaveShortTitles (xs ++ ys)
short_append [] ys h k = k
short_append (x ∷ xs) ys h k = (h.0, short_append xs ys h.1 k)

fold_few : (s : Split Spoken) (us : List ℕ) → length (fold (read_on spoken) s us).items ≤ length s.items + length us
fold_few s [] = omega arith
fold_few s (u ∷ us) =
    let one = (few_next s.tail u).one in
    let long = length-append s.items (next spoken s.tail u).items in
    let rest = fold_few (read_on spoken s u) us in
    omega (arith, one, long, rest)

fold_short : (s : Split Spoken) (us : List ℕ) → HaveShortTitles s.items → HaveShortTitles (fold (read_on spoken) s us).items
fold_short s [] h = h
fold_short s (u ∷ us) h = fold_short (read_on spoken s u) us (short_append s.items (next spoken s.tail u).items h (few_next s.tail u).titles)

pub are_few : AreFew
unfolding split_after
are_few = record {
  items = λ tail us. let h = fold_few (record { items = []; tail = tail }) us in omega (arith, h);
  titles = λ tail us. fold_short (record { items = []; tail = tail }) us tt;
}
