-- What the parameters so far say once another unit is read.
use Rattle.std.proofs.Common.{◌≡◌, ℕ, ◌+◌, ◌-◌, ◌*◌, ◌<◌, ◌≤◌, Bool, true, false, ◌==◌, ◌&&◌, min, max, List, [], ◌∷◌, ◌++◌, length, get_or, set, refl, sym, ap, ◌∙◌, arith, length-append}
use Rattle.std.specs.List.{list_all}
use Rattle.std.proofs.lemmas.List.{length-set}
use Rattle.std.proofs.lemmas.List.Folds.{list_all-append}
use Rattle.std.proofs.lemmas.Bool.Decides.{nat_tests}
use Rattle.con_vtgram.specs.Numbers.{parameters}
use Rattle.con_vtgram.specs.Text.{sixteen, is_digit_or_semicolon}
use Rattle.con_vtgram.specs.Reading.{Counts}
use Rattle.con_vtgram.specs.State.{Parameters}
use Rattle.con_vtgram.proofs.NumberLemmas.{started, snoc_digit, snoc_digit_is, parameters-semicolon, parameters-digit, sixteen-zero, sixteen-set, sixteen-past, sixteen-started, get_or-sixteen}

length-started : (ns : List ℕ) → length (started ns) ≡ max (length ns) 1
length-started [] = refl
length-started (n ∷ ns) = omega arith

longer-plain : (body : List ℕ) (u : ℕ) (b : Bool) → is_digit_or_semicolon u ≡ true → b ≡ list_all is_digit_or_semicolon body → b ≡ list_all is_digit_or_semicolon (body ++ u ∷ [])
longer-plain body u b h e = e ∙ sym (list_all-append is_digit_or_semicolon body (u ∷ []) ∙ grind (arith, nat_tests))

pub semicolon : (p q : Parameters) (body : List ℕ) → Counts p body → q.plain ≡ p.plain → q.count ≡ min (max p.count 1) 16 + 1 → q.values ≡ p.values → Counts q (body ++ 0x3B ∷ [])
semicolon p q body h plain count values = record {
  plain = longer-plain body 0x3B q.plain refl (plain ∙ h.plain);
  count = λ t. let before = h.count (sym plain ∙ t) in rw (parameters-semicolon body) (omega (arith, length-append (started (parameters body)) (0 ∷ []), length-started (parameters body)));
  values = λ t. values ∙ h.values (sym plain ∙ t) ∙ sym (ap sixteen (parameters-semicolon body) ∙ sixteen-zero (parameters body));
}

-- a digit goes onto the last number, at i
digit_values : (n : ℕ) (ns : List ℕ) (u i : ℕ) (vs : List ℕ) → vs ≡ sixteen (n ∷ ns) → i + 1 ≡ length (n ∷ ns) → i < 16 → set vs i (min 32767 (get_or vs i 0 * 10 + (u - 0x30))) ≡ sixteen (snoc_digit (n ∷ ns) u)
digit_values n ns u i vs e at small =
    let last : i ≡ length ns = omega arith in
    let inside : i < length (n ∷ ns) = omega arith in
    rw (e, get_or-sixteen (n ∷ ns) i small, ← sixteen-set (n ∷ ns) i (min 32767 (get_or (n ∷ ns) i 0 * 10 + (u - 0x30))) inside small, snoc_digit_is n ns u, last) refl

digit_past : (n : ℕ) (ns : List ℕ) (u : ℕ) → 16 < length (n ∷ ns) → sixteen (snoc_digit (n ∷ ns) u) ≡ sixteen (n ∷ ns)
digit_past n ns u many = let past : 16 ≤ length ns = omega arith in
    ap sixteen (snoc_digit_is n ns u) ∙ sixteen-past (n ∷ ns) (length ns) (min 32767 (get_or (n ∷ ns) (length ns) 0 * 10 + (u - 0x30))) past

length-digit : (ns : List ℕ) (u : ℕ) → length (snoc_digit (started ns) u) ≡ length (started ns)
length-digit [] u = refl
length-digit (n ∷ ns) u = ap length (snoc_digit_is n ns u) ∙ length-set (n ∷ ns) (length ns) (min 32767 (get_or (n ∷ ns) (length ns) 0 * 10 + (u - 0x30)))

values_small : (ns : List ℕ) (u i : ℕ) (vs : List ℕ) → vs ≡ sixteen ns → i + 1 ≡ length (started ns) → i < 16 → set vs i (min 32767 (get_or vs i 0 * 10 + (u - 0x30))) ≡ sixteen (snoc_digit (started ns) u)
values_small [] u i vs e at small = digit_values 0 [] u i vs (e ∙ sym (sixteen-started [])) at small
values_small (n ∷ ns) u i vs e at small = digit_values n ns u i vs e at small

values_past : (ns : List ℕ) (u : ℕ) → 16 < length (started ns) → sixteen (snoc_digit (started ns) u) ≡ sixteen ns
values_past [] u many = absurd (omega arith)
values_past (n ∷ ns) u many = digit_past n ns u many

not_semicolon : (u : ℕ) → 0x30 ≤ u → u ≤ 0x39 → (u == 0x3B) ≡ false
not_semicolon u low high = grind (arith, nat_tests)

is_digit : (u : ℕ) → 0x30 ≤ u → u ≤ 0x39 → is_digit_or_semicolon u ≡ true
is_digit u low high = grind (arith, nat_tests)

count_digit : (c d : ℕ) (body : List ℕ) (u : ℕ) → (u == 0x3B) ≡ false → c ≡ min 17 (length (parameters body)) → d ≡ max c 1 → d ≡ min 17 (length (parameters (body ++ u ∷ [])))
count_digit c d body u ne h e = rw (parameters-digit body u ne) (omega (arith, length-digit (parameters body) u, length-started (parameters body)))

pub digit_past_all : (p q : Parameters) (body : List ℕ) (u : ℕ) → 0x30 ≤ u → u ≤ 0x39 → Counts p body → 16 < max p.count 1 → q.plain ≡ p.plain → q.count ≡ max p.count 1 → q.values ≡ p.values → Counts q (body ++ u ∷ [])
digit_past_all p q body u low high h many plain count values = record {
  plain = longer-plain body u q.plain (is_digit u low high) (plain ∙ h.plain);
  count = λ t. count_digit p.count q.count body u (not_semicolon u low high) (h.count (sym plain ∙ t)) count;
  values = λ t. let before = h.count (sym plain ∙ t) in let more : 16 < length (started (parameters body)) = omega (arith, length-started (parameters body)) in
      values ∙ h.values (sym plain ∙ t) ∙ sym (ap sixteen (parameters-digit body u (not_semicolon u low high)) ∙ values_past (parameters body) u more);
}

pub digit : (p q : Parameters) (body : List ℕ) (u i : ℕ) → 0x30 ≤ u → u ≤ 0x39 → Counts p body → i + 1 ≡ max p.count 1 → i < 16 → q.plain ≡ p.plain → q.count ≡ max p.count 1 → q.values ≡ set p.values i (min 32767 (get_or p.values i 0 * 10 + (u - 0x30))) → Counts q (body ++ u ∷ [])
digit p q body u i low high h at small plain count values = record {
  plain = longer-plain body u q.plain (is_digit u low high) (plain ∙ h.plain);
  count = λ t. count_digit p.count q.count body u (not_semicolon u low high) (h.count (sym plain ∙ t)) count;
  values = λ t. let before = h.count (sym plain ∙ t) in let here : i + 1 ≡ length (started (parameters body)) = omega (arith, length-started (parameters body)) in
      values ∙ values_small (parameters body) u i p.values (h.values (sym plain ∙ t)) here small ∙ sym (ap sixteen (parameters-digit body u (not_semicolon u low high)));
}

pub other : (p q : Parameters) (body : List ℕ) (u : ℕ) → is_digit_or_semicolon u ≡ false → q.plain ≡ false → Counts q (body ++ u ∷ [])
other p q body u h plain = record {
  plain = plain ∙ sym (list_all-append is_digit_or_semicolon body (u ∷ []) ∙ no (list_all is_digit_or_semicolon body) (is_digit_or_semicolon u) h);
  count = λ t. let e = sym plain ∙ t in cc;
  values = λ t. let e = sym plain ∙ t in cc;
}
  where
    no : (a b : Bool) → b ≡ false → (a && (b && true)) ≡ false
    no true b e = rw e refl
    no false b e = refl
