-- The pen that numbers choose.
use Rattle.std.proofs.Common.{◌≡◌, ℕ, zero, suc, ◌+◌, ◌-◌, ◌*◌, ◌/◌, ◌%◌, ◌<◌, ◌≤◌, Bool, true, false, cond, not, inl, inr, ◌==◌, ◌&&◌, ◌||◌, nat_lt, nat_le, min, List, [], ◌∷◌, ◌++◌, length, take, replicate, refl, sym, ap, ◌∙◌, arith, append_assoc}
use Rattle.std.proofs.lemmas.Grind.{common_steps}
use Rattle.std.proofs.lemmas.Nat.{and_shr}
use Rattle.std.proofs.lemmas.Nat.Bits.{and_high}
use Rattle.std.proofs.lemmas.Bool.Decides.{nat_tests}
use Rattle.con_units.specs.Attr.{Attribute, plain}
use Rattle.con_units.specs.Words.Attr.{IsAttribute, foreground, background, masked}
use Rattle.con_units.specs.Shade.{near, near_in_cube, near_grey, IsNearest}
use Rattle.con_units.specs.Words.Shade.{IsNearestOrBright}
use Rattle.con_units.specs.declared.shade.Shade.{Shade}
use Rattle.con_units.specs.declared.shade.Shade.TheVariants.{Plain, Index}
use Rattle.con_vtgram.specs.Text.{sixteen}
use Rattle.con_vtgram.specs.declared.item.Item.TheVariants.{Csi}
use Rattle.con_vtgram.specs.Pen.{attr_of, in_shade, indexed, pen_after, word_of, IsPen}
use Rattle.con_vtgram.specs.declared.pen.Layer.{Layer}
use Rattle.con_vtgram.specs.declared.pen.Layer.TheVariants.{Fore, Back}
use Rattle.con_vtgram.specs.Sgr.{pen_by}
use Rattle.con_term.specs.Page.{Page}
use Rattle.con_term.specs.Effect.{effect, plain_effect}
use Rattle.con_vtgram.specs.declared.pen.Pen.{Pen}
use Rattle.con_strokes.specs.Spells.{AllSmall, csi}
use Rattle.con_strokes.specs.Bytes.{part, parts}
use Rattle.con_strokes.specs.Ink.{bold_for, fore_for, pen_for}
use Rattle.con_strokes.specs.Pens.{background_number, background_numbers, bold_number, colour_number, colour_numbers, foreground_number, foreground_numbers, is_bold, is_default, is_plain, is_some, negative_number, numbers_of, underline_number, IsEnough}
use Rattle.con_strokes.specs.declared.pen.Changes.{Changes}
use Rattle.con_strokes.proofs.SameLemmas.{both}

-- ---- the colour that stands for an index

worth : (b : Bool) (n : ℕ) → cond b n 0 ≤ n
worth true n = omega arith
worth false n = omega arith

small_grey : (quarter : ℕ) → near_grey quarter < 16
small_grey quarter = by_tests (quarter == 0) (quarter == 1) (quarter == 2)
  where
    by_tests : (a b c : Bool) → cond a 0 (cond b 8 (cond c 7 15)) < 16
    by_tests true b c = omega arith
    by_tests false true c = omega arith
    by_tests false false true = omega arith
    by_tests false false false = omega arith

pub small_near : (n : ℕ) → near n < 16
unfolding near
small_near n = by_test (nat_le n 231) (near_in_cube ((n - 16) / 36) ((n - 16) / 6 % 6) ((n - 16) % 6)) (near_grey ((n - 232) / 6)) (small_cube ((n - 16) / 36) ((n - 16) / 6 % 6) ((n - 16) % 6)) (small_grey ((n - 232) / 6))
  where
    small_cube : (r g b : ℕ) → near_in_cube r g b < 16
    small_cube r g b = omega (arith, worth (nat_le 3 r) 4, worth (nat_le 3 g) 2, worth (nat_le 3 b) 1, worth ((r == 5) || (g == 5) || (b == 5)) 8)

    by_test : (t : Bool) (x y : ℕ) → x < 16 → y < 16 → cond t x y < 16
    by_test true x y h k = h
    by_test false x y h k = k

-- ---- the attribute of a pen

-- a bold foreground is the word's
intensity : (s : Shade) (c : ℕ) → IsNearestOrBright s c → cond (bold_for s c) (fore_for s c % 8 + 8) (fore_for s c) ≡ c
intensity Plain c h = refl
intensity (Index n) c h = by_test (c == near n) refl
  where
    by_test : (t : Bool) → (c == near n) ≡ t → cond (not t) (near n % 8 + 8) (near n) ≡ c
    by_test true e = grind (arith, nat_tests)
    by_test false e = elim h.2 [ inl is ↦ grind (arith, nat_tests) | inr is ↦ sym is ]

middle : (w : ℕ) → masked w ≡ w → w / 256 ≡ w / 256 / 64 % 4 * 64
middle w h = ap (λ n. n / 256) (sym h) ∙ and_shr w 0xC0FF 8 ∙ and_high (w / 256) 2 6

word_is : (a : Attribute) → a.word < 0x10000 → IsAttribute a → word_of (pen_for a) ≡ a.word
word_is a fits h = rw (intensity a.fore (foreground a.word) h.shades.of_foreground) (by_bits a.word fits h.word (nat_le 0x8000 a.word) (a.word / 0x4000 % 2 == 1) refl refl)
  where
    by_bits : (w : ℕ) → w < 0x10000 → masked w ≡ w → (u n : Bool) → nat_le 0x8000 w ≡ u → (w / 0x4000 % 2 == 1) ≡ n → w % 16 + 16 * (w / 16 % 16) + cond n 0x4000 0 + cond u 0x8000 0 ≡ w
    by_bits w fits h true true p q = let m = middle w h in grind (arith, nat_tests)
    by_bits w fits h true false p q = let m = middle w h in grind (arith, nat_tests)
    by_bits w fits h false true p q = let m = middle w h in grind (arith, nat_tests)
    by_bits w fits h false false p q = let m = middle w h in grind (arith, nat_tests)

-- and a pen that a terminal may have
pub pen_is : (a : Attribute) → IsAttribute a → IsPen (pen_for a)
pen_is a h = record { foreground = small_fore_for a.fore (foreground a.word) (omega arith); background = omega arith; fore = near_fore a.fore (foreground a.word) h.shades.of_foreground; back = h.shades.of_background }
  where
    small_fore_for : (s : Shade) (c : ℕ) → c < 16 → fore_for s c < 16
    small_fore_for Plain c lt = lt
    small_fore_for (Index n) c lt = small_near n

    near_fore : (s : Shade) (c : ℕ) → IsNearestOrBright s c → IsNearest s (fore_for s c)
    near_fore Plain c h = tt
    near_fore (Index n) c h = (h.0, h.1, refl)

pub attr_is : (a : Attribute) → a.word < 0x10000 → IsAttribute a → attr_of (pen_for a) ≡ a
attr_is a fits h = ap (λ w. record a { word = w }) (ap masked (word_is a fits h) ∙ h.word)

-- ---- the numbers of a pen

fore : (p : Pen) (c : ℕ) (ns : List ℕ) → c < 16 → pen_by p (colour_number 30 90 c ∷ ns) ≡ pen_by (record p { foreground = c; fore = Plain }) ns
unfolding colour_number pen_by pen_after
fore p zero ns h = refl
fore p (suc zero) ns h = refl
fore p (suc (suc zero)) ns h = refl
fore p (suc (suc (suc zero))) ns h = refl
fore p (suc (suc (suc (suc zero)))) ns h = refl
fore p (suc (suc (suc (suc (suc zero))))) ns h = refl
fore p (suc (suc (suc (suc (suc (suc zero)))))) ns h = refl
fore p (suc (suc (suc (suc (suc (suc (suc zero))))))) ns h = refl
fore p (suc (suc (suc (suc (suc (suc (suc (suc zero)))))))) ns h = refl
fore p (suc (suc (suc (suc (suc (suc (suc (suc (suc zero))))))))) ns h = refl
fore p (suc (suc (suc (suc (suc (suc (suc (suc (suc (suc zero)))))))))) ns h = refl
fore p (suc (suc (suc (suc (suc (suc (suc (suc (suc (suc (suc zero))))))))))) ns h = refl
fore p (suc (suc (suc (suc (suc (suc (suc (suc (suc (suc (suc (suc zero)))))))))))) ns h = refl
fore p (suc (suc (suc (suc (suc (suc (suc (suc (suc (suc (suc (suc (suc zero))))))))))))) ns h = refl
fore p (suc (suc (suc (suc (suc (suc (suc (suc (suc (suc (suc (suc (suc (suc zero)))))))))))))) ns h = refl
fore p (suc (suc (suc (suc (suc (suc (suc (suc (suc (suc (suc (suc (suc (suc (suc zero))))))))))))))) ns h = refl
fore p (suc (suc (suc (suc (suc (suc (suc (suc (suc (suc (suc (suc (suc (suc (suc (suc c)))))))))))))))) ns h = absurd (omega arith)

back : (p : Pen) (c : ℕ) (ns : List ℕ) → c < 16 → pen_by p (colour_number 40 100 c ∷ ns) ≡ pen_by (record p { background = c; back = Plain }) ns
unfolding colour_number pen_by pen_after
back p zero ns h = refl
back p (suc zero) ns h = refl
back p (suc (suc zero)) ns h = refl
back p (suc (suc (suc zero))) ns h = refl
back p (suc (suc (suc (suc zero)))) ns h = refl
back p (suc (suc (suc (suc (suc zero))))) ns h = refl
back p (suc (suc (suc (suc (suc (suc zero)))))) ns h = refl
back p (suc (suc (suc (suc (suc (suc (suc zero))))))) ns h = refl
back p (suc (suc (suc (suc (suc (suc (suc (suc zero)))))))) ns h = refl
back p (suc (suc (suc (suc (suc (suc (suc (suc (suc zero))))))))) ns h = refl
back p (suc (suc (suc (suc (suc (suc (suc (suc (suc (suc zero)))))))))) ns h = refl
back p (suc (suc (suc (suc (suc (suc (suc (suc (suc (suc (suc zero))))))))))) ns h = refl
back p (suc (suc (suc (suc (suc (suc (suc (suc (suc (suc (suc (suc zero)))))))))))) ns h = refl
back p (suc (suc (suc (suc (suc (suc (suc (suc (suc (suc (suc (suc (suc zero))))))))))))) ns h = refl
back p (suc (suc (suc (suc (suc (suc (suc (suc (suc (suc (suc (suc (suc (suc zero)))))))))))))) ns h = refl
back p (suc (suc (suc (suc (suc (suc (suc (suc (suc (suc (suc (suc (suc (suc (suc zero))))))))))))))) ns h = refl
back p (suc (suc (suc (suc (suc (suc (suc (suc (suc (suc (suc (suc (suc (suc (suc (suc c)))))))))))))))) ns h = absurd (omega arith)

-- each part, or nothing where it is so already
reset_part : (b : Bool) (p : Pen) (ns : List ℕ) (from before : Attribute) → p ≡ pen_for before → (b ≡ true → from ≡ plain 7) → (b ≡ false → from ≡ before) → pen_by p (part b 0 ++ ns) ≡ pen_by (pen_for from) ns
unfolding pen_by pen_after
reset_part true p ns from before h k l = ap (λ a. pen_by (pen_for a) ns) (sym (k refl))
reset_part false p ns from before h k l = ap (λ q. pen_by q ns) (h ∙ ap pen_for (sym (l refl)))

bold_part : (b u : Bool) (p : Pen) (ns : List ℕ) → (b ≡ false → p.bold ≡ u) → pen_by p (part b (cond u 1 22) ++ ns) ≡ pen_by (record p { bold = u }) ns
unfolding pen_by pen_after
bold_part true true p ns h = refl
bold_part true false p ns h = refl
bold_part false u p ns h = ap (λ x. pen_by (record p { bold = x }) ns) (h refl)

under_part : (b u : Bool) (p : Pen) (ns : List ℕ) → (b ≡ false → p.underline ≡ u) → pen_by p (part b (cond u 4 24) ++ ns) ≡ pen_by (record p { underline = u }) ns
unfolding pen_by pen_after
under_part true true p ns h = refl
under_part true false p ns h = refl
under_part false u p ns h = ap (λ x. pen_by (record p { underline = x }) ns) (h refl)

negative_part : (b n : Bool) (p : Pen) (ns : List ℕ) → (b ≡ false → p.negative ≡ n) → pen_by p (part b (cond n 7 27) ++ ns) ≡ pen_by (record p { negative = n }) ns
unfolding pen_by pen_after
negative_part true true p ns h = refl
negative_part true false p ns h = refl
negative_part false n p ns h = ap (λ x. pen_by (record p { negative = x }) ns) (h refl)

seven : (w : ℕ) (s t : Bool) → ((w % 256 == 7) && s && t) ≡ true → (w % 16 ≡ 7) × (w / 16 % 16 ≡ 0)
seven w s t h = let k = (both (w % 256 == 7) s (both ((w % 256 == 7) && s) t h).0).0 in let e : w % 256 ≡ 7 = grind (arith, nat_tests) in (omega arith, omega arith)

fore_number : (p : Pen) (a : Attribute) (ns : List ℕ) → pen_by p (foreground_number a ∷ ns) ≡ pen_by (record p { foreground = foreground a.word; fore = Plain }) ns
unfolding foreground_number pen_by pen_after
fore_number p a ns = by_test (is_default a) refl
  where
    by_test : (b : Bool) → is_default a ≡ b → pen_by p (cond b 39 (colour_number 30 90 (foreground a.word)) ∷ ns) ≡ pen_by (record p { foreground = foreground a.word; fore = Plain }) ns
    by_test true e = ap (λ n. pen_by (record p { foreground = n; fore = Plain }) ns) (sym (seven a.word (is_plain a.fore) (is_plain a.back) e).0)
    by_test false e = fore p (foreground a.word) ns (omega arith)

back_number : (p : Pen) (a : Attribute) (ns : List ℕ) → pen_by p (background_number a ∷ ns) ≡ pen_by (record p { background = background a.word; back = Plain }) ns
unfolding background_number pen_by pen_after
back_number p a ns = by_test (is_default a) refl
  where
    by_test : (b : Bool) → is_default a ≡ b → pen_by p (cond b 49 (colour_number 40 100 (background a.word)) ∷ ns) ≡ pen_by (record p { background = background a.word; back = Plain }) ns
    by_test true e = ap (λ n. pen_by (record p { background = n; back = Plain }) ns) (sym (seven a.word (is_plain a.fore) (is_plain a.back) e).1)
    by_test false e = back p (background a.word) ns (omega arith)

-- an index of 16 to 255
shade_in : (p : Pen) (layer : Layer) (n : ℕ) → 16 ≤ n → n < 256 → indexed p layer n ≡ in_shade p layer n
unfolding indexed
shade_in p layer n low high =
    let b : nat_lt n 16 ≡ false = grind (arith, nat_tests) in
    let c : nat_lt n 256 ≡ true = grind (arith, nat_tests) in
    rw (b, c) refl

fore_shade : (p : Pen) (n : ℕ) (ns : List ℕ) → 16 ≤ n → n < 256 → pen_by p (38 ∷ 5 ∷ n ∷ ns) ≡ pen_by (record p { foreground = near n; fore = Index n }) ns
unfolding pen_by
fore_shade p n ns low high = ap (λ q. pen_by q ns) (shade_in p Fore n low high)

back_shade : (p : Pen) (n : ℕ) (ns : List ℕ) → 16 ≤ n → n < 256 → pen_by p (48 ∷ 5 ∷ n ∷ ns) ≡ pen_by (record p { background = near n; back = Index n }) ns
unfolding pen_by
back_shade p n ns low high = ap (λ q. pen_by q ns) (shade_in p Back n low high)

fore_numbers : (p : Pen) (s : Shade) (n c : ℕ) (ns : List ℕ) → IsNearestOrBright s c → pen_by p (n ∷ ns) ≡ pen_by (record p { foreground = c; fore = Plain }) ns → pen_by p (colour_numbers 38 s n ++ ns) ≡ pen_by (record p { foreground = fore_for s c; fore = s }) ns
fore_numbers p Plain n c ns h one = one
fore_numbers p (Index i) n c ns h one = fore_shade p i ns h.0 h.1

back_numbers : (p : Pen) (s : Shade) (n c : ℕ) (ns : List ℕ) → IsNearest s c → pen_by p (n ∷ ns) ≡ pen_by (record p { background = c; back = Plain }) ns → pen_by p (colour_numbers 48 s n ++ ns) ≡ pen_by (record p { background = c; back = s }) ns
back_numbers p Plain n c ns h one = one
back_numbers p (Index i) n c ns h one = back_shade p i ns h.0 h.1 ∙ ap (λ x. pen_by (record p { background = x; back = Index i }) ns) (sym h.2)

fore_part : (b : Bool) (p : Pen) (a : Attribute) (ns : List ℕ) → IsAttribute a → (b ≡ false → (p.foreground ≡ fore_for a.fore (foreground a.word)) × (p.fore ≡ a.fore)) → pen_by p (parts b (foreground_numbers a) ++ ns) ≡ pen_by (record p { foreground = fore_for a.fore (foreground a.word); fore = a.fore }) ns
fore_part true p a ns is h = fore_numbers p a.fore (foreground_number a) (foreground a.word) ns is.shades.of_foreground (fore_number p a ns)
fore_part false p a ns is h = ap (λ n. pen_by (record p { foreground = n }) ns) (h refl).0 ∙ ap (λ x. pen_by (record p { foreground = fore_for a.fore (foreground a.word); fore = x }) ns) (h refl).1

back_part : (b : Bool) (p : Pen) (a : Attribute) (ns : List ℕ) → IsAttribute a → (b ≡ false → (p.background ≡ background a.word) × (p.back ≡ a.back)) → pen_by p (parts b (background_numbers a) ++ ns) ≡ pen_by (record p { background = background a.word; back = a.back }) ns
back_part true p a ns is h = back_numbers p a.back (background_number a) (background a.word) ns is.shades.of_background (back_number p a ns)
back_part false p a ns is h = ap (λ n. pen_by (record p { background = n }) ns) (h refl).0 ∙ ap (λ x. pen_by (record p { background = background a.word; back = x }) ns) (h refl).1

grouped : (as' bs cs ds es fs : List ℕ) → ((((as' ++ bs) ++ cs) ++ ds) ++ es) ++ fs ≡ as' ++ (bs ++ (cs ++ (ds ++ (es ++ (fs ++ [])))))
grouped as' bs cs ds es fs = rw (append_nil fs) (simp append_assoc)
  where
    append_nil : (xs : List ℕ) → xs ++ [] ≡ xs
    append_nil [] = refl
    append_nil (x ∷ xs) = ap (λ ys. x ∷ ys) (append_nil xs)

-- the foreground of the same colour beside the same shade
same_fore : (from a : Attribute) → (foreground from.word ≡ foreground a.word) × (from.fore ≡ a.fore) → (fore_for from.fore (foreground from.word) ≡ fore_for a.fore (foreground a.word)) × (from.fore ≡ a.fore)
same_fore from a h = (ap (fore_for from.fore) h.0 ∙ ap (λ s. fore_for s (foreground a.word)) h.1, h.1)

pub numbers_choose : (p : Pen) (c : Changes) (before a : Attribute) → p ≡ pen_for before → IsAttribute a → IsEnough c before a → pen_by p (numbers_of c a) ≡ pen_for a
unfolding numbers_of pen_by
numbers_choose p c before a h is k =
    let p1 : Pen = pen_for k.from in
    let p2 : Pen = record p1 { bold = is_bold a } in
    let p3 : Pen = record p2 { underline = nat_le 0x8000 a.word } in
    let p4 : Pen = record p3 { negative = a.word / 0x4000 % 2 == 1 } in
    let p5 : Pen = record p4 { foreground = fore_for a.fore (foreground a.word); fore = a.fore } in
    let as' : List ℕ = part c.reset 0 in
    let bs : List ℕ = part c.bold (bold_number a) in
    let cs : List ℕ = part c.underline (underline_number a) in
    let ds : List ℕ = part c.negative (negative_number a) in
    let es : List ℕ = parts c.foreground (foreground_numbers a) in
    let fs : List ℕ = parts c.background (background_numbers a) in
    ap (pen_by p) (grouped as' bs cs ds es fs)
    ∙ reset_part c.reset p (bs ++ (cs ++ (ds ++ (es ++ (fs ++ []))))) k.from before h k.starts k.goes_on
    ∙ bold_part c.bold (is_bold a) p1 (cs ++ (ds ++ (es ++ (fs ++ [])))) k.bold
    ∙ under_part c.underline (nat_le 0x8000 a.word) p2 (ds ++ (es ++ (fs ++ []))) k.underline
    ∙ negative_part c.negative (a.word / 0x4000 % 2 == 1) p3 (es ++ (fs ++ [])) k.negative
    ∙ fore_part c.foreground p4 a (fs ++ []) is (λ e. same_fore k.from a (k.foreground e))
    ∙ back_part c.background p5 a [] is k.background

-- ---- effects

few_if : (b : Bool) (ns : List ℕ) (m : ℕ) → length ns ≤ m → length (parts b ns) ≤ m
few_if true ns m h = h
few_if false ns m h = omega arith

few_colours : (layer : ℕ) (s : Shade) (n : ℕ) → length (colour_numbers layer s n) ≤ 3
few_colours layer Plain n = omega arith
few_colours layer (Index i) n = omega arith

few_parts : (as' bs cs ds es fs : List ℕ) → length as' ≤ 1 → length bs ≤ 1 → length cs ≤ 1 → length ds ≤ 1 → length es ≤ 3 → length fs ≤ 3 → length (((((as' ++ bs) ++ cs) ++ ds) ++ es) ++ fs) ≤ 10
few_parts as' bs cs ds es fs a b c d e f = grind (arith, common_steps)

pub few_numbers : (c : Changes) (a : Attribute) → length (numbers_of c a) ≤ 10
unfolding numbers_of
few_numbers c a = few_parts (part c.reset 0) (part c.bold (bold_number a)) (part c.underline (underline_number a)) (part c.negative (negative_number a)) (parts c.foreground (foreground_numbers a)) (parts c.background (background_numbers a))
    (few_if c.reset (0 ∷ []) 1 (omega arith)) (few_if c.bold (bold_number a ∷ []) 1 (omega arith)) (few_if c.underline (underline_number a ∷ []) 1 (omega arith)) (few_if c.negative (negative_number a ∷ []) 1 (omega arith))
    (few_if c.foreground (foreground_numbers a) 3 (few_colours 38 a.fore (foreground_number a))) (few_if c.background (background_numbers a) 3 (few_colours 48 a.back (background_number a)))

-- ---- there is a number

some_colours : (layer : ℕ) (s : Shade) (n : ℕ) → 1 ≤ length (colour_numbers layer s n)
some_colours layer Plain n = omega arith
some_colours layer (Index i) n = omega arith

some_if : (b : Bool) (ns : List ℕ) → 1 ≤ length ns → cond b 1 0 ≤ length (parts b ns)
some_if true ns h = h
some_if false ns h = omega arith

all_lengths : (as' bs cs ds es fs : List ℕ) → length (((((as' ++ bs) ++ cs) ++ ds) ++ es) ++ fs) ≡ length as' + length bs + length cs + length ds + length es + length fs
all_lengths as' bs cs ds es fs = grind (arith, common_steps)

one_of : (a b c d e f : Bool) → (a || b || c || d || e || f) ≡ true → 1 ≤ cond a 1 0 + cond b 1 0 + cond c 1 0 + cond d 1 0 + cond e 1 0 + cond f 1 0
one_of true b c d e f h = omega arith
one_of false true c d e f h = omega arith
one_of false false true d e f h = omega arith
one_of false false false true e f h = omega arith
one_of false false false false true f h = omega arith
one_of false false false false false true h = omega arith
one_of false false false false false false h = cc

some_numbers : (c : Changes) (before a : Attribute) → IsEnough c before a → (length (numbers_of c a) == 0) ≡ false
unfolding numbers_of
some_numbers c before a h =
    let as' : List ℕ = part c.reset 0 in
    let bs : List ℕ = part c.bold (bold_number a) in
    let cs : List ℕ = part c.underline (underline_number a) in
    let ds : List ℕ = part c.negative (negative_number a) in
    let es : List ℕ = parts c.foreground (foreground_numbers a) in
    let fs : List ℕ = parts c.background (background_numbers a) in
    let some : 1 ≤ length as' + length bs + length cs + length ds + length es + length fs = omega (
      arith,
      one_of c.reset c.bold c.underline c.negative c.foreground c.background h.some,
      some_if c.reset (0 ∷ []) (omega arith),
      some_if c.bold (bold_number a ∷ []) (omega arith),
      some_if c.underline (underline_number a ∷ []) (omega arith),
      some_if c.negative (negative_number a ∷ []) (omega arith),
      some_if c.foreground (foreground_numbers a) (some_colours 38 a.fore (foreground_number a)),
      some_if c.background (background_numbers a) (some_colours 48 a.back (background_number a)),
    ) in
    not_none (length (((((as' ++ bs) ++ cs) ++ ds) ++ es) ++ fs)) (omega (arith, all_lengths as' bs cs ds es fs, some))
  where
    not_none : (n : ℕ) → 1 ≤ n → (n == 0) ≡ false
    not_none n h = grind (arith, nat_tests)

front_of : (ns ms : List ℕ) (k : ℕ) → length ns ≤ k → take (length ns) (take k (ns ++ ms)) ≡ ns
front_of [] ms zero h = refl
front_of [] ms (suc k) h = refl
front_of (n ∷ ns) ms zero h = absurd (omega arith)
front_of (n ∷ ns) ms (suc k) h = ap (λ xs. n ∷ xs) (front_of ns ms k (omega arith))

first_of_sixteen : (ns : List ℕ) → length ns ≤ 16 → take (min 16 (length ns)) (sixteen ns) ≡ ns
unfolding sixteen
first_of_sixteen ns h = let m : min 16 (length ns) ≡ length ns = omega arith in rw m (front_of ns (replicate 16 0) 16 h)

pub pen_chosen : (s : Page) (c : Changes) (before a : Attribute) → s.pen ≡ pen_for before → IsAttribute a → IsEnough c before a → effect s (Csi (csi (numbers_of c a) 0x6D)) ≡ record s { pen = pen_for a }
unfolding effect plain_effect
pen_chosen s c before a p is h =
    let few : length (numbers_of c a) ≤ 16 = omega (arith, few_numbers c a) in
    let count : min 16 (length (numbers_of c a)) ≡ length (numbers_of c a) = omega arith in
    let some : (min 16 (length (numbers_of c a)) == 0) ≡ false = rw count (some_numbers c before a h) in
    rw (some, first_of_sixteen (numbers_of c a) few, numbers_choose s.pen c before a p is h) refl

-- ---- numbers below a thousand

small_colour : (dark bright c : ℕ) → dark < 200 → bright < 200 → c < 16 → colour_number dark bright c < 1000
unfolding colour_number
small_colour dark bright c a b h = grind (arith, nat_tests)

small_test : (b : Bool) (m n : ℕ) → m < 1000 → n < 1000 → cond b m n < 1000
small_test true m n h k = h
small_test false m n h k = k

small_fore : (a : Attribute) → foreground_number a < 1000
unfolding foreground_number
small_fore a = small_test (is_default a) 39 (colour_number 30 90 (foreground a.word)) (omega arith) (small_colour 30 90 (foreground a.word) (omega arith) (omega arith) (omega arith))

small_back : (a : Attribute) → background_number a < 1000
unfolding background_number
small_back a = small_test (is_default a) 49 (colour_number 40 100 (background a.word)) (omega arith) (small_colour 40 100 (background a.word) (omega arith) (omega arith) (omega arith))

small_fore_colours : (s : Shade) (n c : ℕ) → IsNearestOrBright s c → n < 1000 → AllSmall (colour_numbers 38 s n)
small_fore_colours Plain n c h k = (k, tt)
small_fore_colours (Index i) n c h k = let high = h.1 in (omega arith, (omega arith, (omega arith, tt)))

small_back_colours : (s : Shade) (n c : ℕ) → IsNearest s c → n < 1000 → AllSmall (colour_numbers 48 s n)
small_back_colours Plain n c h k = (k, tt)
small_back_colours (Index i) n c h k = let high = h.1 in (omega arith, (omega arith, (omega arith, tt)))

pub all_small-append : (ms ns : List ℕ) → AllSmall ms → AllSmall ns → AllSmall (ms ++ ns)
all_small-append [] ns h k = k
all_small-append (m ∷ ms) ns h k = (h.0, all_small-append ms ns h.1 k)

small_if : (b : Bool) (ns : List ℕ) → AllSmall ns → AllSmall (parts b ns)
small_if true ns h = h
small_if false ns h = tt

pub one_small : (b : Bool) (n : ℕ) → n < 1000 → AllSmall (part b n)
one_small b n h = small_if b (n ∷ []) (h, tt)

six_small : (as' bs cs ds es fs : List ℕ) → AllSmall as' → AllSmall bs → AllSmall cs → AllSmall ds → AllSmall es → AllSmall fs → AllSmall (((((as' ++ bs) ++ cs) ++ ds) ++ es) ++ fs)
six_small as' bs cs ds es fs a b c d e f =
    all_small-append ((((as' ++ bs) ++ cs) ++ ds) ++ es) fs (all_small-append (((as' ++ bs) ++ cs) ++ ds) es (all_small-append ((as' ++ bs) ++ cs) ds (all_small-append (as' ++ bs) cs (all_small-append as' bs a b) c) d) e) f

pub small_numbers : (c : Changes) (a : Attribute) → IsAttribute a → AllSmall (numbers_of c a)
unfolding numbers_of
small_numbers c a is =
    six_small (part c.reset 0) (part c.bold (bold_number a)) (part c.underline (underline_number a)) (part c.negative (negative_number a)) (parts c.foreground (foreground_numbers a)) (parts c.background (background_numbers a))
    (one_small c.reset 0 (omega arith))
    (one_small c.bold (bold_number a) (small_test (is_bold a) 1 22 (omega arith) (omega arith)))
    (one_small c.underline (underline_number a) (small_test (nat_le 0x8000 a.word) 4 24 (omega arith) (omega arith)))
    (one_small c.negative (negative_number a) (small_test (a.word / 0x4000 % 2 == 1) 7 27 (omega arith) (omega arith)))
    (small_if c.foreground (foreground_numbers a) (small_fore_colours a.fore (foreground_number a) (foreground a.word) is.shades.of_foreground (small_fore a)))
    (small_if c.background (background_numbers a) (small_back_colours a.back (background_number a) (background a.word) is.shades.of_background (small_back a)))

-- ---- what differs is enough

pub enough_on : (c : Changes) (before a : Attribute) → c.reset ≡ false → (c.bold ≡ false → is_bold before ≡ is_bold a) → (c.underline ≡ false → nat_le 0x8000 before.word ≡ nat_le 0x8000 a.word) → (c.negative ≡ false → (before.word / 0x4000 % 2 == 1) ≡ (a.word / 0x4000 % 2 == 1))
    → (c.foreground ≡ false → (foreground before.word ≡ foreground a.word) × (before.fore ≡ a.fore)) → (c.background ≡ false → (background before.word ≡ background a.word) × (before.back ≡ a.back)) → is_some c ≡ true → IsEnough c before a
enough_on c before a r bold u n f b some = record { from = before; starts = λ e. absurd (cc); goes_on = λ e. refl; bold = bold; underline = u; negative = n; foreground = f; background = b; some = some }

pub enough_anew : (c : Changes) (before a : Attribute) → c.reset ≡ true → (c.bold ≡ false → is_bold (plain 7) ≡ is_bold a) → (c.underline ≡ false → nat_le 0x8000 (plain 7).word ≡ nat_le 0x8000 a.word) → (c.negative ≡ false → ((plain 7).word / 0x4000 % 2 == 1) ≡ (a.word / 0x4000 % 2 == 1))
    → (c.foreground ≡ false → (foreground (plain 7).word ≡ foreground a.word) × ((plain 7).fore ≡ a.fore)) → (c.background ≡ false → (background (plain 7).word ≡ background a.word) × ((plain 7).back ≡ a.back)) → IsEnough c before a
enough_anew c before a r bold u n f b = record { from = plain 7; starts = λ e. refl; goes_on = λ e. absurd (cc); bold = bold; underline = u; negative = n; foreground = f; background = b; some = rw r refl }
