-- The bytes of characters, read as characters are.
use Rattle.std.proofs.Common.{◌≡◌, ℕ, Bool, true, false, cond, ◌==◌, ◌&&◌, List, [], ◌∷◌, ◌++◌, Option, Some, None, length, ◌<◌, ◌≤◌, arith, refl, sym, ap, ◌∙◌, append_assoc}
use Rattle.std.specs.Prelude.{not, nat_le, flat_map, option_map}
use Rattle.std.specs.Int.{is_in_range}
use Rattle.con_units.specs.Split.{Split, begun, next, with_items}
use Rattle.con_units.specs.Words.Split.{ended, items_or_none}
use Rattle.con_units.specs.Utf8.{utf8, is_cut_character, whole_character, may_follow, is_continuation}
use Rattle.con_records.specs.declared.record.Key.{Key}
use Rattle.con_vtin.specs.Table.{character_keys, replacement}
use Rattle.std.proofs.lemmas.Bool.Decides.{nat_tests}
use Rattle.con_vtin.specs.Keys.{is_front, whole, broken, quieted, replacements}
use Rattle.con_vtin.specs.Words.Keys.{grammar}
use Rattle.con_vtin.specs.Holding.{is_text}
use Rattle.con_vtin.proofs.Lists.{and_false, not_true, both}

abbrev pub keys_of : List ℕ → List Key
keys_of cs = flat_map character_keys cs

abbrev pub as_keys : Split ℕ → Split Key
as_keys s = record { items = keys_of s.items; tail = s.tail }

begun_by : (b : Bool) (o : Option (List ℕ)) (t : List ℕ) → cond b (record { items = []; tail = t }) (record { items = items_or_none (option_map keys_of o); tail = [] }) ≡ as_keys (cond b (record { items = []; tail = t }) (record { items = items_or_none o; tail = [] }))
begun_by true o t = refl
begun_by false None t = refl
begun_by false (Some cs) t = refl

begun_text : (u : ℕ) → (u == 0x1B) ≡ false → begun grammar u ≡ as_keys (begun utf8 u)
unfolding is_front whole
begun_text u n = rw n (begun_by (is_cut_character (u ∷ [])) (whole_character (u ∷ [])) (u ∷ []))

with_replacement : (s : Split ℕ) → with_items (replacement ∷ []) (as_keys s) ≡ as_keys (with_items (0xFFFD ∷ []) s)
with_replacement s = refl

broken_text : (v : ℕ) (front : List ℕ) → (v == 0x1B) ≡ false → broken (v ∷ front) ≡ replacement ∷ []
unfolding broken
broken_text v front m = rw m refl

next_by : (b : Bool) (o : Option (List ℕ)) (v : ℕ) (front : List ℕ) (u : ℕ) → (v == 0x1B) ≡ false → (u == 0x1B) ≡ false
    → cond b (record { items = []; tail = v ∷ front ++ u ∷ [] }) (ended grammar (v ∷ front) u (option_map keys_of o)) ≡ as_keys (cond b (record { items = []; tail = v ∷ front ++ u ∷ [] }) (ended utf8 (v ∷ front) u o))
next_by true o v front u m n = refl
next_by false (Some cs) v front u m n = refl
next_by false None v front u m n = rw (broken_text v front m, begun_text u n) (with_replacement (begun utf8 u))

no_escape : (v : ℕ) (front : List ℕ) → is_text (v ∷ front) ≡ true → (v == 0x1B) ≡ false
no_escape v front h = not_true (v == 0x1B) (both (not (v == 0x1B)) (nat_le (length front) 2) h).0

-- where no ESC is about, keys are those of the characters
pub next_text : (front : List ℕ) (u : ℕ) → is_text front ≡ true → (u == 0x1B) ≡ false → next grammar front u ≡ as_keys (next utf8 front u)
unfolding next is_front whole
next_text [] u h n = begun_text u n
next_text (v ∷ front) u h n = let m = no_escape v front h in
    rw m (next_by (is_cut_character (v ∷ front ++ u ∷ [])) (whole_character (v ∷ front ++ u ∷ [])) v front u m n)

cut_is_short : (v : ℕ) (front : List ℕ) (u : ℕ) → is_cut_character (v ∷ front ++ u ∷ []) ≡ true → nat_le (length (front ++ u ∷ [])) 2 ≡ true
cut_is_short v [] u h = refl
cut_is_short v (a ∷ []) u h = refl
cut_is_short v (a ∷ b ∷ []) u h = cc
cut_is_short v (a ∷ b ∷ c ∷ more) u h = cc

begun_tail : (u : ℕ) (b : Bool) (items : List ℕ) → (u == 0x1B) ≡ false → let s : Split ℕ = cond b (record { items = []; tail = u ∷ [] }) (record { items = items; tail = [] }) in is_text s.tail ≡ true
begun_tail u true items n = rw n refl
begun_tail u false items n = refl

tail_by : (b : Bool) (o : Option (List ℕ)) (v : ℕ) (front : List ℕ) (u : ℕ) → (v == 0x1B) ≡ false → (u == 0x1B) ≡ false → (b ≡ true → nat_le (length (front ++ u ∷ [])) 2 ≡ true)
    → let s : Split ℕ = cond b (record { items = []; tail = v ∷ front ++ u ∷ [] }) (ended utf8 (v ∷ front) u o) in is_text s.tail ≡ true
tail_by true o v front u m n short = rw (m, short refl) refl
tail_by false (Some cs) v front u m n short = refl
tail_by false None v front u m n short = begun_tail u (is_cut_character (u ∷ [])) (items_or_none (whole_character (u ∷ []))) n

pub tail_text : (front : List ℕ) (u : ℕ) → is_text front ≡ true → (u == 0x1B) ≡ false → is_text (next utf8 front u).tail ≡ true
unfolding next
tail_text [] u h n = begun_tail u (is_cut_character (u ∷ [])) (items_or_none (whole_character (u ∷ []))) n
tail_text (v ∷ front) u h n = tail_by (is_cut_character (v ∷ front ++ u ∷ [])) (whole_character (v ∷ front ++ u ∷ [])) v front u (no_escape v front h) n (cut_is_short v front u)

pub keys_of-append : (xs ys : List ℕ) → keys_of (xs ++ ys) ≡ keys_of xs ++ keys_of ys
keys_of-append [] ys = refl
keys_of-append (x ∷ xs) ys = ap (λ ks. character_keys x ++ ks) (keys_of-append xs ys) ∙ sym (append_assoc (character_keys x) (keys_of xs) (keys_of ys))

-- the keys of two characters, added one after the other
pub two_pushed : (before between after : List Key) (xs ys front : List ℕ) (u : ℕ) → is_text front ≡ true → (u == 0x1B) ≡ false
    → between ≡ before ++ keys_of xs → after ≡ between ++ keys_of ys → xs ++ ys ≡ (next utf8 front u).items → after ≡ before ++ (next grammar front u).items
two_pushed before between after xs ys front u h n first second all =
    rw (next_text front u h n, ← all) (second ∙ (ap (λ ks. ks ++ keys_of ys) first ∙ (append_assoc before (keys_of xs) (keys_of ys) ∙ ap (λ ks. before ++ ks) (sym (keys_of-append xs ys)))))

-- ---- ESC after the bytes of a character

low : (a b : Bool) → nat_le (cond a 0xA0 (cond b 0x90 0x80)) 0x1B ≡ false
low true b = refl
low false true = refl
low false false = refl

no_follower : (v : ℕ) → may_follow v 0x1B ≡ false
no_follower v = rw (low (v == 0xE0) (v == 0xF0)) refl

no_cut : (v : ℕ) (front : List ℕ) → is_cut_character (v ∷ front ++ 0x1B ∷ []) ≡ false
no_cut v [] = rw (no_follower v) (and_false (is_in_range 0xE0 0xF4 v))
no_cut v (b ∷ []) = and_false (is_in_range 0xF0 0xF4 v && may_follow v b)
no_cut v (b ∷ c ∷ []) = refl
no_cut v (b ∷ c ∷ d ∷ more) = refl

no_whole : (v : ℕ) (front : List ℕ) → whole_character (v ∷ front ++ 0x1B ∷ []) ≡ None
no_whole v [] = rw (and_false (is_in_range 0xC2 0xDF v)) refl
no_whole v (b ∷ []) = rw (and_false (is_in_range 0xE0 0xEF v && may_follow v b)) refl
no_whole v (b ∷ c ∷ []) = rw (and_false (is_in_range 0xF0 0xF4 v && may_follow v b && is_continuation c)) refl
no_whole v (b ∷ c ∷ d ∷ []) = refl
no_whole v (b ∷ c ∷ d ∷ e ∷ more) = refl

-- what the bytes of a character give where ESC breaks them off
abbrev pub cut_keys : List ℕ → List Key
cut_keys [] = []
cut_keys (v ∷ front) = replacement ∷ []

pub escape_after_text : (front : List ℕ) → is_text front ≡ true → next grammar front 0x1B ≡ record { items = cut_keys front; tail = 0x1B ∷ [] }
unfolding next is_front whole
escape_after_text [] h = refl
escape_after_text (v ∷ front) h = let m = no_escape v front h in rw (m, no_cut v front, no_whole v front, broken_text v front m) refl

pub cut_some : (front : List ℕ) → 0 < length front → cut_keys front ≡ replacement ∷ []
cut_some [] h = absurd (omega arith)
cut_some (v ∷ front) h = refl

pub cut_none : (front : List ℕ) → length front ≤ 0 → cut_keys front ≡ []
cut_none [] h = refl
cut_none (v ∷ front) h = absurd (omega arith)

pub text_is_short : (front : List ℕ) → is_text front ≡ true → length front ≤ 3
text_is_short [] h = omega arith
text_is_short (v ∷ front) h = let short = (both (not (v == 0x1B)) (nat_le (length front) 2) h).1 in grind (arith, nat_tests)

pub quieted_text : (front : List ℕ) → is_text front ≡ true → quieted front ≡ replacements front
quieted_text [] h = refl
quieted_text (v ∷ front) h = rw (no_escape v front h) refl
