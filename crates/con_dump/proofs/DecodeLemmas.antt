-- Bytes as units.
use Rattle.std.proofs.Common.{◌≡◌, ℕ, zero, suc, ◌+◌, ◌-◌, ◌<◌, ◌≤◌, true, nat_lt, nat_le, max, length, length-drop, List, [], ◌∷◌, ◌++◌, take, drop, get_or, arith, refl, sym, ap, ◌∙◌, append_assoc, append-nil}
use Rattle.std.specs.Prelude.{flat_map}
use Rattle.std.specs.List.{list_all}
use Rattle.std.proofs.lemmas.List.{take_all, take_more}
use Rattle.std.proofs.lemmas.List.Folds.{list_all_more}
use Rattle.std.proofs.lemmas.Bool.{and_parts}
use Rattle.std.proofs.lemmas.Bool.Decides.{nat_tests}
use Rattle.std.proofs.lemmas.Grind.{flat_map-append}
use Rattle.std.proofs.Math.Seq.{take-add}
use Rattle.con_units.specs.Split.{Split, next, split, split_after, with_items}
use Rattle.con_units.specs.SplitLaws.{split_after-append, split_after-one}
use Rattle.con_units.specs.Utf8.{utf8}
use Rattle.con_term.specs.declared.front.Front.{Front}
use Rattle.con_term.specs.Ascii.{is_ascii_byte}
use Rattle.con_term.specs.Front.{IsFront}
use Rattle.con_term.specs.Play.{units_of}
use Rattle.con_term.proofs.AsciiLemmas.{ascii_split, ascii_units}

-- ---- bytes so far, and some more

pub units_none : (u d bytes : List ℕ) → u ≡ u ++ flat_map units_of (split_after utf8 d (take 0 bytes)).items
unfolding split_after
units_none u d bytes = sym (append-nil u)

pub held_none : (d bytes : List ℕ) → d ≡ (split_after utf8 d (take 0 bytes)).tail
unfolding split_after
held_none d bytes = refl

split_on : (d bytes : List ℕ) (at count : ℕ) → split_after utf8 d (take (at + count) bytes)
    ≡ with_items (split_after utf8 d (take at bytes)).items (split_after utf8 (split_after utf8 d (take at bytes)).tail (take count (drop at bytes)))
split_on d bytes at count = ap (split_after utf8 d) (take-add at count bytes) ∙ split_after-append utf8 d (take at bytes) (take count (drop at bytes))

rest_is : (bytes : List ℕ) (at : ℕ) → take (length bytes - at) (drop at bytes) ≡ drop at bytes
rest_is bytes at = take_all (length bytes - at) (drop at bytes) (omega (arith, length-drop {A = ℕ} at bytes))

pub units_on : (u v w d e bytes : List ℕ) (at count : ℕ) → v ≡ u ++ flat_map units_of (split_after utf8 d (take at bytes)).items → e ≡ (split_after utf8 d (take at bytes)).tail
    → w ≡ v ++ flat_map units_of (split_after utf8 e (take count (take (length bytes - at) (drop at bytes)))).items → w ≡ u ++ flat_map units_of (split_after utf8 d (take (at + count) bytes)).items
units_on u v w d e bytes at count so_far held more =
    let first : Split ℕ = split_after utf8 d (take at bytes) in let second : Split ℕ = split_after utf8 first.tail (take count (drop at bytes)) in
    more
    ∙ ap (λ (xs : List ℕ). v ++ flat_map units_of (split_after utf8 e (take count xs)).items) (rest_is bytes at)
    ∙ rw (so_far, held) (append_assoc u (flat_map units_of first.items) (flat_map units_of second.items))
    ∙ ap (λ (xs : List ℕ). u ++ xs) (sym (flat_map-append units_of first.items second.items))
    ∙ ap (λ (s : Split ℕ). u ++ flat_map units_of s.items) (sym (split_on d bytes at count))

pub held_on : (d e f bytes : List ℕ) (at count : ℕ) → e ≡ (split_after utf8 d (take at bytes)).tail → f ≡ (split_after utf8 e (take count (take (length bytes - at) (drop at bytes)))).tail
    → f ≡ (split_after utf8 d (take (at + count) bytes)).tail
held_on d e f bytes at count held more =
    more
    ∙ ap (λ (xs : List ℕ). (split_after utf8 e (take count xs)).tail) (rest_is bytes at)
    ∙ ap (λ (xs : List ℕ). (split_after utf8 xs (take count (drop at bytes))).tail) held
    ∙ ap (λ (s : Split ℕ). s.tail) (sym (split_on d bytes at count))

pub units_all : (v d bytes : List ℕ) (at : ℕ) → length bytes ≤ at → v ≡ flat_map units_of (split_after utf8 d (take at bytes)).items → v ≡ flat_map units_of (split_after utf8 d bytes).items
units_all v d bytes at past h = h ∙ ap (λ (xs : List ℕ). flat_map units_of (split_after utf8 d xs).items) (take_all at bytes past)

pub held_all : (d e bytes : List ℕ) (at : ℕ) → length bytes ≤ at → e ≡ (split_after utf8 d (take at bytes)).tail → e ≡ (split_after utf8 d bytes).tail
held_all d e bytes at past h = h ∙ ap (λ (xs : List ℕ). (split_after utf8 d xs).tail) (take_all at bytes past)

-- ---- what stands at the front: one byte, ASCII with nothing held, a whole character

one_taken : (d bytes : List ℕ) → 0 < length bytes → next utf8 d (get_or bytes 0 0) ≡ split_after utf8 d (take 1 bytes)
one_taken d [] some = absurd (omega arith)
one_taken d (b ∷ bs) some = sym (split_after-one utf8 d b)

pub byte_units : (u v d bytes : List ℕ) → 0 < length bytes → v ≡ u ++ flat_map units_of (next utf8 d (get_or bytes 0 0)).items → v ≡ u ++ flat_map units_of (split_after utf8 d (take 1 bytes)).items
byte_units u v d bytes some h = h ∙ ap (λ (s : Split ℕ). u ++ flat_map units_of s.items) (one_taken d bytes some)

pub byte_held : (d e bytes : List ℕ) → 0 < length bytes → e ≡ (next utf8 d (get_or bytes 0 0)).tail → e ≡ (split_after utf8 d (take 1 bytes)).tail
byte_held d e bytes some h = h ∙ ap (λ (s : Split ℕ). s.tail) (one_taken d bytes some)

as_ascii : (b : ℕ) → is_ascii_byte b ≡ true → is_ascii_byte b ≡ true
as_ascii b h = h

pub run_units : (u v d bytes : List ℕ) → 0 ≡ length d → list_all is_ascii_byte bytes ≡ true → v ≡ u ++ bytes → v ≡ u ++ flat_map units_of (split_after utf8 d bytes).items
run_units u v [] bytes none all pushed = pushed ∙ sym (rw (ascii_split is_ascii_byte as_ascii bytes all, ascii_units is_ascii_byte as_ascii bytes all) refl)
run_units u v (x ∷ d) bytes none all pushed = absurd (omega arith)

pub run_held : (d bytes : List ℕ) → 0 ≡ length d → list_all is_ascii_byte bytes ≡ true → d ≡ (split_after utf8 d bytes).tail
run_held [] bytes none all = sym (rw (ascii_split is_ascii_byte as_ascii bytes all) refl)
run_held (x ∷ d) bytes none all = absurd (omega arith)

pub front_units : (u v d bytes : List ℕ) (f : Front) → 0 ≡ length d → IsFront bytes f → v ≡ u ++ units_of f.code → v ≡ u ++ flat_map units_of (split_after utf8 d (take f.count bytes)).items
front_units u v [] bytes f none is pushed = pushed ∙ sym (rw (is.whole, append-nil (units_of f.code)) refl)
front_units u v (x ∷ d) bytes f none is pushed = absurd (omega arith)

pub front_held : (d bytes : List ℕ) (f : Front) → 0 ≡ length d → IsFront bytes f → d ≡ (split_after utf8 d (take f.count bytes)).tail
front_held [] bytes f none is = sym (rw is.whole refl)
front_held (x ∷ d) bytes f none is = absurd (omega arith)

-- no character has no byte
some_taken : (bytes : List ℕ) (n c : ℕ) → split utf8 (take n bytes) ≡ record { items = c ∷ []; tail = [] } → 0 < n
unfolding split_after
some_taken bytes zero c e = let same : 0 ≡ 1 = ap (λ (s : Split ℕ). length s.items) e in absurd (omega (arith, same))
some_taken bytes (suc n) c e = omega arith

pub front_some : (bytes : List ℕ) (f : Front) → IsFront bytes f → 0 < f.count
front_some bytes f is = some_taken bytes f.count f.code is.whole

-- ---- the greatest of some bytes

raised : (bytes : List ℕ) (a b : ℕ) → a ≤ b → list_all (λ x. nat_le x a) bytes ≡ true → list_all (λ x. nat_le x b) bytes ≡ true
raised [] a b le h = refl
raised (x ∷ xs) a b le h = let k = and_parts (nat_le x a) (list_all (λ y. nat_le y a) xs) h in
    let first : nat_le x b ≡ true = grind (arith, nat_tests) in rw (first, raised xs a b le k.1) refl

pub all_below_more : (bytes : List ℕ) (i most : ℕ) → i < length bytes → list_all (λ b. nat_le b most) (take i bytes) ≡ true → list_all (λ b. nat_le b (max most (get_or bytes i 0))) (take (i + 1) bytes) ≡ true
all_below_more bytes i most lt h =
    let b : ℕ = get_or bytes i 0 in
    let last : nat_le b (max most b) ≡ true = grind (arith, nat_tests) in
    list_all_more (λ x. nat_le x (max most b)) bytes i 0 lt ∙ rw (raised (take i bytes) most (max most b) (omega arith) h, last) refl

below_ascii : (bytes : List ℕ) (most : ℕ) → most < 0x80 → list_all (λ b. nat_le b most) bytes ≡ true → list_all is_ascii_byte bytes ≡ true
below_ascii [] most small h = refl
below_ascii (x ∷ xs) most small h = let k = and_parts (nat_le x most) (list_all (λ y. nat_le y most) xs) h in
    let first : is_ascii_byte x ≡ true = grind (arith, nat_tests) in rw (first, below_ascii xs most small k.1) refl

pub all_ascii : (bytes : List ℕ) (i most : ℕ) → length bytes ≤ i → nat_lt most 0x80 ≡ true → list_all (λ b. nat_le b most) (take i bytes) ≡ true → list_all is_ascii_byte bytes ≡ true
all_ascii bytes i most whole low h =
    let small : most < 0x80 = grind (arith, nat_tests) in
    below_ascii bytes most small (ap (list_all (λ b. nat_le b most)) (sym (take_all i bytes whole)) ∙ h)

-- ---- bytes put last, one by one

pub pushed_none : (u : List ℕ) → u ≡ u ++ []
pushed_none u = sym (append-nil u)

pub pushed_more : (u v w bytes : List ℕ) (i b : ℕ) → i < length bytes → v ≡ u ++ take i bytes → b ≡ get_or bytes i 0 → w ≡ v ++ b ∷ [] → w ≡ u ++ take (i + 1) bytes
pushed_more u v w bytes i b lt is byte_is pushed = pushed ∙ rw (is, byte_is, take_more bytes i 0 lt) (append_assoc u (take i bytes) (get_or bytes i 0 ∷ []))

pub pushed_all : (u v bytes : List ℕ) (i : ℕ) → length bytes ≤ i → v ≡ u ++ take i bytes → v ≡ u ++ bytes
pushed_all u v bytes i whole is = is ∙ ap (λ (xs : List ℕ). u ++ xs) (take_all i bytes whole)
