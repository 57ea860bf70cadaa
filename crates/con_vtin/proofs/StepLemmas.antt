-- One more byte after an unfinished sequence.
use Rattle.std.proofs.Common.{◌≡◌, ◌≢◌, ℕ, ◌<◌, ◌≤◌, Bool, true, false, ◌&&◌, List, [], ◌∷◌, ◌++◌, Option, length, refl, sym, ap, ◌∙◌, arith, append_assoc, length-append}
use Rattle.std.specs.Prelude.{nat_le}
use Rattle.std.specs.List.{list_all}
use Rattle.std.proofs.lemmas.Bool.Decides.{nat_tests}
use Rattle.con_records.specs.declared.record.Key.{Key}
use Rattle.con_vtin.specs.Table.{control_sequence_key, escape}
use Rattle.con_vtin.specs.Keys.{is_front, whole, is_parameter, is_intermediate, is_last, skip_while, front_while, broken, quieted, replacements}
use Rattle.con_vtin.specs.Holding.{Holds, Steps, IsSecond}
use Rattle.con_vtin.specs.declared.unfinished.Phase.{Phase}
use Rattle.con_vtin.specs.declared.unfinished.Phase.TheVariants.{Nothing, Escape, Single, First, Second}
use Rattle.con_vtin.specs.declared.unfinished.Step.TheVariants as steps
use Rattle.con_vtin.proofs.Lists.{both, skip_all, front_all, append_none, append_some, all-longer}

few : (xs : List ℕ) (u : ℕ) → length xs < 30 → nat_le (length (xs ++ u ∷ [])) 30 ≡ true
few xs u h = rw (length-append xs (u ∷ [])) (grind (arith, nat_tests))

many : (xs : List ℕ) (u : ℕ) → 30 ≤ length xs → nat_le (length (xs ++ u ∷ [])) 30 ≡ false
many xs u h = rw (length-append xs (u ∷ [])) (grind (arith, nat_tests))

-- what is left behind the parameter bytes and the intermediate ones
abbrev rest : List ℕ → List ℕ
rest body = skip_while is_intermediate (skip_while is_parameter body)

abbrev parts : List ℕ → List ℕ
parts body = front_while is_parameter body ++ front_while is_intermediate (skip_while is_parameter body)

-- a byte that can go on, while there is room for it
goes : (body : List ℕ) (u : ℕ) → rest (body ++ u ∷ []) ≡ [] → length body < 30 → is_front (0x1B ∷ 0x5B ∷ (body ++ u ∷ [])) ≡ true
unfolding is_front
goes body u e h = rw (few body u h, e) refl

-- a byte that could go on, and has no room
full : (body : List ℕ) (u : ℕ) → rest (body ++ u ∷ []) ≡ [] → 30 ≤ length body → Steps steps.Breaks (0x1B ∷ 0x5B ∷ body) u
unfolding is_front whole
full body u e h = (rw (many body u h) refl, rw e refl)

stops_by : (b : Bool) → (b && false) ≡ false
stops_by true = refl
stops_by false = refl

stops : (body : List ℕ) (u : ℕ) → rest (body ++ u ∷ []) ≡ u ∷ [] → is_front (0x1B ∷ 0x5B ∷ (body ++ u ∷ [])) ≡ false
unfolding is_front
stops body u e = rw e (stops_by (nat_le (length (body ++ u ∷ [])) 30))

-- a last byte
ends : (key : Option Key) (body : List ℕ) (u : ℕ) → rest (body ++ u ∷ []) ≡ u ∷ [] → parts (body ++ u ∷ []) ≡ body → is_last u ≡ true → key ≡ control_sequence_key body u
    → Steps (steps.Ends key) (0x1B ∷ 0x5B ∷ body) u
unfolding whole
ends key body u e f last is = (stops body u e, rw (e, f, last, is) refl)

-- a byte that can stand nowhere
breaks : (body : List ℕ) (u : ℕ) → rest (body ++ u ∷ []) ≡ u ∷ [] → is_last u ≡ false → Steps steps.Breaks (0x1B ∷ 0x5B ∷ body) u
unfolding whole
breaks body u e last = (stops body u e, rw (e, last) refl)

-- ---- after the parameter bytes

first_parameter : (body : List ℕ) (u : ℕ) → list_all is_parameter body ≡ true → is_parameter u ≡ true → rest (body ++ u ∷ []) ≡ []
first_parameter body u h on = rw (skip_all is_parameter body (u ∷ []) h, on) refl

first_intermediate : (body : List ℕ) (u : ℕ) → list_all is_parameter body ≡ true → is_parameter u ≡ false → is_intermediate u ≡ true → rest (body ++ u ∷ []) ≡ []
first_intermediate body u h off on = rw (skip_all is_parameter body (u ∷ []) h, off, on) refl

first_other : (body : List ℕ) (u : ℕ) → list_all is_parameter body ≡ true → is_parameter u ≡ false → is_intermediate u ≡ false → rest (body ++ u ∷ []) ≡ u ∷ []
first_other body u h a b = rw (skip_all is_parameter body (u ∷ []) h, a, b) refl

first_parts : (body : List ℕ) (u : ℕ) → list_all is_parameter body ≡ true → is_parameter u ≡ false → is_intermediate u ≡ false → parts (body ++ u ∷ []) ≡ body
first_parts body u h a b = rw (skip_all is_parameter body (u ∷ []) h, front_all is_parameter body (u ∷ []) h, a, b) (append_none (body ++ []) ∙ append_none body)

pub first_goes_on : (body : List ℕ) (u : ℕ) → list_all is_parameter body ≡ true → is_parameter u ≡ true → length body < 30 → Steps (steps.GoesOn First) (0x1B ∷ 0x5B ∷ body) u
first_goes_on body u h on room = (goes body u (first_parameter body u h on) room, (body ++ u ∷ [], refl, all-longer is_parameter body u h on), omega arith)

pub first_is_full : (body : List ℕ) (u : ℕ) → list_all is_parameter body ≡ true → is_parameter u ≡ true → 30 ≤ length body → Steps steps.Breaks (0x1B ∷ 0x5B ∷ body) u
first_is_full body u h on room = full body u (first_parameter body u h on) room

second_begun : (body : List ℕ) (u : ℕ) → list_all is_parameter body ≡ true → is_intermediate u ≡ true → IsSecond (body ++ u ∷ [])
second_begun body u h on = record { first = body; last = u ∷ []; parts = refl; parameters = h; intermediates = rw on refl; some = append_some [] u }

pub second_goes_first : (body : List ℕ) (u : ℕ) → list_all is_parameter body ≡ true → is_parameter u ≡ false → is_intermediate u ≡ true → length body < 30 → Steps (steps.GoesOn Second) (0x1B ∷ 0x5B ∷ body) u
second_goes_first body u h off on room = (goes body u (first_intermediate body u h off on) room, (body ++ u ∷ [], refl, second_begun body u h on), omega arith)

pub second_is_full_first : (body : List ℕ) (u : ℕ) → list_all is_parameter body ≡ true → is_parameter u ≡ false → is_intermediate u ≡ true → 30 ≤ length body → Steps steps.Breaks (0x1B ∷ 0x5B ∷ body) u
second_is_full_first body u h off on room = full body u (first_intermediate body u h off on) room

pub first_ends : (key : Option Key) (body : List ℕ) (u : ℕ) → list_all is_parameter body ≡ true → is_parameter u ≡ false → is_intermediate u ≡ false → is_last u ≡ true → key ≡ control_sequence_key body u
    → Steps (steps.Ends key) (0x1B ∷ 0x5B ∷ body) u
first_ends key body u h a b last is = ends key body u (first_other body u h a b) (first_parts body u h a b) last is

pub first_breaks : (body : List ℕ) (u : ℕ) → list_all is_parameter body ≡ true → is_parameter u ≡ false → is_intermediate u ≡ false → is_last u ≡ false → Steps steps.Breaks (0x1B ∷ 0x5B ∷ body) u
first_breaks body u h a b last = breaks body u (first_other body u h a b) last

-- ---- after intermediate bytes

no_parameter : (i : ℕ) → is_intermediate i ≡ true → is_parameter i ≡ false
no_parameter i h = grind (arith, nat_tests)

second_rest : (first last : List ℕ) (u : ℕ) → list_all is_parameter first ≡ true → list_all is_intermediate last ≡ true → last ≢ [] → skip_while is_parameter ((first ++ last) ++ u ∷ []) ≡ last ++ u ∷ []
second_rest first [] u h k some = absurd (some refl)
second_rest first (i ∷ is) u h k some = rw (append_assoc first (i ∷ is) (u ∷ []), skip_all is_parameter first ((i ∷ is) ++ u ∷ []) h, no_parameter i (both (is_intermediate i) (list_all is_intermediate is) k).0) refl

second_first : (first last : List ℕ) (u : ℕ) → list_all is_parameter first ≡ true → list_all is_intermediate last ≡ true → last ≢ [] → front_while is_parameter ((first ++ last) ++ u ∷ []) ≡ first
second_first first [] u h k some = absurd (some refl)
second_first first (i ∷ is) u h k some = rw (append_assoc first (i ∷ is) (u ∷ []), front_all is_parameter first ((i ∷ is) ++ u ∷ []) h, no_parameter i (both (is_intermediate i) (list_all is_intermediate is) k).0) (append_none first)

second_on : (first last : List ℕ) (u : ℕ) → list_all is_parameter first ≡ true → list_all is_intermediate last ≡ true → last ≢ [] → is_intermediate u ≡ true → rest ((first ++ last) ++ u ∷ []) ≡ []
second_on first last u h k some on = rw (second_rest first last u h k some, skip_all is_intermediate last (u ∷ []) k, on) refl

second_off : (first last : List ℕ) (u : ℕ) → list_all is_parameter first ≡ true → list_all is_intermediate last ≡ true → last ≢ [] → is_intermediate u ≡ false → rest ((first ++ last) ++ u ∷ []) ≡ u ∷ []
second_off first last u h k some off = rw (second_rest first last u h k some, skip_all is_intermediate last (u ∷ []) k, off) refl

second_parts : (first last : List ℕ) (u : ℕ) → list_all is_parameter first ≡ true → list_all is_intermediate last ≡ true → last ≢ [] → is_intermediate u ≡ false → parts ((first ++ last) ++ u ∷ []) ≡ first ++ last
second_parts first last u h k some off = rw (second_first first last u h k some, second_rest first last u h k some, front_all is_intermediate last (u ∷ []) k, off) (ap (λ xs. first ++ xs) (append_none last))

second_longer : (body : List ℕ) (u : ℕ) → IsSecond body → is_intermediate u ≡ true → IsSecond (body ++ u ∷ [])
second_longer body u s on = record {
  first = s.first;
  last = s.last ++ u ∷ [];
  parts = ap (λ xs. xs ++ u ∷ []) s.parts ∙ append_assoc s.first s.last (u ∷ []);
  parameters = s.parameters;
  intermediates = all-longer is_intermediate s.last u s.intermediates on;
  some = append_some s.last u;
}

at_parts : (body : List ℕ) (u : ℕ) (s : IsSecond body) (ys : List ℕ) → rest ((s.first ++ s.last) ++ u ∷ []) ≡ ys → rest (body ++ u ∷ []) ≡ ys
at_parts body u s ys e = ap (λ xs. rest (xs ++ u ∷ [])) s.parts ∙ e

pub second_goes_on : (body : List ℕ) (u : ℕ) → IsSecond body → is_intermediate u ≡ true → length body < 30 → Steps (steps.GoesOn Second) (0x1B ∷ 0x5B ∷ body) u
second_goes_on body u s on room = (
  goes body u (at_parts body u s [] (second_on s.first s.last u s.parameters s.intermediates s.some on)) room,
  (body ++ u ∷ [], refl, second_longer body u s on),
  omega arith,
)

pub second_is_full : (body : List ℕ) (u : ℕ) → IsSecond body → is_intermediate u ≡ true → 30 ≤ length body → Steps steps.Breaks (0x1B ∷ 0x5B ∷ body) u
second_is_full body u s on room = full body u (at_parts body u s [] (second_on s.first s.last u s.parameters s.intermediates s.some on)) room

pub second_ends : (key : Option Key) (body : List ℕ) (u : ℕ) → IsSecond body → is_intermediate u ≡ false → is_last u ≡ true → key ≡ control_sequence_key body u → Steps (steps.Ends key) (0x1B ∷ 0x5B ∷ body) u
second_ends key body u s off last is = ends key body u (at_parts body u s (u ∷ []) (second_off s.first s.last u s.parameters s.intermediates s.some off))
    (ap (λ xs. parts (xs ++ u ∷ [])) s.parts ∙ (second_parts s.first s.last u s.parameters s.intermediates s.some off ∙ sym s.parts)) last is

pub second_breaks : (body : List ℕ) (u : ℕ) → IsSecond body → is_intermediate u ≡ false → is_last u ≡ false → Steps steps.Breaks (0x1B ∷ 0x5B ∷ body) u
second_breaks body u s off last = breaks body u (at_parts body u s (u ∷ []) (second_off s.first s.last u s.parameters s.intermediates s.some off)) last

-- ---- what a sequence gives where it is broken off

pub broken_many : (phase : Phase) (bytes : List ℕ) → Holds phase bytes → bytes ≢ [] → (length bytes ≡ 1 → ⊥) → broken bytes ≡ replacements bytes
unfolding broken
broken_many Nothing bytes h some one = absurd (some h)
broken_many Escape bytes h some one = absurd (one (ap length h))
broken_many Single bytes h some one = rw h refl
broken_many First bytes h some one = rw h.1 refl
broken_many Second bytes h some one = rw h.1 refl

pub quieted_many : (phase : Phase) (bytes : List ℕ) → Holds phase bytes → bytes ≢ [] → (length bytes ≡ 1 → ⊥) → quieted bytes ≡ replacements bytes
quieted_many Nothing bytes h some one = absurd (some h)
quieted_many Escape bytes h some one = absurd (one (ap length h))
quieted_many Single bytes h some one = rw h refl
quieted_many First bytes h some one = rw h.1 refl
quieted_many Second bytes h some one = rw h.1 refl

pub broken_one : (phase : Phase) (bytes : List ℕ) → Holds phase bytes → length bytes ≡ 1 → broken bytes ≡ escape ∷ []
unfolding broken
broken_one Nothing bytes h one = absurd (omega (arith, ap length h))
broken_one Escape bytes h one = rw h refl
broken_one Single bytes h one = absurd (omega (arith, ap length h))
broken_one First bytes h one = absurd (omega (arith, ap length h.1))
broken_one Second bytes h one = absurd (omega (arith, ap length h.1))
