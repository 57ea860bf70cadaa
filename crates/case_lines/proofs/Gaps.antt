-- Lines and the wanted ones, from gap to gap.
use Rattle.std.proofs.Common.{◌≡◌, ℕ, ◌+◌, ◌-◌, ◌≢◌, ◌<◌, ◌≤◌, true, false, ◌&&◌, List, [], ◌∷◌, length, map, take, drop, ap, sym, ◌∙◌, subst, refl, arith, suc, ⊎_elim, length-drop, take_all, length-take-le, ◌↔◌, Result, Ok, Err, MatchResult}
use Rattle.std.specs.Prelude.{if◌then◌else◌, string_bytes, MatchBool, max}
use Rattle.std.proofs.lemmas.List.{drop-drop, drop_all, drop-map, length-map}
use Rattle.std.proofs.lemmas.Bool.{and_parts, and_from, cases_Bool, cases_lt, true≢false}
use Rattle.case_lines.specs.Wanted.{first_is, begins_with, is_any, block_len, from_gap, BehindSome, IsAsWanted}
use Rattle.case_lines.specs.declared.wanted.Way.{Way}
use Rattle.case_lines.specs.declared.wanted.Wanted.{Wanted}

-- what the lines before the first gap stand for
abbrev pub texts : List Wanted → List (List ℕ)
texts ws = map (λ one. string_bytes one.text) (take (block_len ws) ws)

pub no_block : (x : Wanted) (xs : List Wanted) → is_any x ≡ true → block_len (x ∷ xs) ≡ 0
no_block x xs e = ap (λ b. if b then 0 else 1 + block_len xs) e

pub longer_block : (x : Wanted) (xs : List Wanted) → is_any x ≡ false → block_len (x ∷ xs) ≡ suc (block_len xs)
longer_block x xs e = let next : 1 + block_len xs ≡ suc (block_len xs) = omega arith in ap (λ b. if b then 0 else 1 + block_len xs) e ∙ next

next_drop : {X : Type 0} (n : ℕ) (xs : List X) → drop n (drop 1 xs) ≡ drop (suc n) xs
next_drop n xs = let next : 1 + n ≡ suc n = omega arith in drop-drop n 1 xs ∙ ap (λ k. drop k xs) next

-- a gap first
pub gap_from : (w : Way) (x : Wanted) (xs : List Wanted) (ls : List (List ℕ)) → is_any x ≡ true → BehindSome (IsAsWanted w xs) ls → IsAsWanted w (x ∷ xs) ls
gap_from w x xs ls e h =
    subst (λ b. MatchBool b (BehindSome (IsAsWanted w xs) ls) ((first_is w (string_bytes x.text) ls ≡ true) × IsAsWanted w xs (drop 1 ls))) (sym e) h

pub gap_to : (w : Way) (x : Wanted) (xs : List Wanted) (ls : List (List ℕ)) → is_any x ≡ true → IsAsWanted w (x ∷ xs) ls → BehindSome (IsAsWanted w xs) ls
gap_to w x xs ls e h =
    subst (λ b. MatchBool b (BehindSome (IsAsWanted w xs) ls) ((first_is w (string_bytes x.text) ls ≡ true) × IsAsWanted w xs (drop 1 ls))) e h

-- another line first
line_from : (w : Way) (x : Wanted) (xs : List Wanted) (ls : List (List ℕ)) → is_any x ≡ false
    → (first_is w (string_bytes x.text) ls ≡ true) × IsAsWanted w xs (drop 1 ls) → IsAsWanted w (x ∷ xs) ls
line_from w x xs ls e h =
    subst (λ b. MatchBool b (BehindSome (IsAsWanted w xs) ls) ((first_is w (string_bytes x.text) ls ≡ true) × IsAsWanted w xs (drop 1 ls))) (sym e) h

line_to : (w : Way) (x : Wanted) (xs : List Wanted) (ls : List (List ℕ)) → is_any x ≡ false
    → IsAsWanted w (x ∷ xs) ls → (first_is w (string_bytes x.text) ls ≡ true) × IsAsWanted w xs (drop 1 ls)
line_to w x xs ls e h =
    subst (λ b. MatchBool b (BehindSome (IsAsWanted w xs) ls) ((first_is w (string_bytes x.text) ls ≡ true) × IsAsWanted w xs (drop 1 ls))) e h

-- the lines up to the first gap stand first, and behind them what is wanted from the gap on
pub block_from : (w : Way) (ws : List Wanted) (ls : List (List ℕ))
    → begins_with w (texts ws) ls ≡ true → IsAsWanted w (from_gap ws) (drop (block_len ws) ls) → IsAsWanted w ws ls
block_from w [] ls b r = r
block_from w (x ∷ xs) ls b r = ⊎_elim
    (λ e. subst (λ n. IsAsWanted w (drop n (x ∷ xs)) (drop n ls)) (no_block x xs e) r)
    (λ e. let n = longer_block x xs e in
    let both : (first_is w (string_bytes x.text) ls && begins_with w (texts xs) (drop 1 ls)) ≡ true =
    subst (λ k. begins_with w (map (λ one. string_bytes one.text) (take k (x ∷ xs))) ls ≡ true) n b in
    let rest : IsAsWanted w (from_gap xs) (drop (suc (block_len xs)) ls) = subst (λ k. IsAsWanted w (drop k (x ∷ xs)) (drop k ls)) n r in
    line_from w x xs ls e (
      (and_parts _ _ both).0,
      block_from w xs (drop 1 ls) (and_parts _ _ both).1 (subst (IsAsWanted w (from_gap xs)) (sym (next_drop (block_len xs) ls)) rest),
    ))
    (cases_Bool (is_any x))

pub block_to : (w : Way) (ws : List Wanted) (ls : List (List ℕ))
    → IsAsWanted w ws ls → (begins_with w (texts ws) ls ≡ true) × IsAsWanted w (from_gap ws) (drop (block_len ws) ls)
block_to w [] ls r = (refl, r)
block_to w (x ∷ xs) ls r = ⊎_elim
    (λ e. subst (λ n. (begins_with w (map (λ one. string_bytes one.text) (take n (x ∷ xs))) ls ≡ true) × IsAsWanted w (drop n (x ∷ xs)) (drop n ls))
    (sym (no_block x xs e)) (refl, r))
    (λ e. let h = line_to w x xs ls e r in
    let more = block_to w xs (drop 1 ls) h.1 in
    let here : (first_is w (string_bytes x.text) ls && begins_with w (texts xs) (drop 1 ls)) ≡ true = and_from _ _ h.0 more.0 in
    let rest : IsAsWanted w (from_gap xs) (drop (suc (block_len xs)) ls) = subst (IsAsWanted w (from_gap xs)) (next_drop (block_len xs) ls) more.1 in
    subst (λ n. (begins_with w (map (λ one. string_bytes one.text) (take n (x ∷ xs))) ls ≡ true) × IsAsWanted w (drop n (x ∷ xs)) (drop n ls))
    (sym (longer_block x xs e)) (here, rest))
    (cases_Bool (is_any x))

-- lines that begin with others are as many or more
pub begins_few : (w : Way) (ts : List (List ℕ)) (ls : List (List ℕ)) → begins_with w ts ls ≡ true → length ts ≤ length ls
begins_few w [] ls b = omega arith
begins_few w (t ∷ ts) [] b = absurd (true≢false (sym b))
begins_few w (t ∷ ts) (l ∷ ls) b =
    let more : length ts ≤ length ls = begins_few w ts ls (and_parts (first_is w t (l ∷ ls)) (begins_with w ts ls) b).1 in omega (arith, more)

-- how many there are before the first gap
pub block_few : (ws : List Wanted) → block_len ws ≤ length ws
block_few [] = omega arith
block_few (x ∷ xs) = ⊎_elim
    (λ e. omega (arith, no_block x xs e))
    (λ e. omega (arith, longer_block x xs e, block_few xs))
    (cases_Bool (is_any x))

-- where not all lines stand before the first gap, what is behind them is as wanted, from a gap on, from each earlier place on
pub earlier : (w : Way) (ws : List Wanted) (ls : List (List ℕ)) (i j : ℕ) → block_len ws < length ws → i ≤ j → j ≤ length ls
    → IsAsWanted w (from_gap ws) (drop j ls) → IsAsWanted w (from_gap ws) (drop i ls)
earlier w [] ls i j some lt le r = absurd (omega arith)
earlier w (x ∷ xs) ls i j some lt le r = ⊎_elim
    (λ e. let n = no_block x xs e in
    let h = gap_to w x xs (drop j ls) e (subst (λ k. IsAsWanted w (drop k (x ∷ xs)) (drop j ls)) n r) in
    let sum : j + h.0 ≡ i + (j - i + h.0) = omega arith in
    let same : drop h.0 (drop j ls) ≡ drop (j - i + h.0) (drop i ls) =
    drop-drop h.0 j ls ∙ ap (λ k. drop k ls) sum ∙ sym (drop-drop (j - i + h.0) i ls) in
    subst (λ k. IsAsWanted w (drop k (x ∷ xs)) (drop i ls)) (sym n)
    (gap_from w x xs (drop i ls) e
    (j - i + h.0, omega (arith, h.1, length-drop j ls, length-drop i ls), subst (IsAsWanted w xs) same h.2)))
    (λ e. let n = longer_block x xs e in
    subst (λ k. IsAsWanted w (drop k (x ∷ xs)) (drop i ls)) (sym n)
    (earlier w xs ls i j (omega (arith, n, some)) lt le (subst (λ k. IsAsWanted w (drop k (x ∷ xs)) (drop j ls)) n r)))
    (cases_Bool (is_any x))

-- ---- behind a gap

-- the block fits behind the place at which it stands
pub block_fits : (w : Way) (ws : List Wanted) (ls : List (List ℕ)) (k : ℕ) → k ≤ length ls → begins_with w (texts ws) (drop k ls) ≡ true
    → k + block_len ws ≤ length ls
block_fits w ws ls k le b = omega (
  arith,
  le,
  begins_few w (texts ws) (drop k ls) b,
  length-drop k ls,
  length-map (take (block_len ws) ws) (λ one. string_bytes one.text),
  length-take-le (block_len ws) ws (block_few ws),
)

-- where lines behind a gap stand
pub Place : Way → List Wanted → List (List ℕ) → ℕ → Type 0
Place w ws ls at = (k : ℕ) × (at ≤ k) × (k + block_len ws ≤ length ls) × (begins_with w (texts ws) (drop k ls) ≡ true)
    × IsAsWanted w (from_gap ws) (drop (k + block_len ws) ls)

pub place_of : (w : Way) (ws : List Wanted) (ls : List (List ℕ)) (at : ℕ) → at ≤ length ls → BehindSome (IsAsWanted w ws) (drop at ls) → Place w ws ls at
unfolding Place
place_of w ws ls at le h =
    let k : ℕ = at + h.0 in
    let within : k ≤ length ls = omega (arith, le, h.1, length-drop at ls) in
    let both = block_to w ws (drop k ls) (subst (IsAsWanted w ws) (drop-drop h.0 at ls) h.2) in
    (k, omega arith, block_fits w ws ls k within both.0, both.0, subst (IsAsWanted w (from_gap ws)) (drop-drop (block_len ws) k ls) both.1)

-- where they stand at a place, and what is behind them too
pub stand_from : (w : Way) (ws : List Wanted) (ls : List (List ℕ)) (at from : ℕ) → at ≤ from → from ≤ length ls
    → begins_with w (texts ws) (drop from ls) ≡ true → IsAsWanted w (from_gap ws) (drop (from + block_len ws) ls)
    → BehindSome (IsAsWanted w ws) (drop at ls)
stand_from w ws ls at from lt le b r =
    let sum : at + (from - at) ≡ from = omega (arith, lt) in
    let same : drop from ls ≡ drop (from - at) (drop at ls) = ap (λ k. drop k ls) (sym sum) ∙ sym (drop-drop (from - at) at ls) in (
      from - at,
      omega (arith, lt, le, length-drop at ls),
      subst (IsAsWanted w ws) same
          (block_from w ws (drop from ls) b (subst (IsAsWanted w (from_gap ws)) (sym (drop-drop (block_len ws) from ls)) r)),
    )

-- where a gap follows, they can stand where they first do
pub first_to : (w : Way) (ws : List Wanted) (ls : List (List ℕ)) (at from : ℕ) → block_len ws < length ws → at ≤ length ls
    → ((k : ℕ) → at ≤ k → k < from → begins_with w (texts ws) (drop k ls) ≡ false)
    → BehindSome (IsAsWanted w ws) (drop at ls) → IsAsWanted w (from_gap ws) (drop (from + block_len ws) ls)
unfolding Place
first_to w ws ls at from some le none h =
    let p = place_of w ws ls at le h in
    ⊎_elim
    (λ before. absurd (true≢false (sym p.3 ∙ none p.0 p.1 before)))
    (λ behind. earlier w ws ls (from + block_len ws) (p.0 + block_len ws) some (omega (arith, behind)) p.2 p.4)
    (cases_lt p.0 from)

-- where they stand nowhere
pub none_to : (w : Way) (ws : List Wanted) (ls : List (List ℕ)) (at : ℕ) → at ≤ length ls
    → ((k : ℕ) → at ≤ k → k ≤ length ls → begins_with w (texts ws) (drop k ls) ≡ false)
    → BehindSome (IsAsWanted w ws) (drop at ls) → ⊥
unfolding Place
none_to w ws ls at le none h =
    let p = place_of w ws ls at le h in
    true≢false (sym p.3 ∙ none p.0 p.1 (omega (arith, p.2)))

-- where no gap follows, they end with the last line
pub last_to : (w : Way) (ws : List Wanted) (ls : List (List ℕ)) (at from : ℕ) → block_len ws ≡ length ws → at ≤ length ls
    → from ≡ max at (length ls - block_len ws) → BehindSome (IsAsWanted w ws) (drop at ls)
    → (begins_with w (texts ws) (drop from ls) ≡ true) × IsAsWanted w (from_gap ws) (drop (from + block_len ws) ls)
unfolding Place
last_to w ws ls at from all le place h =
    let p = place_of w ws ls at le h in
    let none : from_gap ws ≡ [] = drop_all (block_len ws) ws (omega (arith, all)) in
    let left : length (drop (p.0 + block_len ws) ls) ≡ 0 = subst (λ v. IsAsWanted w v (drop (p.0 + block_len ws) ls)) none p.4 in
    let same : p.0 ≡ from = omega (arith, place, left, p.1, p.2, length-drop (p.0 + block_len ws) ls) in
    subst (λ k. (begins_with w (texts ws) (drop k ls) ≡ true) × IsAsWanted w (from_gap ws) (drop (k + block_len ws) ls)) same (p.3, p.4)

-- ---- lines of any type

-- by cases on an answer
pub on_answer : {X Y : Type 0} (r : Result X Y) (P P' : X → Type 0) (Q Q' : Y → Type 0)
    → ((x : X) → P x → P' x) → ((y : Y) → Q y → Q' y) → MatchResult r P Q → MatchResult r P' Q'
on_answer (Ok x) P P' Q Q' p q h = p x h
on_answer (Err y) P P' Q Q' p q h = q y h

pub on_from : {Y : Type 0} (g : Y → List ℕ) (k : ℕ) (lines : List Y) → map g (drop k lines) ≡ drop k (map g lines)
on_from g k lines = sym (drop-map g k lines)

-- what is tied at a place behind lines that stand
pub tied : {Y : Type 0} (g : Y → List ℕ) (w : Way) (ws : List Wanted) (lines : List Y) (at from behind : ℕ) → at ≤ from → from ≤ length lines
    → behind ≡ from + block_len ws → begins_with w (texts ws) (drop from (map g lines)) ≡ true
    → (BehindSome (IsAsWanted w ws) (drop at (map g lines)) → IsAsWanted w (from_gap ws) (drop (from + block_len ws) (map g lines)))
    → BehindSome (IsAsWanted w ws) (map g (drop at lines)) ↔ IsAsWanted w (from_gap ws) (map g (drop behind lines))
tied g w ws lines at from behind lt le is b to =
    let same : map g (drop behind lines) ≡ drop (from + block_len ws) (map g lines) = on_from g behind lines ∙ ap (λ k. drop k (map g lines)) is in (
      (λ h. subst (IsAsWanted w (from_gap ws)) (sym same) (to (subst (BehindSome (IsAsWanted w ws)) (on_from g at lines) h))),
      (λ h. subst (BehindSome (IsAsWanted w ws)) (sym (on_from g at lines))
          (stand_from w ws (map g lines) at from lt (omega (arith, le, length-map lines g)) b (subst (IsAsWanted w (from_gap ws)) same h))),
    )

-- a block at a place, said of the lines as they are
pub block_at : {Y : Type 0} (g : Y → List ℕ) (w : Way) (ws block : List Wanted) (lines : List Y) (k : ℕ) → block ≡ take (block_len ws) ws
    → begins_with w (map (λ one. string_bytes one.text) block) (map g (drop k lines)) ≡ begins_with w (texts ws) (drop k (map g lines))
block_at g w ws block lines k is =
    ap (λ b. begins_with w (map (λ one. string_bytes one.text) b) (map g (drop k lines))) is ∙ ap (begins_with w (texts ws)) (on_from g k lines)

block_long : (ws block : List Wanted) → block ≡ take (block_len ws) ws → length block ≡ block_len ws
block_long ws block is = ap length is ∙ length-take-le (block_len ws) ws (block_few ws)

-- the last block
pub behind_last : {Y D : Type 0} (g : Y → List ℕ) (w : Way) (ws block : List Wanted) (lines : List Y) (at from : ℕ) (r : Result ℕ D)
    → block ≡ take (block_len ws) ws → length block ≡ length ws → at ≤ length lines → from ≡ max at (length lines - length block)
    → MatchResult r
    (λ b. (b ≡ from + length block) × (b ≤ length lines) × (begins_with w (map (λ one. string_bytes one.text) block) (map g (drop from lines)) ≡ true))
    (λ d. begins_with w (map (λ one. string_bytes one.text) block) (map g (drop from lines)) ≡ false)
    → MatchResult r
    (λ b. (b ≤ length lines) × (BehindSome (IsAsWanted w ws) (map g (drop at lines)) ↔ IsAsWanted w (from_gap ws) (map g (drop b lines))))
    (λ d. BehindSome (IsAsWanted w ws) (map g (drop at lines)) → ⊥)
behind_last g w ws block lines at from r is all le place h =
    let long : length block ≡ block_len ws = block_long ws block is in
    let same = block_at g w ws block lines from is in
    let to = last_to w ws (map g lines) at from (sym long ∙ all) (omega (arith, le, length-map lines g)) (omega (arith, place, long, length-map lines g)) in
    on_answer r _ _ _ _
    (λ b p. (p.1, tied g w ws lines at from b (omega (arith, place)) (omega (arith, place, le)) (omega (arith, p.0, long)) (sym same ∙ p.2) (λ t. (to t).1)))
    (λ d q t. true≢false (sym (to (subst (BehindSome (IsAsWanted w ws)) (on_from g at lines) t)).0 ∙ sym same ∙ q))
    h

-- a block with a gap behind it, where it first stands
pub behind_first_place : {Y D : Type 0} (g : Y → List ℕ) (w : Way) (ws block : List Wanted) (lines : List Y) (at from : ℕ) (r : Result ℕ D)
    → block ≡ take (block_len ws) ws → length block ≢ length ws → at ≤ length lines → at ≤ from → from ≤ length lines
    → begins_with w (map (λ one. string_bytes one.text) block) (map g (drop from lines)) ≡ true
    → ((k : ℕ) → at ≤ k → k < from → begins_with w (map (λ one. string_bytes one.text) block) (map g (drop k lines)) ≡ false)
    → MatchResult r
    (λ b. (b ≡ from + length block) × (b ≤ length lines) × (begins_with w (map (λ one. string_bytes one.text) block) (map g (drop from lines)) ≡ true))
    (λ d. begins_with w (map (λ one. string_bytes one.text) block) (map g (drop from lines)) ≡ false)
    → MatchResult r
    (λ b. (b ≤ length lines) × (BehindSome (IsAsWanted w ws) (map g (drop at lines)) ↔ IsAsWanted w (from_gap ws) (map g (drop b lines))))
    (λ d. BehindSome (IsAsWanted w ws) (map g (drop at lines)) → ⊥)
behind_first_place g w ws block lines at from r is some le lt within stands none h =
    let long : length block ≡ block_len ws = block_long ws block is in
    let same = block_at g w ws block lines from is in
    let few : block_len ws < length ws = omega (arith, some, long, block_few ws) in
    let to = first_to w ws (map g lines) at from few (omega (arith, le, length-map lines g))
    (λ k a b. sym (block_at g w ws block lines k is) ∙ none k a b) in
    on_answer r _ _ _ _
    (λ b p. (p.1, tied g w ws lines at from b lt within (omega (arith, p.0, long)) (sym same ∙ p.2) to))
    (λ d q t. true≢false (sym stands ∙ q))
    h

-- a block that stands nowhere
pub behind_none : {Y : Type 0} (g : Y → List ℕ) (w : Way) (ws block : List Wanted) (lines : List Y) (at : ℕ)
    → block ≡ take (block_len ws) ws → at ≤ length lines
    → ((k : ℕ) → at ≤ k → k ≤ length lines → begins_with w (map (λ one. string_bytes one.text) block) (map g (drop k lines)) ≡ false)
    → BehindSome (IsAsWanted w ws) (map g (drop at lines)) → ⊥
behind_none g w ws block lines at is le none h =
    none_to w ws (map g lines) at (omega (arith, le, length-map lines g))
    (λ k a b. sym (block_at g w ws block lines k is) ∙ none k a (omega (arith, b, length-map lines g)))
    (subst (BehindSome (IsAsWanted w ws)) (on_from g at lines) h)

-- ---- one wanted line on

gap_stays : (x : Wanted) (xs : List Wanted) → is_any x ≡ true → from_gap (x ∷ xs) ≡ x ∷ xs
gap_stays x xs e = ap (λ k. drop k (x ∷ xs)) (no_block x xs e)

line_goes : (x : Wanted) (xs : List Wanted) → is_any x ≡ false → from_gap (x ∷ xs) ≡ from_gap xs
line_goes x xs e = ap (λ k. drop k (x ∷ xs)) (longer_block x xs e)

pub at_gap : {D : Type 0} (w : Way) (ws : List Wanted) (x : Wanted) (xs : List Wanted) (now : List (List ℕ)) (later : ℕ → List (List ℕ)) (few : ℕ) (r : Result ℕ D)
    → ws ≡ x ∷ xs → is_any x ≡ true
    → MatchResult r (λ b. (b ≤ few) × (BehindSome (IsAsWanted w xs) now ↔ IsAsWanted w (from_gap xs) (later b))) (λ d. BehindSome (IsAsWanted w xs) now → ⊥)
    → MatchResult r (λ b. (b ≤ few) × (IsAsWanted w (from_gap ws) now ↔ IsAsWanted w (from_gap (drop 1 ws)) (later b))) (λ d. IsAsWanted w (from_gap ws) now → ⊥)
at_gap w ws x xs now later few r is any h =
    let from : from_gap ws ≡ x ∷ xs = ap (λ v. from_gap v) is ∙ gap_stays x xs any in
    let behind : from_gap (drop 1 ws) ≡ from_gap xs = ap (λ v. from_gap (drop 1 v)) is in
    on_answer r _ _ _ _
    (λ b p. (
      p.0,
      (
        (λ t. subst (λ v. IsAsWanted w v (later b)) (sym behind) (p.1.0 (gap_to w x xs now any (subst (λ v. IsAsWanted w v now) from t)))),
        (λ t. subst (λ v. IsAsWanted w v now) (sym from) (gap_from w x xs now any (p.1.1 (subst (λ v. IsAsWanted w v (later b)) behind t)))),
      ),
    ))
    (λ d q t. q (gap_to w x xs now any (subst (λ v. IsAsWanted w v now) from t)))
    h

pub at_line : (w : Way) (ws : List Wanted) (x : Wanted) (xs : List Wanted) (now : List (List ℕ)) → ws ≡ x ∷ xs → is_any x ≡ false
    → IsAsWanted w (from_gap ws) now ↔ IsAsWanted w (from_gap (drop 1 ws)) now
at_line w ws x xs now is any =
    let same : from_gap ws ≡ from_gap (drop 1 ws) = ap (λ v. from_gap v) is ∙ line_goes x xs any ∙ ap (λ v. from_gap (drop 1 v)) (sym is) in
    ((λ t. subst (λ v. IsAsWanted w v now) same t), (λ t. subst (λ v. IsAsWanted w v now) (sym same) t))

-- ---- all lines

pub starts_other : {Y : Type 0} (g : Y → List ℕ) (w : Way) (ws block : List Wanted) (lines : List Y) → block ≡ take (block_len ws) ws
    → begins_with w (map (λ one. string_bytes one.text) block) (map g (drop 0 lines)) ≡ false → IsAsWanted w ws (map g lines) → ⊥
starts_other g w ws block lines is q h = true≢false (sym (block_to w ws (map g lines) h).0 ∙ sym (block_at g w ws block lines 0 is) ∙ q)

pub starts_as : {Y : Type 0} (g : Y → List ℕ) (w : Way) (ws block : List Wanted) (lines : List Y) (behind : ℕ) → block ≡ take (block_len ws) ws
    → behind ≡ 0 + length block → begins_with w (map (λ one. string_bytes one.text) block) (map g (drop 0 lines)) ≡ true
    → IsAsWanted w ws (map g lines) ↔ IsAsWanted w (from_gap ws) (map g (drop behind lines))
starts_as g w ws block lines behind is place b =
    let far : behind ≡ block_len ws = omega (arith, place, block_long ws block is) in
    let same : map g (drop behind lines) ≡ drop (block_len ws) (map g lines) = on_from g behind lines ∙ ap (λ k. drop k (map g lines)) far in (
      (λ h. subst (IsAsWanted w (from_gap ws)) (sym same) (block_to w ws (map g lines) h).1),
      (λ h. block_from w ws (map g lines) (sym (block_at g w ws block lines 0 is) ∙ b) (subst (IsAsWanted w (from_gap ws)) same h)),
    )

from_all : (ws : List Wanted) (n : ℕ) → take (length ws - n) (drop n ws) ≡ drop n ws
from_all ws n = take_all (length ws - n) (drop n ws) (omega (arith, length-drop n ws))

pub one_on : (w : Way) (ws : List Wanted) (all now later : List (List ℕ)) (n : ℕ)
    → IsAsWanted w ws all ↔ IsAsWanted w (from_gap (drop n ws)) now
    → IsAsWanted w (from_gap (take (length ws - n) (drop n ws))) now ↔ IsAsWanted w (from_gap (drop 1 (take (length ws - n) (drop n ws)))) later
    → IsAsWanted w ws all ↔ IsAsWanted w (from_gap (drop (n + 1) ws)) later
one_on w ws all now later n h k =
    let next : drop 1 (take (length ws - n) (drop n ws)) ≡ drop (n + 1) ws = ap (drop 1) (from_all ws n) ∙ drop-drop 1 n ws in (
      (λ t. subst (λ v. IsAsWanted w (from_gap v) later) next (k.0 (subst (λ v. IsAsWanted w (from_gap v) now) (sym (from_all ws n)) (h.0 t)))),
      (λ t. h.1 (subst (λ v. IsAsWanted w (from_gap v) now) (from_all ws n) (k.1 (subst (λ v. IsAsWanted w (from_gap v) later) (sym next) t)))),
    )

pub one_other : (w : Way) (ws : List Wanted) (all now : List (List ℕ)) (n : ℕ)
    → IsAsWanted w ws all ↔ IsAsWanted w (from_gap (drop n ws)) now
    → (IsAsWanted w (from_gap (take (length ws - n) (drop n ws))) now → ⊥)
    → IsAsWanted w ws all → ⊥
one_other w ws all now n h k t = k (subst (λ v. IsAsWanted w (from_gap v) now) (sym (from_all ws n)) (h.0 t))

pub none_left : (w : Way) (ws : List Wanted) (all now : List (List ℕ)) (n : ℕ) → length ws ≤ n
    → IsAsWanted w ws all ↔ IsAsWanted w (from_gap (drop n ws)) now
    → IsAsWanted w ws all ↔ (length now ≡ 0)
none_left w ws all now n far h = subst (λ v. IsAsWanted w ws all ↔ IsAsWanted w (from_gap v) now) (drop_all n ws far) h
