-- What is done to a part of a block.
use Rattle.std.proofs.Common.{◌≡◌, ℕ, zero, suc, ◌+◌, ◌-◌, ◌<◌, ◌≤◌, List, [], ◌∷◌, ◌++◌, length, set, take, drop, map, replicate, refl, sym, ap, ◌∙◌, append_assoc, arith, length-drop}
use Rattle.std.proofs.lemmas.List.{drop-set-add, drop-append-le, drop-take, drop-drop, length-map, length-replicate, length-take, length-take-le, drop_all, take-replicate}
use Rattle.std.proofs.Math.Seq.{take-set-lt, take-append-add}
use Rattle.con_units.specs.Glyph.{Glyph}
use Rattle.con_term.specs.Page.{filled}
use Rattle.con_term.specs.Run.{pasted}
use Rattle.con_term.specs.BlockView.{part}

-- ---- fronts and rests

take_front : (m k : ℕ) (xs : List Glyph) → m ≤ k → take m (take k xs) ≡ take m xs
take_front zero k xs h = refl
take_front (suc m) zero xs h = absurd (omega arith)
take_front (suc m) (suc k) [] h = refl
take_front (suc m) (suc k) (x ∷ xs) h = ap (λ ys. x ∷ ys) (take_front m k xs (omega arith))

drop_front : (m k : ℕ) (xs : List Glyph) → m ≤ k → drop m (take k xs) ≡ take (k - m) (drop m xs)
drop_front m k xs h = let e : k ≡ m + (k - m) = omega arith in ap (λ j. drop m (take j xs)) e ∙ drop-take m (k - m) xs

-- two steps into a list
pub two_steps : (m n k : ℕ) (xs : List Glyph) → k ≡ m + n → drop n (drop m xs) ≡ drop k xs
two_steps m n k xs h = drop-drop n m xs ∙ ap (λ j. drop j xs) (sym h)

append_none : (xs : List Glyph) → xs ++ [] ≡ xs
append_none [] = refl
append_none (x ∷ xs) = ap (λ ys. x ∷ ys) (append_none xs)

-- ---- cells pasted into a list

pub filled_pasted : (xs : List Glyph) (from upto : ℕ) (c : Glyph) → from ≤ upto → filled xs from upto c ≡ pasted xs from (replicate (upto - from) c)
unfolding filled pasted
filled_pasted xs from upto c h =
    let e : upto ≡ from + length (replicate (upto - from) c) = omega (arith, length-replicate (upto - from) c) in
    ap (λ k. take from xs ++ replicate (upto - from) c ++ drop k xs) e

-- the same from the right
abbrev laid : List Glyph → ℕ → List Glyph → List Glyph
laid xs at new = take at xs ++ (new ++ drop (at + length new) xs)

pasted_laid : (xs : List Glyph) (at : ℕ) (new : List Glyph) → pasted xs at new ≡ laid xs at new
unfolding pasted
pasted_laid xs at new = append_assoc (take at xs) new (drop (at + length new) xs)

drop_laid : (s from : ℕ) (xs new : List Glyph) → s + from ≤ length xs → drop s (laid xs (s + from) new) ≡ laid (drop s xs) from new
drop_laid s from xs new h =
    let front : length (take (s + from) xs) ≡ s + from = length-take-le (s + from) xs h in
    drop-append-le s (take (s + from) xs) (new ++ drop (s + from + length new) xs) (omega (arith, front))
    ∙ ap (λ ys. ys ++ (new ++ drop (s + from + length new) xs)) (drop-take s from xs)
    ∙ ap (λ ys. take from (drop s xs) ++ (new ++ ys)) (sym (two_steps s (from + length new) (s + from + length new) xs (omega arith)))

drop_pasted : (s from : ℕ) (xs new : List Glyph) → s + from ≤ length xs → drop s (pasted xs (s + from) new) ≡ pasted (drop s xs) from new
drop_pasted s from xs new h = ap (drop s) (pasted_laid xs (s + from) new) ∙ drop_laid s from xs new h ∙ sym (pasted_laid (drop s xs) from new)

take_laid : (n from : ℕ) (ys new : List Glyph) → from + length new ≤ n → n ≤ length ys → take n (laid ys from new) ≡ laid (take n ys) from new
take_laid n from ys new h k =
    let rest : ℕ = n - (from + length new) in
    let front : length (take from ys) ≡ from = length-take-le from ys (omega arith) in
    let e : n ≡ length (take from ys) + (length new + rest) = omega (arith, front) in
    ap (λ j. take j (take from ys ++ (new ++ drop (from + length new) ys))) e
    ∙ take-append-add (take from ys) (new ++ drop (from + length new) ys) (length new + rest)
    ∙ ap (λ zs. take from ys ++ zs) (take-append-add new (drop (from + length new) ys) rest)
    ∙ ap (λ zs. zs ++ (new ++ take rest (drop (from + length new) ys))) (sym (take_front from n ys (omega arith)))
    ∙ ap (λ zs. take from (take n ys) ++ (new ++ zs)) (sym (drop_front (from + length new) n ys h))

take_pasted : (n from : ℕ) (ys new : List Glyph) → from + length new ≤ n → n ≤ length ys → take n (pasted ys from new) ≡ pasted (take n ys) from new
take_pasted n from ys new h k = ap (take n) (pasted_laid ys from new) ∙ take_laid n from ys new h k ∙ sym (pasted_laid (take n ys) from new)

-- ---- a part of a block

pub part_set : (s n at : ℕ) (xs : List Glyph) (c : Glyph) → at < n → part s n (set xs (s + at) c) ≡ set (part s n xs) at c
part_set s n at xs c h = ap (take n) (drop-set-add s xs at c) ∙ take-set-lt n (drop s xs) at c h

pub part_pasted : (s n from : ℕ) (xs new : List Glyph) → from + length new ≤ n → s + n ≤ length xs → part s n (pasted xs (s + from) new) ≡ pasted (part s n xs) from new
part_pasted s n from xs new h k = ap (take n) (drop_pasted s from xs new (omega arith)) ∙ take_pasted n from (drop s xs) new h (omega (arith, length-drop {A = Glyph} s xs))

pub part_filled : (s n from upto : ℕ) (xs : List Glyph) (c : Glyph) → from ≤ upto → upto ≤ n → s + n ≤ length xs → part s n (filled xs (s + from) (s + upto) c) ≡ filled (part s n xs) from upto c
part_filled s n from upto xs c h k fits =
    let same : s + upto - (s + from) ≡ upto - from = omega arith in
    let small : from + length (replicate (upto - from) c) ≤ n = omega (arith, length-replicate (upto - from) c) in
    ap (part s n) (filled_pasted xs (s + from) (s + upto) c (omega arith) ∙ ap (λ j. pasted xs (s + from) (replicate j c)) same)
    ∙ part_pasted s n from xs (replicate (upto - from) c) small fits
    ∙ sym (filled_pasted (part s n xs) from upto c h)

-- the last places of a list
pasted_last : (xs new : List Glyph) (from : ℕ) → from + length new ≡ length xs → pasted xs from new ≡ take from xs ++ new
unfolding pasted
pasted_last xs new from h = ap (λ ys. take from xs ++ new ++ ys) (drop_all (from + length new) xs (omega (arith, h))) ∙ append_none (take from xs ++ new)

part_length : (s n : ℕ) (xs : List Glyph) → s + n ≤ length xs → length (part s n xs) ≡ n
part_length s n xs h = length-take-le n (drop s xs) (omega (arith, length-drop {A = Glyph} s xs))

-- the part goes on in its block
pub lifted_on : (s n by : ℕ) (xs : List Glyph) (c : Glyph) → by ≤ n → s + by + n ≤ length xs → part (s + by) n (filled xs (s + n) (s + by + n) c) ≡ drop by (part s n xs) ++ replicate by c
lifted_on s n by xs c h k =
    let kept : ℕ = n - by in
    let e : s + n ≡ s + by + kept = omega arith in
    let long : length (part (s + by) n xs) ≡ n = part_length (s + by) n xs k in
    ap (λ j. part (s + by) n (filled xs j (s + by + n) c)) e
    ∙ part_filled (s + by) n kept n xs c (omega arith) (omega arith) k
    ∙ filled_pasted (part (s + by) n xs) kept n c (omega arith)
    ∙ pasted_last (part (s + by) n xs) (replicate (n - kept) c) kept (omega (arith, long, length-replicate (n - kept) c))
    ∙ ap (λ j. take kept (part (s + by) n xs) ++ replicate j c) (omega arith)
    ∙ ap (λ ys. ys ++ replicate by c) (take_front kept n (drop (s + by) xs) (omega arith) ∙ ap (take kept) (sym (two_steps s by (s + by) xs refl)) ∙ sym (drop_front by n (drop s xs) h))

-- the part goes back to the front of its block
pub lifted_back : (s n by : ℕ) (xs after : List Glyph) (c : Glyph) → by ≤ n → s ≤ n → length xs ≡ n + n → s + by + (n - by) ≤ length xs → after ≡ take (n - by) (drop (s + by) xs) ++ replicate (length xs - (n - by)) c → part 0 n after ≡ drop by (part s n xs) ++ replicate by c
lifted_back s n by xs after c h low twice room e =
    let front : List Glyph = take (n - by) (drop (s + by) xs) in
    let long : length front ≡ n - by = length-take-le (n - by) (drop (s + by) xs) (omega (arith, room, length-drop {A = Glyph} (s + by) xs)) in
    let whole : n ≡ length front + by = omega (arith, long, h) in
    let few : by ≤ length xs - (n - by) = omega (arith, twice, h) in
    ap (take n) e
    ∙ ap (λ j. take j (front ++ replicate (length xs - (n - by)) c)) whole
    ∙ take-append-add front (replicate (length xs - (n - by)) c) by
    ∙ ap (λ ys. front ++ ys) (take-replicate by (length xs - (n - by)) c few)
    ∙ ap (λ ys. ys ++ replicate by c) (ap (take (n - by)) (sym (two_steps s by (s + by) xs refl)) ∙ sym (drop_front by n (drop s xs) h))

-- ---- a block that contracts see as `now`

count_is : (s n : ℕ) (xs now : List Glyph) → s ≤ n → length xs ≡ n + n → part s n xs ≡ now → length now ≡ n
count_is s n xs now low twice e = ap length (sym e) ∙ part_length s n xs (omega (arith, twice))

pub same_count : (s n : ℕ) (xs after now : List Glyph) → s ≤ n → length xs ≡ n + n → part s n xs ≡ now → length after ≡ length xs → length (part s n after) ≡ length now
same_count s n xs after now low twice e same = part_length s n after (omega (arith, twice, same)) ∙ sym (count_is s n xs now low twice e)

pub set_is : (s n at : ℕ) (xs after now : List Glyph) (c : Glyph) → s ≤ n → length xs ≡ n + n → part s n xs ≡ now → at < length now → after ≡ set xs (s + at) c → part s n after ≡ set now at c
set_is s n at xs after now c low twice e h is = ap (part s n) is ∙ part_set s n at xs c (omega (arith, count_is s n xs now low twice e, h)) ∙ ap (λ ys. set ys at c) e

pub fill_is : (s n from upto : ℕ) (xs after now : List Glyph) (c : Glyph) → s ≤ n → length xs ≡ n + n → part s n xs ≡ now → from ≤ upto → upto ≤ length now → after ≡ filled xs (s + from) (s + upto) c → part s n after ≡ filled now from upto c
fill_is s n from upto xs after now c low twice e order inside is =
    ap (part s n) is ∙ part_filled s n from upto xs c order (omega (arith, count_is s n xs now low twice e, inside)) (omega (arith, twice)) ∙ ap (λ ys. filled ys from upto c) e

pub run_is : (s n from most count : ℕ) (xs after now new : List Glyph) → s ≤ n → length xs ≡ n + n → part s n xs ≡ now → from + most ≤ length now → count ≤ most → length new ≤ count → after ≡ pasted xs (s + from) new → part s n after ≡ pasted now from new
run_is s n from most count xs after now new low twice e room few short is =
    ap (part s n) is ∙ part_pasted s n from xs new (omega (arith, count_is s n xs now low twice e, room, few, short)) (omega (arith, twice)) ∙ ap (λ ys. pasted ys from new) e

pub lift_on_is : (s n by : ℕ) (xs after now : List Glyph) (c : Glyph) → s ≤ n → length xs ≡ n + n → part s n xs ≡ now → by ≤ length now → s + by ≤ n → after ≡ filled xs (s + n) (s + by + n) c → part (s + by) n after ≡ drop by now ++ replicate by c
lift_on_is s n by xs after now c low twice e inside room is =
    ap (part (s + by) n) is ∙ lifted_on s n by xs c (omega (arith, count_is s n xs now low twice e, inside)) (omega (arith, twice)) ∙ ap (λ ys. drop by ys ++ replicate by c) e

pub lift_back_is : (s n by : ℕ) (xs after now : List Glyph) (c : Glyph) → s ≤ n → length xs ≡ n + n → part s n xs ≡ now → by ≤ length now → after ≡ take (n - by) (drop (s + by) xs) ++ replicate (length xs - (n - by)) c → part 0 n after ≡ drop by now ++ replicate by c
lift_back_is s n by xs after now c low twice e inside is =
    let few : by ≤ n = omega (arith, count_is s n xs now low twice e, inside) in
    lifted_back s n by xs after c few low twice (omega (arith, twice, few, low)) is ∙ ap (λ ys. drop by ys ++ replicate by c) e

pub run_short : (f : ℕ → Glyph) (bytes : List ℕ) (count : ℕ) → length (map f (take count bytes)) ≤ count
run_short f bytes count = omega (arith, length-map (take count bytes) f, length-take count bytes)

pub first_half : (n : ℕ) (xs : List Glyph) (c : Glyph) → xs ≡ replicate (n + n) c → take n xs ≡ replicate n c
first_half n xs c h = ap (take n) h ∙ take-replicate n (n + n) c (omega arith)
