-- Cells in a list of which the last are one cell.
use Rattle.std.proofs.Common.{◌≡◌, ℕ, ◌+◌, ◌-◌, ◌<◌, ◌≤◌, Bool, true, false, nat_lt, List, ◌++◌, length, set, take, drop, replicate, min, refl, sym, ap, ◌∙◌, append_assoc, arith, length-append, length-drop}
use Rattle.std.proofs.lemmas.List.{drop-replicate, take-replicate, replicate-append-replicate, drop-set-lt, take-append-drop, length-set, length-replicate, length-take-le, drop_all}
use Rattle.std.proofs.lemmas.Slice.{drop-append-drop}
use Rattle.std.proofs.lemmas.Bool.Decides.{nat_tests}
use Rattle.std.proofs.Math.Seq.{take-add, take-append_seam, drop-append_seam}
use Rattle.con_units.specs.Glyph.{Glyph}
use Rattle.con_term.specs.Page.{filled}
use Rattle.con_term.specs.Run.{pasted}
use Rattle.con_term.specs.SheetView.{AreBare}
use Rattle.con_term.proofs.BlockLemmas.{two_steps, filled_pasted}

-- they are so from every later place on
pub later : (xs : List Glyph) (m n : ℕ) (c : Glyph) → m ≤ n → AreBare xs m c → AreBare xs n c
later xs m n c h bare =
    sym (two_steps m (n - m) n xs (omega (arith, h))) ∙ ap (drop (n - m)) bare ∙ drop-replicate (n - m) (length xs - m) c ∙ ap (λ j. replicate j c) (omega (arith, h))

-- other cells in front of a place
pub behind : (xs ys : List Glyph) (m n : ℕ) (c : Glyph) → length ys ≡ length xs → drop n ys ≡ drop n xs → m ≤ n → AreBare xs m c → AreBare ys n c
behind xs ys m n c same rest h bare = rest ∙ later xs m n c h bare ∙ ap (λ j. replicate (j - n) c) (sym same)

pub set_behind : (xs : List Glyph) (m n at : ℕ) (c d : Glyph) → m ≤ n → at < n → AreBare xs m c → AreBare (set xs at d) n c
set_behind xs m n at c d h lt bare = behind xs (set xs at d) m n c (length-set xs at d) (drop-set-lt n xs at d lt) h bare

past_pasted : (xs new : List Glyph) (from n : ℕ) → from + length new ≤ n → from ≤ length xs → drop n (pasted xs from new) ≡ drop n xs
unfolding pasted
past_pasted xs new from n h inside =
    drop-append-drop (from + length new) xs (take from xs ++ new) n h (omega (arith, length-append (take from xs) new, length-take-le from xs inside))

pub pasted_behind : (xs ys new : List Glyph) (m n from : ℕ) (c : Glyph) → m ≤ n → from + length new ≤ n → from ≤ length xs → length ys ≡ length xs → ys ≡ pasted xs from new → AreBare xs m c → AreBare ys n c
pasted_behind xs ys new m n from c h k inside same is bare = behind xs ys m n c same (ap (drop n) is ∙ past_pasted xs new from n k inside) h bare

pub filled_before : (xs ys : List Glyph) (m n from upto : ℕ) (c d : Glyph) → m ≤ n → upto ≤ n → from ≤ upto → upto ≤ length xs → length ys ≡ length xs → ys ≡ filled xs from upto d → AreBare xs m c → AreBare ys n c
filled_before xs ys m n from upto c d h k order inside same is bare =
    pasted_behind xs ys (replicate (upto - from) d) m n from c h (omega (arith, length-replicate (upto - from) d, k, order)) (omega (arith, order, inside)) same (is ∙ filled_pasted xs from upto d order) bare

-- what is filled up to where they begin, or further
pub filled_on : (xs : List Glyph) (from upto : ℕ) (c : Glyph) → from ≤ upto → upto ≤ length xs → AreBare xs upto c → filled xs from upto c ≡ take from xs ++ replicate (length xs - from) c
unfolding filled
filled_on xs from upto c order inside bare =
    ap (λ ys. take from xs ++ replicate (upto - from) c ++ ys) bare
    ∙ append_assoc (take from xs) (replicate (upto - from) c) (replicate (length xs - upto) c)
    ∙ ap (λ ys. take from xs ++ ys) (replicate-append-replicate (upto - from) (length xs - upto) c ∙ ap (λ j. replicate j c) (omega (arith, order, inside)))

-- cells, and one cell behind them
pub ends_bare : (front ys : List Glyph) (count whole : ℕ) (c : Glyph) → length front ≡ count → count ≤ whole → ys ≡ front ++ replicate (whole - count) c → AreBare ys count c
ends_bare front ys count whole c long few is =
    let same : length ys ≡ whole = ap length is ∙ omega (arith, length-append front (replicate (whole - count) c), length-replicate (whole - count) c, long, few) in
    ap (drop count) is ∙ ap (λ j. drop j (front ++ replicate (whole - count) c)) (sym long) ∙ drop-append_seam front (replicate (whole - count) c) ∙ ap (λ j. replicate (j - count) c) (sym same)

-- nothing is written from where they begin
pub none_filled : (xs : List Glyph) (m from upto : ℕ) (c d : Glyph) → m ≤ from → from ≤ upto → upto ≤ length xs → d ≡ c → AreBare xs m c → xs ≡ filled xs from upto d
none_filled xs m from upto c d h order inside same bare =
    sym (ap (filled xs from upto) same ∙ filled_on xs from upto c order inside (later xs m upto c (omega (arith, h, order)) bare)
    ∙ ap (λ ys. take from xs ++ ys) (sym (later xs m from c h bare)) ∙ take-append-drop from xs)

-- what is written up to where they begin
pub some_filled : (xs ys : List Glyph) (m from upto : ℕ) (c d : Glyph) → from ≤ m → m ≤ upto → upto ≤ length xs → d ≡ c → AreBare xs m c → ys ≡ filled xs from m d → ys ≡ filled xs from upto d
some_filled xs ys m from upto c d order h inside same bare is =
    is ∙ ap (filled xs from m) same ∙ filled_on xs from m c order (omega (arith, h, inside)) bare
    ∙ sym (ap (filled xs from upto) same ∙ filled_on xs from upto c (omega (arith, order, h)) inside (later xs m upto c h bare))

pub some_bare : (xs ys : List Glyph) (m from : ℕ) (c d : Glyph) → from ≤ m → m ≤ length xs → d ≡ c → AreBare xs m c → ys ≡ filled xs from m d → AreBare ys from c
some_bare xs ys m from c d order inside same bare is =
    ends_bare (take from xs) ys from (length xs) c (length-take-le from xs (omega (arith, order, inside))) (omega (arith, order, inside)) (is ∙ ap (filled xs from m) same ∙ filled_on xs from m c order inside bare)

-- ---- cells that go to the front

abbrev moved : List Glyph → ℕ → ℕ → List Glyph
moved xs from count = take count (drop from xs) ++ drop count xs

front_long : (xs : List Glyph) (from count : ℕ) → from + count ≤ length xs → length (take count (drop from xs)) ≡ count
front_long xs from count h = length-take-le count (drop from xs) (omega (arith, h, length-drop {A = Glyph} from xs))

moved_long : (xs : List Glyph) (from count : ℕ) → from + count ≤ length xs → length (moved xs from count) ≡ length xs
moved_long xs from count h = omega (arith, h, front_long xs from count h, length-append (take count (drop from xs)) (drop count xs), length-drop {A = Glyph} count xs)

-- those that were copied, and one cell behind them
pub pulled_front : (xs ys : List Glyph) (from count end : ℕ) (c : Glyph) → from + count ≤ length xs → count ≤ end → end ≤ length xs → AreBare xs end c
    → ys ≡ filled (take count (drop from xs) ++ drop count xs) count end c → ys ≡ take count (drop from xs) ++ replicate (length xs - count) c
pulled_front xs ys from count end c room h inside bare is =
    let long : length (moved xs from count) ≡ length xs = moved_long xs from count room in
    let so : AreBare (moved xs from count) end c = behind xs (moved xs from count) end end c long (drop-append-drop count xs (take count (drop from xs)) end h (front_long xs from count room)) (omega arith) bare in
    is ∙ filled_on (moved xs from count) count end c h (omega (arith, long, inside)) so
    ∙ ap (λ j. take count (moved xs from count) ++ replicate (j - count) c) long
    ∙ ap (λ zs. zs ++ replicate (length xs - count) c) (ap (λ j. take j (moved xs from count)) (sym (front_long xs from count room)) ∙ take-append_seam (take count (drop from xs)) (drop count xs))

-- those that were kept, of which the last need no copy
pub pulled : (xs ys : List Glyph) (from kept count : ℕ) (c : Glyph) → count ≤ kept → kept ≤ length xs → take (kept - count) (drop (from + count) xs) ≡ replicate (kept - count) c
    → ys ≡ take count (drop from xs) ++ replicate (length xs - count) c → ys ≡ take kept (drop from xs) ++ replicate (length xs - kept) c
pulled xs ys from kept count c few inside gap is =
    is ∙ sym (ap (λ j. take j (drop from xs) ++ replicate (length xs - kept) c) (omega (arith, few))
    ∙ ap (λ zs. zs ++ replicate (length xs - kept) c) (take-add count (kept - count) (drop from xs) ∙ ap (λ zs. take count (drop from xs) ++ zs) (ap (take (kept - count)) (two_steps from count (from + count) xs refl) ∙ gap))
    ∙ append_assoc (take count (drop from xs)) (replicate (kept - count) c) (replicate (length xs - kept) c)
    ∙ ap (λ zs. take count (drop from xs) ++ zs) (replicate-append-replicate (kept - count) (length xs - kept) c ∙ ap (λ j. replicate j c) (omega (arith, few, inside))))

gap_by : (xs : List Glyph) (from kept m count : ℕ) (c : Glyph) (b : Bool) → nat_lt (from + count) m ≡ b → count ≡ min kept (m - from) → from + kept ≤ length xs → AreBare xs m c → take (kept - count) (drop (from + count) xs) ≡ replicate (kept - count) c
gap_by xs from kept m count c true e least room bare =
    let more : from + count < m = grind (arith, nat_tests) in
    let none : kept - count ≡ 0 = omega (arith, more, least) in
    rw none refl
gap_by xs from kept m count c false e least room bare =
    let past : m ≤ from + count = grind (arith, nat_tests) in
    ap (take (kept - count)) (later xs m (from + count) c past bare) ∙ take-replicate (kept - count) (length xs - (from + count)) c (omega (arith, least, room))

pub gap : (xs : List Glyph) (from kept m count : ℕ) (c : Glyph) → count ≡ min kept (m - from) → from + kept ≤ length xs → AreBare xs m c → take (kept - count) (drop (from + count) xs) ≡ replicate (kept - count) c
gap xs from kept m count c least room bare = gap_by xs from kept m count c (nat_lt (from + count) m) refl least room bare

-- nothing stands behind the last cell
pub at_end : (xs : List Glyph) (n : ℕ) (c : Glyph) → n ≡ length xs → AreBare xs n c
at_end xs n c h = let none : length xs - n ≡ 0 = omega (arith, h) in drop_all n xs (omega (arith, h)) ∙ sym (rw none refl)

pub pulled_bare : (xs ys : List Glyph) (from count : ℕ) (c : Glyph) → from + count ≤ length xs → ys ≡ take count (drop from xs) ++ replicate (length xs - count) c → AreBare ys count c
pulled_bare xs ys from count c room is = ends_bare (take count (drop from xs)) ys count (length xs) c (front_long xs from count room) (omega (arith, room)) is

-- what is left of a list that was `xs`: so many of its cells from a place on, and one cell behind them, known from `count` on
pub record IsPulled (xs ys : List Glyph) (from kept count : ℕ) (c blank : Glyph) : Type 0 where
  pub few : count ≤ length xs
  pub bare : AreBare ys count blank
  pub cells : ys ≡ take kept (drop from xs) ++ replicate (length xs - kept) c

pub pulled_known : (xs ys : List Glyph) (from kept m count end : ℕ) (c d : Glyph) → d ≡ c → count ≡ min kept (m - from) → from + kept ≤ length xs → m ≤ length xs → m ≤ end → count ≤ end → ((n : ℕ) → m ≤ n → count ≤ n → end ≤ n)
    → AreBare xs m c → ys ≡ filled (take count (drop from xs) ++ drop count xs) count end d → IsPulled xs ys from kept count d c
pulled_known xs ys from kept m count end c d same least room inside over above lowest bare is =
    let few : count ≤ kept = omega (arith, least) in
    let short : from + count ≤ length xs = omega (arith, few, room) in
    let last : end ≤ length xs = lowest (length xs) inside (omega (arith, short)) in
    let front : ys ≡ take count (drop from xs) ++ replicate (length xs - count) c = pulled_front xs ys from count end c short above last (later xs m end c over bare) (is ∙ ap (filled (take count (drop from xs) ++ drop count xs) count end) same) in
    record {
      few = omega (arith, short);
      bare = pulled_bare xs ys from count c short front;
      cells = pulled xs ys from kept count c few (omega (arith, room)) (gap xs from kept m count c least room bare) front ∙ ap (λ b. take kept (drop from xs) ++ replicate (length xs - kept) b) (sym same);
    }

pub pulled_anew : (xs ys : List Glyph) (from kept end : ℕ) (d : Glyph) → from + kept ≤ length xs → end ≡ length xs → ys ≡ filled (take kept (drop from xs) ++ drop kept xs) kept end d → IsPulled xs ys from kept kept d d
pulled_anew xs ys from kept end d room last is =
    let front : ys ≡ take kept (drop from xs) ++ replicate (length xs - kept) d = pulled_front xs ys from kept end d room (omega (arith, room, last)) (omega (arith, last)) (at_end xs end d last) is in
    record { few = omega (arith, room); bare = pulled_bare xs ys from kept d room front; cells = front }
