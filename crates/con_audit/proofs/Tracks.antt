-- Clients by their numbers.
use Rattle.std.proofs.Common.{◌≡◌, ℕ, zero, suc, ◌+◌, ◌-◌, ◌<◌, ◌≤◌, ◌==◌, Bool, true, false, ◌&&◌, nat_le, List, [], ◌∷◌, ◌++◌, length, get_or, set, refl, sym, ap, ◌∙◌, arith, length-append}
use Rattle.std.specs.Prelude.{◌≢◌, slice_get, Some}
use Rattle.std.proofs.lemmas.Bool.{and_parts}
use Rattle.std.proofs.lemmas.Bool.Decides.{nat_tests}
use Rattle.std.proofs.lemmas.Grind.{get_or-set_at}
use Rattle.std.proofs.lemmas.List.{get_or_append_left, get_or-set_other, length-set}
use Rattle.std.proofs.Math.Seq.{get_or-append_seam}
use Rattle.std.proofs.lemmas.Option.{slice_get_read, get_or_from_slice_get}
use Rattle.con_events.specs.Session.{Clients}
use Rattle.con_events.specs.declared.script.Script.{Script}
use Rattle.con_events.specs.declared.script.Step.{Step}
use Rattle.con_machine.specs.Follows.{steps_of, kinds_of}
use Rattle.con_machine.specs.Words.Follows.{steps_in}
use Rattle.con_machine.specs.Client as client
use Rattle.con_machine.specs.Client.{Client, Stance, starting, moved_on}
use Rattle.con_machine.specs.Turns.{Turn}
use Rattle.con_audit.specs.Judging.{AreTracks, client_at, is_gone, all_gone}

pub no_tracks : (is : ℕ → Client) → AreTracks 0 is []
no_tracks is = record { count = refl; each = λ p some none. absurd (omega (arith, some, none)) }

-- the client that was read at a number's place
pub read_at : (tracks : List Client) (p : ℕ) (c : Client) → 0 < p → p ≤ length tracks → c ≡ get_or tracks (p - 1) c → client_at tracks p ≡ c
read_at tracks p c some few e =
    let lt : p - 1 < length tracks = omega (arith, some, few) in
    get_or_from_slice_get tracks (p - 1) c (starting [] []) (slice_get_read tracks (length tracks) (p - 1) c refl lt e)

-- the client of a script and of the kinds of its handlers
pub track_at : (session : Clients) (racks : List (List ℕ)) (scripts : List Script) (k : ℕ) (s : Script) (kinds : List ℕ) → scripts ≡ session.scripts → k < length scripts
    → s ≡ get_or scripts k s → kinds ≡ get_or racks k [] → starting s.steps kinds ≡ starting (steps_of session (k + 1)) (kinds_of racks (k + 1))
track_at session racks scripts k s kinds is lt at have =
    let back : k ≡ k + 1 - 1 = omega arith in
    let found : slice_get session.scripts (k + 1 - 1) ≡ Some s =
    ap (λ (n : ℕ). slice_get session.scripts n) (sym back) ∙ ap (λ (ss : List Script). slice_get ss k) (sym is) ∙ slice_get_read scripts (length scripts) k s refl lt at in
    starts_alike s.steps (steps_of session (k + 1)) kinds (kinds_of racks (k + 1)) (ap steps_in (sym found)) (have ∙ ap (λ (n : ℕ). get_or racks n []) back)
  where
    starts_alike : (a b : List Step) (p q : List ℕ) → a ≡ b → p ≡ q → starting a p ≡ starting b q
    starts_alike a b p q e f = rw (e, f) refl

-- one more
pub tracks_more : (n : ℕ) (is : ℕ → Client) (tracks : List Client) (c : Client) → AreTracks n is tracks → c ≡ is (n + 1) → AreTracks (n + 1) is (tracks ++ c ∷ [])
tracks_more n is tracks c a e = record {
  count = length-append tracks (c ∷ []) ∙ ap (λ m. m + 1) a.count;
  each = λ p some few. by p (nat_le p n) refl some few;
}
  where
    by : (p : ℕ) (b : Bool) → nat_le p n ≡ b → 0 < p → p ≤ n + 1 → client_at (tracks ++ c ∷ []) p ≡ is p
    by p true d some few =
        let le : p ≤ n = grind (arith, nat_tests) in
        let len : length tracks ≡ n = a.count in
        let lt : p - 1 < length tracks = omega (arith, some, le, len) in
        get_or_append_left tracks (c ∷ []) (starting [] []) (p - 1) lt ∙ a.each p some le
    by p false d some few =
        let more : n < p = grind (arith, nat_tests) in
        let last : p ≡ n + 1 = omega (arith, some, few, more) in
        let len : length tracks ≡ n = a.count in
        let at : p - 1 ≡ length tracks = omega (arith, last, len) in
        ap (λ k. get_or (tracks ++ c ∷ []) k (starting [] [])) at ∙ get_or-append_seam tracks c [] (starting [] []) ∙ e ∙ ap is (sym last)

pub no_tracks_yet : (is : ℕ → Client) (tracks : List Client) → tracks ≡ [] → AreTracks 0 is tracks
no_tracks_yet is tracks e = rw e (no_tracks is)

pub tracks_next : (n : ℕ) (is : ℕ → Client) (tracks next : List Client) (c : Client) → next ≡ tracks ++ c ∷ [] → AreTracks n is tracks → c ≡ is (n + 1) → AreTracks (n + 1) is next
tracks_next n is tracks next c e a f = rw e (tracks_more n is tracks c a f)

apart : (p q : ℕ) → 0 < p → 0 < q → (q == p) ≡ false → p - 1 ≢ q - 1
apart p q a b e h = let same : q ≡ p = omega (arith, a, b, h) in absurd (differ q p same e)
  where
    differ : (q p : ℕ) → q ≡ p → (q == p) ≡ false → ⊥
    differ q p s f = grind (arith, nat_tests)

same_number : (q p : ℕ) → (q == p) ≡ true → q ≡ p
same_number q p e = grind (arith, nat_tests)

-- one becomes another, and no one else does
pub tracks_set : (n : ℕ) (is next : ℕ → Client) (tracks : List Client) (q : ℕ) (c : Client) → AreTracks n is tracks → 0 < q → q ≤ n → c ≡ next q
    → ((p : ℕ) → (q == p) ≡ false → next p ≡ is p) → AreTracks n next (set tracks (q - 1) c)
tracks_set n is next tracks q c a low high e others = record {
  count = length-set tracks (q - 1) c ∙ a.count;
  each = λ p some few. by p (q == p) refl some few;
}
  where
    by : (p : ℕ) (b : Bool) → (q == p) ≡ b → 0 < p → p ≤ n → client_at (set tracks (q - 1) c) p ≡ next p
    by p true d some few =
        let same : q ≡ p = same_number q p d in
        let len : length tracks ≡ n = a.count in
        let lt : q - 1 < length tracks = omega (arith, low, high, len) in
        let at : p - 1 ≡ q - 1 = omega (arith, same) in
        get_or-set_at tracks (q - 1) (p - 1) c (starting [] []) at lt ∙ e ∙ ap next same
    by p false d some few =
        get_or-set_other tracks (q - 1) (p - 1) c (starting [] []) (apart p q some low d) ∙ a.each p some few ∙ sym (others p d)

-- no one does
pub tracks_same : (n : ℕ) (is next : ℕ → Client) (tracks : List Client) → AreTracks n is tracks → ((p : ℕ) → next p ≡ is p) → AreTracks n next tracks
tracks_same n is next tracks a same = record { count = a.count; each = λ p some few. a.each p some few ∙ sym (same p) }

-- ---- whether all have left

gone_is : (s : Stance) → is_gone s ≡ true → s ≡ client.Gone
gone_is client.GoesOn e = absurd (cc)
gone_is client.MayLeave e = absurd (cc)
gone_is client.MustLeave e = absurd (cc)
gone_is client.Gone e = refl

gone_at : (tracks : List Client) (k : ℕ) (d : Client) → all_gone tracks ≡ true → k < length tracks → (get_or tracks k d).stance ≡ client.Gone
gone_at [] k d e lt = absurd (omega arith)
gone_at (c ∷ cs) zero d e lt = gone_is c.stance (and_parts (is_gone c.stance) (all_gone cs) e).0
gone_at (c ∷ cs) (suc k) d e lt = gone_at cs k d (and_parts (is_gone c.stance) (all_gone cs) e).1 (omega arith)

both_gone : (a b : Bool) → a ≡ true → b ≡ true → (a && b) ≡ true
both_gone a b e f = rw (e, f) refl

gone_all : (tracks : List Client) (d : Client) → ((k : ℕ) → k < length tracks → (get_or tracks k d).stance ≡ client.Gone) → all_gone tracks ≡ true
gone_all [] d f = refl
gone_all (c ∷ cs) d f = both_gone (is_gone c.stance) (all_gone cs) (ap is_gone (f 0 (omega arith))) (gone_all cs d (λ k lt. f (suc k) (omega (arith, lt))))

pub all_left : (n : ℕ) (is : ℕ → Client) (tracks : List Client) → AreTracks n is tracks → all_gone tracks ≡ true → (p : ℕ) → 0 < p → p ≤ n → (is p).stance ≡ client.Gone
all_left n is tracks a e p some few =
    let len : length tracks ≡ n = a.count in
    let lt : p - 1 < length tracks = omega (arith, some, few, len) in
    ap (λ (c : Client). c.stance) (sym (a.each p some few)) ∙ gone_at tracks (p - 1) (starting [] []) e lt

pub left_all : (n : ℕ) (is : ℕ → Client) (tracks : List Client) → AreTracks n is tracks → ((p : ℕ) → 0 < p → p ≤ n → (is p).stance ≡ client.Gone) → all_gone tracks ≡ true
left_all n is tracks a f = gone_all tracks (starting [] []) (λ k lt. at k lt)
  where
    at : (k : ℕ) → k < length tracks → (get_or tracks k (starting [] [])).stance ≡ client.Gone
    at k lt =
        let len : length tracks ≡ n = a.count in
        let some : 0 < k + 1 = omega arith in
        let few : k + 1 ≤ n = omega (arith, lt, len) in
        let back : k ≡ k + 1 - 1 = omega arith in
        ap (λ (j : ℕ). (get_or tracks j (starting [] [])).stance) back ∙ ap (λ (c : Client). c.stance) (a.each (k + 1) some few) ∙ f (k + 1) some few

-- ---- one of them enters an event

pub went_on : (tracks now : List Client) (p : ℕ) (old new : Client) (t : Turn) → 0 < p → p ≤ length tracks → old ≡ get_or tracks (p - 1) old → new ≡ moved_on old t
    → now ≡ set tracks (p - 1) new → now ≡ set tracks (p - 1) (moved_on (client_at tracks p) t)
went_on tracks now p old new t some few at moves e =
    e ∙ ap (λ (c : Client). set tracks (p - 1) c) (moves ∙ ap (λ (c : Client). moved_on c t) (sym (read_at tracks p old some few at)))
