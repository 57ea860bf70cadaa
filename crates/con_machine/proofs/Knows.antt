-- What is known of the view that was painted last, where it is seen in the same place.
use Rattle.std.proofs.Common.{◌≡◌, ℕ, zero, suc, ◌+◌, ◌<◌, inl, inr, Bool, true, false, not, ◌||◌, List, [], ◌∷◌, ◌++◌, length, map, get_or, replicate, Option, None, Some, refl, sym, ap, subst, ◌∙◌, arith}
use Rattle.std.specs.Prelude.{IsSome, IfSome, ◌↔◌, is_none}
use Rattle.std.specs.Option.{option_map}
use Rattle.std.proofs.Math.Seq.{get_or-append_seam}
use Rattle.std.proofs.lemmas.Bool.{cases_eq}
use Rattle.std.proofs.lemmas.Grind.{replicate_next}
use Rattle.std.proofs.lemmas.List.{get_or_append_left}
use Rattle.con_units.specs.declared.view.View.{View}
use Rattle.con_page.specs.Sides.{Sides, sides}
use Rattle.con_screens.specs.Buffers.{Buffers, buffer_at, screen_at}
use Rattle.con_screens.specs.Words.Buffers.{AreBuffers}
use Rattle.con_screens.specs.Words.Stamps.{Remembered, remembered, all_remembered, WasShown, IsAsShown}
use Rattle.con_screens.specs.StampLaws.{remembers_shown}
use Rattle.con_screens.specs.Lending.{screen_left}
use Rattle.con_screens.specs.Stamps.{numbered}
use Rattle.con_screens.specs.View.{view_of}
use Rattle.con_screens.specs.declared.buffer.Buffer.{Buffer}
use Rattle.con_machine.specs.Words.ScreenCalls.{page_at}
use Rattle.con_machine.specs.Sound.{IsPaintedOf, IsPainted, side_of}
use Rattle.con_machine.specs.State.{State}
use Rattle.con_machine.specs.Marks.{seen_at, IsSameRow, AreMarks}
use Rattle.con_machine.specs.Painting.{view_now, stamped}
use Rattle.con_machine.specs.Words.Painting.{next_number}
use Rattle.con_machine.specs.declared.painting.seen.Seen.{Seen}

looked : (xs : List (Option Buffer)) (k : ℕ) → get_or (map (option_map remembered) xs) k None ≡ option_map remembered (get_or xs k None)
looked [] k = refl
looked (x ∷ xs) zero = refl
looked (x ∷ xs) (suc k) = looked xs k

from_side : (r : Option Remembered) (seen : Seen) (s : Sides) (v : View) → IfSome r (λ x. side_of seen.alternate x ≡ s) → IsPaintedOf r seen (Some v) → WasShown s seen.left seen.top v
from_side None seen s v e was = absurd was
from_side (Some r) seen s v e was = subst (λ (x : Sides). WasShown x seen.left seen.top v) e was

into_side : (r : Option Remembered) (seen : Seen) (s : Sides) (v : View) → IsSome r → IfSome r (λ x. side_of seen.alternate x ≡ s) → WasShown s seen.left seen.top v → IsPaintedOf r seen (Some v)
into_side None seen s v live e was = absurd (cc)
into_side (Some r) seen s v live e was = subst (λ (x : Sides). WasShown x seen.left seen.top v) (sym e) was

-- where the view is seen in the same place, it is known that it was shown when the screen's number was raised
pub known_was : (b : Buffers) (seen : Option Seen) (painted : Option View) (last : View) → AreBuffers b → IsPainted (all_remembered b) seen painted → seen ≡ Some (seen_at b) → painted ≡ Some last
    → WasShown (sides (screen_at b b.active).page) (page_at b b.active).left (page_at b b.active).top last
known_was b seen painted last are was here is =
    let at : IsPainted (all_remembered b) (Some (seen_at b)) (Some last) = subst (λ (o : Option View). IsPainted (all_remembered b) (Some (seen_at b)) o) is (subst (λ (o : Option Seen). IsPainted (all_remembered b) o painted) here was) in
    from_side (option_map remembered (buffer_at b b.active)) (seen_at b) (sides (screen_at b b.active).page) last (remembers_shown b b.active are.active) (subst (λ (r : Option Remembered). IsPaintedOf r (seen_at b) (Some last)) (looked b.slots b.active) at)

some_remembered : (o : Option Buffer) → IsSome o → IsSome (option_map remembered o)
some_remembered None live = absurd (cc)
some_remembered (Some b) live = refl

pub now_painted : (b : Buffers) (v : View) → AreBuffers b → WasShown (sides (screen_at b b.active).page) (page_at b b.active).left (page_at b b.active).top v → IsPainted (all_remembered b) (Some (seen_at b)) (Some v)
now_painted b v are was =
    subst (λ (r : Option Remembered). IsPaintedOf r (seen_at b) (Some v)) (sym (looked b.slots b.active))
    (into_side (option_map remembered (buffer_at b b.active)) (seen_at b) (sides (screen_at b b.active).page) v (some_remembered (buffer_at b b.active) are.active) (remembers_shown b b.active are.active) was)

-- the shown screen's number is raised
pub stamped_is : (b now : Buffers) (id old number : ℕ) → id ≡ b.active → old ≡ (page_at b id).grid.now → number ≡ next_number old
    → now ≡ screen_left b id (numbered (screen_at b id) number) → now ≡ stamped b
stamped_is b now id old number at was is left =
    left ∙ ap (λ (n : ℕ). screen_left b id (numbered (screen_at b id) n)) (is ∙ ap next_number was)
    ∙ ap (λ (i : ℕ). screen_left b i (numbered (screen_at b i) (next_number (page_at b i).grid.now))) at

pub stamped_seen : (b now : Buffers) (id : ℕ) (seen : Seen) → AreBuffers now → id ≡ b.active → now.active ≡ b.active → seen ≡ seen_at now
    → WasShown (sides (screen_at now id).page) (screen_at now id).page.left (screen_at now id).page.top (view_of (screen_at b id).page)
    → IsPainted (all_remembered now) (Some seen) (Some (view_of (page_at b b.active)))
stamped_seen b now id seen are at same is was =
    let v : View = view_of (page_at b b.active) in
    let Q : ℕ → View → Type 0 = λ i u. WasShown (sides (screen_at now i).page) (screen_at now i).page.left (screen_at now i).page.top u in
    let here : Q b.active v = subst (λ (i : ℕ). Q i (view_of (screen_at b i).page)) at was in
    let there : Q now.active v = subst (λ (i : ℕ). Q i v) (sym same) here in
    subst (λ (x : Seen). IsPainted (all_remembered now) (Some x) (Some v)) (sym is) (now_painted now v are there)

-- ---- marks

no_mark : (n y : ℕ) → get_or (replicate n true) y true ≡ true
no_mark zero y = refl
no_mark (suc n) zero = refl
no_mark (suc n) (suc y) = no_mark n y

-- every row is marked, or the last view is known
pub row_same : (b : Buffers) (seen : Option Seen) (painted : Option View) (m : List Bool) (n y : ℕ) (resized known all : Bool) → AreBuffers b → IsPainted (all_remembered b) seen painted
    → (known ≡ true) ↔ (seen ≡ Some (seen_at b)) → all ≡ ((resized || is_none painted) || not known) → (all ≡ true → m ≡ replicate n true)
    → (get_or m y true ≡ false → IsAsShown (screen_at b b.active).page y) → get_or m y true ≡ false → IsSameRow painted (view_of (page_at b b.active)) y
row_same b seen painted m n y resized known true are was tells is every shown unmarked =
    let marked : get_or m y true ≡ true = ap (λ (l : List Bool). get_or l y true) (every refl) ∙ no_mark n y in
    absurd (let wrong : true ≡ false = sym marked ∙ unmarked in cc)
row_same b seen None m n y resized known false are was tells is every shown unmarked = absurd (by_tests resized known is)
  where
    by_tests : (r k : Bool) → false ≡ ((r || true) || not k) → ⊥
    by_tests true k e = cc
    by_tests false k e = cc
row_same b seen (Some last) m n y resized false false are was tells is every shown unmarked = absurd (by_test (resized || false) is)
  where
    by_test : (r : Bool) → false ≡ (r || true) → ⊥
    by_test true e = cc
    by_test false e = cc
row_same b seen (Some last) m n y resized true false are was tells is every shown unmarked =
    shown unmarked last (known_was b seen (Some last) last are was (tells.0 refl) refl)

pub marks_are : (s : State) (seen : Option Seen) (h : ℕ) (m : List Bool) (fresh known all : Bool) → AreBuffers s.buffers → IsPainted (all_remembered s.buffers) seen s.painted
    → h ≡ (view_now s).size.h → fresh ≡ (s.resized || is_none s.painted) → (known ≡ true) ↔ (seen ≡ Some (seen_at s.buffers)) → all ≡ (fresh || not known)
    → length m ≡ h → (all ≡ true → m ≡ replicate h true)
    → ((y : ℕ) → y < h → get_or m y true ≡ false → IsAsShown (screen_at s.buffers s.buffers.active).page y) → AreMarks s m
marks_are s seen h m fresh known all are was tall new tells is count every shown = record {
  count = count ∙ tall;
  fresh = λ f. every (is ∙ ap (λ (b : Bool). b || not known) (new ∙ f)) ∙ ap (λ (n : ℕ). replicate n true) tall;
  same = λ y low unmarked. row_same s.buffers seen s.painted m h y s.resized known all are was tells (is ∙ ap (λ (b : Bool). b || not known) new) every
      (shown y (subst (λ (n : ℕ). y < n) (sym tall) low)) unmarked;
}

-- where the place is another one, the view is not known
pub all_moved : (seen : Option Seen) (b : Buffers) (fresh known : Bool) → (known ≡ true) ↔ (seen ≡ Some (seen_at b)) → (seen ≡ Some (seen_at b) → ⊥) → (fresh || not known) ≡ true
all_moved seen b fresh true tells moved = absurd (moved (tells.0 refl))
all_moved seen b true false tells moved = refl
all_moved seen b false false tells moved = refl

-- ---- one mark more

pub every_more : (xs : List Bool) (n : ℕ) (b : Bool) → xs ≡ replicate n true → b ≡ true → xs ++ b ∷ [] ≡ replicate (n + 1) true
every_more xs n b p q = rw (p, q) (sym (replicate_next n true))

pub one_more : (xs : List Bool) (n : ℕ) (b : Bool) (P : ℕ → Type 0) → length xs ≡ n → ((y : ℕ) → y < n → get_or xs y true ≡ false → P y) → (b ≡ false → P n) → (y : ℕ) → y < n + 1 → get_or (xs ++ b ∷ []) y true ≡ false → P y
one_more xs n b P count before here y below unmarked = elim (cases_eq y n) [
  | inl at ↦ subst P (sym at) (here (sym (get_or-append_seam xs b [] true) ∙ ap (λ (k : ℕ). get_or (xs ++ b ∷ []) k true) (count ∙ sym at) ∙ unmarked))
  | inr other ↦ before y (omega (arith, below, other)) (sym (get_or_append_left xs (b ∷ []) true y (omega (arith, below, other, count))) ∙ unmarked)
]
