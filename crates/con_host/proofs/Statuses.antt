-- The statuses of `type`, `play` and `gen`: which come, and which where nothing failed.
use Rattle.std.proofs.Common.{◌≡◌, ◌≢◌, ◌⊎◌, inl, inr, sym, subst, ◌∙◌, arith, ℕ, ◌<◌, ◌≤◌, List, [], length, length-append, Option, Some, None}
use Rattle.std.specs.Prelude.{IfSome}
use Rattle.con_units.specs.declared.place.Size.{Size}
use Rattle.con_outside.specs.Outside.{then_left}
use Rattle.con_text.specs.Playing.{Played}
use Rattle.con_text.specs.Typing.{Typed}
use Rattle.con_sessions.specs.Generating.{Generated}

-- all was done, or there was no memory; one of two things failed; or the text is longer than a link may be
abbrev pub Comes : ℕ → ℕ → ℕ → List ℕ → Type 0
Comes s a b text = ((s ≡ 0) ⊎ (s ≡ 9)) ⊎ (((s ≡ a) ⊎ (s ≡ b)) ⊎ ((s ≡ 10) × (16777216 < length text)))

-- ---- which come

-- a report comes with the status that it tells, with the one where it failed, or with 9
reported_comes : (P A B C : Type 0) (s told lost : ℕ) → (s ≡ told → P) → (s ≡ lost → P) → (s ≡ 9 → P) → ((s ≡ told) × A) ⊎ (((s ≡ lost) × B × C) ⊎ ((s ≡ 9) × B)) → P
reported_comes P A B C s told lost all cut memory r = elim r [
  | inl f ↦ all f.0
  | inr rest ↦ elim rest [
    | inl f ↦ cut f.0
    | inr f ↦ memory f.0
  ]
]

pub typed_comes : (s : ℕ) (text : List ℕ) (left before now before_report report : Option (List ℕ)) (failed : Type 0) → Typed s text left before now before_report report failed → Comes s 4 5 text
typed_comes s text left before now before_report report failed t = elim t [
  | inl f ↦ inl (inr f.0)
  | inr u ↦ elim u [
    | inl w ↦ elim w.1.2 [
      | inl f ↦ inl (inl f.0)
      | inr p ↦ elim p.1 [
        | inl f ↦ inl (inr f.0)
        | inr r ↦ reported_comes (Comes s 4 5 text) _ _ _ s 5 5 (λ f. inr (inl (inr f))) (λ f. inr (inl (inr f))) (λ f. inl (inr f)) r
      ]
    ]
    | inr v ↦ elim v.1 [
      | inl p ↦ reported_comes (Comes s 4 5 text) _ _ _ s 4 4 (λ f. inr (inl (inl f))) (λ f. inr (inl (inl f))) (λ f. inl (inr f)) p.1
      | inr p ↦ reported_comes (Comes s 4 5 text) _ _ _ s 10 10 (λ f. inr (inr (f, p.0.0))) (λ f. inr (inr (f, p.0.0))) (λ f. inl (inr f)) p.1
    ]
  ]
]

pub played_comes : (s : ℕ) (size : Size) (text : List ℕ) (left before now : Option (List ℕ)) (failed : Type 0) → Played s size text left before now failed → Comes s 4 6 text
played_comes s size text left before now failed t = elim t [
  | inl f ↦ inl (inr f.0)
  | inr u ↦ elim u [
    | inl w ↦ reported_comes (Comes s 4 6 text) _ _ _ s 0 6 (λ f. inl (inl f)) (λ f. inr (inl (inr f))) (λ f. inl (inr f)) w.1
    | inr v ↦ elim v [
      | inl p ↦ reported_comes (Comes s 4 6 text) _ _ _ s 4 4 (λ f. inr (inl (inl f))) (λ f. inr (inl (inl f))) (λ f. inl (inr f)) p.1
      | inr p ↦ reported_comes (Comes s 4 6 text) _ _ _ s 10 10 (λ f. inr (inr (f, p.0.0))) (λ f. inr (inr (f, p.0.0))) (λ f. inl (inr f)) p.1
    ]
  ]
]

pub generated_comes : (s seed : ℕ) (old now before report : Option (List ℕ)) (failed : Type 0) → Generated s seed old now before report failed → Comes s 5 6 []
generated_comes s seed old now before report failed t = elim t [
  | inl f ↦ inl (inr f.0)
  | inr u ↦ elim u.1 [
    | inl w ↦ reported_comes (Comes s 5 6 []) _ _ _ s 0 6 (λ f. inl (inl f)) (λ f. inr (inl (inr f))) (λ f. inl (inr f)) w.1
    | inr p ↦ elim p.1 [
      | inl f ↦ inl (inr f.0)
      | inr r ↦ reported_comes (Comes s 5 6 []) _ _ _ s 5 5 (λ f. inr (inl (inl f))) (λ f. inr (inl (inl f))) (λ f. inl (inr f)) r
    ]
  ]
]

-- ---- which of them comes

-- where neither of the two failed, and the text is no longer
pub done_by : (s a b : ℕ) (text : List ℕ) → Comes s a b text → (s ≡ a → ⊥) → (s ≡ b → ⊥) → length text ≤ 16777216 → (s ≡ 0) ⊎ (s ≡ 9)
done_by s a b text comes first second few = elim comes [
  | inl done ↦ done
  | inr rest ↦ elim rest [
    | inl failed ↦ elim failed [
      | inl f ↦ absurd (first f)
      | inr f ↦ absurd (second f)
    ]
    | inr long ↦ absurd (omega (arith, few, long.1))
  ]
]

-- the same of a link whose bytes are told, of which a front was taken
pub done_within : (s a b : ℕ) (text : List ℕ) (before left : Option (List ℕ)) → before ≡ then_left text left → Comes s a b text → (s ≡ a → ⊥) → (s ≡ b → ⊥) → IfSome before (λ bytes. length bytes ≤ 16777216 → (s ≡ 0) ⊎ (s ≡ 9))
done_within s a b text before None taken comes first second = subst (λ (o : Option (List ℕ)). IfSome o (λ bytes. length bytes ≤ 16777216 → (s ≡ 0) ⊎ (s ≡ 9))) (sym taken) tt
done_within s a b text before (Some rest) taken comes first second =
    subst (λ (o : Option (List ℕ)). IfSome o (λ bytes. length bytes ≤ 16777216 → (s ≡ 0) ⊎ (s ≡ 9))) (sym taken) (λ few. done_by s a b text comes first second (omega (arith, few, length-append text rest)))

-- with 10 the text is longer
pub long_by : (s a b : ℕ) (text : List ℕ) → Comes s a b text → s ≡ 10 → a ≢ 10 → b ≢ 10 → 16777216 < length text
long_by s a b text comes e first second = elim comes [
  | inl done ↦ elim done [
    | inl f ↦ let bad : 0 ≡ 10 = sym f ∙ e in absurd (omega arith)
    | inr f ↦ let bad : 9 ≡ 10 = sym f ∙ e in absurd (omega arith)
  ]
  | inr rest ↦ elim rest [
    | inl failed ↦ elim failed [
      | inl f ↦ absurd (first (sym f ∙ e))
      | inr f ↦ absurd (second (sym f ∙ e))
    ]
    | inr long ↦ long.1
  ]
]
