-- Laws of how a session ends, for the crates above: what its status says, and that words of it are a form.
use Rattle.std.proofs.Common.{◌≡◌, ◌⊎◌, inl, inr, refl, sym, ap, ◌∙◌, arith, ℕ, Bool, true, false, List, Option}
use Rattle.std.specs.Prelude.{◌==◌, ◌||◌, nat_eq}
use Rattle.std.proofs.lemmas.Bool.{cases_cond}
use Rattle.con_events.specs.Session.{Clients}
use Rattle.con_events.specs.declared.end.End.{End}
use Rattle.con_events.specs.declared.end.End.TheVariants as ends
use Rattle.con_lines.specs.Ending.{Ending, ending_text, status_of}
use Rattle.con_lines.specs.Line.{ended}
use Rattle.con_ending.specs.Ending.{Reported, Tells, lost_status}
use Rattle.con_ending.specs.Files.{OfFile, Reason, ending_for, missing, no_json, no_session, too_long, unread}
use Rattle.con_telling.specs.Telling.{ending_after, mirror_ending}
use Rattle.con_sessions.specs.Generating.{Generated}
use Rattle.con_sessions.specs.Mirroring.{HasMirrored, RanMirrored}
use Rattle.con_sessions.specs.Sessions.{HasRun, Ran, RanByTurns, Soloed}

-- ---- a status, by what the report tells

-- two numbers that a test tells apart
pub apart : (p : ℕ → Bool) (n m : ℕ) → p n ≡ true → p m ≡ false → n ≡ m → ⊥
apart p n m is other e = let bad : true ≡ false = sym is ∙ (ap p e ∙ other) in absurd (cc)

-- the statuses that come in place of the one that a last line tells
abbrev pub is_cut : ℕ → Bool
is_cut n = nat_eq n 6 || nat_eq n 9

module _ (s told : ℕ) (text : List ℕ) (before now : Option (List ℕ)) (failed : Type 0) (r : Reported s told text before now failed) where
  status_is : (s ≡ told) ⊎ ((s ≡ 6) ⊎ (s ≡ 9))
  status_is = elim r [
    | inl w ↦ inl w.0
    | inr rest ↦ elim rest [
      | inl w ↦ elim (cases_cond {X = ℕ} (told == 0) 6 told s w.0) [ inl six ↦ inr (inl six) | inr e ↦ inl e ]
      | inr w ↦ inr (inr w.0)
    ]
  ]

  -- any other status is the one that the last line tells
  pub told_at : (n : ℕ) → is_cut n ≡ false → s ≡ n → n ≡ told
  told_at n other e = elim status_is [
    | inl f ↦ sym e ∙ f
    | inr rest ↦ elim rest [
      | inl f ↦ absurd (apart is_cut 6 n refl other (sym f ∙ e))
      | inr f ↦ absurd (apart is_cut 9 n refl other (sym f ∙ e))
    ]
  ]

  -- and so has one whose last line tells no 0
  pub unless_done : lost_status told ≡ told → (s ≡ told) ⊎ (s ≡ 9)
  unless_done stays = elim r [
    | inl w ↦ inl w.0
    | inr rest ↦ elim rest [ inl w ↦ inl (w.0 ∙ stays) | inr w ↦ inr w.0 ]
  ]

-- ---- no session

-- the last line tells 3 or 7
abbrev pub is_why : ℕ → Bool
is_why n = nat_eq n 3 || nat_eq n 7

pub says : (why : Reason) → is_why (status_of (ending_for why)) ≡ true
says missing = refl
says unread = refl
says too_long = refl
says (no_json bytes) = refl
says (no_session bytes w) = refl

-- no other status is one of no session, but for those that come in its place
pub never : (n s : ℕ) (why : Reason) (last : Ending) (before now : Option (List ℕ)) (failed : Type 0) → is_cut n ≡ false → is_why n ≡ false
    → last ≡ ending_for why → Tells s last before now failed → s ≡ n → ⊥
never n s why last before now failed whole other is t e =
    apart is_why (status_of (ending_for why)) n (says why) other
    (sym (told_at s (status_of last) (ended (ending_text last)) before now failed t n whole e ∙ ap status_of is))

-- ---- the end of a session

-- the statuses that a session's end has
abbrev pub is_end : ℕ → Bool
is_end n = nat_eq n 0 || nat_eq n 4 || nat_eq n 5 || nat_eq n 8 || nat_eq n 9 || nat_eq n 10

pub end_says : (end : End) → is_end (status_of (ending_after end)) ≡ true
end_says ends.Done = refl
end_says ends.Term = refl
end_says ends.Link = refl
end_says ends.TooLong = refl
end_says (ends.Bad place kind) = refl
end_says ends.Memory = refl

-- a session with a second terminal ends as one without, or with 12
abbrev pub last_status : End → Bool → ℕ
last_status end lost = status_of (mirror_ending end lost)

pub ends_as : (end : End) (lost : Bool) → ((lost ≡ true) × (last_status end lost ≡ 12)) ⊎ (mirror_ending end lost ≡ ending_after end)
ends_as ends.Done true = inl (refl, refl)
ends_as ends.Done false = inr refl
ends_as ends.Term lost = inr refl
ends_as ends.Link lost = inr refl
ends_as ends.TooLong lost = inr refl
ends_as (ends.Bad place kind) lost = inr refl
ends_as ends.Memory lost = inr refl

-- another status than 12 is that of its end
pub plain_at : (n : ℕ) (end : End) (lost : Bool) → nat_eq n 12 ≡ false → n ≡ last_status end lost → n ≡ status_of (ending_after end)
plain_at n end lost other e = elim (ends_as end lost) [
  | inl p ↦ absurd (apart (λ k. nat_eq k 12) 12 n refl other (sym (e ∙ p.1)))
  | inr same ↦ e ∙ ap status_of same
]

-- ---- no memory

-- there was no memory before the session ran
pub no_running : (files : Option (List ℕ → Option (List ℕ))) (name : List ℕ) (files_failed : Type 0) (racks : List (List ℕ))
    (before old before_report : Option (List ℕ)) (failed : Type 0)
    → HasRun 9 files name files_failed racks before before old old before_report before_report failed
no_running files name files_failed racks before old before_report failed = inl ((refl, refl), inl (refl, refl))

pub no_turns : (files : Option (List ℕ → Option (List ℕ))) (name : List ℕ) (files_failed : Type 0) (racks : List (List ℕ))
    (before old before_report : Option (List ℕ)) (failed : Type 0)
    → Soloed 9 files name files_failed racks before before old old before_report before_report failed
no_turns files name files_failed racks before old before_report failed = inl ((refl, refl), inl (refl, refl))

pub no_mirror : (files : Option (List ℕ → Option (List ℕ))) (name : List ℕ) (files_failed : Type 0) (racks : List (List ℕ))
    (before old second before_report : Option (List ℕ)) (failed second_failed : Type 0)
    → HasMirrored 9 files name files_failed racks before before old old second second before_report before_report failed second_failed
no_mirror files name files_failed racks before old second before_report failed second_failed = inl ((refl, refl, refl), inl (refl, refl))

pub no_generating : (seed : ℕ) (old before : Option (List ℕ)) (failed : Type 0) → Generated 9 seed old old before before failed
no_generating seed old before failed = inl (refl, refl, refl)

-- ---- a session is a form

pub of_form : (Came : Clients → Type 0) (Stays : Type 0) (s : ℕ) (files : Option (List ℕ → Option (List ℕ))) (name : List ℕ) (files_failed : Type 0)
    (before now : Option (List ℕ)) (failed : Type 0)
    → OfFile Came Stays s files name files_failed before now failed → ((session : Clients) → Came session → s ≡ 2 → ⊥) → s ≡ 2 → ⊥
of_form Came Stays s files name files_failed before now failed o ran e = elim o [
  | inl n ↦ elim n.1 [
    | inl f ↦ let bad : 2 ≡ 9 = sym e ∙ f.0 in absurd (omega arith)
    | inr w ↦ never 2 s w.0 (ending_for w.0) before now failed refl refl refl w.2 e
  ]
  | inr r ↦ ran r.1 r.4 e
]

two_told : (s : ℕ) (end : End) (text : List ℕ) (before now : Option (List ℕ)) (failed : Type 0)
    → Reported s (status_of (ending_after end)) text before now failed → s ≡ 2 → ⊥
two_told s end text before now failed r e =
    apart is_end (status_of (ending_after end)) 2 (end_says end) refl
    (sym (told_at s (status_of (ending_after end)) text before now failed r 2 refl e))

pub no_usage : (s : ℕ) (files : Option (List ℕ → Option (List ℕ))) (name : List ℕ) (files_failed : Type 0) (racks : List (List ℕ))
    (before left old now before_report report : Option (List ℕ)) (failed : Type 0)
    → HasRun s files name files_failed racks before left old now before_report report failed → s ≡ 2 → ⊥
no_usage s files name files_failed racks before left old now before_report report failed t =
    of_form (λ session. Ran s session racks before left old now before_report report failed) _ s files name files_failed before_report report failed t
    (λ session r. two_told s r.end _ before_report report failed r.reported)

pub no_usage_of_turns : (s : ℕ) (files : Option (List ℕ → Option (List ℕ))) (name : List ℕ) (files_failed : Type 0) (racks : List (List ℕ))
    (before left old now before_report report : Option (List ℕ)) (failed : Type 0)
    → Soloed s files name files_failed racks before left old now before_report report failed → s ≡ 2 → ⊥
no_usage_of_turns s files name files_failed racks before left old now before_report report failed t =
    of_form (λ session. RanByTurns s session racks before left old now before_report report failed) _ s files name files_failed before_report report failed t
    (λ session r. two_told s r.ran.end _ before_report report failed r.ran.reported)

two_told_lost : (s : ℕ) (end : End) (lost : Bool) (text : List ℕ) (before now : Option (List ℕ)) (failed : Type 0)
    → Reported s (last_status end lost) text before now failed → s ≡ 2 → ⊥
two_told_lost s end lost text before now failed r e =
    apart is_end (status_of (ending_after end)) 2 (end_says end) refl
    (sym (plain_at 2 end lost refl (told_at s (last_status end lost) text before now failed r 2 refl e)))

pub no_usage_of_mirror : (s : ℕ) (files : Option (List ℕ → Option (List ℕ))) (name : List ℕ) (files_failed : Type 0) (racks : List (List ℕ))
    (before left old now was written before_report report : Option (List ℕ)) (failed second_failed : Type 0)
    → HasMirrored s files name files_failed racks before left old now was written before_report report failed second_failed → s ≡ 2 → ⊥
no_usage_of_mirror s files name files_failed racks before left old now was written before_report report failed second_failed t =
    of_form (λ session. RanMirrored s session racks before left old now was written before_report report failed second_failed) _ s files name
    files_failed before_report report failed t (λ session r. two_told_lost s r.end r.lost _ before_report report failed r.reported)
