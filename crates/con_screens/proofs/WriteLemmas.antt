-- Writing on, screen after screen.
use Rattle.std.proofs.Common.{◌≡◌, ℕ, ◌+◌, ◌-◌, ◌<◌, ◌≤◌, true, false, List, [], ◌∷◌, ◌++◌, length, take, drop, refl, sym, ap, subst, ◌∙◌, arith}
use Rattle.std.specs.Prelude.{fold}
use Rattle.std.proofs.lemmas.List.{take-append-drop, drop-take, length-drop, take_all, take-take}
use Rattle.std.proofs.lemmas.List.Sums.{fold-append}
use Rattle.std.proofs.lemmas.Bool.{or_parts}
use Rattle.con_page.specs.Words.Page.{IsPage}
use Rattle.con_screen.specs.Told.{Told}
use Rattle.con_screen.specs.Words.Told.{Answered}
use Rattle.con_screen.specs.Written.{Stage, written, switches}
use Rattle.con_screen.specs.Laws.{IsWrittenWhole}
use Rattle.con_screen.specs.Words.Alternate.{IsSwitchedWhole}
use Rattle.con_screens.specs.Buffer.{BufferStage, turned, unit_written, written_on}
use Rattle.con_screens.specs.Words.Buffer.{IsBuffer, carried}
use Rattle.con_screens.specs.Words.Stamps.{remembered}
use Rattle.con_screens.specs.declared.buffer.Buffer.{Buffer}

abbrev pub stage : Buffer → Told → BufferStage
stage b t = record { buffer = b; told = t }

-- units without a switch are written on the shown screen
pub run_on : IsWrittenWhole → IsSwitchedWhole → (b : Buffer) (t : Told) (us : List ℕ) → switches b.shown us ≡ false
    → written_on b t us ≡ record { buffer = record b { shown = (written b.shown t us).screen }; told = (written b.shown t us).told }
unfolding written_on unit_written
run_on w s b t [] none = ap (λ (st : Stage). record { buffer = record b { shown = st.screen }; told = st.told }) (sym (w.none b.shown t))
run_on w s b t (u ∷ us) none =
    let st : Stage = written b.shown t (u ∷ []) in
    let both = or_parts (switches b.shown (u ∷ [])) (switches st.screen us) (sym (s.parts b.shown t (u ∷ []) us) ∙ none) in
    let first : unit_written (record { buffer = b; told = t }) u ≡ record { buffer = record b { shown = st.screen }; told = st.told } = ap (carried b st) both.0 in
    ap (λ (x : BufferStage). fold unit_written x us) first ∙ run_on w s (record b { shown = st.screen }) st.told us both.1
    ∙ ap (λ (x : Stage). record { buffer = record b { shown = x.screen }; told = x.told }) (w.parts b.shown t (u ∷ []) us)

-- a unit that switches
pub switch_on : (b : Buffer) (t : Told) (u : ℕ) → switches b.shown (u ∷ []) ≡ true
    → written_on b t (u ∷ []) ≡ record { buffer = turned (record b { shown = (written b.shown t (u ∷ [])).screen }) (written b.shown t (u ∷ [])).told.alternate; told = (written b.shown t (u ∷ [])).told }
unfolding written_on unit_written
switch_on b t u switched = ap (carried b (written b.shown t (u ∷ []))) switched

take_one : (us : List ℕ) → 0 < length us → (u : ℕ) × (take 1 us ≡ u ∷ [])
take_one [] h = absurd (omega arith)
take_one (u ∷ us) h = (u, refl)

pub switch_one : (b : Buffer) (t : Told) (us : List ℕ) (n : ℕ) → n ≡ 1 → 0 < length us → switches b.shown (take n us) ≡ true
    → written_on b t (take n us) ≡ record { buffer = turned (record b { shown = (written b.shown t (take n us)).screen }) (written b.shown t (take n us)).told.alternate; told = (written b.shown t (take n us)).told }
switch_one b t us n one some switched =
    let first = take_one us some in
    let e : take n us ≡ first.0 ∷ [] = ap (λ k. take k us) one ∙ first.1 in
    let P : List ℕ → Type 0 = λ xs. switches b.shown xs ≡ true → written_on b t xs ≡ record { buffer = turned (record b { shown = (written b.shown t xs).screen }) (written b.shown t xs).told.alternate; told = (written b.shown t xs).told } in
    subst P (sym e) (switch_on b t first.0) switched

pub staged : (b c : Buffer) (t u : Told) → b ≡ c → t ≡ u → record { buffer = b; told = t } ≡ stage c u
staged b c t u e f = ap (λ (v : Buffer). stage v t) e ∙ ap (λ v. stage c v) f

-- no unit
pub written_on-none : (b : Buffer) (t : Told) → written_on b t [] ≡ record { buffer = b; told = t }
unfolding written_on
written_on-none b t = refl

-- some more units
pub written_on-more : (b : Buffer) (t : Told) (us : List ℕ) (at n k : ℕ) (x y : BufferStage) → at + n ≤ length us → k ≡ length us - at → written_on b t (take at us) ≡ x → written_on x.buffer x.told (take n (take k (drop at us))) ≡ y → written_on b t (take (at + n) us) ≡ y
unfolding written_on
written_on-more b t us at n k x y inside all before more =
    let whole : take k (drop at us) ≡ drop at us = take_all k (drop at us) (omega (arith, length-drop at us)) in
    let back : take at (take (at + n) us) ≡ take at us = take-take at (at + n) us (omega arith) in
    let parts : take (at + n) us ≡ take at us ++ take n (drop at us) = sym (take-append-drop at (take (at + n) us)) ∙ ap (λ (f : List ℕ). f ++ drop at (take (at + n) us)) back ∙ ap (λ (r : List ℕ). take at us ++ r) (drop-take at n us) in
    let step : fold unit_written x (take n (drop at us)) ≡ y = ap (λ (l : List ℕ). fold unit_written x (take n l)) (sym whole) ∙ more in
    ap (λ (l : List ℕ). fold unit_written (record { buffer = b; told = t }) l) parts ∙ fold-append unit_written (record { buffer = b; told = t }) (take at us) (take n (drop at us)) ∙ ap (λ (s : BufferStage). fold unit_written s (take n (drop at us))) before ∙ step

-- how far a write has come
pub record WrittenSo (b : Buffer) (a : Answered) (us : List ℕ) (at : ℕ) (now : Buffer) (left : Answered) : Type 0 where
  pub stage : written_on b a.told (take at us) ≡ record { buffer = now; told = left.told }
  pub inside : at ≤ length us
  pub room : left.room + at ≡ a.room
  pub shown : IsPage now.shown.page
  pub hidden : IsPage now.hidden.page
  pub kept : (w h n : ℕ) → IsBuffer w h n b → IsBuffer w h n now
  pub same : remembered now ≡ remembered b

pub written_first : (b : Buffer) (a : Answered) (us : List ℕ) → IsPage b.shown.page → IsPage b.hidden.page → WrittenSo b a us 0 b a
written_first b a us shown hidden = record { stage = written_on-none b a.told; inside = omega arith; room = omega arith; shown = shown; hidden = hidden; kept = λ w h n is. is; same = refl }

pub written_more : (b : Buffer) (a : Answered) (us : List ℕ) (at n k : ℕ) (mid new : Buffer) (left after : Answered) → WrittenSo b a us at mid left → k ≡ length us - at → n ≤ k → k ≤ left.room
    → written_on mid left.told (take n (take k (drop at us))) ≡ record { buffer = new; told = after.told } → after.room ≡ left.room - n → IsPage new.shown.page → IsPage new.hidden.page
    → ((w h n : ℕ) → IsBuffer w h n mid → IsBuffer w h n new) → remembered new ≡ remembered mid → WrittenSo b a us (at + n) new after
written_more b a us at n k mid new left after before all some enough more spent shown hidden kept same = record {
  stage = written_on-more b a.told us at n k (record { buffer = mid; told = left.told }) (record { buffer = new; told = after.told }) (omega (arith, before.inside, all, some)) all before.stage more;
  inside = omega (arith, before.inside, all, some);
  room = omega (arith, before.room, spent, some, enough);
  shown = shown;
  hidden = hidden;
  kept = λ w h m is. kept w h m (before.kept w h m is);
  same = same ∙ before.same;
}

-- at the end
pub written_all : (b : Buffer) (a : Answered) (us : List ℕ) (at : ℕ) (now : Buffer) (left : Answered) → WrittenSo b a us at now left → length us ≤ at → written_on b a.told us ≡ record { buffer = now; told = left.told }
written_all b a us at now left so end = ap (λ (l : List ℕ). written_on b a.told l) (sym (take_all at us end)) ∙ so.stage

pub left_is : (left : Answered) (t : Told) (room n at : ℕ) → left.told ≡ t → left.room + at ≡ room → at ≡ n → left ≡ record { told = t; room = room - n }
left_is left t room n at told spent all =
    let e : left.room ≡ room - n = omega (arith, spent, all) in
    ap (λ v. record left { told = v }) told ∙ ap (λ k. record { told = t; room = k }) e
