-- A text that is written on a buffer: what it tells, and what stays.
use Rattle.std.proofs.Common.{◌≡◌, ℕ, zero, suc, ◌+◌, ◌*◌, ◌≤◌, Bool, true, false, List, [], ◌∷◌, length, get_or, set, Option, None, Some, refl, sym, subst, ◌∙◌, arith}
use Rattle.std.specs.Prelude.{fold}
use Rattle.std.specs.Option.{option_map, option_map_or}
use Rattle.con_handles.specs.declared.handle.Handle.{Handle}
use Rattle.con_screen.specs.Laws.{IsToldWithin}
use Rattle.con_screen.specs.Told.{nothing_told}
use Rattle.con_screen.specs.Written.{written, switches}
use Rattle.con_screens.specs.Buffer.{BufferStage, turned, unit_written, written_on, buffer_written, told_on}
use Rattle.con_screens.specs.Words.Buffer.{carried}
use Rattle.con_screens.specs.Buffers.{Buffers, with_buffer}
use Rattle.con_screens.specs.declared.buffer.Buffer.{Buffer}
use Rattle.con_machine.specs.Sound.{AreCounted}

-- ---- reports

unit_reports : IsToldWithin → (s : BufferStage) (u : ℕ) → length (unit_written s u).told.reports ≤ length s.told.reports + 10
unfolding unit_written
unit_reports law s u = let one = law.reports s.buffer.shown s.told (u ∷ []) in omega (arith, one)

fold_reports : IsToldWithin → (us : List ℕ) (s : BufferStage) → length (fold unit_written s us).told.reports ≤ length s.told.reports + 10 * length us
fold_reports law [] s = omega arith
fold_reports law (u ∷ us) s =
    let one = unit_reports law s u in
    let rest = fold_reports law us (unit_written s u) in
    omega (arith, one, rest)

-- a unit tells at most ten units of reports
pub few_told : IsToldWithin → (o : Option Buffer) (us : List ℕ) → length (told_on o nothing_told us).reports ≤ 10 * length us
unfolding written_on
few_told law None us = omega arith
few_told law (Some b) us = let all = fold_reports law us (record { buffer = b; told = nothing_told }) in omega (arith, all)

-- ---- handles

turned_handles : (b : Buffer) (o : Option Bool) → (turned b o).handles ≡ b.handles
turned_handles b None = refl
turned_handles b (Some on) = by_on on b.alternate refl
  where
    by_on : (on a : Bool) → b.alternate ≡ a → (turned b (Some on)).handles ≡ b.handles
    by_on true true e = rw e refl
    by_on true false e = rw e refl
    by_on false true e = rw e refl
    by_on false false e = rw e refl

unit_handles : (s : BufferStage) (u : ℕ) → (unit_written s u).buffer.handles ≡ s.buffer.handles
unfolding unit_written
unit_handles s u = by_switch (switches s.buffer.shown (u ∷ []))
  where
    by_switch : (b : Bool) → (carried s.buffer (written s.buffer.shown s.told (u ∷ [])) b).buffer.handles ≡ s.buffer.handles
    by_switch true = turned_handles (record s.buffer { shown = (written s.buffer.shown s.told (u ∷ [])).screen }) (written s.buffer.shown s.told (u ∷ [])).told.alternate
    by_switch false = refl

fold_handles : (us : List ℕ) (s : BufferStage) → (fold unit_written s us).buffer.handles ≡ s.buffer.handles
fold_handles [] s = refl
fold_handles (u ∷ us) s = fold_handles us (unit_written s u) ∙ unit_handles s u

written_handles : (us : List ℕ) (b : Buffer) → (buffer_written nothing_told us b).handles ≡ b.handles
unfolding written_on
written_handles us b = fold_handles us (record { buffer = b; told = nothing_told })

same_count : (f : Buffer → Buffer) → ((b : Buffer) → (f b).handles ≡ b.handles) → (o : Option Buffer) → option_map_or (λ b. b.handles) (option_map f o) 0 ≡ option_map_or (λ b. b.handles) o 0
same_count f same None = refl
same_count f same (Some b) = same b

count_kept : (f : Buffer → Buffer) → ((b : Buffer) → (f b).handles ≡ b.handles) → (xs : List (Option Buffer)) (i k : ℕ)
    → option_map_or (λ b. b.handles) (get_or (set xs i (option_map f (get_or xs i None))) k None) 0 ≡ option_map_or (λ b. b.handles) (get_or xs k None) 0
count_kept f same [] i k = refl
count_kept f same (x ∷ xs) zero zero = same_count f same x
count_kept f same (x ∷ xs) zero (suc k) = refl
count_kept f same (x ∷ xs) (suc i) zero = refl
count_kept f same (x ∷ xs) (suc i) (suc k) = count_kept f same xs i k

-- buffers count as many handles as before
pub written_counts : (b c : Buffers) (id : ℕ) (us : List ℕ) (hs : List Handle) → c ≡ with_buffer b id (buffer_written nothing_told us) → AreCounted b hs → AreCounted c hs
written_counts b c id us hs is counted = subst (λ (x : Buffers). AreCounted x hs) (sym is) (record {
  each = λ k other. count_kept (buffer_written nothing_told us) (written_handles us) b.slots id k ∙ counted.each k other;
})
