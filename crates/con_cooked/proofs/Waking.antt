-- What wakes a read, and a read that nothing wakes.
use Rattle.std.proofs.Common.{◌≡◌, ℕ, ◌+◌, ◌-◌, ◌/◌, ◌%◌, ◌^◌, ◌≤◌, ◌==◌, ◌&&◌, not, nat_lt, nat_eq, Bool, true, false, cond, List, [], ◌∷◌, ◌++◌, length, fold, refl, sym, ap, ◌∙◌, arith}
use Rattle.std.proofs.lemmas.Bool.{eq-eqb}
use Rattle.std.proofs.lemmas.Bool.Decides.{nat_tests}
use Rattle.std.proofs.Math.Nat.{zero-div}
use Rattle.std.proofs.lemmas.List.Sums.{fold-append}
use Rattle.con_records.specs.declared.record.Record.{Record}
use Rattle.con_units.specs.Words.Units.{first_difference}
use Rattle.con_line.specs.Line.{LineText}
use Rattle.con_history.specs.Histories.{LineHistories, added_to}
use Rattle.con_cooked.specs.Keys.{key_of}
use Rattle.con_cooked.specs.Mask.{is_masked, typed_unit}
use Rattle.con_cooked.specs.Parts.{waking_unit}
use Rattle.con_cooked.specs.Cooked.{Edited, Moment, CookedRead, key_pressed, woken_by, line_of, after_press, is_return}
use Rattle.con_cooked.specs.Words.Cooked.{echo_between, progress_of}
use Rattle.con_cooked.specs.Parts.{pressed_at, opened, woken_after, line_after, lines_for, split_by}
use Rattle.con_cooked.specs.Laws.{IsPlain, DrawsBehind, BeginsWith}
use Rattle.con_line.specs.declared.edit.Edit.{Edit}
use Rattle.con_cooked.specs.declared.keys.LineKey.{LineKey}
use Rattle.con_cooked.specs.declared.progress.Echo.{Echo}
use Rattle.con_cooked.specs.declared.progress.Progress.{Progress}
use Rattle.con_cooked.specs.declared.progress.Progress.TheVariants as progress

waking_step : (p q r : Bool) (u : ℕ) → nat_lt 0 u ≡ p → (cond (p && q && r) u 0 == 0) ≡ not (p && q && r)
waking_step false q r u h = refl
waking_step true false r u h = refl
waking_step true true false u h = refl
waking_step true true true u h = grind (arith, nat_tests)

-- the unit is 0 exactly where the record is not masked
pub waking-none : (mask : ℕ) (one : Record) → (waking_unit mask one == 0) ≡ not (is_masked mask one)
waking-none mask one = waking_step (nat_lt 0 (typed_unit one)) (nat_lt (typed_unit one) 32) ((mask / 2 ^ typed_unit one) % 2 == 1) (typed_unit one) refl

no_bit : (k : ℕ) → ((0 / 2 ^ k) % 2 == 1) ≡ false
no_bit k = rw (zero-div (2 ^ k)) refl

no_masked : (p q r : Bool) → r ≡ false → (p && q && r) ≡ false
no_masked false q r h = refl
no_masked true false r h = refl
no_masked true true r h = h

not_masked : (mask : ℕ) → mask ≡ 0 → (one : Record) → is_masked mask one ≡ false
not_masked mask none one =
    no_masked (nat_lt 0 (typed_unit one)) (nat_lt (typed_unit one) 32) ((mask / 2 ^ typed_unit one) % 2 == 1)
    (ap (λ m. (m / 2 ^ typed_unit one) % 2 == 1) none ∙ no_bit (typed_unit one))

abbrev by_table : Edited → Moment → Edited
by_table e m = key_pressed e (key_of m.pressed) m.lines

plain_fold : (mask : ℕ) → ((one : Record) → is_masked mask one ≡ false) → (e : Edited) (ms : List Moment) → fold (pressed_at mask) e ms ≡ fold by_table e ms
plain_fold mask none e [] = refl
plain_fold mask none e (m ∷ ms) = ap (λ b. fold (pressed_at mask) (cond b e (by_table e m)) ms) (none m.pressed) ∙ plain_fold mask none (by_table e m) ms

unwoken : (mask : ℕ) → ((one : Record) → is_masked mask one ≡ false) → (ms : List Moment) → woken_after mask ms ≡ 0
unwoken mask none [] = refl
unwoken mask none (m ∷ ms) = ap (λ b. fold (λ (before : ℕ) (n : Moment). waking_unit mask n.pressed) (cond b (typed_unit m.pressed) 0) ms) (none m.pressed) ∙ unwoken mask none ms

pub plain-reading : (r : CookedRead) → r.mask ≡ 0 → IsPlain r
plain-reading r zero_mask =
    let none = not_masked r.mask zero_mask in
    let quiet : woken_by r ≡ 0 = unwoken r.mask none r.presses in
    record {
      line = plain_fold r.mask none (opened r.insert r.initial) r.presses;
      progress = λ one hs.
          let echo : Echo = echo_between (line_of r).line (line_of (after_press r one hs)).line in
          ap (λ b. cond b progress.Woken (cond (is_return (key_of one)) (progress.Done echo) (progress.Going echo))) (none one);
      answer = λ ls. ap (λ n. cond (n == 0) (lines_for ls r.program (line_of r).line.units) (split_by n (line_of r).line)) quiet;
      histories = λ hs. ap (λ n. cond (n == 0) (added_to hs r.program (line_of r).line.units) hs) quiet;
    }

common_front : (p xs ys : List ℕ) → first_difference (p ++ xs) (p ++ ys) ≡ length p + first_difference xs ys
common_front [] xs ys = omega arith
common_front (x ∷ p) xs ys = rw (eq-eqb x x refl) (omega (arith, common_front p xs ys))

within_step : (b : Bool) (n m : ℕ) → n ≤ m → cond b (1 + n) 0 ≤ 1 + m
within_step true n m h = omega arith
within_step false n m h = omega arith

difference_within : (xs ys : List ℕ) → first_difference xs ys ≤ length ys
difference_within [] ys = omega arith
difference_within (x ∷ xs) [] = omega arith
difference_within (x ∷ xs) (y ∷ ys) =
    let later : cond (nat_eq x y) (1 + first_difference xs ys) 0 ≤ 1 + length ys = within_step (nat_eq x y) (first_difference xs ys) (length ys) (difference_within xs ys) in
    omega (arith, later)

pub draws-behind : (front : List ℕ) (old new : LineText) → BeginsWith front old.units → BeginsWith front new.units → DrawsBehind front old new
draws-behind front old new a b =
    let same : first_difference old.units new.units ≡ length front + first_difference a.0 b.0 = rw (a.1, b.1) (common_front front a.0 b.0) in
    record { offset = omega (arith, same); end = difference_within old.units new.units }

-- a text that is brought into an empty line
pub opened-text : (insert : Bool) (xs : List ℕ)
    → cond (length xs == 0) (let l : LineText = record { units = []; caret = 0; insert = insert } in l) (let l : LineText = record { units = xs; caret = length xs; insert = insert } in l)
    ≡ (let l : LineText = record { units = xs; caret = length xs; insert = insert } in l)
opened-text insert [] = refl
opened-text insert (x ∷ xs) = let some : (length (x ∷ xs) == 0) ≡ false = grind (arith, nat_tests) in rw some refl

pub not-masked_of : (n : ℕ) (b : Bool) → (n == 0) ≡ not b → n ≡ 0 → b ≡ false
not-masked_of n true h z = sym (ap (λ k. k == 0) z) ∙ h
not-masked_of n false h z = refl

-- a press that is not masked is the last key
pub pressed-unmasked : (mask : ℕ) (e edited after : Edited) (ms ns : List Moment) (m : Moment) → is_masked mask m.pressed ≡ false → line_after mask e ms ≡ edited → ns ≡ ms ++ m ∷ []
    → after ≡ key_pressed edited (key_of m.pressed) m.lines → line_after mask e ns ≡ after
pressed-unmasked mask e edited after ms ns m none is last pressed =
    ap (line_after mask e) last ∙ fold-append (pressed_at mask) e ms (m ∷ [])
    ∙ ap (λ b. cond b (line_after mask e ms) (by_table (line_after mask e ms) m)) none
    ∙ ap (λ x. by_table x m) is ∙ sym pressed

pub woken-last : (mask : ℕ) (ms ns : List Moment) (m : Moment) (w : ℕ) → ns ≡ ms ++ m ∷ [] → w ≡ waking_unit mask m.pressed → woken_after mask ns ≡ w
woken-last mask ms ns m w last is = ap (woken_after mask) last ∙ fold-append (λ (before : ℕ) (n : Moment). waking_unit mask n.pressed) 0 ms (m ∷ []) ∙ sym is

-- what is drawn, by the change and the line
abbrev pub echo_of : Edit → LineText → Echo
echo_of edit l = record { offset = edit.first; end = length l.units; blanks = edit.before - length l.units; caret = l.caret }

pub progress-unmasked : (r : CookedRead) (one : Record) (hs : LineHistories) (old new : Edited) (echo : Echo) (k : LineKey) (g : Progress) → is_masked r.mask one ≡ false → line_of r ≡ old
    → line_of (after_press r one hs) ≡ new → echo ≡ echo_between old.line new.line → k ≡ key_of one → g ≡ cond (is_return k) (progress.Done echo) (progress.Going echo) → g ≡ progress_of r one hs
progress-unmasked r one hs old new echo k g none was is drawn key said =
    let told : echo ≡ echo_between (line_of r).line (line_of (after_press r one hs)).line =
    drawn ∙ ap (λ (e : Edited). echo_between e.line new.line) (sym was) ∙ ap (λ (e : Edited). echo_between (line_of r).line e.line) (sym is) in
    said ∙ ap (λ (x : LineKey). cond (is_return x) (progress.Done echo) (progress.Going echo)) key
    ∙ ap (λ (x : Echo). cond (is_return (key_of one)) (progress.Done x) (progress.Going x)) told
    ∙ sym (ap (λ b. let x : Echo = echo_between (line_of r).line (line_of (after_press r one hs)).line in cond b progress.Woken (cond (is_return (key_of one)) (progress.Done x) (progress.Going x))) none)
