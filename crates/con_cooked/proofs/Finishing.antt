-- What a read that nothing woke gives, by the line that the code keeps.
use Rattle.std.proofs.Common.{◌≡◌, ℕ, ◌==◌, cond, List, refl, sym, ap, ◌∙◌}
use Rattle.con_history.specs.Histories.{LineHistories, added_to}
use Rattle.con_alias.specs.Aliases.{AliasList}
use Rattle.con_cooked.specs.Cooked.{Edited, CookedRead, line_of, woken_by, answer_of, histories_after}
use Rattle.con_cooked.specs.Parts.{lines_for, split_by}

pub finish-answer : (r : CookedRead) (ls : List AliasList) (e : Edited) (w : ℕ) (text out : List ℕ) → line_of r ≡ e → woken_by r ≡ w → w ≡ 0 → text ≡ e.line.units
    → out ≡ lines_for ls r.program text → out ≡ answer_of r ls
finish-answer r ls e w text out line woken zero is gives =
    gives ∙ ap (lines_for ls r.program) (is ∙ sym (ap (λ (x : Edited). x.line.units) line))
    ∙ sym (ap (λ (n : ℕ). cond (n == 0) (lines_for ls r.program (line_of r).line.units) (split_by n (line_of r).line)) (woken ∙ zero))

pub finish-histories : (r : CookedRead) (hs : LineHistories) (e : Edited) (w : ℕ) (text : List ℕ) (new : LineHistories) → line_of r ≡ e → woken_by r ≡ w → w ≡ 0
    → text ≡ e.line.units → new ≡ added_to hs r.program text → new ≡ histories_after r hs
finish-histories r hs e w text new line woken zero is gives =
    gives ∙ ap (added_to hs r.program) (is ∙ sym (ap (λ (x : Edited). x.line.units) line))
    ∙ sym (ap (λ (n : ℕ). cond (n == 0) (added_to hs r.program (line_of r).line.units) hs) (woken ∙ zero))
