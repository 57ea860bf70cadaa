-- What a caller is told of a step.
use Rattle.std.proofs.Common.{◌≡◌, ℕ, ◌≤◌, List, length, refl, sym, ap, subst, Option, Some, None}
use Rattle.con_cooked.specs.declared.cooked.Cooked.{Cooked}
use Rattle.con_cooked.specs.Cooked.{line_of}
use Rattle.con_cooked.specs.Words.Cooked.{echo_between}
use Rattle.con_readers.specs.Act.{Act, began, typed, passed, ended, woke}
use Rattle.con_readers.specs.Words.Act.{told, IsOf, IsIn}
use Rattle.con_readers.specs.Lines.{line_text}
use Rattle.con_readers.specs.declared.step.ReadStep.{ReadStep}

told_is : (x : Option Act) → IsOf (told x) x
told_is None = refl
told_is (Some (began p)) = refl
told_is (Some (typed p old new)) = (old, new, refl, refl)
told_is (Some (passed p)) = refl
told_is (Some (ended p read n)) = (read, refl)
told_is (Some (woke p line)) = (line, refl)

pub told_by : (s : ReadStep) (x : Option Act) → s ≡ told x → IsOf s x
told_by s x e = subst (λ (t : ReadStep). IsOf t x) (sym e) (told_is x)

-- where a line took a record, the text is the new one's
Shows : Option Act → List ℕ → Type 0
Shows x text = (p : ℕ) (old new : Cooked) → x ≡ Some (typed p old new) → text ≡ line_text new

-- what differs ends where the new line does
Ends : Type 0
Ends = (old new : Cooked) → (echo_between (line_of old).line (line_of new).line).offset ≤ (echo_between (line_of old).line (line_of new).line).end

told_in : (x : Option Act) (text : List ℕ) → Ends → Shows x text → IsIn (told x) text
unfolding Ends Shows
told_in None text ends shows = tt
told_in (Some (began p)) text ends shows = tt
told_in (Some (typed p old new)) text ends shows = (ends old new, ap (λ (us : List ℕ). length us) (sym (shows p old new refl)))
told_in (Some (passed p)) text ends shows = tt
told_in (Some (ended p read n)) text ends shows = tt
told_in (Some (woke p line)) text ends shows = tt

pub in_text : (s : ReadStep) (x : Option Act) (text : List ℕ) → s ≡ told x
    → ((old new : Cooked) → (echo_between (line_of old).line (line_of new).line).offset ≤ (echo_between (line_of old).line (line_of new).line).end)
    → ((p : ℕ) (old new : Cooked) → x ≡ Some (typed p old new) → text ≡ line_text new)
    → IsIn s text
unfolding Ends Shows
in_text s x text e ends texts = subst (λ (t : ReadStep). IsIn t text) (sym e) (told_in x text ends texts)
