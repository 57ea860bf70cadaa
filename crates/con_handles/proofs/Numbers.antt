-- The search for a free number.
use Rattle.std.proofs.Common.{◌≡◌, ◌≤◌, ◌-◌, ◌+◌, ℕ, List, suc, true, false, arith, refl, ap, ◌∙◌, sym}
use Rattle.con_handles.specs.declared.handle.Handle.{Handle}
use Rattle.con_handles.specs.Handles.{free_from}
use Rattle.con_handles.specs.Words.Handles.{is_used}

pub free_from-here : (hs : List Handle) (p n k : ℕ) → is_used hs p n ≡ false → free_from hs p n (suc k) ≡ n
unfolding free_from
free_from-here hs p n k used = rw used refl

pub free_from-on : (hs : List Handle) (p n k : ℕ) → is_used hs p n ≡ true → free_from hs p n (suc k) ≡ free_from hs p (n + 1) k
unfolding free_from
free_from-on hs p n k used = rw used refl

pub found : (hs : List Handle) (p n s : ℕ) → n ≤ 64 → is_used hs p n ≡ false → free_from hs p n (65 - n) ≡ s → n ≡ s
found hs p n s small used same = let e : 65 - n ≡ suc (64 - n) = omega arith in
    sym (free_from-here hs p n (64 - n) used) ∙ ap (free_from hs p n) (sym e) ∙ same

pub goes_on : (hs : List Handle) (p n s : ℕ) → n ≤ 64 → is_used hs p n ≡ true → free_from hs p n (65 - n) ≡ s → free_from hs p (n + 1) (65 - (n + 1)) ≡ s
goes_on hs p n s small used same = let e : 65 - n ≡ suc (65 - (n + 1)) = omega arith in
    sym (free_from-on hs p n (65 - (n + 1)) used) ∙ ap (free_from hs p n) (sym e) ∙ same

pub at_end : (hs : List Handle) (p n s : ℕ) → 65 ≤ n → n ≤ 65 → free_from hs p n (65 - n) ≡ s → n ≡ s
unfolding free_from
at_end hs p n s low high same = let e : 65 - n ≡ 0 = omega arith in (rw e at same)
