-- What is drawn goes on from what was drawn, and a generated session is within its limits.
use Rattle.std.proofs.Common.{◌≡◌, ℕ, zero, suc, ◌+◌, ◌-◌, ◌<◌, ◌≤◌, List, [], ◌∷◌, ◌++◌, length, refl, ap, sym, ◌∙◌, append_assoc, arith, Some, None}
use Rattle.std.specs.Prelude.{codes}
use Rattle.std.specs.Fmt.{decimal, digits}
use Rattle.con_events.specs.declared.script.Step.{Step}
use Rattle.con_events.specs.declared.script.Step.TheVariants as steps
use Rattle.con_events.specs.declared.call.Call.TheVariants as call
use Rattle.con_events.specs.declared.script.Script.{Script}
use Rattle.con_events.specs.Session.{Clients}
use Rattle.con_events.specs.Words.Session.{session_of}
use Rattle.con_units.specs.SplitLaws.{append_none}
use Rattle.con_script.specs.Generated.{moved, session_drawn}
use Rattle.con_script.specs.Draws.{drawn, units_drawn, step_drawn, steps_drawn, script_made, scripts_made, first_made, second_made, third_made}
use Rattle.con_script.specs.DrawLaws.{same_scripts}

units_next : (n m x : ℕ) → n ≡ suc m → units_drawn n x ≡ record { made = (32 + drawn 95 (moved x)) ∷ (units_drawn m (moved x)).made; left = (units_drawn m (moved x)).left }
unfolding units_drawn
units_next n m x e = rw e refl

units_end : (n x : ℕ) → n ≡ 0 → units_drawn n x ≡ record { made = []; left = x }
unfolding units_drawn
units_end n x e = rw e refl

steps_next : (n m x : ℕ) → n ≡ suc m → steps_drawn n x ≡ record { made = (step_drawn x).made ∷ (steps_drawn m (step_drawn x).left).made; left = (steps_drawn m (step_drawn x).left).left }
unfolding steps_drawn
steps_next n m x e = rw e refl

steps_end : (n x : ℕ) → n ≡ 0 → steps_drawn n x ≡ record { made = []; left = x }
unfolding steps_drawn
steps_end n x e = rw e refl

pub more_units : (us now out : List ℕ) (n x y u : ℕ) → 0 < n → now ≡ us ++ (32 + u) ∷ [] → u ≡ drawn 95 (moved x) → y ≡ moved x → us ++ (units_drawn n x).made ≡ out → now ++ (units_drawn (n - 1) y).made ≡ out
more_units us now out n x y u some p q s h =
    rw (p, q, s) (append_assoc us ((32 + drawn 95 (moved x)) ∷ []) (units_drawn (n - 1) (moved x)).made
    ∙ (ap (λ m. us ++ m.made) (sym (units_next n (n - 1) x (omega arith))) ∙ h))

pub units_left : (n x y out : ℕ) → 0 < n → y ≡ moved x → (units_drawn n x).left ≡ out → (units_drawn (n - 1) y).left ≡ out
units_left n x y out some s h = rw s (ap (λ m. m.left) (sym (units_next n (n - 1) x (omega arith))) ∙ h)

pub all_units : (us out : List ℕ) (n x : ℕ) → n ≤ 0 → us ++ (units_drawn n x).made ≡ out → us ≡ out
all_units us out n x none h = sym (append_none us) ∙ (ap (λ m. us ++ m.made) (sym (units_end n x (omega arith))) ∙ h)

pub end_of_units : (n x out : ℕ) → n ≤ 0 → (units_drawn n x).left ≡ out → x ≡ out
end_of_units n x out none h = ap (λ m. m.left) (sym (units_end n x (omega arith))) ∙ h

pub more_steps : (ss now out : List Step) (n x y : ℕ)
    → 0 < n → now ≡ ss ++ (step_drawn x).made ∷ [] → y ≡ (step_drawn x).left → ss ++ (steps_drawn n x).made ≡ out → now ++ (steps_drawn (n - 1) y).made ≡ out
more_steps ss now out n x y some p l h =
    rw (p, l) (append_assoc ss ((step_drawn x).made ∷ []) (steps_drawn (n - 1) (step_drawn x).left).made
    ∙ (ap (λ m. ss ++ m.made) (sym (steps_next n (n - 1) x (omega arith))) ∙ h))

pub steps_left : (n x y out : ℕ) → 0 < n → y ≡ (step_drawn x).left → (steps_drawn n x).left ≡ out → (steps_drawn (n - 1) y).left ≡ out
steps_left n x y out some l h = rw l (ap (λ m. m.left) (sym (steps_next n (n - 1) x (omega arith))) ∙ h)

pub all_steps : (ss out : List Step) (n x : ℕ) → n ≤ 0 → ss ++ (steps_drawn n x).made ≡ out → ss ≡ out
all_steps ss out n x none h = sym (append_none ss) ∙ (ap (λ m. ss ++ m.made) (sym (steps_end n x (omega arith))) ∙ h)

pub end_of_steps : (n x out : ℕ) → n ≤ 0 → (steps_drawn n x).left ≡ out → x ≡ out
end_of_steps n x out none h = ap (λ m. m.left) (sym (steps_end n x (omega arith))) ∙ h

-- a number of 30 to 37 in digits
pub colour_digits : (d : ℕ) → d < 8 → decimal (30 + d) ≡ 51 ∷ (48 + d) ∷ []
unfolding digits
colour_digits zero h = refl
colour_digits (suc zero) h = refl
colour_digits (suc (suc zero)) h = refl
colour_digits (suc (suc (suc zero))) h = refl
colour_digits (suc (suc (suc (suc zero)))) h = refl
colour_digits (suc (suc (suc (suc (suc zero))))) h = refl
colour_digits (suc (suc (suc (suc (suc (suc zero)))))) h = refl
colour_digits (suc (suc (suc (suc (suc (suc (suc zero))))))) h = refl
colour_digits (suc (suc (suc (suc (suc (suc (suc (suc n)))))))) h = absurd (omega arith)

count_of_steps : (n x : ℕ) → length (steps_drawn n x).made ≡ n
unfolding steps_drawn
count_of_steps zero x = refl
count_of_steps (suc n) x = ap suc (count_of_steps n (step_drawn x).left)

steps_of_script : (p : List ℕ) (g x : ℕ) → length (script_made p g x).made.steps ≡ 500
unfolding script_made
steps_of_script p g x = ap suc (count_of_steps 499 x)

program_of_script : (p : List ℕ) (g x : ℕ) → (script_made p g x).made.program ≡ p
unfolding script_made
program_of_script p g x = refl

group_of_script : (p : List ℕ) (g x : ℕ) → (script_made p g x).made.group ≡ g
unfolding script_made
group_of_script p g x = refl

are_within : (seed : ℕ) → session_of (record { w = 80; h = 25 }) (scripts_made seed) ≡ Some (record { size = record { w = 80; h = 25 }; scripts = scripts_made seed })
are_within seed =
    let a = seed in
    let b = (first_made seed).left in
    let c = (second_made seed).left in
    let d = (third_made seed).left in
    rw (
      steps_of_script (codes "gen1") 1 a,
      steps_of_script (codes "gen2") 2 b,
      steps_of_script (codes "gen3") 3 c,
      steps_of_script (codes "gen4") 4 d,
      program_of_script (codes "gen1") 1 a,
      program_of_script (codes "gen2") 2 b,
      program_of_script (codes "gen3") 3 c,
      program_of_script (codes "gen4") 4 d,
      group_of_script (codes "gen1") 1 a,
      group_of_script (codes "gen2") 2 b,
      group_of_script (codes "gen3") 3 c,
      group_of_script (codes "gen4") 4 d,
    ) refl

-- what is made is a session, the one that is drawn
within_limits : (seed : ℕ) (ss : List Script) → ss ≡ scripts_made seed → session_of (record { w = 80; h = 25 }) ss ≡ Some (session_drawn seed)
within_limits seed ss e =
    ap (session_of (record { w = 80; h = 25 })) e ∙ are_within seed ∙ ap (λ (xs : List Script). Some (record { size = record { w = 80; h = 25 }; scripts = xs })) (same_scripts seed)

pub never_outside : (seed : ℕ) (ss : List Script) → ss ≡ scripts_made seed → None ≡ session_of (record { w = 80; h = 25 }) ss → ⊥
never_outside seed ss e h = let both : None ≡ Some (session_drawn seed) = h ∙ within_limits seed ss e in cc

pub is_drawn : (seed : ℕ) (ss : List Script) (s : Clients) → ss ≡ scripts_made seed → Some s ≡ session_of (record { w = 80; h = 25 }) ss → s ≡ session_drawn seed
is_drawn seed ss s e h = let both : Some s ≡ Some (session_drawn seed) = h ∙ within_limits seed ss e in cc

pub colour_call : (us : List ℕ) (d e : ℕ) → us ≡ 27 ∷ 91 ∷ 51 ∷ (48 + d) ∷ 109 ∷ [] → d ≡ e → d < 8 → steps.Call (call.Write 2 us) ≡ steps.Call (call.Write 2 (27 ∷ 91 ∷ (decimal (30 + e) ++ 109 ∷ [])))
colour_call us d e p q less = rw (p, ← q, colour_digits d less) refl
