-- The code's words for what draws make say what the definitions of a generated session say.
use Rattle.std.proofs.Common.{◌≡◌, ℕ, zero, suc, ◌+◌, List, ◌∷◌, ◌++◌, refl, ap, ◌∙◌}
use Rattle.std.specs.Prelude.{map, get_or, codes}
use Rattle.std.specs.Fmt.{decimal, digits}
use Rattle.con_events.specs.declared.call.Call.TheVariants as call
use Rattle.con_events.specs.declared.script.Step.{Step}
use Rattle.con_events.specs.declared.script.Step.TheVariants as steps
use Rattle.con_events.specs.declared.script.Script.{Script}
use Rattle.con_script.specs.Generated.{moved, draw, many, calls_drawn, call_drawn, script_drawn, session_drawn}
use Rattle.con_script.specs.Draws.{Made, drawn, units_drawn, kind_drawn, step_drawn, steps_drawn, script_made, scripts_made}

-- what is made of what is drawn, and the state that is left
abbrev made_of : {A B : Type 0} → (A → B) → A × ℕ → Made B
made_of f p = record { made = f p.0; left = p.1 }

same_units : (n x : ℕ) → units_drawn n x ≡ made_of (map (λ u. 32 + u)) (many n (draw 95) x)
unfolding units_drawn many draw drawn
same_units zero x = refl
same_units (suc n) x = ap (λ (m : Made (List ℕ)). record { made = (32 + drawn 95 (moved x)) ∷ m.made; left = m.left }) (same_units n (moved x))

same_kind : (k x : ℕ) → kind_drawn k x ≡ made_of steps.Call (get_or calls_drawn k (λ y. (call.Peek 1 4, y)) x)
unfolding draw drawn
same_kind zero x =
    ap (λ (m : Made (List ℕ)). record { made = steps.Call (call.Write 2 m.made); left = m.left }) (same_units (1 + drawn 40 (moved x)) (moved x))
same_kind (suc zero) x = refl
same_kind (suc (suc zero)) x = refl
same_kind (suc (suc (suc zero))) x = refl
same_kind (suc (suc (suc (suc zero)))) x = refl
same_kind (suc (suc (suc (suc (suc zero))))) x = refl
same_kind (suc (suc (suc (suc (suc (suc zero)))))) x = refl
same_kind (suc (suc (suc (suc (suc (suc (suc n))))))) x = refl

same_step : (x : ℕ) → step_drawn x ≡ made_of steps.Call (call_drawn x)
unfolding step_drawn call_drawn draw drawn
same_step x = same_kind (drawn 8 (moved x)) (moved x)

same_steps : (n x : ℕ) → steps_drawn n x ≡ made_of (map steps.Call) (many n call_drawn x)
unfolding steps_drawn many
same_steps zero x = refl
same_steps (suc n) x =
    ap (λ (s : Made Step). record { made = s.made ∷ (steps_drawn n s.left).made; left = (steps_drawn n s.left).left }) (same_step x)
    ∙ ap (λ (m : Made (List Step)). record { made = steps.Call (call_drawn x).0 ∷ m.made; left = m.left }) (same_steps n (call_drawn x).1)

-- a script of these further calls
abbrev script_of : List ℕ → ℕ → Made (List Step) → Made Script
script_of program n m = record {
  made = record { program = program; group = n; steps = steps.Call (call.SetMode 2 7) ∷ m.made };
  left = m.left;
}

same_script : (program : List ℕ) (n x : ℕ) → program ≡ codes "gen" ++ decimal n → script_made program n x ≡ made_of (λ s. s) (script_drawn n x)
unfolding script_made script_drawn
same_script program n x named = rw named (ap (script_of (codes "gen" ++ decimal n) n) (same_steps 499 x))

first_name : codes "gen1" ≡ codes "gen" ++ decimal 1
unfolding digits
first_name = refl

second_name : codes "gen2" ≡ codes "gen" ++ decimal 2
unfolding digits
second_name = refl

third_name : codes "gen3" ≡ codes "gen" ++ decimal 3
unfolding digits
third_name = refl

fourth_name : codes "gen4" ≡ codes "gen" ++ decimal 4
unfolding digits
fourth_name = refl

-- the scripts that the code makes are those of the generated session
pub same_scripts : (seed : ℕ) → scripts_made seed ≡ (session_drawn seed).scripts
same_scripts seed =
    let a = seed in
    let b = (script_drawn 1 a).1 in
    let c = (script_drawn 2 b).1 in
    let d = (script_drawn 3 c).1 in
    rw (
      same_script (codes "gen1") 1 a first_name,
      same_script (codes "gen2") 2 b second_name,
      same_script (codes "gen3") 3 c third_name,
      same_script (codes "gen4") 4 d fourth_name,
    ) refl
