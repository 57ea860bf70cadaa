-- The code's own words for what draws make, one state behind another; specs/DrawLaws says that it is the session of specs/Generated.
use Rattle.std.specs.Prelude.{ℕ, zero, suc, ◌+◌, ◌/◌, ◌%◌, pos, true, List, [], ◌∷◌, ◌++◌, codes, decimal}
use Rattle.con_records.specs.declared.record.Record.TheVariants as record_of
use Rattle.con_events.specs.declared.call.Call.TheVariants as call
use Rattle.con_events.specs.declared.script.Step.{Step}
use Rattle.con_events.specs.declared.script.Step.TheVariants as steps
use Rattle.con_events.specs.declared.script.Script.{Script}
use Rattle.con_script.specs.Generated.{moved}

-- the number below m that a draw gives, by the state after it
unfoldable pub drawn : ℕ → ℕ → ℕ
drawn m x = x / 8589934592 % m

-- what draws made, and the state after them
pub record Made (A : Type 0) : Type 0 where
  pub made : A
  pub left : ℕ

-- so many units of printable ASCII
unfoldable pub units_drawn : ℕ → ℕ → Made (List ℕ)
units_drawn zero x = record { made = []; left = x }
units_drawn (suc n) x = record { made = (32 + drawn 95 (moved x)) ∷ (units_drawn n (moved x)).made; left = (units_drawn n (moved x)).left }

-- a text of 1 to 40 units is written
abbrev pub text_drawn : ℕ → Made Step
text_drawn x = record {
  made = steps.Call (call.Write 2 (units_drawn (1 + drawn 40 (moved x)) (moved x)).made);
  left = (units_drawn (1 + drawn 40 (moved x)) (moved x)).left;
}

-- CR LF is written
abbrev pub line_drawn : ℕ → Made Step
line_drawn x = record { made = steps.Call (call.Write 2 (13 ∷ 10 ∷ [])); left = x }

-- ESC [, a number of 30 to 37, m is written
abbrev pub colour_drawn : ℕ → Made Step
colour_drawn x = record { made = steps.Call (call.Write 2 (27 ∷ 91 ∷ (decimal (30 + drawn 8 (moved x)) ++ 109 ∷ []))); left = moved x }

abbrev pub cursor_drawn : ℕ → Made Step
cursor_drawn x = record { made = steps.Call (call.SetCursor 2 (pos (drawn 80 (moved x))) (pos (drawn 25 (moved (moved x))))); left = moved (moved x) }

-- x, y, the count, the word
abbrev pub attrs_drawn : ℕ → Made Step
attrs_drawn x = record {
  made = steps.Call (call.FillAttrs 2 (pos (drawn 80 (moved x))) (pos (drawn 25 (moved (moved x))))
      (drawn 200 (moved (moved (moved x)))) (drawn 256 (moved (moved (moved (moved x))))));
  left = moved (moved (moved (moved x)));
}

-- left, top, right, bottom
abbrev pub rect_drawn : ℕ → Made Step
rect_drawn x = record {
  made = steps.Call (call.RectRead 2 (record {
    left = pos (drawn 80 (moved x));
    top = pos (drawn 25 (moved (moved x)));
    right = pos (drawn 80 (moved (moved (moved x))));
    bottom = pos (drawn 25 (moved (moved (moved (moved x)))));
  }));
  left = moved (moved (moved (moved x)));
}

-- a key of a to z goes down
abbrev pub key_drawn : ℕ → Made Step
key_drawn x = record {
  made = steps.Call (call.WriteInput 1 (record_of.Key (record { down = true; repeat = 1; vk = 0; scan = 0; unit = 97 + drawn 26 (moved x); state = 0 }) ∷ []));
  left = moved x;
}

abbrev pub peek_drawn : ℕ → Made Step
peek_drawn x = record { made = steps.Call (call.Peek 1 4); left = x }

-- a call of a kind, which was drawn
abbrev pub kind_drawn : ℕ → ℕ → Made Step
kind_drawn zero x = text_drawn x
kind_drawn (suc zero) x = line_drawn x
kind_drawn (suc (suc zero)) x = colour_drawn x
kind_drawn (suc (suc (suc zero))) x = cursor_drawn x
kind_drawn (suc (suc (suc (suc zero)))) x = attrs_drawn x
kind_drawn (suc (suc (suc (suc (suc zero))))) x = rect_drawn x
kind_drawn (suc (suc (suc (suc (suc (suc zero)))))) x = key_drawn x
kind_drawn (suc (suc (suc (suc (suc (suc (suc n))))))) x = peek_drawn x

unfoldable pub step_drawn : ℕ → Made Step
step_drawn x = kind_drawn (drawn 8 (moved x)) (moved x)

unfoldable pub steps_drawn : ℕ → ℕ → Made (List Step)
steps_drawn zero x = record { made = []; left = x }
steps_drawn (suc n) x = record { made = (step_drawn x).made ∷ (steps_drawn n (step_drawn x).left).made; left = (steps_drawn n (step_drawn x).left).left }

-- a script begins with set-mode of 2, 7, and has 499 further calls
unfoldable pub script_made : List ℕ → ℕ → ℕ → Made Script
script_made program group x = record {
  made = record { program = program; group = group; steps = steps.Call (call.SetMode 2 7) ∷ (steps_drawn 499 x).made };
  left = (steps_drawn 499 x).left;
}

abbrev pub first_made : ℕ → Made Script
first_made seed = script_made (codes "gen1") 1 seed

abbrev pub second_made : ℕ → Made Script
second_made seed = script_made (codes "gen2") 2 (first_made seed).left

abbrev pub third_made : ℕ → Made Script
third_made seed = script_made (codes "gen3") 3 (second_made seed).left

abbrev pub fourth_made : ℕ → Made Script
fourth_made seed = script_made (codes "gen4") 4 (third_made seed).left

-- four scripts, made in order
abbrev pub scripts_made : ℕ → List Script
scripts_made seed = (first_made seed).made ∷ (second_made seed).made ∷ (third_made seed).made ∷ (fourth_made seed).made ∷ []
