-- Sessions from a number: draws by the linear congruence of Knuth's MMIX (The Art of Computer Programming 2, section 3.3.4), and what they choose.
-- Whatever is drawn is a function of the state: what is drawn from it, and the state that is left.
use Rattle.std.specs.Prelude.{ℕ, zero, suc, ◌+◌, ◌*◌, ◌/◌, ◌%◌, pos, true, List, [], ◌∷◌, ◌++◌, map, get_or, codes, decimal}
use Rattle.con_records.specs.declared.record.Record.TheVariants as record_of
use Rattle.con_events.specs.declared.call.Call.{Call}
use Rattle.con_events.specs.declared.call.Call.TheVariants as call
use Rattle.con_events.specs.declared.script.Step.TheVariants as steps
use Rattle.con_events.specs.declared.script.Script.{Script}
use Rattle.con_events.specs.Session.{Clients}

-- the state after a draw
unfoldable pub moved : ℕ → ℕ
moved x = (x * 6364136223846793005 + 1442695040888963407) % 18446744073709551616

-- a draw below m: its number, and the state after it
unfoldable pub draw : ℕ → ℕ → ℕ × ℕ
draw m x = (moved x / 8589934592 % m, moved x)

-- what is drawn first, and then what is drawn by it
abbrev pub chain : {A B : Type 0} → (ℕ → A × ℕ) → (A → ℕ → B × ℕ) → ℕ → B × ℕ
chain first next x = next (first x).0 (first x).1

-- so many, one after another
unfoldable pub many : {A : Type 0} → ℕ → (ℕ → A × ℕ) → ℕ → List A × ℕ
many zero one x = ([], x)
many (suc n) one x = chain one (λ a. chain (many n one) (λ more y. (a ∷ more, y))) x

-- the calls of the kinds 0 to 6
abbrev pub calls_drawn : List (ℕ → Call × ℕ)
calls_drawn =
    -- a text of 1 to 40 units of printable ASCII is written
    chain (draw 40) (λ n. chain (many (1 + n) (draw 95)) (λ us x. (call.Write 2 (map (λ u. 32 + u) us), x)))
    -- CR LF is written
    ∷ (λ x. (call.Write 2 (13 ∷ 10 ∷ []), x))
    -- ESC [, a number of 30 to 37, m is written
    ∷ chain (draw 8) (λ n x. (call.Write 2 (27 ∷ 91 ∷ (decimal (30 + n) ++ 109 ∷ [])), x))
    -- the cursor is set to a column and a row
    ∷ chain (draw 80) (λ c. chain (draw 25) (λ r x. (call.SetCursor 2 (pos c) (pos r), x)))
    -- from a column and a row on, so many words are filled in
    ∷ chain (draw 80) (λ c. chain (draw 25) (λ r. chain (draw 200) (λ n. chain (draw 256) (λ w x. (call.FillAttrs 2 (pos c) (pos r) n w, x)))))
    -- a rectangle is read, of this left, top, right and bottom
    ∷ chain (draw 80) (λ l. chain (draw 25) (λ t. chain (draw 80) (λ r. chain (draw 25) (λ b x.
    (call.RectRead 2 (record { left = pos l; top = pos t; right = pos r; bottom = pos b }), x)))))
    -- a key of a to z goes down
    ∷ chain (draw 26) (λ k x. (call.WriteInput 1 (record_of.Key (record { down = true; repeat = 1; vk = 0; scan = 0; unit = 97 + k; state = 0 }) ∷ []), x)) ∷ []

-- a call of a kind that is drawn; kind 7 is a peek of 4 records
unfoldable pub call_drawn : ℕ → Call × ℕ
call_drawn x = chain (draw 8) (λ k. get_or calls_drawn k (λ y. (call.Peek 1 4, y))) x

-- the script of client n: set-mode of 2, 7, and 499 further calls
unfoldable pub script_drawn : ℕ → ℕ → Script × ℕ
script_drawn n x = chain (many 499 call_drawn)
    (λ cs y. (record { program = codes "gen" ++ decimal n; group = n; steps = map steps.Call (call.SetMode 2 7 ∷ cs) }, y)) x

-- 80 by 25, with four scripts that are made in order
abbrev pub session_drawn : ℕ → Clients
session_drawn seed = record {
  size = record { w = 80; h = 25 };
  scripts = (chain (script_drawn 1) (λ a. chain (script_drawn 2) (λ b.
      chain (script_drawn 3) (λ c. chain (script_drawn 4) (λ d x. (a ∷ b ∷ c ∷ d ∷ [], x))))) seed).0;
}
