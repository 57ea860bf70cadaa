-- What the command makes of `audit` and four words: a step of its walk for each.
use Rattle.std.proofs.Common.{◌≡◌, ℕ, false, nat_eq, List, [], ◌∷◌, codes, ap, refl, Some, None, ◌∙◌}
use Rattle.std.specs.Prelude.{fold}
use Rattle.clap.specs.Faults.{check_fault, defaults_fault, level_fault, settle_fault, step_fault, turn_fault, walk_fault}
use Rattle.clap.specs.Kinds.{Kinds, or_else}
use Rattle.clap.specs.Simple.{Shape}
use Rattle.clap.specs.Walk.{Held, Names, Row, Rule, Step, Walk, after_step, arg_by_index, finished, idle, nothing_held, rows_after, settled, to_positional, value, walk, walked, word_met}
use Rattle.clap.specs.Words.{fault_of, subcommand_of, Text}
use Rattle.clap.proofs.OnLiterals.{clap_on_literals}
use Rattle.con_command.specs.Command.{host}
use Rattle.con_words.specs.Naming.{form_met}
use Rattle.con_words.specs.Words.{auditing, of_words}
use Rattle.con_words.proofs.WithWord.{rule, leaf, row}

-- ---- a word that is a value

-- a walk that waits for the positional of this place
abbrev at : ℕ → Held → Walk
at p h = record { held = h; waiting = idle; position = p; is_trailing = false; stopped = None }

met_value : (c : List Rule) (p : ℕ) (h : Held) (y : ℕ) (ys : Text) → nat_eq y 45 ≡ false → word_met c [] false idle p (y ∷ ys) h ≡ (h, value)
unfolding clap_on_literals
met_value c p h y ys i = simp i

walked_value : (c : List Rule) (p : ℕ) (h : Held) (y : ℕ) (ys : Text) → nat_eq y 45 ≡ false → walked c [] (at p h) (y ∷ ys) ≡ to_positional c (arg_by_index c p) (y ∷ ys) (at p h) h
unfolding walked
walked_value c p h y ys i = ap (λ (m : Held × Step). after_step c (y ∷ ys) (at p h) m.0 m.1) (met_value c p h y ys i)

turn_value : (s : Shape) (p : ℕ) (h : Held) (y : ℕ) (ys : Text) → nat_eq y 45 ≡ false → turn_fault s [] (at p h) (y ∷ ys) ≡ step_fault s p h value
unfolding clap_on_literals
turn_value s p h y ys i = simp i

one_more : (s : Shape) (ns : Names) (w v : Walk) (x : Text) (rest : List Text) → turn_fault s ns w x ≡ [] → walked s.rules ns w x ≡ v → walk_fault s ns w (x ∷ rest) ≡ walk_fault s ns v rest
unfolding walk_fault
one_more s ns w v x rest none next = ap (λ (k : Kinds). or_else k (walk_fault s ns (walked s.rules ns w x) rest)) none ∙ ap (λ (u : Walk). walk_fault s ns u rest) next

-- ---- the subcommand, as the command builds it

abbrev rules : List Rule
rules = rule (codes "session") 1 ∷ rule (codes "link") 2 ∷ rule (codes "stream") 3 ∷ rule (codes "report") 4 ∷ []

abbrev audit : Shape
audit = leaf (codes "audit") rules

-- ---- what it holds behind each word

abbrev holding : List Row → Text → Text → Held
holding rows id v = record { rows = rows; pending = Some (id, v ∷ []); skip = 0 }

abbrev one_held : Text → Held
one_held a = holding [] (codes "session") a

abbrev two_held : Text → Text → Held
two_held a b = holding (row (codes "session") a ∷ []) (codes "link") b

abbrev three_held : Text → Text → Text → Held
three_held a b c = holding (row (codes "session") a ∷ row (codes "link") b ∷ []) (codes "stream") c

abbrev four_held : Text → Text → Text → Text → Held
four_held a b c d = holding (row (codes "session") a ∷ row (codes "link") b ∷ row (codes "stream") c ∷ []) (codes "report") d

module _ (y z u v : ℕ) (ys zs us vs : Text) (i : nat_eq y 45 ≡ false) (j : nat_eq z 45 ≡ false) (k : nat_eq u 45 ≡ false) (l : nat_eq v 45 ≡ false) where
  abbrev a : Text
  a = y ∷ ys

  abbrev b : Text
  b = z ∷ zs

  abbrev c : Text
  c = u ∷ us

  abbrev d : Text
  d = v ∷ vs

  first : walked rules [] (at 1 nothing_held) a ≡ at 2 (one_held a)
  first = walked_value rules 1 nothing_held y ys i

  second : walked rules [] (at 2 (one_held a)) b ≡ at 3 (two_held a b)
  second = walked_value rules 2 (one_held a) z zs j

  third : walked rules [] (at 3 (two_held a b)) c ≡ at 4 (three_held a b c)
  third = walked_value rules 3 (two_held a b) u us k

  fourth : walked rules [] (at 4 (three_held a b c)) d ≡ at 5 (four_held a b c d)
  fourth = walked_value rules 4 (three_held a b c) v vs l

  walk_is : walk rules [] nothing_held (a ∷ b ∷ c ∷ d ∷ []) ≡ at 5 (four_held a b c d)
  walk_is = ap (λ (w : Walk). fold (walked rules []) w (b ∷ c ∷ d ∷ [])) first ∙ (ap (λ (w : Walk). fold (walked rules []) w (c ∷ d ∷ [])) second
      ∙ (ap (λ (w : Walk). fold (walked rules []) w (d ∷ [])) third ∙ fourth))

  walk_passes : walk_fault audit [] (at 1 nothing_held) (a ∷ b ∷ c ∷ d ∷ []) ≡ []
  unfolding walk_fault
  walk_passes = one_more audit [] _ _ a (b ∷ c ∷ d ∷ []) (turn_value audit 1 nothing_held y ys i) first ∙ (one_more audit [] _ _ b (c ∷ d ∷ []) (turn_value audit 2 (one_held a) z zs j) second
      ∙ (one_more audit [] _ _ c (d ∷ []) (turn_value audit 3 (two_held a b) u us k) third ∙ one_more audit [] _ _ d [] (turn_value audit 4 (three_held a b c) v vs l) fourth))

-- ---- behind the last word

abbrev behind : Held → Kinds
behind h = or_else (settle_fault audit.rules audit.args_override_self h) (or_else (defaults_fault (settled audit.rules h).rows audit.rules) (check_fault audit (finished audit.rules h) false))

behind_four : (a b c d : Text) → behind (four_held a b c d) ≡ []
unfolding clap_on_literals
behind_four a b c d = refl

asked_of_four : (a b c d : Text) → form_met (Some (codes "audit", finished rules (four_held a b c d))) ≡ Some (auditing a b c d)
asked_of_four a b c d = refl

-- ---- the words as a whole

stops : (a b c d : Text) → subcommand_of host (codes "audit" ∷ a ∷ b ∷ c ∷ d ∷ []) ≡ Some (codes "audit", rows_after rules [] (a ∷ b ∷ c ∷ d ∷ []))
unfolding clap_on_literals
stops a b c d = refl

enters : (a b c d : Text) → fault_of host (codes "audit" ∷ a ∷ b ∷ c ∷ d ∷ []) ≡ or_else (level_fault audit [] nothing_held (a ∷ b ∷ c ∷ d ∷ []) false []) []
unfolding clap_on_literals
enters a b c d = refl

level : (ws : List Text) (w : Walk) → walk_fault audit [] (at 1 nothing_held) ws ≡ [] → walk rules [] nothing_held ws ≡ w → behind w.held ≡ [] → level_fault audit [] nothing_held ws false [] ≡ []
level ws w none is rest = ap (λ (ks : Kinds). or_else ks (behind (walk rules [] nothing_held ws).held)) none ∙ (ap (λ (w : Walk). behind w.held) is ∙ rest)

pub audit_taken : (y z u v : ℕ) (ys zs us vs : Text) → nat_eq y 45 ≡ false → nat_eq z 45 ≡ false → nat_eq u 45 ≡ false → nat_eq v 45 ≡ false
    → fault_of host (codes "audit" ∷ (y ∷ ys) ∷ (z ∷ zs) ∷ (u ∷ us) ∷ (v ∷ vs) ∷ []) ≡ []
audit_taken y z u v ys zs us vs i j k l =
    enters (y ∷ ys) (z ∷ zs) (u ∷ us) (v ∷ vs) ∙ ap (λ (ks : Kinds). or_else ks []) (level _ _ (walk_passes y z u v ys zs us vs i j k l) (walk_is y z u v ys zs us vs i j k l)
    (behind_four (y ∷ ys) (z ∷ zs) (u ∷ us) (v ∷ vs)))

pub audit_met : (y z u v : ℕ) (ys zs us vs : Text) → nat_eq y 45 ≡ false → nat_eq z 45 ≡ false → nat_eq u 45 ≡ false → nat_eq v 45 ≡ false
    → form_met (subcommand_of host (codes "audit" ∷ (y ∷ ys) ∷ (z ∷ zs) ∷ (u ∷ us) ∷ (v ∷ vs) ∷ [])) ≡ of_words (codes "audit" ∷ (y ∷ ys) ∷ (z ∷ zs) ∷ (u ∷ us) ∷ (v ∷ vs) ∷ [])
audit_met y z u v ys zs us vs i j k l =
    ap form_met (stops (y ∷ ys) (z ∷ zs) (u ∷ us) (v ∷ vs)) ∙ (ap (λ (w : Walk). form_met (Some (codes "audit", finished rules w.held))) (walk_is y z u v ys zs us vs i j k l)
    ∙ asked_of_four (y ∷ ys) (z ∷ zs) (u ∷ us) (v ∷ vs))
