-- What the command makes of a name and a word: it comes to the subcommand of that name, and what that makes of a word does not depend on the name.
use Rattle.std.proofs.Common.{◌≡◌, ℕ, true, false, nat_eq, List, [], ◌∷◌, codes, ap, refl, None, Some, ◌∙◌}
use Rattle.clap.specs.Faults.{level_fault}
use Rattle.clap.specs.Kinds.{Kinds, or_else}
use Rattle.clap.specs.Simple.{Shape, filled, new_rule, new_shape, with_index}
use Rattle.clap.specs.Walk.{Row, Rule, nothing_held, reading_by, rows_after}
use Rattle.clap.specs.Words.{fault_of, subcommand_of, Text}
use Rattle.clap.specs.declared.error.kind.ErrorKind.TheVariants as kind
use Rattle.clap.specs.declared.parser.matches.ValueSource.TheVariants.{CommandLine}
use Rattle.clap.proofs.OnLiterals.{clap_on_literals}
use Rattle.con_command.specs.Command.{host}
use Rattle.con_words.specs.Naming.{form_met}
use Rattle.con_words.specs.Words.{of_words}

-- ---- a subcommand with these words, as the command builds it

abbrev pub rule : Text → ℕ → Rule
rule id i = with_index i (filled (record (new_rule id) { required = true }))

abbrev pub leaf : Text → List Rule → Shape
leaf name rules = record (new_shape name) { rules = rules; no_binary_name = true; disable_help_flag = true; disable_help_subcommand = true; is_built = true }

abbrev pub row : Text → Text → Row
row id v = record { id = id; values = v ∷ []; count = None; source = Some CommandLine; reading = reading_by (rule id 1) }

-- what the subcommand makes of the words behind its name
abbrev pub inside : Shape → List Text → Kinds
inside s ws = or_else (level_fault s [] nothing_held ws false []) []

-- ---- one word, of which only the first byte is known

abbrev one : List Rule
one = rule (codes "word") 1 ∷ []

word_passes : (name : Text) (y : ℕ) (ys : Text) → nat_eq y 45 ≡ false → inside (leaf name one) ((y ∷ ys) ∷ []) ≡ []
unfolding clap_on_literals
word_passes name y ys i = simp i

word_rows : (y : ℕ) (ys : Text) → nat_eq y 45 ≡ false → rows_after one [] ((y ∷ ys) ∷ []) ≡ row (codes "word") (y ∷ ys) ∷ []
unfolding clap_on_literals
word_rows y ys i = simp i

no_word : (y : ℕ) (ys : Text) → nat_eq y 45 ≡ false → inside (leaf (codes "type") []) ((y ∷ ys) ∷ []) ≡ kind.UnknownArgument ∷ []
unfolding clap_on_literals
no_word y ys i = simp i

-- ---- the subcommand that a name comes to

enters_type : (a : Text) → fault_of host (codes "type" ∷ a ∷ []) ≡ inside (leaf (codes "type") []) (a ∷ [])
unfolding clap_on_literals
enters_type a = refl

enters_play : (a : Text) → fault_of host (codes "play" ∷ a ∷ []) ≡ inside (leaf (codes "play") one) (a ∷ [])
unfolding clap_on_literals
enters_play a = refl

enters_solo : (a : Text) → fault_of host (codes "solo" ∷ a ∷ []) ≡ inside (leaf (codes "solo") one) (a ∷ [])
unfolding clap_on_literals
enters_solo a = refl

enters_gen : (a : Text) → fault_of host (codes "gen" ∷ a ∷ []) ≡ inside (leaf (codes "gen") one) (a ∷ [])
unfolding clap_on_literals
enters_gen a = refl

enters_run : (a : Text) → fault_of host (codes "run" ∷ a ∷ []) ≡ inside (leaf (codes "run") one) (a ∷ [])
unfolding clap_on_literals
enters_run a = refl

enters_mirror : (a : Text) → fault_of host (codes "mirror" ∷ a ∷ []) ≡ inside (leaf (codes "mirror") one) (a ∷ [])
unfolding clap_on_literals
enters_mirror a = refl

stops_play : (a : Text) → subcommand_of host (codes "play" ∷ a ∷ []) ≡ Some (codes "play", rows_after one [] (a ∷ []))
unfolding clap_on_literals
stops_play a = refl

stops_solo : (a : Text) → subcommand_of host (codes "solo" ∷ a ∷ []) ≡ Some (codes "solo", rows_after one [] (a ∷ []))
unfolding clap_on_literals
stops_solo a = refl

stops_gen : (a : Text) → subcommand_of host (codes "gen" ∷ a ∷ []) ≡ Some (codes "gen", rows_after one [] (a ∷ []))
unfolding clap_on_literals
stops_gen a = refl

stops_run : (a : Text) → subcommand_of host (codes "run" ∷ a ∷ []) ≡ Some (codes "run", rows_after one [] (a ∷ []))
unfolding clap_on_literals
stops_run a = refl

stops_mirror : (a : Text) → subcommand_of host (codes "mirror" ∷ a ∷ []) ≡ Some (codes "mirror", rows_after one [] (a ∷ []))
unfolding clap_on_literals
stops_mirror a = refl

met : (name : Text) (y : ℕ) (ys : Text) → nat_eq y 45 ≡ false → form_met (Some (name, rows_after one [] ((y ∷ ys) ∷ []))) ≡ form_met (Some (name, row (codes "word") (y ∷ ys) ∷ []))
met name y ys i = ap (λ (rows : List Row). form_met (Some (name, rows))) (word_rows y ys i)

-- ---- the words as a whole

pub type_and_more : (y : ℕ) (ys : Text) → nat_eq y 45 ≡ false → fault_of host (codes "type" ∷ (y ∷ ys) ∷ []) ≡ kind.UnknownArgument ∷ []
type_and_more y ys i = enters_type (y ∷ ys) ∙ no_word y ys i

pub audit_and_one : (y : ℕ) (ys : Text) → nat_eq y 45 ≡ false → fault_of host (codes "audit" ∷ (y ∷ ys) ∷ []) ≡ kind.MissingRequiredArgument ∷ []
unfolding clap_on_literals
audit_and_one y ys i = simp i

pub play_taken : (y : ℕ) (ys : Text) → nat_eq y 45 ≡ false → fault_of host (codes "play" ∷ (y ∷ ys) ∷ []) ≡ []
play_taken y ys i = enters_play (y ∷ ys) ∙ word_passes (codes "play") y ys i

pub play_met : (y : ℕ) (ys : Text) → nat_eq y 45 ≡ false → form_met (subcommand_of host (codes "play" ∷ (y ∷ ys) ∷ [])) ≡ of_words (codes "play" ∷ (y ∷ ys) ∷ [])
play_met y ys i = ap form_met (stops_play (y ∷ ys)) ∙ met (codes "play") y ys i

pub solo_taken : (y : ℕ) (ys : Text) → nat_eq y 45 ≡ false → fault_of host (codes "solo" ∷ (y ∷ ys) ∷ []) ≡ []
solo_taken y ys i = enters_solo (y ∷ ys) ∙ word_passes (codes "solo") y ys i

pub solo_met : (y : ℕ) (ys : Text) → nat_eq y 45 ≡ false → form_met (subcommand_of host (codes "solo" ∷ (y ∷ ys) ∷ [])) ≡ of_words (codes "solo" ∷ (y ∷ ys) ∷ [])
solo_met y ys i = ap form_met (stops_solo (y ∷ ys)) ∙ met (codes "solo") y ys i

pub gen_taken : (y : ℕ) (ys : Text) → nat_eq y 45 ≡ false → fault_of host (codes "gen" ∷ (y ∷ ys) ∷ []) ≡ []
gen_taken y ys i = enters_gen (y ∷ ys) ∙ word_passes (codes "gen") y ys i

pub gen_met : (y : ℕ) (ys : Text) → nat_eq y 45 ≡ false → form_met (subcommand_of host (codes "gen" ∷ (y ∷ ys) ∷ [])) ≡ of_words (codes "gen" ∷ (y ∷ ys) ∷ [])
gen_met y ys i = ap form_met (stops_gen (y ∷ ys)) ∙ met (codes "gen") y ys i

pub run_taken : (y : ℕ) (ys : Text) → nat_eq y 45 ≡ false → fault_of host (codes "run" ∷ (y ∷ ys) ∷ []) ≡ []
run_taken y ys i = enters_run (y ∷ ys) ∙ word_passes (codes "run") y ys i

pub run_met : (y : ℕ) (ys : Text) → nat_eq y 45 ≡ false → form_met (subcommand_of host (codes "run" ∷ (y ∷ ys) ∷ [])) ≡ of_words (codes "run" ∷ (y ∷ ys) ∷ [])
run_met y ys i = ap form_met (stops_run (y ∷ ys)) ∙ met (codes "run") y ys i

pub mirror_taken : (y : ℕ) (ys : Text) → nat_eq y 45 ≡ false → fault_of host (codes "mirror" ∷ (y ∷ ys) ∷ []) ≡ []
mirror_taken y ys i = enters_mirror (y ∷ ys) ∙ word_passes (codes "mirror") y ys i

pub mirror_met : (y : ℕ) (ys : Text) → nat_eq y 45 ≡ false → form_met (subcommand_of host (codes "mirror" ∷ (y ∷ ys) ∷ [])) ≡ of_words (codes "mirror" ∷ (y ∷ ys) ∷ [])
mirror_met y ys i = ap form_met (stops_mirror (y ∷ ys)) ∙ met (codes "mirror") y ys i
