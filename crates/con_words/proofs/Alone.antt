-- What the command makes of a name alone.
use Rattle.std.proofs.Common.{◌≡◌, ◌≢◌, ◌⊎◌, List, [], ◌∷◌, codes, refl, sym, ◌∙◌, None}
use Rattle.clap.specs.Words.{fault_of, subcommand_of, Text, Kinds}
use Rattle.clap.specs.declared.error.kind.ErrorKind.{ErrorKind}
use Rattle.clap.specs.declared.error.kind.ErrorKind.TheVariants as kind
use Rattle.clap.proofs.OnLiterals.{clap_on_literals}
use Rattle.con_command.specs.Command.{host}
use Rattle.con_words.specs.Naming.{form_met}
use Rattle.con_words.specs.Words.{of_words}

-- the words are a form, and the command takes them
abbrev pub IsTaken : List Text → Type 0
IsTaken ws = (fault_of host ws ≡ []) × (form_met (subcommand_of host ws) ≡ of_words ws)

-- they are none, and it does not
abbrev pub IsRefused : List Text → Type 0
IsRefused ws = (fault_of host ws ≢ []) × (of_words ws ≡ None)

abbrev pub Reads : List Text → Type 0
Reads ws = IsTaken ws ⊎ IsRefused ws

pub some_kinds : (ks : Kinds) (k : ErrorKind) (more : Kinds) → ks ≡ k ∷ more → ks ≢ []
some_kinds ks k more e n = let bad : k ∷ more ≡ [] = sym e ∙ n in absurd (cc)

pub nothing_refused : fault_of host [] ≢ []
unfolding clap_on_literals
nothing_refused h = cc

pub type_alone : IsTaken (codes "type" ∷ [])
unfolding clap_on_literals
type_alone = (refl, refl)

play_fault : fault_of host (codes "play" ∷ []) ≡ kind.MissingRequiredArgument ∷ []
unfolding clap_on_literals
play_fault = refl

pub play_alone : IsRefused (codes "play" ∷ [])
play_alone = (some_kinds _ _ _ play_fault, refl)

solo_fault : fault_of host (codes "solo" ∷ []) ≡ kind.MissingRequiredArgument ∷ []
unfolding clap_on_literals
solo_fault = refl

pub solo_alone : IsRefused (codes "solo" ∷ [])
solo_alone = (some_kinds _ _ _ solo_fault, refl)

gen_fault : fault_of host (codes "gen" ∷ []) ≡ kind.MissingRequiredArgument ∷ []
unfolding clap_on_literals
gen_fault = refl

pub gen_alone : IsRefused (codes "gen" ∷ [])
gen_alone = (some_kinds _ _ _ gen_fault, refl)

run_fault : fault_of host (codes "run" ∷ []) ≡ kind.MissingRequiredArgument ∷ []
unfolding clap_on_literals
run_fault = refl

pub run_alone : IsRefused (codes "run" ∷ [])
run_alone = (some_kinds _ _ _ run_fault, refl)

mirror_fault : fault_of host (codes "mirror" ∷ []) ≡ kind.MissingRequiredArgument ∷ []
unfolding clap_on_literals
mirror_fault = refl

pub mirror_alone : IsRefused (codes "mirror" ∷ [])
mirror_alone = (some_kinds _ _ _ mirror_fault, refl)

audit_fault : fault_of host (codes "audit" ∷ []) ≡ kind.MissingRequiredArgument ∷ []
unfolding clap_on_literals
audit_fault = refl

pub audit_alone : IsRefused (codes "audit" ∷ [])
audit_alone = (some_kinds _ _ _ audit_fault, refl)
