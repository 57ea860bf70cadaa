-- The subcommand that was met, with its words.
use Rattle.std.proofs.Common.{◌≡◌, List, Option, Some, None, refl, ap}
use Rattle.std.specs.Prelude.{option_map, unwrap_or, Box}
use Rattle.std.specs.Box.{box_value}
use Rattle.clap.specs.Words.{Row, Text, subcommand_rows}
use Rattle.clap.specs.declared.parser.matches.ArgMatches.TheViews.{out-SubCommand}
use Rattle.clap.specs.declared.parser.matches.SubCommand.{SubCommand}
use Rattle.con_words.specs.Naming.{form_in, form_met}

same : {A : Type 0} (a b : A) → Some a ≡ Some b → a ≡ b
same a b e = ap (λ o. unwrap_or o a) e

pub met_is : {Z : Type 0} (o : Option (Box SubCommand Z)) (n : Text) (rows : List Row)
    → Some n ≡ option_map (λ b. (out-SubCommand (box_value b)).name.now) o → Some rows ≡ option_map (λ p. p.1) (subcommand_rows o)
    → form_in (n, rows) ≡ form_met (subcommand_rows o)
met_is None n rows name are = absurd (cc)
met_is (Some b) n rows name are = rw (same _ _ name, same _ _ are) refl

pub none_met : {Z : Type 0} (o : Option (Box SubCommand Z)) → None ≡ option_map (λ p. p.1) (subcommand_rows o) → None ≡ form_met (subcommand_rows o)
none_met None are = refl
none_met (Some b) are = absurd (cc)
