-- Nothing is left exactly where no value is left.
use Rattle.std.proofs.Common.{◌≡◌, List, [], ◌∷◌, length, refl, arith}
use Rattle.std.specs.Prelude.{◌==◌}
use Rattle.std.proofs.lemmas.Bool.Decides.{nat_tests}
use Rattle.con_events.specs.Reading.{nothing_left}
use Rattle.serde_json.specs.View.{items_view}
use Rattle.serde_json.specs.declared.value.Value.{Value}
use Rattle.con_document.specs.Values.{arguments}

pub no_arguments : (vs : List Value) → (length vs == 0) ≡ nothing_left (arguments (items_view vs))
no_arguments [] = refl
no_arguments (v ∷ vs) = grind (arith, nat_tests)
