-- An array that has not two items is no size.
use Rattle.std.proofs.Common.{◌≡◌, ◌<◌, ◌≤◌, List, [], ◌∷◌, length, refl, arith, None}
use Rattle.serde_json.specs.View.{items_view}
use Rattle.serde_json.specs.declared.value.Value.{Value}
use Rattle.con_document.specs.Session.{size_items}

pub short_size : (vs : List Value) → length vs < 2 → None ≡ size_items (items_view vs)
short_size [] h = refl
short_size (a ∷ []) h = refl
short_size (a ∷ b ∷ vs) h = absurd (omega arith)

pub long_size : (vs : List Value) → 3 ≤ length vs → None ≡ size_items (items_view vs)
long_size [] h = absurd (omega arith)
long_size (a ∷ []) h = absurd (omega arith)
long_size (a ∷ b ∷ []) h = absurd (omega arith)
long_size (a ∷ b ∷ c ∷ vs) h = refl
