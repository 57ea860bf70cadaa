-- An array that has not four items is no rectangle.
use Rattle.std.proofs.Common.{◌≡◌, ◌<◌, ◌≤◌, List, [], ◌∷◌, length, refl, arith, None}
use Rattle.serde_json.specs.View.{items_view}
use Rattle.serde_json.specs.declared.value.Value.{Value}
use Rattle.con_values.specs.Values.{rect_items}

pub short : (vs : List Value) → length vs < 4 → None ≡ rect_items (items_view vs)
short [] h = refl
short (a ∷ []) h = refl
short (a ∷ b ∷ []) h = refl
short (a ∷ b ∷ c ∷ []) h = refl
short (a ∷ b ∷ c ∷ d ∷ vs) h = absurd (omega arith)

pub long : (vs : List Value) → 5 ≤ length vs → None ≡ rect_items (items_view vs)
long [] h = absurd (omega arith)
long (a ∷ []) h = absurd (omega arith)
long (a ∷ b ∷ []) h = absurd (omega arith)
long (a ∷ b ∷ c ∷ []) h = absurd (omega arith)
long (a ∷ b ∷ c ∷ d ∷ []) h = absurd (omega arith)
long (a ∷ b ∷ c ∷ d ∷ e ∷ vs) h = refl
