-- The window follows the cursor.
use Rattle.std.proofs.Common.{◌≡◌, ℕ, true, ◌&&◌, ◌==◌, refl, ◌∙◌, arith}
use Rattle.std.specs.Prelude.{fold, Option, None, Some, option_to_list, if◌then◌else◌}
use Rattle.std.proofs.lemmas.Bool.Decides.{nat_tests}
use Rattle.con_vtgram.specs.declared.item.Item.{Item}
use Rattle.con_page.specs.Page.{Page, shown}
use Rattle.con_page.specs.Effect.{effect, act, follow}
use Rattle.con_page.specs.Applied.{effect_if}

-- the window follows the cursor after the item, if there is one
pub followed_if : (p mid new : Page) (x y : ℕ) (item : Option Item) → x ≡ p.x → y ≡ p.y → mid ≡ fold act p (option_to_list item)
    → new ≡ (if (mid.x == x) && (mid.y == y) then mid else shown mid) → new ≡ effect_if p item
unfolding effect follow
followed_if p mid new x y None column row did then_is =
    let a : (p.x == p.x) ≡ true = grind (arith, nat_tests) in
    let b : (p.y == p.y) ≡ true = grind (arith, nat_tests) in
    then_is ∙ rw (did, column, row, a, b) refl
followed_if p mid new x y (Some item) column row did then_is = then_is ∙ rw (did, column, row) refl
