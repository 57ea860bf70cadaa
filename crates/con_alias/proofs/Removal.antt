-- An alias is removed by one walk.
use Rattle.std.proofs.Common.{◌≡◌, ℕ, suc, ◌+◌, Bool, true, false, cond, not, List, [], ◌∷◌, refl, ap, ◌∙◌, arith}
use Rattle.std.specs.Prelude.{remove}
use Rattle.std.specs.List.{position_or_len}
use Rattle.con_alias.specs.Aliases.{Entry, same_name}
use Rattle.con_alias.specs.Words.Aliases.{without_entry}

removed_step : (b : Bool) (e : Entry) (es : List Entry) (n : ℕ) (r : List Entry) → remove es n ≡ r → remove (e ∷ es) (cond (not b) (1 + n) 0) ≡ cond b es (e ∷ r)
removed_step true e es n r rest = refl
removed_step false e es n r rest =
    let next : 1 + n ≡ suc n = omega arith in
    ap (remove (e ∷ es)) next ∙ ap (λ l. e ∷ l) rest

-- the alias at the place of the first one with this source goes
pub removed-first : (es : List Entry) (source : List ℕ) → remove es (position_or_len (λ e. same_name e.source source) es) ≡ without_entry es source
removed-first [] source = refl
removed-first (e ∷ es) source =
    removed_step (same_name e.source source) e es (position_or_len (λ x. same_name x.source source) es) (without_entry es source) (removed-first es source)
