-- Calls of one name with the same arguments are the same.
use Rattle.std.specs.Str.{bytes_eq}
use Rattle.std.proofs.lemmas.Slice.Eq.{bytes_eq-Decides}
use Rattle.con_events.specs.Arg.{Arg}
use Rattle.std.proofs.Common.{◌≡◌, ◌↔◌, ℕ, List, sym, subst, ap, ◌∙◌, Option, None, Some, Bool, true}
use Rattle.con_events.specs.declared.call.Call.{Call}
use Rattle.con_events.specs.Words.Table.{name_of, args_of, Row, row_of, Tells}
use Rattle.con_events.specs.TableLaws.{row_tells}

same_by : (a b : Call) (o : Option (Row Call)) → Tells a o → Tells b o → args_of a ≡ args_of b → a ≡ b
same_by a b None t u e = absurd t
same_by a b (Some r) t u e = sym t.1 ∙ ap r.make e ∙ u.1

pub same_where : (a b : Call) → name_of a ≡ name_of b → args_of a ≡ args_of b → a ≡ b
same_where a b n e = same_by a b (row_of (name_of a)) (row_tells a) (subst (λ w. Tells b (row_of w)) (sym n) (row_tells b)) e

-- names that are compared, and arguments of which it is told whether they are the same
pub same_both : (a b : Call) (m n : List ℕ) (xs ys : List Arg) (r : Bool) → m ≡ name_of a → n ≡ name_of b → bytes_eq m n ≡ true
    → xs ≡ args_of a → ys ≡ args_of b → (r ≡ true) ↔ (xs ≡ ys) → (r ≡ true) ↔ (a ≡ b)
same_both a b m n xs ys r p q t u v d =
    (λ e. same_where a b (sym p ∙ (bytes_eq-Decides m n).0 t ∙ q) (sym u ∙ d.0 e ∙ v), λ e. d.1 (u ∙ ap args_of e ∙ sym v))
