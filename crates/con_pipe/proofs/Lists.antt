use Rattle.std.proofs.Common.{◌≡◌, Bool, true, false, List, [], ◌∷◌, ◌++◌, sym, refl, ap, ◌∙◌, append-nil, Option, Some, None, IfSome, not, is_some}
use Rattle.std.specs.Option.{IfNone}
use Rattle.con_pipe.specs.Pieces.{pieces, is_ended, is_proper}

module _ {T : Type 0} where
  pub pieces-append : (xs ys : List (Option T)) → pieces (xs ++ ys) ≡ pieces xs ++ pieces ys
  pieces-append [] ys = refl
  pieces-append (Some x ∷ xs) ys = ap (λ l. x ∷ l) (pieces-append xs ys)
  pieces-append (None ∷ xs) ys = pieces-append xs ys

  pub ended-push : (xs : List (Option T)) (x : T) → is_ended (xs ++ Some x ∷ []) ≡ is_ended xs
  ended-push [] x = refl
  ended-push (Some y ∷ xs) x = ended-push xs x
  ended-push (None ∷ xs) x = refl

  pub ended-end : (xs : List (Option T)) → is_ended (xs ++ None ∷ []) ≡ true
  ended-end [] = refl
  ended-end (Some y ∷ xs) = ended-end xs
  ended-end (None ∷ xs) = refl

  -- one more item after a list with no end mark
  pub proper-push : (xs : List (Option T)) (x : Option T) → is_ended xs ≡ false → is_proper (xs ++ x ∷ []) ≡ true
  proper-push [] (Some x) e = refl
  proper-push [] None e = refl
  proper-push (Some y ∷ xs) x e = proper-push xs x e
  proper-push (None ∷ xs) x e = cc

  -- nothing follows what has an end mark
  pub proper-all : (xs ys : List (Option T)) → is_proper (xs ++ ys) ≡ true → is_ended xs ≡ true → (pieces (xs ++ ys) ≡ pieces xs) × (is_ended (xs ++ ys) ≡ true)
  proper-all [] ys p e = cc
  proper-all (Some y ∷ xs) ys p e = let k = proper-all xs ys p e in (ap (λ l. y ∷ l) k.0, k.1)
  proper-all (None ∷ []) [] p e = (refl, refl)
  proper-all (None ∷ []) (y ∷ ys) p e = cc
  proper-all (None ∷ (x ∷ xs)) ys p e = cc

  -- an item after a list with no end mark: the mark ends it, and a piece is one more
  pub took : (old new : List (Option T)) (o : Option T) (b : Bool) → is_ended old ≡ false → new ≡ old ++ o ∷ [] → is_some o ≡ not b
      → (b ≡ is_ended new) × IfSome o (λ x. (pieces new ≡ pieces old ++ x ∷ []) × (b ≡ false)) × IfNone o ((pieces new ≡ pieces old) × (b ≡ true))
  took old new (Some x) true unended is e = cc
  took old new (Some x) false unended is e = (sym unended ∙ (sym (ended-push old x) ∙ ap is_ended (sym is)), (ap pieces is ∙ pieces-append old (Some x ∷ []), refl), tt)
  took old new None true unended is e = (sym (ended-end old) ∙ ap is_ended (sym is), tt, (ap pieces is ∙ (pieces-append old (None ∷ []) ∙ append-nil (pieces old)), refl))
  took old new None false unended is e = cc
