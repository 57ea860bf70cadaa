-- A new table keeps the rule.
use Rattle.std.proofs.Common.{◌≡◌, ℕ, zero, suc, false, List, [], ◌∷◌, ◌++◌, sym, refl, ap, ◌∙◌, subst, arith, Option, Some, ◌⊎◌, inl, inr, ⊎_elim}
use mathlib.Core.Option.{some, some-injective, some-ne-none}
use lib.ListN.{get_elem?}
use Rattle.atomic_table.specs.Table.{opening}
use Rattle.con_book.specs.History.{In}
use Rattle.con_book.specs.Lock.{Status, fresh, live, Moves, opener, spent, Fits, Orderly}
use Rattle.con_book.specs.declared.kept.Kept.{Kept}
use Rattle.con_book.specs.declared.view.PassView.{PassView}

only : {A : Type 0} (a : A) (j : ℕ) (b : A) → get_elem? (a ∷ []) j ≡ some b → (j ≡ 0) × (a ≡ b)
only a zero b e = (refl, some-injective a b e)
only a (suc j) b e = absurd (some-ne-none b (sym e))

module _ {M S E : Type 0} (state : M → S) (moves : Moves S E) where
  abbrev at_first : ℕ → Status
  at_first zero = live 0
  at_first (suc a) = fresh

  only_first : (a : ℕ) → (In a (0 ∷ []) → ⊥) → at_first a ≡ fresh
  only_first zero other = absurd (other (inl refl))
  only_first (suc a) other = refl

  pub opens : (start : S) (x : Kept M E) → x.log.items ≡ [] → state x.machine ≡ start → Orderly state moves start (opening (1 ∷ 0 ∷ 0 ∷ []) (Some x ∷ []) (opener start))
  opens start x no_log is =
      let v : PassView S E = opener start in
      record {
        served = 0;
        drawn = 0;
        log = [];
        status = at_first;
        busy = false;
        wide = refl;
        drawn_word = refl;
        served_word = refl;
        counted = refl;
        parts = refl;
        each = λ j w e. let q = only v j w e in
            subst (λ (z : ℕ × PassView S E). (z.1 ≡ spent moves.blank) ⊎ Fits start 0 0 [] at_first z.0 z.1) (λ i. (sym q.0 i, q.1 i))
            (inr (record {
              starts = refl;
              seen = ([], refl);
              had = ([], refl);
              mine = refl;
              mine_seen = refl;
              some_part = omega arith;
              counts = refl;
              is_live = refl;
              opens_first = λ b. (refl, only_first, ((λ h. h), tt), (λ a h. ⊎_elim (λ e. let e' : a ≡ 0 = e in omega arith) (λ k. absurd k) h));
              keeps = λ k h. absurd h;
              stands = tt;
            }));
        apart = λ i j a b t p q h h'. (only v i a p).0 ∙ sym (only v j b q).0;
        strangers = λ a q. refl;
        out = λ b. cc;
        home = λ b. (x, refl, (no_log, is, refl));
      }

  pub opens_at : (start : S) (x : Kept M E) (slots before : List (Option (Kept M E))) → slots ≡ before ++ Some x ∷ [] → before ≡ [] → x.log.items ≡ [] → state x.machine ≡ start
      → Orderly state moves start (opening (1 ∷ 0 ∷ 0 ∷ []) slots (opener start))
  opens_at start x slots before is empty no_log same =
      let e : slots ≡ Some x ∷ [] = is ∙ ap (λ (l : List (Option (Kept M E))). l ++ Some x ∷ []) empty in
      subst (λ (l : List (Option (Kept M E))). Orderly state moves start (opening (1 ∷ 0 ∷ 0 ∷ []) l (opener start))) (sym e) (opens start x no_log same)
