-- What a table that is closed leaves.
use Rattle.std.proofs.Common.{◌≡◌, ℕ, ◌+◌, Bool, true, false, List, ◌∷◌, length, sym, refl, ap, ◌∙◌, subst, ⊎_elim, arith, Option, Some}
use Rattle.std.specs.Option.{unwrap_or, IsSome}
use mathlib.Core.Logic.{dite}
use mathlib.Core.Option.{some, some-injective}
use native.Mathlib.Decide.{ℕ_discrete}
use lib.ListN.{get_elem?}
use Rattle.atomic_table.specs.Table.{State, Final, Seen}
use Rattle.con_book.specs.History.{StartsWith, after, own, is_legal}
use Rattle.con_book.specs.Lock.{tickets, Moves, Follows}
use Rattle.con_book.specs.Turn.{Ends}
use Rattle.con_book.specs.declared.kept.Kept.{Kept}
use Rattle.con_book.specs.declared.history.Logged.{Logged}
use Rattle.con_book.specs.declared.view.PassView.{PassView}
use Rattle.con_book.proofs.Views.{total_two}
use Rattle.con_book.proofs.Steps.{alive, Rule, not_due}
use Rattle.con_book.proofs.Passes.{match_true}
use Rattle.con_book.proofs.Among.{not_among}

module _ {M S E : Type 0} (state : M → S) (moves : Moves S E) (start : S) where
  all_home : (s : State (Option (Kept M E)) (PassView S E)) (r : Rule state moves start s) (id : ℕ) (v : PassView S E) → get_elem? s.views id ≡ some v → v.parts ≡ 4294967296 → tickets v.stage ≡ 0 → (b : Bool) → r.busy ≡ b
      → (x : Kept M E) × (get_elem? s.homes 0 ≡ some (some (Some x))) × Follows state moves start r.log x
  all_home s r id v at whole idle false is = r.home is
  all_home s r id v at whole idle true is =
      let d = r.out is in
      let p = r.parts in
      absurd (dite (ℕ_discrete d.0 id)
      (λ e. let one : d.1 ≡ v = some-injective d.1 v (sym d.3 ∙ subst (λ (n : ℕ). get_elem? s.views n ≡ some v) (sym e) at) in not_due v.stage d.2 idle (ap (λ (z : PassView S E). z.stage) (sym one) ∙ d.4))
      (λ ne.
      let two = total_two (λ (z : PassView S E). z.parts) s.views d.0 id d.1 v ne d.3 at in
      ⊎_elim
      (λ e. not_due d.1.stage d.2 (ap (λ (z : PassView S E). tickets z.stage) e) d.4)
      (λ f. let k = f.some_part in omega arith)
      (r.each d.0 d.1 d.3)))

  pub ends : (id : ℕ) (v : PassView S E) (ws : List ℕ) (xs : List (Option (Kept M E))) → v.live ≡ true → v.opens ≡ true → length v.kept ≡ length v.made → tickets v.stage ≡ 0
      → Final (Seen (Rule state moves start) id v) ws xs → (x : Kept M E) × (get_elem? xs 0 ≡ some (Some x)) × Ends state moves.next moves.is_ready v x.log.items x.machine
  ends id v ws xs is_live opens joined idle last =
      let s = last.0 in
      let r = last.1.0 in
      let at = last.1.1 in
      let fit = alive state moves start r.served r.drawn r.log r.status id v is_live (r.each id v at) in
      let c = match_true v.opens (v.parts + length v.made ≡ 4294967296 + length v.kept) (v.parts ≡ 1 + length v.kept) opens fit.counts in
      let h = all_home s r id v at (omega arith) idle r.busy refl in
      let x : Kept M E = h.0 in
      let same : r.log ≡ x.log.items = sym h.2.0 in
      let begin : start ≡ v.start = sym fit.starts in (
        x,
        last.4 0 (Some x) h.1,
        record {
          machine_is = h.2.1 ∙ (λ i. after moves.next (begin i) (same i));
          legal = sym (λ i. is_legal moves.next moves.is_ready (begin i) (same i)) ∙ h.2.2;
          seen = subst (λ (l : List (Logged E)). StartsWith l v.seen) same fit.seen;
          mine = ap (own v.actor) (sym same) ∙ fit.mine;
          joined_seen = λ k q. subst (λ (l : List (Logged E)). StartsWith l k.seen) same (fit.keeps k q).2;
          joined_mine = λ k q. ap (own k.actor) (sym same) ∙ (fit.keeps k q).1;
          no_others = λ a other. ap (own a) (sym same) ∙ r.strangers a ((fit.opens_first opens).1 a (not_among a (0 ∷ v.made) other));
        },
      )

  pub ends_some : (x : Kept M E) (xs : List (Option (Kept M E))) (got : Option (Kept M E)) → get_elem? xs 0 ≡ some (Some x) → get_elem? xs 0 ≡ some got → got ≡ Some x
  ends_some x xs got p q = some-injective got (Some x) (sym q ∙ p)

  pub some_is : (got : Option (Kept M E)) (x : Kept M E) → got ≡ Some x → IsSome got
  some_is got x e = subst IsSome (sym e) refl

  pub ends_at : (v : PassView S E) (x y : Kept M E) → Some x ≡ Some y → Ends state moves.next moves.is_ready v x.log.items x.machine → Ends state moves.next moves.is_ready v y.log.items y.machine
  ends_at v x y e k = let q : x ≡ y = ap (λ (o : Option (Kept M E)). unwrap_or o x) e in subst (λ (z : Kept M E). Ends state moves.next moves.is_ready v z.log.items z.machine) q k
