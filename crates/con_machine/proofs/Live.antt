-- What a handle that is found stands for is live.
use Rattle.std.proofs.Common.{◌≡◌, ℕ, ◌+◌, ◌<◌, inl, inr, Bool, true, false, cond, List, Option, None, Some, Ok, Err, refl, sym, subst, arith}
use Rattle.std.specs.Prelude.{IsSome, IfOk, ◌==◌, Result, bit_and}
use Rattle.std.specs.Option.{option_map_or}
use Rattle.std.proofs.lemmas.Bool.{cases_eq, eq-eqb}
use Rattle.con_units.specs.declared.code.Code.{Code}
use Rattle.con_units.specs.declared.code.Code.TheVariants as code
use Rattle.con_handles.specs.CountLaws.{count_laws}
use Rattle.con_handles.specs.Handles.{look, allowed, find_handle, is_kind}
use Rattle.con_handles.specs.Tables.{tally, on}
use Rattle.con_handles.specs.declared.handle.Handle.{Handle}
use Rattle.con_handles.specs.declared.handle.Kind.{Kind}
use Rattle.con_handles.specs.declared.handle.Object.{Object}
use Rattle.con_handles.specs.declared.handle.Object.TheVariants as object
use Rattle.con_screens.specs.Buffers.{Buffers, buffer_at}
use Rattle.con_screens.specs.Words.Buffers.{AreBuffers, IsLive}
use Rattle.con_screens.specs.declared.buffer.Buffer.{Buffer}
use Rattle.con_machine.specs.Sound.{stands_for, AreCounted, HasLive}

pub allowed_is : (h : Handle) (k : Kind) (right : ℕ) (o : Object) → allowed h k right ≡ Ok o → h.object ≡ o
allowed_is h k right o e = by_kind (is_kind k h.object) (bit_and h.rights right == right) e
  where
    by_kind : (a b : Bool) → cond a (cond b (Ok h.object) (Err code.Denied)) (Err code.BadHandle) ≡ Ok o → h.object ≡ o
    by_kind true true e = cc
    by_kind true false e = cc
    by_kind false b e = cc

some_counted : (o : Option Buffer) → 0 < option_map_or (λ b. b.handles) o 0 → IsSome o
some_counted None lt = absurd (omega arith)
some_counted (Some b) lt = refl

live_object : (b : Buffers) (hs : List Handle) (p n : ℕ) (h : Handle) (o : Object) → AreBuffers b → AreCounted b hs → find_handle hs p n ≡ Some h → h.object ≡ o → HasLive b o
live_object b hs p n h object.Input are counted e is = tt
live_object b hs p n h (object.Output id) are counted e is = elim (cases_eq id.0 0) [
  | inl main ↦ subst (λ k. IsLive b k) (sym main) are.main
  | inr other ↦
      let here : stands_for id.0 h.object ≡ true = subst (λ (x : Object). stands_for id.0 x ≡ true) (sym is) (eq-eqb id.0 id.0 refl) in
      let some : 0 < tally (on (stands_for id.0)) hs = count_laws.of_found (on (stands_for id.0)) hs p n h e here in
      some_counted (buffer_at b id.0) (omega (arith, counted.each id.0 other, some))
]

pub live_look : (b : Buffers) (hs : List Handle) (p n : ℕ) (k : Kind) (right : ℕ) (r : Result Object Code) → AreBuffers b → AreCounted b hs → r ≡ look hs p n k right → IfOk r (λ o. HasLive b o)
live_look b hs p n k right (Err why) are counted e = tt
live_look b hs p n k right (Ok o) are counted e = by_find (find_handle hs p n) refl
  where
    by_find : (x : Option Handle) → find_handle hs p n ≡ x → HasLive b o
    by_find None is = let wrong : Ok o ≡ Err code.BadHandle = rw is at e in cc
    by_find (Some h) is = let ok : Ok o ≡ allowed h k right = rw is at e in live_object b hs p n h o are counted is (allowed_is h k right o (sym ok))

-- what a handle that goes stood for is live
pub live_gone : (b : Buffers) (hs us : List Handle) (o : Object) → AreBuffers b → AreCounted b hs → ((t : Object → Bool) → cond (t o) 1 0 + tally (on t) us ≡ tally (on t) hs) → HasLive b o
live_gone b hs us object.Input are counted less = tt
live_gone b hs us (object.Output id) are counted less = elim (cases_eq id.0 0) [
  | inl main ↦ subst (λ k. IsLive b k) (sym main) are.main
  | inr other ↦
      let itself : (id.0 == id.0) ≡ true = eq-eqb id.0 id.0 refl in
      let more : cond (id.0 == id.0) 1 0 + tally (on (stands_for id.0)) us ≡ tally (on (stands_for id.0)) hs = less (stands_for id.0) in
      let one : 1 + tally (on (stands_for id.0)) us ≡ tally (on (stands_for id.0)) hs = rw itself at more in
      some_counted (buffer_at b id.0) (omega (arith, counted.each id.0 other, one))
]

-- what is said of an answer that is known
pub on_ok : {A : Type 0} (r : Result A Code) (a : A) (P : Type 0) → r ≡ Ok a → IfOk r (λ _. P) → P
on_ok (Ok b) a P is p = p
on_ok (Err why) a P is p = cc
