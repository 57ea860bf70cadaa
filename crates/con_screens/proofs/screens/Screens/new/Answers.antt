use Rattle.std.proofs.Common.{arith, ◌≡◌, ◌+◌, ◌++◌, ◌∷◌, [], List, Option, Some, None, length, replicate, refl, sym, ap, subst, ◌∙◌, ℕ, append-nil, append_assoc}
use Rattle.std.proofs.lemmas.Grind.{replicate_next}
use Rattle.con_screens.specs.Buffer.{new_buffer}
use Rattle.con_screens.specs.Buffers.{Buffers, first_buffers}
use Rattle.con_screens.specs.Words.Buffers.{AreBuffers}
use Rattle.con_screens.specs.declared.buffer.Buffer.{Buffer}
use Rattle.con_screens.proofs.KeepLemmas.{first_are, long_first}
use Rattle.con_screens.proofs.screens.Screens.new.Goals as goal

pub loop-k-init : goal.loop-k-init
loop-k-init c = (sym (append-nil c.push_reserved.new.self.items), refl)

pub push_reserved-requires-in-loop-k : goal.push_reserved-requires-in-loop-k
push_reserved-requires-in-loop-k c =
    let first : length c.push_reserved.new.self.items ≡ 1 = ap (λ (l : List (Option Buffer)). length l) (c.push_reserved.ensures.items ∙ ap (λ (l : List (Option Buffer)). l ++ Some c.in_ok-main.main ∷ []) c.in-Ok.ensures.items) in
    let long : length c.loop-k.slots.items ≡ 1 + c.loop-k.k = ap (λ (l : List (Option Buffer)). length l) c.loop-k.invariant.0 ∙ long_first c.push_reserved.new.self.items c.loop-k.k first in
    omega (arith, long, c.loop-k-test.true, c.loop-k.invariant.1, c.push_reserved.ensures.capacity, c.in-Ok.ensures.capacity)

pub loop-k-preserved : goal.loop-k-preserved
loop-k-preserved c = (
  c.push_reserved-in-loop-k.ensures.items ∙ ap (λ (l : List (Option Buffer)). l ++ None ∷ []) c.loop-k.invariant.0 ∙ append_assoc c.push_reserved.new.self.items (replicate c.loop-k.k None) (None ∷ [])
      ∙ ap (λ (l : List (Option Buffer)). c.push_reserved.new.self.items ++ l) (sym (replicate_next c.loop-k.k None)),
  c.push_reserved-in-loop-k.ensures.capacity ∙ c.loop-k.invariant.1,
)

pub returns-clause-buffers : goal.returns-clause-buffers
returns-clause-buffers c =
    let w : ℕ = c.args.window.w in
    let h : ℕ = c.args.window.h in
    let end : c.loop-k.k ≡ 7 = omega arith in
    let first : c.push_reserved.new.self.items ≡ Some (new_buffer w h 0 0) ∷ [] =
    c.push_reserved.ensures.items ∙ ap (λ (l : List (Option Buffer)). l ++ Some c.in_ok-main.main ∷ []) c.in-Ok.ensures.items ∙ ap (λ (b : Buffer). Some b ∷ []) c.in_ok-main.ensures in
    let items : c.loop-k.slots.items ≡ Some (new_buffer w h 0 0) ∷ replicate 7 None =
    c.loop-k.invariant.0 ∙ ap (λ (l : List (Option Buffer)). l ++ replicate c.loop-k.k None) first ∙ ap (λ k. Some (new_buffer w h 0 0) ∷ replicate k None) end in
    ap (λ (l : List (Option Buffer)). record (first_buffers w h) { slots = l }) items

pub returns-clause-kept : goal.returns-clause-kept
returns-clause-kept c = subst (λ (s : Buffers). AreBuffers s) (sym (returns-clause-buffers c)) (first_are c.args.window.w c.args.window.h c.requires.some c.requires.few)
