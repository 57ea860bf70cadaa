-- A delivery to the handlers is one to the chain.
use Rattle.std.proofs.Common.{◌≡◌, ℕ, zero, suc, Bool, true, false, List, [], ◌∷◌, refl, sym, ap, ◌∙◌, map, Option, Some, None}
use Rattle.std.specs.Prelude.{nat_lt, is_some, unwrap_or, ◌&&◌}
use Rattle.std.specs.List.{list_all}
use Rattle.con_handlers.specs.Answers.{answer, raised}
use Rattle.con_handlers.specs.Delivery.{newest, asked_from}
use Rattle.con_handlers.specs.Words.Delivery.{Delivers, delivered_by, remembered, answers}
use Rattle.con_handlers.specs.Memory.{Memory}
use Rattle.con_handlers.specs.declared.chain.Delivered.{Delivered}
use Rattle.con_handlers.specs.declared.chain.Delivered.TheVariants as outcome
use Rattle.con_machine.specs.Chain.{Handler, answers_to, asked_once}
use Rattle.con_machine.specs.Words.Chain.{delivered_to, is_handled}
use Rattle.con_actors.specs.Words.Worker.{HandsAreBy}
use Rattle.con_actors.specs.RackLaws.{once_places}

abbrev pub was_handled : Delivered → Bool
was_handled (outcome.Handled i) = true
was_handled outcome.Unhandled = false

pub handled_by : (o : Option ℕ) → was_handled (delivered_by o) ≡ is_some o
handled_by None = refl
handled_by (Some i) = refl

abbrev pub kinds_in : List Handler → List ℕ
kinds_in hs = map (λ h. h.kind) hs

abbrev pub asked_in : List Handler → List ℕ
asked_in hs = map (λ h. h.asked) hs

abbrev pub kinds_at : List Memory → List ℕ
kinds_at ms = map (λ m. m.kind) ms

abbrev pub asked_at : List Memory → List ℕ
asked_at ms = map (λ m. m.asked) ms

pub answers_same : (event : ℕ) (hs : List Handler) (ms : List Memory) → kinds_in hs ≡ kinds_at ms → asked_in hs ≡ asked_at ms
    → answers_to event hs ≡ answers event ms
answers_same event [] [] k a = refl
answers_same event [] (m ∷ ms) k a = absurd (cc)
answers_same event (h ∷ hs) [] k a = absurd (cc)
answers_same event (h ∷ hs) (m ∷ ms) k a =
    let k0 : h.kind ≡ m.kind = cc in let k1 : kinds_in hs ≡ kinds_at ms = cc in
    let a0 : h.asked ≡ m.asked = cc in let a1 : asked_in hs ≡ asked_at ms = cc in
    let e = answers_same event hs ms k1 a1 in
    ap (λ (x : ℕ). answer x h.asked event ∷ answers_to event hs) k0
    ∙ (ap (λ (x : ℕ). answer m.kind x event ∷ answers_to event hs) a0 ∙ ap (λ (xs : List Bool). answer m.kind m.asked event ∷ xs) e)

pub once_kinds : (k : ℕ) (hs : List Handler) → kinds_in (asked_once k hs) ≡ kinds_in hs
once_kinds k [] = refl
once_kinds zero (h ∷ hs) = ap (λ (xs : List ℕ). h.kind ∷ xs) (once_kinds zero hs)
once_kinds (suc k) (h ∷ hs) = ap (λ (xs : List ℕ). h.kind ∷ xs) (once_kinds k hs)

pub remembered_kinds : (event k : ℕ) (ms : List Memory) → kinds_at (remembered event k ms) ≡ kinds_at ms
remembered_kinds event k [] = refl
remembered_kinds event zero (m ∷ ms) = ap (λ (xs : List ℕ). m.kind ∷ xs) (remembered_kinds event zero ms)
remembered_kinds event (suc k) (m ∷ ms) = ap (λ (xs : List ℕ). m.kind ∷ xs) (remembered_kinds event k ms)

pub remembered_known : (event k : ℕ) (ms : List Memory) → list_all (λ m. nat_lt 0 m.kind) (remembered event k ms) ≡ list_all (λ m. nat_lt 0 m.kind) ms
remembered_known event k [] = refl
remembered_known event zero (m ∷ ms) = ap (λ (b : Bool). nat_lt 0 m.kind && b) (remembered_known event zero ms)
remembered_known event (suc k) (m ∷ ms) = ap (λ (b : Bool). nat_lt 0 m.kind && b) (remembered_known event k ms)

pub once_asked : (event k : ℕ) (hs : List Handler) (ms : List Memory) → asked_in hs ≡ asked_at ms
    → asked_in (asked_once k hs) ≡ asked_at (remembered event k ms)
once_asked event k [] [] a = refl
once_asked event k [] (m ∷ ms) a = absurd (cc)
once_asked event k (h ∷ hs) [] a = absurd (cc)
once_asked event zero (h ∷ hs) (m ∷ ms) a = let a0 : h.asked ≡ m.asked = cc in let a1 : asked_in hs ≡ asked_at ms = cc in
    ap (λ (x : ℕ). raised x ∷ asked_in (asked_once zero hs)) a0 ∙ ap (λ (xs : List ℕ). raised m.asked ∷ xs) (once_asked event zero hs ms a1)
once_asked event (suc k) (h ∷ hs) (m ∷ ms) a = let a0 : h.asked ≡ m.asked = cc in let a1 : asked_in hs ≡ asked_at ms = cc in
    ap (λ (x : ℕ). x ∷ asked_in (asked_once k hs)) a0 ∙ ap (λ (xs : List ℕ). m.asked ∷ xs) (once_asked event k hs ms a1)

pub delivered_hands : {B : Type 0} (will : B → Bool) (memory : B → Memory) (event : ℕ) (old new : List B) (result : Delivered)
    → Delivers will memory event old new result
    → (hs : List Handler) (doubtful : Bool) (places : List ℕ) → HandsAreBy hs doubtful places (map memory old)
    → (doubtful ≡ false → was_handled result ≡ is_handled hs event) × HandsAreBy (delivered_to hs event) doubtful places (map memory new)
delivered_hands will memory event old new result d hs doubtful places are =
    let ms = map memory old in
    let same : doubtful ≡ false → newest (map will old) ≡ newest (answers_to event hs) =
    λ f. d.by_kind (are.known f) ∙ ap newest (sym (answers_same event hs ms (are.kinds f) (are.asked f))) in
    let from : doubtful ≡ false → asked_from (map will old) ≡ asked_from (answers_to event hs) = λ f. ap (λ (o : Option ℕ). unwrap_or o 0) (same f) in
    let now : doubtful ≡ false → map memory new ≡ remembered event (asked_from (answers_to event hs)) ms =
    λ f. d.asked ∙ ap (λ (k : ℕ). remembered event k ms) (from f) in
    let k = asked_from (answers_to event hs) in (
      λ f. ap was_handled d.answer ∙ (handled_by (newest (map will old)) ∙ ap (λ (o : Option ℕ). is_some o) (same f)),
      record {
        places' = λ f. once_places k hs ∙ are.places' f;
        kinds = λ f. once_kinds k hs ∙ (are.kinds f ∙ (sym (remembered_kinds event k ms) ∙ ap kinds_at (sym (now f))));
        asked = λ f. once_asked event k hs ms (are.asked f) ∙ ap asked_at (sym (now f));
        known = λ f. ap (λ (xs : List Memory). list_all (λ m. nat_lt 0 m.kind) xs) (now f) ∙ (remembered_known event k ms ∙ are.known f);
      },
    )
