-- A handle is opened, or closed: buffers count it.
use Rattle.std.proofs.Common.{◌≡◌, ◌≢◌, ℕ, ◌+◌, ◌<◌, Bool, true, false, cond, List, Option, None, Some, Ok, Err, refl, sym, ap, subst, ◌∙◌, arith}
use Rattle.std.specs.Prelude.{Result, ◌==◌}
use Rattle.std.proofs.lemmas.Bool.Decides.{nat_tests}
use Rattle.con_units.specs.declared.code.Code.{Code}
use Rattle.con_units.specs.declared.code.Code.TheVariants as code
use Rattle.con_units.specs.declared.view.BufferId.{BufferId}
use Rattle.con_handles.specs.CountLaws.{count_laws}
use Rattle.con_handles.specs.Handles.{entered, new_number}
use Rattle.con_handles.specs.Words.Handles.{Table, opened, opened_at}
use Rattle.con_handles.specs.Tables.{IsTable, tally, on}
use Rattle.con_handles.specs.declared.handle.Handle.{Handle}
use Rattle.con_handles.specs.declared.handle.Object.{Object}
use Rattle.con_handles.specs.declared.handle.Object.TheVariants as object
use Rattle.con_screens.specs.Buffers.{Buffers, handles_of, created, free_id}
use Rattle.con_screens.specs.HandleLaws.{retained_handles, released_handles, created_handles}
use Rattle.con_machine.specs.HandleCalls.{buffer_made}
use Rattle.con_machine.specs.Words.HandleCalls.{retained, released, created_buffer}
use Rattle.con_machine.specs.Outcome.{refused, are_rights}
use Rattle.con_machine.specs.Sound.{stands_for, AreCounted, HasLive}
use Rattle.con_machine.specs.State.{State}

abbrev new_one : ℕ → ℕ → Object → ℕ → Handle
new_one p n o rights = record { process = p; number = n; object = o; rights = rights }

-- a buffer's count has room
pub counts_few : (b : Buffers) (hs : List Handle) → AreCounted b hs → IsTable hs → (id : ℕ) → id ≢ 0 → handles_of b id < 65535
counts_few b hs counted table id other =
    let most = count_laws.of_most (on (stands_for id)) hs table in
    let same = counted.each id other in
    omega arith

-- ---- opened

opened_ones : (t : Table) (p n : ℕ) (o : Object) (rights : ℕ) (r : Result ℕ Code) → new_number t.open_ones p ≡ r → r ≡ Ok n → (opened_at r t p o rights).open_ones ≡ entered (new_one p n o rights) t.open_ones
opened_ones t p n o rights (Err why) is e = cc
opened_ones t p n o rights (Ok m) is e = let same : m ≡ n = cc in ap (λ k. entered (new_one p k o rights) t.open_ones) same

-- the table after a handle was opened
pub opened_is : (t u : Table) (p n : ℕ) (o : Object) (rights : ℕ) (r : Result ℕ Code) → r ≡ Ok n → r ≡ new_number t.open_ones p → u ≡ opened t p o rights → u.open_ones ≡ entered (new_one p n o rights) t.open_ones
opened_is t u p n o rights r ok number state = ap (λ (v : Table). v.open_ones) state ∙ opened_ones t p n o rights (new_number t.open_ones p) refl (sym number ∙ ok)

object_retained : (b : Buffers) (o : Object) (k : ℕ) → HasLive b o → k ≢ 0 → handles_of (retained o b) k ≡ cond (stands_for k o) 1 0 + handles_of b k
object_retained b object.Input k live other = omega arith
object_retained b (object.Output id) k live other = retained_handles b id.0 k live other

-- the buffers count a handle more
pub opened_counts : (b c : Buffers) (hs us : List Handle) (o : Object) → AreCounted b hs → HasLive b o → ((t : Object → Bool) → tally (on t) us ≡ cond (t o) 1 0 + tally (on t) hs) → c ≡ retained o b → AreCounted c us
opened_counts b c hs us o counted live more is = subst (λ (x : Buffers). AreCounted x us) (sym is) (record {
  each = λ k other. object_retained b o k live other ∙ ap (λ m. cond (stands_for k o) 1 0 + m) (counted.each k other) ∙ sym (more (stands_for k));
})

-- ---- closed

object_released : (b : Buffers) (o : Object) (k : ℕ) → HasLive b o → k ≢ 0 → (stands_for k o ≡ true → 0 < handles_of b k) → cond (stands_for k o) 1 0 + handles_of (released o b) k ≡ handles_of b k
object_released b object.Input k live other some = omega arith
object_released b (object.Output id) k live other some =
    released_handles b id.0 k live other (λ same. some (let here : (id.0 == k) ≡ true = grind (arith, nat_tests) in here))

-- the buffers count what is left
pub closed_counts : (b c : Buffers) (hs us : List Handle) (o : Object) → AreCounted b hs → HasLive b o → ((t : Object → Bool) → cond (t o) 1 0 + tally (on t) us ≡ tally (on t) hs) → c ≡ released o b → AreCounted c us
closed_counts b c hs us o counted live less is = subst (λ (x : Buffers). AreCounted x us) (sym is) (record {
  each = λ k other. (
      let gone_one : cond (stands_for k o) 1 0 + tally (on (stands_for k)) us ≡ tally (on (stands_for k)) hs = less (stands_for k) in
      let same = counted.each k other in
      let some : stands_for k o ≡ true → 0 < handles_of b k = λ here. (let one : 1 + tally (on (stands_for k)) us ≡ tally (on (stands_for k)) hs = rw here at gone_one in omega (arith, one, same)) in
      let left = object_released b o k live other some in
      omega (arith, gone_one, same, left));
})

-- ---- created

-- the buffers count the handle of one that was made
pub created_counts : (b c : Buffers) (hs us : List Handle) (id : BufferId) → AreCounted b hs → ((t : Object → Bool) → tally (on t) us ≡ cond (t (object.Output id)) 1 0 + tally (on t) hs) → free_id b ≡ Some id.0 → c ≡ created b id.0 → AreCounted c us
created_counts b c hs us id counted more free is = subst (λ (x : Buffers). AreCounted x us) (sym is) (record {
  each = λ k other. created_handles b id.0 k free ∙ ap (λ m. cond (stands_for k (object.Output id)) 1 0 + m) (counted.each k other) ∙ sym (more (stands_for k));
})

-- what creating comes to, where nothing refuses
pub created_state : (s : State) (p n rights : ℕ) (id : BufferId) (hs : List Handle) (b : Buffers) → s.closed ≡ false → are_rights rights ≡ true → new_number s.handles p ≡ Ok n → free_id s.buffers ≡ Some id.0
    → hs ≡ entered (new_one p n (object.Output id) rights) s.handles → b ≡ created s.buffers id.0 → record s { handles = hs; buffers = b } ≡ (created_buffer s p rights).after
created_state s p n rights id hs b is_open right number free ones made = by_cases s.closed is_open (are_rights rights) right (new_number s.handles p) number (free_id s.buffers) free
  where
    by_cases : (x : Bool) → x ≡ false → (y : Bool) → y ≡ true → (r : Result ℕ Code) → r ≡ Ok n → (o : Option ℕ) → o ≡ Some id.0
        → record s { handles = hs; buffers = b } ≡ (cond x (refused s code.Closed) (cond y (buffer_made s p rights r o) (refused s code.BadArgument))).after
    by_cases true x y z r f o g = cc
    by_cases false x false z r f o g = cc
    by_cases false x true z (Err why) f o g = cc
    by_cases false x true z (Ok m) f None g = cc
    by_cases false x true z (Ok m) f (Some k) g =
        let one : m ≡ n = cc in
        let two : k ≡ id.0 = cc in
        rw (one, two, ones, made) refl
