-- How many handles a buffer counts after one was made, or one more or less was counted.
use Rattle.std.proofs.Common.{◌≡◌, ◌≢◌, ℕ, ◌+◌, ◌-◌, ◌<◌, ◌≤◌, Bool, true, false, cond, List, length}
use Rattle.std.proofs.Common.{get_or, set, Option, None, Some, refl, sym, ap, ◌∙◌, arith}
use Rattle.std.specs.Prelude.{IsSome, ◌==◌, nat_le, is_none, if◌then◌else◌}
use Rattle.std.specs.Option.{option_map, option_map_or}
use Rattle.std.proofs.lemmas.Bool.Decides.{nat_tests}
use Rattle.std.proofs.lemmas.List.{get_or-set_same, get_or-set_other}
use Rattle.std.proofs.lemmas.List.Quantifiers.{position-Some}
use Rattle.con_screens.specs.Buffer.{new_buffer}
use Rattle.con_screens.specs.Buffers.{Buffers, buffer_at, handles_of, with_buffer, free_id, created, gone, handle_retained, handle_released}
use Rattle.con_screens.specs.Words.Buffers.{IsLive, with_handles}
use Rattle.con_screens.specs.LentLaws.{some_not_none, live_within}
use Rattle.con_screens.specs.declared.buffer.Buffer.{Buffer}

put_here : (xs : List (Option Buffer)) (i k : ℕ) (o : Option Buffer) → i < length xs → k ≡ i
    → option_map_or (λ b. b.handles) (get_or (set xs i o) k None) 0 ≡ option_map_or (λ b. b.handles) o 0
put_here xs i k o within e = ap (λ (v : Option Buffer). option_map_or (λ b. b.handles) v 0)
    (ap (λ j. get_or (set xs i o) j None) e ∙ get_or-set_same xs i o None within)

put_there : (xs : List (Option Buffer)) (i k : ℕ) (o : Option Buffer) → k ≢ i
    → option_map_or (λ b. b.handles) (get_or (set xs i o) k None) 0 ≡ option_map_or (λ b. b.handles) (get_or xs k None) 0
put_there xs i k o ne = ap (λ (v : Option Buffer). option_map_or (λ b. b.handles) v 0) (get_or-set_other xs i k o None ne)

numbered : (o : Option Buffer) (n : ℕ) → IsSome o → option_map_or (λ b. b.handles) (option_map (with_handles n) o) 0 ≡ n
numbered None n some = absurd (some_not_none some)
numbered (Some b) n some = refl

none_counted : (o : Option Buffer) → is_none o ≡ true → option_map_or (λ b. b.handles) o 0 ≡ 0
none_counted None e = refl
none_counted (Some b) e = cc

-- a handle more
pub retained_handles : (s : Buffers) (id k : ℕ) → IsLive s id → k ≢ 0 → handles_of (handle_retained s id) k ≡ (if id == k then 1 else 0) + handles_of s k
retained_handles s id k live other = by_main (id == 0) refl
  where
    by_other : (c : Bool) → (id == k) ≡ c → handles_of (with_buffer s id (with_handles (handles_of s id + 1))) k ≡ cond c 1 0 + handles_of s k
    by_other true e =
        let same : k ≡ id = grind (arith, nat_tests) in
        let here = put_here s.slots id k (option_map (with_handles (handles_of s id + 1)) (buffer_at s id)) (live_within s id live) same in
        let n = numbered (buffer_at s id) (handles_of s id + 1) live in
        let at : handles_of s k ≡ handles_of s id = ap (handles_of s) same in
        omega (arith, here, n, at)
    by_other false e =
        let ne : k ≢ id = grind (arith, nat_tests) in
        let there = put_there s.slots id k (option_map (with_handles (handles_of s id + 1)) (buffer_at s id)) ne in
        omega (arith, there)

    by_main : (c : Bool) → (id == 0) ≡ c → handles_of (cond c s (with_buffer s id (with_handles (handles_of s id + 1)))) k ≡ cond (id == k) 1 0 + handles_of s k
    by_main true e =
        let no_more : (id == k) ≡ false = grind (arith, nat_tests) in
        rw no_more (omega arith)
    by_main false e = by_other (id == k) refl

-- a handle less, where one was counted
pub released_handles : (s : Buffers) (id k : ℕ) → IsLive s id → k ≢ 0 → (id ≡ k → 0 < handles_of s k)
    → (if id == k then 1 else 0) + handles_of (handle_released s id) k ≡ handles_of s k
released_handles s id k live other some = by_main (id == 0) refl
  where
    by_last : (last : Bool) → nat_le (handles_of s id) 1 ≡ last → (c : Bool) → (id == k) ≡ c
        → cond c 1 0 + handles_of (cond last (gone s id) (with_buffer s id (with_handles (handles_of s id - 1)))) k ≡ handles_of s k
    by_last true l true e =
        let same : k ≡ id = grind (arith, nat_tests) in
        let few : handles_of s id ≤ 1 = grind (arith, nat_tests) in
        let here = put_here s.slots id k None (live_within s id live) same in
        let at : handles_of s k ≡ handles_of s id = ap (handles_of s) same in
        omega (arith, here, at, some (sym same))
    by_last false l true e =
        let same : k ≡ id = grind (arith, nat_tests) in
        let here = put_here s.slots id k (option_map (with_handles (handles_of s id - 1)) (buffer_at s id)) (live_within s id live) same in
        let n = numbered (buffer_at s id) (handles_of s id - 1) live in
        let at : handles_of s k ≡ handles_of s id = ap (handles_of s) same in
        omega (arith, here, n, at, some (sym same))
    by_last true l false e =
        let ne : k ≢ id = grind (arith, nat_tests) in
        omega (arith, put_there s.slots id k None ne)
    by_last false l false e =
        let ne : k ≢ id = grind (arith, nat_tests) in
        omega (arith, put_there s.slots id k (option_map (with_handles (handles_of s id - 1)) (buffer_at s id)) ne)

    by_main : (c : Bool) → (id == 0) ≡ c
        → cond (id == k) 1 0 + handles_of (cond c s (cond (nat_le (handles_of s id) 1) (gone s id) (with_buffer s id (with_handles (handles_of s id - 1))))) k
        ≡ handles_of s k
    by_main true e =
        let no_more : (id == k) ≡ false = grind (arith, nat_tests) in
        rw no_more (omega arith)
    by_main false e = by_last (nat_le (handles_of s id) 1) refl (id == k) refl

-- a buffer that was made counts one handle, and none had its id
pub created_handles : (s : Buffers) (id k : ℕ) → free_id s ≡ Some id → handles_of (created s id) k ≡ (if id == k then 1 else 0) + handles_of s k
created_handles s id k free = by_place (id == k) refl
  where
    by_place : (c : Bool) → (id == k) ≡ c → handles_of (created s id) k ≡ cond c 1 0 + handles_of s k
    by_place true e =
        let same : k ≡ id = grind (arith, nat_tests) in
        let at = position-Some is_none s.slots id None free in
        let here = put_here s.slots id k (Some (new_buffer s.w s.h 1 s.births)) at.0 same in
        let none : handles_of s id ≡ 0 = none_counted (buffer_at s id) at.1 in
        let was : handles_of s k ≡ handles_of s id = ap (handles_of s) same in
        omega (arith, here, none, was)
    by_place false e =
        let ne : k ≢ id = grind (arith, nat_tests) in
        omega (arith, put_there s.slots id k (Some (new_buffer s.w s.h 1 s.births)) ne)
