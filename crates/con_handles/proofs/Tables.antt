-- The handles of the places are a table.
use Rattle.std.proofs.Common.{◌≡◌, ◌≤◌, ◌-◌, ◌+◌, ◌*◌, ◌/◌, ◌%◌, ℕ, zero, suc, List, [], ◌∷◌, arith, length, take, Option, Some, None, ap, sym, ◌∙◌}
use Rattle.std.specs.Prelude.{IfSome}
use Rattle.con_handles.specs.declared.handle.Held.{Held}
use Rattle.con_handles.specs.declared.handle.Handle.{Handle}
use Rattle.con_handles.specs.Handles.{find_handle}
use Rattle.con_handles.specs.Words.Handles.{least_of}
use Rattle.con_handles.specs.Places.{listed}
use Rattle.con_handles.specs.CountLaws.{least_found}
use Rattle.con_handles.specs.Tables.{IsRising, IsTable}

lower : (a b : ℕ) (hs : List Handle) → a ≤ b → IsRising b hs → IsRising a hs
lower a b [] le are = tt
lower a b (h ∷ hs) le are = let past = are.1 in (are.0, omega arith, are.2)

place_back : (k : ℕ) → k / 64 * 64 + (k % 64 + 1 - 1) ≡ k
place_back k = omega arith

rising : (k : ℕ) (ps : List (Option Held)) → k + length ps ≤ 16384 → IsRising k (listed k ps)
unfolding listed
rising k [] le = tt
rising k (None ∷ ps) le = lower k (k + 1) (listed (k + 1) ps) (omega arith) (rising (k + 1) ps (omega arith))
rising k (Some h ∷ ps) le =
    let back = place_back k in
    (record { process = omega arith; low = omega arith; high = omega arith }, omega arith, lower (k / 64 * 64 + (k % 64 + 1 - 1) + 1) (k + 1) (listed (k + 1) ps) (omega arith) (rising (k + 1) ps (omega arith)))

pub table_of : (ps : List (Option Held)) → length ps ≤ 16384 → IsTable (listed 0 ps)
table_of ps le = rising 0 ps (omega arith)

take_le : {A : Type 0} (n : ℕ) (xs : List A) → length (take n xs) ≤ n
take_le zero xs = omega arith
take_le (suc n) [] = omega arith
take_le (suc n) (x ∷ xs) = let rest = take_le n xs in omega arith

pub table_of_taken : (n : ℕ) (ps : List (Option Held)) → n ≤ 16384 → IsTable (listed 0 (take n ps))
table_of_taken n ps le = table_of (take n ps) (let few = take_le n ps in omega arith)

-- the process's least handle is found by its number
pub least_at : (hs : List Handle) (p : ℕ) (r : Option Handle) → r ≡ least_of hs p → IfSome r (λ h. h.process ≡ p) → IfSome r (λ h. find_handle hs p h.number ≡ Some h)
least_at hs p None is own = tt
least_at hs p (Some h) is own = ap (λ q. find_handle hs q h.number) (sym own) ∙ least_found hs p h (sym is)
