-- The cursor's moves from a known place.
use Rattle.std.proofs.Common.{◌≡◌, ℕ, ◌+◌, ◌-◌, ◌<◌, ◌≤◌, true, false, min, max, List, refl, sym, ◌∙◌, arith}
use Rattle.con_term.specs.Page.{Page}
use Rattle.con_term.specs.Effect.{gone_to}
use Rattle.con_term.specs.Steps.{moved_down, moved_left, moved_right, moved_up}
use Rattle.con_strokes.specs.Leads.{Leads}
use Rattle.con_strokes.specs.Spot.{IsAt}
use Rattle.con_strokes.specs.declared.spot.Spot.{Spot}
use Rattle.con_strokes.proofs.LeadLemmas.{leads_then, leads-none}

pub gone : (old new : List ℕ) (s : Page) (x y : ℕ) → (x < s.w) × (y < s.h) → Leads old new s (gone_to s (y + 1) (x + 1)) 0 → Leads old new s (record s { x = x; y = y; pending = false }) 0
gone old new s x y h l =
    let ex : min (max (x + 1) 1) s.w - 1 ≡ x = omega arith in let ey : min (max (y + 1) 1) s.h - 1 ≡ y = omega arith in
    let same : gone_to s (y + 1) (x + 1) ≡ record s { x = x; y = y; pending = false } = rw (ex, ey) refl in
    rw same at l

-- the cursor stands there
pub there : (old : List ℕ) (s : Page) (spot : Spot) (x y : ℕ) → IsAt spot s → spot.known ≡ true → spot.x ≡ x → spot.y ≡ y → Leads old old s (record s { x = x; y = y; pending = false }) 0
there old s spot x y at known ex ey =
    let k = at.at known in
    let cx : s.x ≡ x = k.0 ∙ ex in let cy : s.y ≡ y = k.1 ∙ ey in
    rw (← cx, ← cy, ← k.2) (leads-none old s)

-- from a known place to the first column of a row below it
pub below : (old new : List ℕ) (s : Page) (spot : Spot) (y n : ℕ) → IsAt spot s → spot.known ≡ true → y ≡ spot.y + n → y < s.h → (s.y + n < s.h → Leads old new s (record s { x = 0; y = s.y + n; pending = false }) 0) → Leads old new s (record s { x = 0; y = y; pending = false }) 0
below old new s spot y n at known ey inside l =
    let cy : s.y ≡ spot.y = (at.at known).1 in
    let row : s.y + n ≡ y = omega (arith, cy, ey) in
    rw (← row) (l (omega (arith, row, inside)))

-- to a row below it, in its column
pub descends : (old new : List ℕ) (s : Page) (spot : Spot) (y : ℕ) → IsAt spot s → spot.known ≡ true → spot.y < y → y < s.h → Leads old new s (moved_down s (y - spot.y)) 0 → Leads old new s (record s { y = y; pending = false }) 0
descends old new s spot y at known lt inside l =
    let cy : s.y ≡ spot.y = (at.at known).1 in
    let row : min (s.y + max (y - spot.y) 1) (s.h - 1) ≡ y = omega (arith, cy, lt, inside) in
    let same : moved_down s (y - spot.y) ≡ record s { y = y; pending = false } = rw row refl in
    rw same at l

-- to a row above it
pub ascends : (old new : List ℕ) (s : Page) (spot : Spot) (y : ℕ) → IsAt spot s → spot.known ≡ true → y < spot.y → Leads old new s (moved_up s (spot.y - y)) 0 → Leads old new s (record s { y = y; pending = false }) 0
ascends old new s spot y at known lt l =
    let cy : s.y ≡ spot.y = (at.at known).1 in
    let row : s.y - max (spot.y - y) 1 ≡ y = omega (arith, cy, lt) in
    let same : moved_up s (spot.y - y) ≡ record s { y = y; pending = false } = rw row refl in
    rw same at l

-- to its own row
pub remains : (old : List ℕ) (s : Page) (spot : Spot) (y : ℕ) → IsAt spot s → spot.known ≡ true → y ≡ spot.y → Leads old old s (record s { y = y; pending = false }) 0
remains old s spot y at known ey =
    let k = at.at known in
    let cy : s.y ≡ y = k.1 ∙ sym ey in
    rw (← cy, ← k.2) (leads-none old s)

-- some columns back, by as many
pub goes_left_by : (old new : List ℕ) (s : Page) (n : ℕ) → 0 < n → Leads old new s (moved_left s n) 0 → Leads old new s (record s { x = s.x - n; pending = false }) 0
goes_left_by old new s n some l = let e : max n 1 ≡ n = omega arith in rw e at l

pub goes_back_twice : (a b c : List ℕ) (s : Page) (n : ℕ) → n ≡ 2 → ((r : Page) → Leads a b r (record r { x = r.x - 1; pending = false }) 0) → ((r : Page) → Leads b c r (record r { x = r.x - 1; pending = false }) 0) → Leads a c s (record s { x = s.x - n; pending = false }) 0
goes_back_twice a b c s n two first second =
    let e : s.x - 1 - 1 ≡ s.x - n = omega arith in
    let t : Page = record s { x = s.x - 1; pending = false } in
    rw (← e) (leads_then a b c s t (record s { x = s.x - 1 - 1; pending = false }) 0 0 0 (first s) (second t) (omega arith))

-- to a column before it
pub back : (old new : List ℕ) (s : Page) (spot : Spot) (x y : ℕ) → IsAt spot s → spot.known ≡ true → spot.y ≡ y → x ≤ spot.x → Leads old new s (record s { x = s.x - (spot.x - x); pending = false }) 0 → Leads old new s (record s { x = x; y = y; pending = false }) 0
back old new s spot x y at known ey le l =
    let cx : s.x ≡ spot.x = (at.at known).0 in
    let cy : s.y ≡ y = (at.at known).1 ∙ ey in
    let column : s.x - (spot.x - x) ≡ x = omega (arith, cx, le) in
    rw (← cy) (rw column at l)

-- to a column behind it
pub onward : (old new : List ℕ) (s : Page) (spot : Spot) (x y : ℕ) → IsAt spot s → spot.known ≡ true → spot.y ≡ y → spot.x < x → (x < s.w) × (y < s.h) → Leads old new s (moved_right s (x - spot.x)) 0 → Leads old new s (record s { x = x; y = y; pending = false }) 0
onward old new s spot x y at known ey lt inside l =
    let cx : s.x ≡ spot.x = (at.at known).0 in
    let cy : s.y ≡ y = (at.at known).1 ∙ ey in
    let column : min (s.x + max (x - spot.x) 1) (s.w - 1) ≡ x = omega (arith, cx, lt, inside.0) in
    let same : moved_right s (x - spot.x) ≡ record s { x = x; y = y; pending = false } = rw (column, cy) refl in
    rw same at l
