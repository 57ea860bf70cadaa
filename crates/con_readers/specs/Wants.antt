-- What a read of units takes of the records that are there.
use Rattle.std.specs.Prelude.{ℕ, zero, suc, ◌==◌, List, [], ◌∷◌, if◌then◌else◌}
use Rattle.con_records.specs.declared.record.Record.{Record}
pub use Rattle.con_cooked.specs.Mask.{typed_unit}

-- the first n units of these records
unfoldable pub units_of : ℕ → List Record → List ℕ
units_of n [] = []
units_of zero (r ∷ rs) = []
units_of (suc n) (r ∷ rs) = if typed_unit r == 0 then units_of (suc n) rs else typed_unit r ∷ units_of n rs

-- what is left where these are taken: the records behind the one with the last of these units
unfoldable pub rest_of : ℕ → List Record → List Record
rest_of n [] = []
rest_of zero (r ∷ rs) = r ∷ rs
rest_of (suc n) (r ∷ rs) = if typed_unit r == 0 then rest_of (suc n) rs else rest_of n rs
