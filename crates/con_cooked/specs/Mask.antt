-- The controls that wake a line read.
use Rattle.std.specs.Prelude.{ℕ, ◌/◌, ◌%◌, ◌^◌, Bool, nat_lt, ◌==◌, ◌&&◌, if◌then◌else◌}
use Rattle.con_records.specs.declared.record.Record.{Record}
use Rattle.con_records.specs.declared.record.Record.TheVariants as record_

-- the unit of a key-down, or 0
abbrev pub typed_unit : Record → ℕ
typed_unit (record_.Key k) = if k.down then k.unit else 0
typed_unit _ = 0

-- a unit of 1 to 31 whose bit the mask has; bit 0 means nothing
abbrev pub is_waking : ℕ → ℕ → Bool
is_waking mask unit = nat_lt 0 unit && nat_lt unit 32 && (mask / 2 ^ unit) % 2 == 1

-- a key-down whose unit is masked, whatever key it is
abbrev pub is_masked : ℕ → Record → Bool
is_masked mask one = is_waking mask (typed_unit one)
