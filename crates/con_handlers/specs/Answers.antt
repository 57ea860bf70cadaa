-- What handlers of the four kinds answer.
use Rattle.std.specs.Prelude.{ℕ, ◌+◌, ◌==◌, ◌&&◌, Bool, true, not, nat_lt, if◌then◌else◌}

-- the answer of a handler of this kind that was asked so often: 1 always, 2 never, 3 at first, 4 to all but ctrl+C
abbrev pub answer : ℕ → ℕ → ℕ → Bool
answer kind asked event = if kind == 1 then true else if kind == 3 then asked == 0 else kind == 4 && not (event == 0)

-- the count after one more, which stays at the greatest u64
abbrev pub raised : ℕ → ℕ
raised n = if nat_lt n 18446744073709551615 then n + 1 else n
