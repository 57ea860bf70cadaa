-- Reports of the mouse: ESC [ < b ; x ; y M, or m. (Xterm Control Sequences, Extended coordinates, SGR 1006)
use Rattle.std.specs.Prelude.{ℕ, ◌+◌, ◌-◌, ◌*◌, Bool, true, false, ◌&&◌, ◌==◌, nat_lt, nat_le, List, [], ◌∷◌, length, Option, Some, None, if◌then◌else◌}
use Rattle.std.specs.Int.{is_in_range}
use Rattle.con_mouse.specs.declared.report.Report.{Report}

-- ---- numbers

abbrev pub is_digit : ℕ → Bool
is_digit = is_in_range 0x30 0x39

-- the decimal digits in front, and what stands behind them
abbrev pub digits : List ℕ → List ℕ
digits [] = []
digits (b ∷ bs) = if is_digit b then b ∷ digits bs else []

abbrev pub past_digits : List ℕ → List ℕ
past_digits [] = []
past_digits (b ∷ bs) = if is_digit b then past_digits bs else b ∷ bs

-- what decimal digits behind this number spell with it
abbrev pub value : ℕ → List ℕ → ℕ
value n [] = n
value n (d ∷ ds) = value (n * 10 + (d - 0x30)) ds

-- one to five digits, of at most 32,767
abbrev pub is_number : List ℕ → Bool
is_number ds = (nat_lt 0 (length ds) && nat_le (length ds) 5) && nat_le (value 0 ds) 32767

-- a number, and the bytes behind it
pub record Front : Type 0 where
  pub value : ℕ
  pub rest : List ℕ

abbrev pub number : List ℕ → Option Front
number bytes = if is_number (digits bytes) then Some (record { value = value 0 (digits bytes); rest = past_digits bytes }) else None

-- a number with `;` behind it
abbrev pub before_mark : ℕ → List ℕ → Option Front
before_mark n [] = None
before_mark n (b ∷ bs) = if b == 0x3B then Some (record { value = n; rest = bs }) else None

abbrev pub marked : Option Front → Option Front
marked None = None
marked (Some f) = before_mark f.value f.rest

abbrev pub field : List ℕ → Option Front
field bytes = marked (number bytes)

-- ---- reports

abbrev pub checked : ℕ → ℕ → ℕ → Bool → Option Report
checked b x y press = if (nat_lt b 128 && nat_le 1 x) && nat_le 1 y then Some (record { b = b; x = x; y = y; press = press }) else None

-- M or m, and nothing else
abbrev pub ended : ℕ → ℕ → ℕ → List ℕ → Option Report
ended b x y [] = None
ended b x y (last ∷ []) = if last == 0x4D then checked b x y true else if last == 0x6D then checked b x y false else None
ended b x y (last ∷ more ∷ bytes) = None

abbrev pub by_row : ℕ → ℕ → Option Front → Option Report
by_row b x None = None
by_row b x (Some y) = ended b x y.value y.rest

abbrev pub with_row : ℕ → ℕ → List ℕ → Option Report
with_row b x bytes = by_row b x (number bytes)

abbrev pub by_column : ℕ → Option Front → Option Report
by_column b None = None
by_column b (Some x) = with_row b x.value x.rest

abbrev pub with_column : ℕ → List ℕ → Option Report
with_column b bytes = by_column b (field bytes)

abbrev pub by_button : Option Front → Option Report
by_button None = None
by_button (Some b) = with_column b.value b.rest

abbrev pub with_button : List ℕ → Option Report
with_button bytes = by_button (field bytes)

-- what stands behind ESC [ <
abbrev pub lead : List ℕ → Option (List ℕ)
lead [] = None
lead (a ∷ []) = None
lead (a ∷ b ∷ []) = None
lead (a ∷ b ∷ c ∷ rest) = if ((a == 0x1B) && (b == 0x5B)) && (c == 0x3C) then Some rest else None

abbrev pub by_lead : Option (List ℕ) → Option Report
by_lead None = None
by_lead (Some rest) = with_button rest

-- the report that the bytes spell
abbrev pub report_of : List ℕ → Option Report
report_of bytes = by_lead (lead bytes)
