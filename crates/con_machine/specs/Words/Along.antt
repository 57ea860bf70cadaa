-- The words of the code and of laws about Along, which a reader need not believe.
use Rattle.std.specs.Prelude.{List, fold}

-- what comes of a list, item by item
abbrev pub after : {S X : Type 0} → (S → X → S) → S → List X → S
after move s xs = fold move s xs
