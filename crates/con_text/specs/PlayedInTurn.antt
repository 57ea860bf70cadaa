-- Two pieces played in turn are the whole played.
use Rattle.std.specs.Prelude.{◌≡◌, ℕ, List, ◌++◌}
use Rattle.std.proofs.Common.{ap, ◌∙◌}
use Rattle.con_term.specs.Terminal.{Terminal}
use Rattle.con_term.specs.Play.{play}
use Rattle.con_term.specs.PlayLaws.{play-append}

pub played_in_turn : (a b : List ℕ) (s t u : Terminal) → t ≡ play s a → u ≡ play t b → u ≡ play s (a ++ b)
played_in_turn a b s t u p q = q ∙ (ap (λ x. play x b) p ∙ play-append s a b)
