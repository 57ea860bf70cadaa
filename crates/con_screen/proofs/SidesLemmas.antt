-- No text changes the sides of the buffer or of the window.
use Rattle.std.proofs.Common.{◌≡◌, ℕ, List, [], ◌∷◌, refl, ◌∙◌}
use Rattle.std.specs.Prelude.{fold}
use Rattle.con_vtgram.specs.Spoken.{Spoken}
use Rattle.con_page.specs.SidesLaws.{effect_sides}
use Rattle.con_page.specs.Sides.{sides}
use Rattle.con_screen.specs.Told.{Told}
use Rattle.con_screen.specs.Screen.{Screen}
use Rattle.con_screen.specs.Written.{Heard, heard, written, split_on}

pub fold_sides : (b : Heard) (is : List Spoken) → sides (fold heard b is).page ≡ sides b.page
unfolding heard
fold_sides b [] = refl
fold_sides b (i ∷ is) = fold_sides (heard b i) is ∙ effect_sides b.page i.item

pub written_sides : (s : Screen) (t : Told) (us : List ℕ) → sides (written s t us).screen.page ≡ sides s.page
unfolding written
written_sides s t us = fold_sides (record { page = s.page; told = t }) (split_on s us).items
