-- What texts tell.
use Rattle.std.specs.Prelude.{ℕ, Bool, true, false, not, List, [], ◌∷◌, ◌++◌, Option, None, Some, map, length, take, codes}
use Rattle.std.specs.List.{range_with_len}
use Rattle.con_page.specs.Setters.{cursor_set, origin_set}
use Rattle.con_screen.specs.Screen.{Screen}
use Rattle.con_screen.specs.ModeSet.{mode_set}
use Rattle.con_screen.specs.Told.{Told, nothing_told}
use Rattle.con_screen.specs.Written.{written, switches}
use Rattle.con_vtgram.specs.Text.{front_while}
use Rattle.tests_screens.specs.Screens.{new_screen, with_text, escape, letters}

-- a text that is written on a screen, what it tells, and how many of its units are read
pub record Text : Type 0 where
  pub screen : Screen
  pub units : List ℕ
  pub told : Told
  pub read : ℕ

-- the reports, the title, the cursor key mode, and the alternate screen
abbrev pub tells : List ℕ → Option (List ℕ) → Option Bool → Option Bool → Told
tells reports title keys alternate = record { reports = reports; title = title; keys = keys; alternate = alternate }

abbrev pub text : Screen → List ℕ → Told → ℕ → Text
text screen units told read = record { screen = screen; units = units; told = told; read = read }

-- how many units are read: up to the end of the first sequence that switches to the alternate screen or back, or all
abbrev pub read_on : Screen → List ℕ → ℕ
read_on s us = length (front_while (λ n. not (switches s (take n us))) (range_with_len 0 (length us)))

pub record Heard : Type 0 where
  pub told : Told
  pub read : ℕ

abbrev pub heard_of : Text → Heard
heard_of t = let n = read_on t.screen t.units in record { told = (written t.screen nothing_told (take n t.units)).told; read = n }

abbrev pub to_be_heard : Text → Heard
to_be_heard t = record { told = t.told; read = t.read }

-- four columns and rows with a window of two by two in it, sixteen letters, the window's corner at 1, 1, and the cursor
abbrev pub behind : ℕ → ℕ → Screen
behind x y = let s = mode_set (with_text (mode_set (new_screen 4 4 2 2) 15) (codes "abcdefghijklmnop")) 7 in
    record s { page = origin_set (cursor_set s.page x y) 1 1 }

abbrev pub texts : List Text
texts =
    text (letters 7) (escape (codes "[Hab") ++ escape (codes "[6n") ++ escape (codes "[c") ++ escape (codes "]2;hi") ++ 0x07 ∷ escape (codes "[?1h"))
    (tells (escape (codes "[1;3R") ++ escape (codes "[?1;0c")) (Some (codes "hi")) (Some true) None) 24
    ∷ text (letters 7) (escape (codes "[?1049hX")) (tells [] None None (Some true)) 8
    ∷ text (letters 7) (escape (codes "[?1049l") ++ escape (codes "[6n")) (tells [] None None (Some false)) 8
    ∷ text (letters 7) (escape (codes "[5n") ++ escape (codes "[1c") ++ escape (codes "[?6n")) (tells [] None None None) 13
    ∷ text (letters 7) (escape (codes "[?1h") ++ escape (codes "[!p")) (tells [] None (Some false) None) 9
    ∷ text (letters 7) (escape (codes "]0;a") ++ 0x07 ∷ escape (codes "]1;b") ++ 0x07 ∷ escape (codes "]2;") ++ escape (0x5C ∷ []))
    (tells [] (Some []) None None) 18
    ∷ text (letters 3) (escape (codes "[6n")) (tells [] None None None) 4
    -- the cursor is outside the window
    ∷ text (behind 0 0) (escape (codes "[6n")) (tells (escape (codes "[1;1R")) None None None) 4
    ∷ text (behind 3 3) (escape (codes "[6n")) (tells (escape (codes "[2;2R")) None None None) 4
    ∷ []
