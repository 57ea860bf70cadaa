-- The text that was heard is the text typed, and the frame that ends it is one of that text.
use Rattle.std.proofs.Common.{◌≡◌, ℕ, List, [], ◌∷◌, ◌++◌, sym, subst, ap, ◌∙◌}
use Rattle.std.specs.Prelude.{Result, Ok, Err, OnOk, flat_map}
use Rattle.con_units.specs.Split.{split}
use Rattle.con_units.specs.Utf8.{utf8}
use Rattle.con_term.specs.Play.{units_of}
use Rattle.con_text.specs.Typing.{IsFrame, text_typed}
use Rattle.con_text.specs.Words.Typing.{Typing, ShowsBuffers, PrintsAtMost, units_typed, ended, ended_with, cut_units, heard, opening}
use Rattle.con_text.specs.TypedInTurn.{units_in_turn, typed_none}

-- the text that was heard and ended is the whole text typed
pub ended_is : (text : List ℕ) (t : Typing) → t ≡ heard (record { buffers = opening; held = [] }) text → ended t ≡ text_typed text
unfolding heard
ended_is text t is = ap ended is ∙ by_tail (split utf8 text).tail
  where
    by_tail : (tail : List ℕ) → ended_with (units_typed opening (flat_map units_of (split utf8 text).items)) tail ≡ units_typed opening (flat_map units_of (split utf8 text).items ++ cut_units tail)
    by_tail [] = typed_none (units_typed opening (flat_map units_of (split utf8 text).items)) ∙ units_in_turn opening (flat_map units_of (split utf8 text).items) []
    by_tail (b ∷ bs) = units_in_turn opening (flat_map units_of (split utf8 text).items) (0xFFFD ∷ [])

-- what began with nothing, heard the text and ended in these bytes made a frame of the text
pub frame_is : (text : List ℕ) (first last : Typing) (bytes frame : List ℕ) → first ≡ record { buffers = opening; held = [] } → last ≡ heard first text → frame ≡ bytes → ShowsBuffers bytes (ended last) → PrintsAtMost 2000 bytes → IsFrame text frame
frame_is text first last bytes frame begun is same shows few =
    let all : last ≡ heard (record { buffers = opening; held = [] }) text = subst (λ (t : Typing). last ≡ heard t text) begun is in
    let shown : ShowsBuffers frame (ended last) = subst (λ (xs : List ℕ). ShowsBuffers xs (ended last)) (sym same) shows in
    (subst (ShowsBuffers frame) (ended_is text last all) shown, subst (PrintsAtMost 2000) (sym same) few)

-- an answer that is good makes another one good
pub on_ok : {A B P Q : Type 0} (r : Result A B) → (P → Q) → OnOk r P → OnOk r Q
on_ok (Ok x) f h = f h
on_ok (Err e) f h = h
