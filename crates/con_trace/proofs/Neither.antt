-- Lines that are neither an event's nor a last one.
use Rattle.std.proofs.Common.{◌≡◌, ℕ, List, ap, sym, subst, ◌∙◌, Option, Some, None, Bool, true, false}
use Rattle.std.specs.Prelude.{unwrap_or, option_and_then}
use Rattle.std.specs.Str.{IsUtf8}
use Rattle.serde_json.specs.Data.{Data}
use Rattle.serde_json.specs.Read.{read}
use Rattle.con_lines.specs.declared.said.Said.{Said}
use Rattle.con_lines.specs.Line.{line_text, line_data}
use Rattle.con_lines.specs.Ending.{Ending, IsEnding, ending_text, ending_data}
use Rattle.con_lines.specs.Fits.{IsLine}
use Rattle.con_lines.specs.Told.{said_in, ending_in}
use Rattle.con_trace.specs.Cut.{IsNeither}
use Rattle.con_lines.proofs.LineBack.{said_back, ending_back}
use Rattle.con_lines.proofs.TellsFit.{told_is_line}
use Rattle.con_trace.proofs.Tells.{line_read, line_utf8, ending_read, ending_utf8, ending_says_nothing}

pub clash : (b : Bool) → b ≡ false → b ≡ true → ⊥
clash b p q = let e : false ≡ true = sym p ∙ q in absurd (cc)

none_some : {A : Type 0} (a : A) → None ≡ Some a → ⊥
none_some a e = absurd (cc)

some_same : {A : Type 0} (a b : A) → Some a ≡ Some b → a ≡ b
some_same a b e = ap (λ o. unwrap_or o a) e

-- the tree of a line
line_tree : (line : List ℕ) (d : Data) (s : Said) → read line ≡ Some d → IsLine s → line ≡ line_text s.entry s.reply s.end → d ≡ line_data s.entry s.reply s.end
line_tree line d s e p h = some_same d _ (sym e ∙ (ap read h ∙ line_read s p))

ending_tree : (line : List ℕ) (d : Data) (f : Ending) → read line ≡ Some d → IsEnding f → line ≡ ending_text f → d ≡ ending_data f
ending_tree line d f e p h = some_same d _ (sym e ∙ (ap read h ∙ ending_read f p))

no_line : (line : List ℕ) (d : Data) → read line ≡ Some d → said_in d ≡ None → (s : Said) → IsLine s → line ≡ line_text s.entry s.reply s.end → ⊥
no_line line d e n s p h = none_some s (sym n ∙ (ap said_in (line_tree line d s e p h) ∙ said_back s p))

-- not read at all
pub unread : (line : List ℕ) → (IsUtf8 line → read line ≡ None) → IsNeither line
unread line u = (
  λ s p h. none_some _ (sym (u (subst IsUtf8 (sym h) (line_utf8 s p))) ∙ (ap read h ∙ line_read s p)),
  λ f p h. none_some _ (sym (u (subst IsUtf8 (sym h) (ending_utf8 f p))) ∙ (ap read h ∙ ending_read f p)),
)

-- it tells nothing
pub tells_nothing : (line : List ℕ) (d : Data) → read line ≡ Some d → said_in d ≡ None → None ≡ ending_in d → IsNeither line
tells_nothing line d e n m = (no_line line d e n, λ f p h. none_some f (m ∙ (ap ending_in (ending_tree line d f e p h) ∙ ending_back f p)))

-- it tells a last line, and is not spelled so
pub other_ending : (line : List ℕ) (d : Data) (f : Ending) → read line ≡ Some d → said_in d ≡ None → Some f ≡ ending_in d → (line ≡ ending_text f → ⊥) → IsNeither line
other_ending line d f e n m not = (no_line line d e n, λ g p h. not (h ∙ ap ending_text (sym (some_same f g (m ∙ (ap ending_in (ending_tree line d g e p h) ∙ ending_back g p))))))

-- it tells an event, and is not spelled so
other_line : (line : List ℕ) (d : Data) (s : Said) → read line ≡ Some d → said_in d ≡ Some s → (line ≡ line_text s.entry s.reply s.end → ⊥) → IsNeither line
other_line line d s e m not = (
  λ t p h. not (h ∙ ap (λ u. line_text u.entry u.reply u.end) (sym (some_same s t (sym m ∙ (ap said_in (line_tree line d t e p h) ∙ said_back t p))))),
  λ f p h. none_some s (sym (ap said_in (ending_tree line d f e p h) ∙ ending_says_nothing f p) ∙ m),
)

-- the event and the answer that a text says
pub said_is_line : (o : Option Data) (s : Said) → option_and_then said_in o ≡ Some s → IsLine s
said_is_line None s m = absurd (none_some s m)
said_is_line (Some d) s m = told_is_line d s m

-- it says an event, and is not spelled so
pub other_said : (line : List ℕ) (o : Option Data) (s : Said) → read line ≡ o → option_and_then said_in o ≡ Some s
    → (line ≡ line_text s.entry s.reply s.end → ⊥) → IsNeither line
other_said line None s e m not = absurd (none_some s m)
other_said line (Some d) s e m not = other_line line d s e m not
