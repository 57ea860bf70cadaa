-- A report determines what it was written for.
use Rattle.std.proofs.Common.{◌≡◌, ℕ, zero, suc, ◌+◌, ◌≤◌, List, [], ◌∷◌, ◌++◌, length, map, refl, ap, sym, subst, ◌∙◌, arith, append_assoc, append-nil, Option, Some, None, false}
use Rattle.std.specs.Prelude.{unwrap_or, ◌==◌, if◌then◌else◌, option_and_then}
use Rattle.std.proofs.Common.{inl, inr}
use Rattle.std.specs.Str.{IsUtf8}
use Rattle.std.proofs.lemmas.Bool.Decides.{nat_tests}
use Rattle.con_events.specs.Actors.{is_paint, paints}
use Rattle.con_events.specs.declared.entry.Entry.{Entry}
use Rattle.con_events.specs.declared.event.Event.{Event}
use Rattle.con_events.specs.declared.event.Event.TheVariants as event
use Rattle.con_events.specs.declared.reply.Reply.{Reply}
use Rattle.serde_json.specs.Read.{read}
use Rattle.con_lines.specs.declared.said.Said.{Said}
use Rattle.con_lines.specs.Line.{line_data, line_text, ended}
use Rattle.con_lines.specs.Ending.{Ending, IsEnding, done, no_memory, usage, document, link, terminal, missing, failed, too_long, mirror, frame, ending_data, ending_text}
use Rattle.con_lines.specs.Fits.{IsLine}
use Rattle.con_trace.specs.Report.{said_text, report, History, said, IsHistory, IsWrongAt}
use Rattle.con_trace.specs.Words.Report.{AreLines, end_of, ends_behind, with_picture, pictures, ReportTells, NoneIsWrong}
use Rattle.con_lines.specs.Told.{said_in, ending_in}
use Rattle.con_trace.specs.Cut.{cut_line, with_end, ends_of}
use Rattle.con_lines.proofs.LineBack.{said_back, ending_back}
use Rattle.con_lines.proofs.LinePlain.{line_plain, ending_plain}
use Rattle.con_lines.proofs.ReadBack.{Clear, clear, utf8, read_back}

-- ---- one line

pub line_read : (s : Said) → IsLine s → read (line_text s.entry s.reply s.end) ≡ Some (line_data s.entry s.reply s.end)
unfolding line_text
line_read s p = read_back (line_data s.entry s.reply s.end) 4 (line_plain s p) (omega arith)

pub line_utf8 : (s : Said) → IsLine s → IsUtf8 (line_text s.entry s.reply s.end)
unfolding line_text
line_utf8 s p = utf8 (line_data s.entry s.reply s.end) 4 (line_plain s p)

line_clear : (s : Said) → IsLine s → Clear (line_text s.entry s.reply s.end)
unfolding line_text
line_clear s p = clear (line_data s.entry s.reply s.end) 4 (line_plain s p)

pub ending_read : (e : Ending) → IsEnding e → read (ending_text e) ≡ Some (ending_data e)
unfolding ending_text
ending_read e p = read_back (ending_data e) 1 (ending_plain e p) (omega arith)

pub ending_utf8 : (e : Ending) → IsEnding e → IsUtf8 (ending_text e)
unfolding ending_text
ending_utf8 e p = utf8 (ending_data e) 1 (ending_plain e p)

ending_clear : (e : Ending) → IsEnding e → Clear (ending_text e)
unfolding ending_text
ending_clear e p = clear (ending_data e) 1 (ending_plain e p)

-- a last line is no event's
pub ending_says_nothing : (e : Ending) → IsEnding e → said_in (ending_data e) ≡ None
ending_says_nothing _ done = refl
ending_says_nothing _ no_memory = refl
ending_says_nothing _ usage = refl
ending_says_nothing _ (document path p) = refl
ending_says_nothing _ link = refl
ending_says_nothing _ terminal = refl
ending_says_nothing _ missing = refl
ending_says_nothing _ failed = refl
ending_says_nothing _ too_long = refl
ending_says_nothing _ mirror = refl
ending_says_nothing _ (frame place kind p) = refl

some_same : {A : Type 0} (a b : A) → Some a ≡ Some b → a ≡ b
some_same a b e = ap (λ o. unwrap_or o a) e

abbrev said_by_text : List ℕ → Option Said
said_by_text text = option_and_then said_in (read text)

abbrev ended_by_text : List ℕ → Option Ending
ended_by_text text = option_and_then ending_in (read text)

line_says : (s : Said) → IsLine s → said_by_text (line_text s.entry s.reply s.end) ≡ Some s
line_says s p = ap (option_and_then said_in) (line_read s p) ∙ said_back s p

pub same_line : (a b : Said) → IsLine a → IsLine b → line_text a.entry a.reply a.end ≡ line_text b.entry b.reply b.end → a ≡ b
same_line a b p q e = some_same a b (sym (line_says a p) ∙ (ap said_by_text e ∙ line_says b q))

ending_says : (e : Ending) → IsEnding e → ended_by_text (ending_text e) ≡ Some e
ending_says e p = ap (option_and_then ending_in) (ending_read e p) ∙ ending_back e p

pub same_ending : (a b : Ending) → IsEnding a → IsEnding b → ending_text a ≡ ending_text b → a ≡ b
same_ending a b p q e = some_same a b (sym (ending_says a p) ∙ (ap ended_by_text e ∙ ending_says b q))

none_some : {A : Type 0} (a : A) → None ≡ Some a → ⊥
none_some a e = absurd (cc)

pub line_no_ending : (s : Said) (e : Ending) → IsLine s → IsEnding e → line_text s.entry s.reply s.end ≡ ending_text e → ⊥
line_no_ending s e p q h =
    none_some s (sym (ap (option_and_then said_in) (ending_read e q) ∙ ending_says_nothing e q) ∙ (ap said_by_text (sym h) ∙ line_says s p))

-- ---- a line and what follows it

no_feed : (b : ℕ) → 32 ≤ b → (b == 10) ≡ false
no_feed b h = grind (arith, nat_tests)

pub cut_is : (line rest : List ℕ) → Clear line → cut_line (line ++ 10 ∷ rest) ≡ Some (line, rest)
cut_is [] rest p = refl
cut_is (b ∷ line) rest p = rw (no_feed b p.0, cut_is line rest p.1) refl

pub ended_then : (line rest : List ℕ) → ended line ++ rest ≡ line ++ 10 ∷ rest
ended_then line rest = append_assoc line (10 ∷ []) rest

pub said_cut : (s : Said) (rest : List ℕ) → IsLine s → cut_line (said_text s ++ rest) ≡ Some (line_text s.entry s.reply s.end, rest)
said_cut s rest p = ap cut_line (ended_then (line_text s.entry s.reply s.end) rest) ∙ cut_is (line_text s.entry s.reply s.end) rest (line_clear s p)

pub ending_cut : (e : Ending) (rest : List ℕ) → IsEnding e → cut_line (ended (ending_text e) ++ rest) ≡ Some (ending_text e, rest)
ending_cut e rest p = ap cut_line (ended_then (ending_text e) rest) ∙ cut_is (ending_text e) rest (ending_clear e p)

last_cut : (e : Ending) → IsEnding e → cut_line (ended (ending_text e)) ≡ Some (ending_text e, [])
last_cut e p = cut_is (ending_text e) [] (ending_clear e p)

-- two cuts of one text
one_cut : (t u : List ℕ) (a b : List ℕ × List ℕ) → t ≡ u → cut_line t ≡ Some a → cut_line u ≡ Some b → (a.0 ≡ b.0) × (a.1 ≡ b.1)
one_cut t u a b e p q =
    let s : a ≡ b = some_same a b (sym p ∙ (ap cut_line e ∙ q)) in
    (ap (λ x. x.0) s, ap (λ x. x.1) s)

-- ---- whole reports

lines_tell : (ss ts : List Said) (e f : Ending) → AreLines ss → AreLines ts → IsEnding e → IsEnding f → report ss e ≡ report ts f → (ss ≡ ts) × (e ≡ f)
lines_tell [] [] e f p q g h same = (refl, same_ending e f g h (one_cut _ _ _ _ same (last_cut e g) (last_cut f h)).0)
lines_tell [] (b ∷ ts) e f p q g h same = absurd (line_no_ending b e q.0 g (sym (one_cut _ _ _ _ same (last_cut e g) (said_cut b (report ts f) q.0)).0))
lines_tell (a ∷ ss) [] e f p q g h same = absurd (line_no_ending a f p.0 h (one_cut _ _ _ _ same (said_cut a (report ss e) p.0) (last_cut f h)).0)
lines_tell (a ∷ ss) (b ∷ ts) e f p q g h same =
    let cut = one_cut _ _ _ _ same (said_cut a (report ss e) p.0) (said_cut b (report ts f) q.0) in
    let more = lines_tell ss ts e f p.1 q.1 g h cut.1 in
    (rw (same_line a b p.0 q.0 cut.0, more.0) refl, more.1)

-- pictures are the Paints
one_picture : (e : Event) (n : ℕ) → with_picture e n ≡ (if is_paint e then 1 else 0) + n
one_picture event.Paint n = omega arith
one_picture _ n = omega arith

pub pictures_are_paints : (h : List Entry) → pictures h ≡ paints h
pictures_are_paints [] = refl
pictures_are_paints (x ∷ xs) = one_picture x.event (pictures xs) ∙ ap (λ n. (if is_paint x.event then 1 else 0) + n) (pictures_are_paints xs)

-- the history that lines have
pub record Same (es : List Entry) (rs : List Reply) (ns : List ℕ) (ss : List Said) : Type 0 where
  pub entries : map (λ s. s.entry) ss ≡ es
  pub replies : map (λ s. s.reply) ss ≡ rs
  pub ends : ends_of ss ≡ ns

picture_of : (e : Event) (ns : List ℕ) (n : ℕ) → length ns ≡ with_picture e n → (with_end e (end_of e ns) (ends_behind e ns) ≡ ns) × (length (ends_behind e ns) ≡ n)
picture_of event.Paint [] n p = absurd (omega (arith, p))
picture_of event.Paint (m ∷ ns) n p = (refl, omega (arith, p))
picture_of other ns n p = (refl, p)

pub unsaid : (es : List Entry) (rs : List Reply) (ns : List ℕ) → length rs ≡ length es → length ns ≡ pictures es → Same es rs ns (said es rs ns)
unsaid [] [] [] p q = record { entries = refl; replies = refl; ends = refl }
unsaid [] (r ∷ rs) ns p q = absurd (omega (arith, p))
unsaid [] [] (n ∷ ns) p q = absurd (omega (arith, q))
unsaid (e ∷ es) [] ns p q = absurd (omega (arith, p))
unsaid (e ∷ es) (r ∷ rs) ns p q =
    let own = picture_of e.event ns (pictures es) q in
    let more = unsaid es rs (ends_behind e.event ns) (omega (arith, p)) own.1 in
    record {
      entries = ap (λ l. e ∷ l) more.entries;
      replies = ap (λ l. r ∷ l) more.replies;
      ends = ap (λ l. with_end e.event (end_of e.event ns) l) more.ends ∙ own.0;
    }

history_same : (h k : History) → IsHistory h → IsHistory k → said h.entries h.replies h.ends ≡ said k.entries k.replies k.ends → h ≡ k
history_same h k p q e =
    let a = unsaid h.entries h.replies h.ends p.answered (p.shown ∙ sym (pictures_are_paints h.entries)) in
    let b = unsaid k.entries k.replies k.ends q.answered (q.shown ∙ sym (pictures_are_paints k.entries)) in
    let entries : h.entries ≡ k.entries = sym a.entries ∙ (ap (map (λ s. s.entry)) e ∙ b.entries) in
    let replies : h.replies ≡ k.replies = sym a.replies ∙ (ap (map (λ s. s.reply)) e ∙ b.replies) in
    let ends : h.ends ≡ k.ends = sym a.ends ∙ (ap ends_of e ∙ b.ends) in
    λ i. record { entries = entries i; replies = replies i; ends = ends i }

pub report_tells : ReportTells
report_tells h k e f p q g s same =
    let told = lines_tell (said h.entries h.replies h.ends) (said k.entries k.replies k.ends) e f p.lines q.lines g s same in
    (history_same h k p q told.0, told.1)

-- ---- no line of a report is wrong

no_wrong : (ss : List Said) (e : Ending) (n : ℕ) → AreLines ss → IsEnding e → IsWrongAt n (report ss e) → ⊥
no_wrong [] e zero p g w = w.1 e [] g (sym (append-nil (ended (ending_text e))))
no_wrong [] e (suc n) p g (inl w) = line_no_ending w.0 e w.2 g (sym (one_cut _ _ _ _ w.3 (last_cut e g) (said_cut w.0 w.1 w.2)).0)
no_wrong [] e (suc n) p g (inr w) =
    let cut = one_cut _ _ _ _ w.3 (last_cut e g) (ending_cut w.0 w.1 w.2) in
    let empty : length w.1 ≡ 0 = ap length (sym cut.1) in
    absurd (omega (arith, empty, w.4))
no_wrong (s ∷ ss) e zero p g w = w.0 s (report ss e) p.0 refl
no_wrong (s ∷ ss) e (suc n) p g (inl w) =
    let cut = one_cut _ _ _ _ w.3 (said_cut s (report ss e) p.0) (said_cut w.0 w.1 w.2) in
    no_wrong ss e n p.1 g (subst (IsWrongAt n) (sym cut.1) w.4)
no_wrong (s ∷ ss) e (suc n) p g (inr w) =
    line_no_ending s w.0 p.0 w.2 (one_cut _ _ _ _ w.3 (said_cut s (report ss e) p.0) (ending_cut w.0 w.1 w.2)).0

pub none_is_wrong : NoneIsWrong
none_is_wrong h e n p g w = no_wrong (said h.entries h.replies h.ends) e n p.lines g w
