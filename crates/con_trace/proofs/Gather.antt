-- Lines that were read one after another, and what is wrong behind them.
use Rattle.std.proofs.Common.{◌≡◌, ℕ, zero, suc, ◌+◌, ◌-◌, ◌<◌, ◌≤◌, List, [], ◌∷◌, ◌++◌, length, map, take, drop, refl, ap, ap₂, sym, subst, ◌∙◌, arith, append_assoc, append-nil, length-append, Option, Some, None, Bool, true, false, cond, nat_lt}
use Rattle.std.specs.Prelude.{IfSome, ◌==◌, option_map, position}
use Rattle.std.specs.List.{position_or_len}
use Rattle.std.proofs.Common.{inl, inr}
use Rattle.std.proofs.lemmas.Bool.{cond_both, eqb-true}
use Rattle.std.proofs.lemmas.Bool.Decides.{nat_tests}
use Rattle.std.proofs.lemmas.Grind.{common_steps}
use Rattle.con_events.specs.declared.event.Event.{Event}
use Rattle.con_events.specs.declared.event.Event.TheVariants as event
use Rattle.con_events.specs.declared.reply.Reply.{Reply}
use Rattle.con_lines.specs.declared.said.Said.{Said}
use Rattle.con_lines.specs.Line.{line_text, ended}
use Rattle.con_lines.specs.Fits.{AnswerFits, IsLine}
use Rattle.con_lines.specs.Ending.{Ending, IsEnding, ending_text}
use Rattle.con_trace.specs.Report.{said_text, report, History, said, IsHistory, report_of, IsWrongAt}
use Rattle.con_trace.specs.Words.Report.{AreLines, end_of, ends_behind, with_picture, pictures}
use Rattle.con_trace.specs.Cut.{cut_line, IsNeither, texts, with_end, ends_of, with_said, Gathers}
use Rattle.con_lines.proofs.TablesFit.{map_keeps}
use Rattle.con_trace.proofs.Tells.{said_cut, ending_cut, ended_then, pictures_are_paints}

-- ---- a text cut at its first line feed

-- the parts before and behind a place
abbrev parts : List ℕ → ℕ → List ℕ × List ℕ
parts text k = (take k text, drop (k + 1) text)

shift : (b : Bool) (x k : ℕ) (xs : List ℕ) → option_map (λ p. (x ∷ p.0, p.1)) (option_map (parts xs) (cond b (Some k) None)) ≡ option_map (parts (x ∷ xs)) (cond b (Some (suc k)) None)
shift true x k xs = let e : k + 1 ≡ suc k = omega arith in let f : suc k + 1 ≡ suc (suc k) = omega arith in rw (e, f) refl
shift false x k xs = refl

abbrev is_feed : ℕ → Bool
is_feed b = b == 10

both : (a b : Bool) → (a ≡ true → b ≡ true) → (b ≡ true → a ≡ true) → a ≡ b
both true b h k = sym (h refl)
both false true h k = k refl
both false false h k = refl

below_suc : (a b : ℕ) → nat_lt (1 + a) (1 + b) ≡ nat_lt a b
below_suc a b = both (nat_lt (1 + a) (1 + b)) (nat_lt a b) (λ h. grind (arith, nat_tests)) (λ h. grind (arith, nat_tests))

-- one unit more in front, whether it is a feed or not
cut_step : (b : ℕ) (bs : List ℕ) (t : Bool) → is_feed b ≡ t → cut_line bs ≡ option_map (parts bs) (position is_feed bs) → cut_line (b ∷ bs) ≡ option_map (parts (b ∷ bs)) (position is_feed (b ∷ bs))
cut_step b bs true h e = let some : nat_lt 0 (suc (length bs)) ≡ true = grind (arith, nat_tests) in rw (h, some) refl
cut_step b bs false h e =
    let k : ℕ = position_or_len is_feed bs in
    let long : length (b ∷ bs) ≡ 1 + length bs = omega arith in
    let one : suc k ≡ 1 + k = omega arith in
    rw (h, e) (shift (nat_lt k (length bs)) b k bs ∙ ap₂ (λ (t : Bool) (n : ℕ). option_map (parts (b ∷ bs)) (cond t (Some n) None)) (sym (below_suc k (length bs)) ∙ ap (nat_lt (1 + k)) (sym long)) one)

pub cut_at : (text : List ℕ) → cut_line text ≡ option_map (parts text) (position is_feed text)
cut_at [] = refl
cut_at (b ∷ bs) = cut_step b bs (is_feed b) refl (cut_at bs)

rest_is : (n : ℕ) (xs : List ℕ) → take (length xs - n) (drop n xs) ≡ drop n xs
rest_is n xs = grind (arith, common_steps)

pub cut_some : (text : List ℕ) (k : ℕ) → Some k ≡ position is_feed text → Some (take k text, take (length text - (k + 1)) (drop (k + 1) text)) ≡ cut_line text
cut_some text k e = rw (rest_is (k + 1) text) (sym (cut_at text ∙ ap (option_map (parts text)) (sym e)))

pub cut_none : (text : List ℕ) → None ≡ position is_feed text → None ≡ cut_line text
cut_none text e = sym (cut_at text ∙ ap (option_map (parts text)) (sym e))

-- what stands before the feed, and behind it
pub spells : (text : List ℕ) → IfSome (cut_line text) (λ p. text ≡ p.0 ++ 10 ∷ p.1)
spells [] = tt
spells (b ∷ bs) = cond_both (b == 10) (Some ([], bs)) _ (λ o. IfSome o (λ p. b ∷ bs ≡ p.0 ++ 10 ∷ p.1)) (λ h. ap (λ x. x ∷ bs) (eqb-true b 10 h))
    (λ h. map_keeps (cut_line bs) _ (λ p. bs ≡ p.0 ++ 10 ∷ p.1) _ (spells bs) (λ p q. ap (λ l. b ∷ l) q))

pub cut_spells : (text line behind : List ℕ) → cut_line text ≡ Some (line, behind) → text ≡ line ++ 10 ∷ behind
cut_spells text line behind e = subst (λ o. IfSome o (λ p. text ≡ p.0 ++ 10 ∷ p.1)) e (spells text)

behind_less : (line behind : List ℕ) → length behind < length (line ++ 10 ∷ behind)
behind_less [] behind = omega arith
behind_less (b ∷ line) behind = omega (arith, behind_less line behind)

pub cut_shortens : (text line behind : List ℕ) → cut_line text ≡ Some (line, behind) → length behind < length text
cut_shortens text line behind e =
    let s = cut_spells text line behind e in
    let long : length text ≡ length (line ++ 10 ∷ behind) = ap length s in
    rw long (behind_less line behind)

-- ---- what is wrong

none_some : {A : Type 0} (a : A) → None ≡ Some a → ⊥
none_some a e = absurd (cc)

pub uncut_wrong : (text : List ℕ) → cut_line text ≡ None → IsWrongAt zero text
uncut_wrong text e = (
  λ s rest p h. none_some _ (sym e ∙ (ap cut_line h ∙ said_cut s rest p)),
  λ f rest p h. none_some _ (sym e ∙ (ap cut_line h ∙ ending_cut f rest p)),
)

abbrev front_or : List ℕ → Option (List ℕ × List ℕ) → List ℕ
front_or line None = line
front_or line (Some p) = p.0

first_of_two : (p q : List ℕ × List ℕ) → Some p ≡ Some q → p.0 ≡ q.0
first_of_two p q e = ap (λ o. front_or p.0 o) e

pub neither_wrong : (text line behind : List ℕ) → cut_line text ≡ Some (line, behind) → IsNeither line → IsWrongAt zero text
neither_wrong text line behind e n = (
  λ s rest p h. n.0 s p (first_of_two (line, behind) _ (sym e ∙ (ap cut_line h ∙ said_cut s rest p))),
  λ f rest p h. n.1 f p (first_of_two (line, behind) _ (sym e ∙ (ap cut_line h ∙ ending_cut f rest p))),
)

pub surplus_wrong : (text line behind : List ℕ) (f : Ending) → cut_line text ≡ Some (line, behind) → IsEnding f → line ≡ ending_text f → 0 < length behind → IsWrongAt 1 text
surplus_wrong text line behind f e p is some = inr (f, behind, p, cut_spells text line behind e ∙ (ap (λ l. l ++ 10 ∷ behind) is ∙ sym (ended_then (ending_text f) behind)), some, refl)

pub wrong_behind : (ss : List Said) (rest : List ℕ) (n : ℕ) → AreLines ss → IsWrongAt n rest → IsWrongAt (length ss + n) (texts ss ++ rest)
wrong_behind [] rest n p w = let e : n ≡ length {A = Said} [] + n = omega arith in subst (λ k. IsWrongAt k rest) e w
wrong_behind (s ∷ ss) rest n p w =
    let e : suc (length ss + n) ≡ length (s ∷ ss) + n = omega arith in
    subst (λ k. IsWrongAt k (texts (s ∷ ss) ++ rest)) e (inl (s, texts ss ++ rest, p.0, append_assoc (said_text s) (texts ss) rest, wrong_behind ss rest n p.1 w))

-- ---- one line more

with_end_append : (e : Event) (n : ℕ) (xs ys : List ℕ) → with_end e n (xs ++ ys) ≡ with_end e n xs ++ ys
with_end_append event.Paint n xs ys = refl
with_end_append other n xs ys = refl

AreLines_push : (ss : List Said) (s : Said) → AreLines ss → IsLine s → AreLines (ss ++ s ∷ [])
AreLines_push [] s p q = (q, tt)
AreLines_push (t ∷ ss) s p q = (p.0, AreLines_push ss s p.1 q)

texts_push : (ss : List Said) (s : Said) (rest : List ℕ) → texts ss ++ (said_text s ++ rest) ≡ texts (ss ++ s ∷ []) ++ rest
texts_push [] s rest = ap (λ l. l ++ rest) (sym (append-nil (said_text s)))
texts_push (t ∷ ss) s rest = append_assoc (said_text t) (texts ss) (said_text s ++ rest) ∙ (ap (λ l. said_text t ++ l) (texts_push ss s rest) ∙ sym (append_assoc (said_text t) (texts (ss ++ s ∷ [])) rest))

ends_push : (ss : List Said) (s : Said) → ends_of (ss ++ s ∷ []) ≡ ends_of ss ++ with_end s.entry.event s.end []
ends_push [] s = refl
ends_push (t ∷ ss) s = ap (with_end t.entry.event t.end) (ends_push ss s) ∙ with_end_append t.entry.event t.end (ends_of ss) (with_end s.entry.event s.end [])

map_push : {A : Type 0} (f : Said → A) (ss : List Said) (s : Said) → map f (ss ++ s ∷ []) ≡ map f ss ++ f s ∷ []
map_push f [] s = refl
map_push f (t ∷ ss) s = ap (λ l. f t ∷ l) (map_push f ss s)

length_push : (ss : List Said) (s : Said) → length (ss ++ s ∷ []) ≡ length ss + 1
length_push [] s = omega arith
length_push (t ∷ ss) s = omega (arith, length_push ss s)

pub gathers_more : (bytes rest line behind : List ℕ) (h : History) (count : ℕ) (s : Said) → Gathers bytes rest h count → cut_line rest ≡ Some (line, behind) → IsLine s → line ≡ line_text s.entry s.reply s.end → Gathers bytes behind (with_said h s) (count + 1)
gathers_more bytes rest line behind h count s g e p is = record {
  lines = g.lines ++ s ∷ [];
  are = AreLines_push g.lines s g.are p;
  text = g.text ∙ (ap (λ l. texts g.lines ++ l) (cut_spells rest line behind e ∙ (ap (λ l. l ++ 10 ∷ behind) is ∙ sym (ended_then (line_text s.entry s.reply s.end) behind))) ∙ texts_push g.lines s behind);
  entries = ap (λ l. l ++ s.entry ∷ []) g.entries ∙ sym (map_push (λ t. t.entry) g.lines s);
  replies = ap (λ l. l ++ s.reply ∷ []) g.replies ∙ sym (map_push (λ t. t.reply) g.lines s);
  ends = ap (λ l. l ++ with_end s.entry.event s.end []) g.ends ∙ sym (ends_push g.lines s);
  count = ap (λ n. n + 1) g.count ∙ sym (length_push g.lines s);
}

-- nothing was read yet
pub gathers_none : (bytes : List ℕ) → Gathers bytes bytes (record { entries = []; replies = []; ends = [] }) 0
gathers_none bytes = record { lines = []; are = tt; text = refl; entries = refl; replies = refl; ends = refl; count = refl }

text_long : (line rest : List ℕ) (n : ℕ) → n ≤ length rest → suc n ≤ length (ended line ++ rest)
text_long [] rest n p = omega (arith, p)
text_long (b ∷ line) rest n p = omega (arith, text_long line rest n p)

pub texts_long : (ss : List Said) → length ss ≤ length (texts ss)
texts_long [] = omega arith
texts_long (s ∷ ss) = text_long (line_text s.entry s.reply s.end) (texts ss) (length ss) (texts_long ss)

-- ---- the whole report

report_is : (ss : List Said) (f : Ending) → report ss f ≡ texts ss ++ ended (ending_text f)
report_is [] f = refl
report_is (s ∷ ss) f = ap (λ l. said_text s ++ l) (report_is ss f) ∙ sym (append_assoc (said_text s) (texts ss) (ended (ending_text f)))

own_again : (e : Event) (r : Reply) (n : ℕ) (ns : List ℕ) → AnswerFits e r n → (end_of e (with_end e n ns) ≡ n) × (ends_behind e (with_end e n ns) ≡ ns)
own_again event.Paint r n ns p = (refl, refl)
own_again other r n ns p = (sym p.1, refl)

said_again : (ss : List Said) → AreLines ss → said (map (λ s. s.entry) ss) (map (λ s. s.reply) ss) (ends_of ss) ≡ ss
said_again [] p = refl
said_again (s ∷ ss) p =
    let own = own_again s.entry.event s.reply s.end (ends_of ss) p.0.answer in
    rw (own.0, own.1) (ap (λ l. s ∷ l) (said_again ss p.1))

shown_is : (e : Event) (n : ℕ) (ns : List ℕ) (m : ℕ) → length ns ≡ m → length (with_end e n ns) ≡ with_picture e m
shown_is event.Paint n ns m p = omega (arith, p)
shown_is other n ns m p = p

pictures_are : (ss : List Said) → length (ends_of ss) ≡ pictures (map (λ s. s.entry) ss)
pictures_are [] = refl
pictures_are (s ∷ ss) = shown_is s.entry.event s.end (ends_of ss) (pictures (map (λ s. s.entry) ss)) (pictures_are ss)

same_length : {A B : Type 0} (f : Said → A) (g : Said → B) (ss : List Said) → length (map f ss) ≡ length (map g ss)
same_length f g [] = refl
same_length f g (s ∷ ss) = omega (arith, same_length f g ss)

pub history_is : (ss : List Said) → AreLines ss → IsHistory (record { entries = map (λ s. s.entry) ss; replies = map (λ s. s.reply) ss; ends = ends_of ss })
history_is ss p = record {
  answered = same_length (λ s. s.reply) (λ s. s.entry) ss;
  shown = pictures_are ss ∙ pictures_are_paints (map (λ s. s.entry) ss);
  lines = subst AreLines (sym (said_again ss p)) p;
}

-- ---- behind the lines that were read

-- the history that was gathered
gathered : (bytes rest : List ℕ) (h : History) (n : ℕ) (g : Gathers bytes rest h n) → record { entries = map (λ s. s.entry) g.lines; replies = map (λ s. s.reply) g.lines; ends = ends_of g.lines } ≡ h
gathered bytes rest h n g = λ i. record { entries = sym g.entries i; replies = sym g.replies i; ends = sym g.ends i }

pub whole_history : (bytes rest : List ℕ) (h : History) (n : ℕ) → Gathers bytes rest h n → IsHistory h
whole_history bytes rest h n g = subst IsHistory (gathered bytes rest h n g) (history_is g.lines g.are)

pub whole_text : (bytes rest line behind : List ℕ) (h : History) (n : ℕ) (e : Ending) → Gathers bytes rest h n → cut_line rest ≡ Some (line, behind) → line ≡ ending_text e → behind ≡ [] → bytes ≡ report_of h e
whole_text bytes rest line behind h n e g cut is nothing =
    let last : rest ≡ ended (ending_text e) = cut_spells rest line behind cut ∙ ap₂ (λ (a b : List ℕ). a ++ 10 ∷ b) is nothing in
    g.text ∙ (ap (λ l. texts g.lines ++ l) last ∙ (sym (report_is g.lines e) ∙ (ap (λ l. report l e) (sym (said_again g.lines g.are)) ∙ ap (λ k. report_of k e) (gathered bytes rest h n g))))

pub is_room : (bytes rest line behind : List ℕ) (h : History) (n : ℕ) → Gathers bytes rest h n → cut_line rest ≡ Some (line, behind) → n < length bytes
is_room bytes rest line behind h n g cut =
    let long : length bytes ≡ length (texts g.lines ++ rest) = ap length g.text in
    omega (arith, g.count, long, length-append (texts g.lines) rest, texts_long g.lines, cut_shortens rest line behind cut)

-- a line wrong behind them is so many lines further on
wrong_further : (bytes rest : List ℕ) (h : History) (n m k : ℕ) → Gathers bytes rest h n → n + m ≡ k → IsWrongAt m rest → IsWrongAt k bytes
wrong_further bytes rest h n m k g e w =
    let same : length g.lines + m ≡ k = omega (arith, g.count, e) in
    subst (λ t. IsWrongAt k t) (sym g.text) (subst (λ j. IsWrongAt j (texts g.lines ++ rest)) same (wrong_behind g.lines rest m g.are w))

pub uncut_at : (bytes rest : List ℕ) (h : History) (n : ℕ) → Gathers bytes rest h n → cut_line rest ≡ None → IsWrongAt n bytes
uncut_at bytes rest h n g cut = wrong_further bytes rest h n 0 n g (omega arith) (uncut_wrong rest cut)

pub neither_at : (bytes rest line behind : List ℕ) (h : History) (n : ℕ) → Gathers bytes rest h n → cut_line rest ≡ Some (line, behind) → IsNeither line → IsWrongAt n bytes
neither_at bytes rest line behind h n g cut neither = wrong_further bytes rest h n 0 n g (omega arith) (neither_wrong rest line behind cut neither)

pub surplus_at : (bytes rest line behind : List ℕ) (h : History) (n : ℕ) (e : Ending) → Gathers bytes rest h n → cut_line rest ≡ Some (line, behind) → IsEnding e → line ≡ ending_text e → 0 < length behind → IsWrongAt (n + 1) bytes
surplus_at bytes rest line behind h n e g cut p is some = wrong_further bytes rest h n 1 (n + 1) g refl (surplus_wrong rest line behind e cut p is some)

pub nil_of : (xs : List ℕ) → (length xs == 0) ≡ true → xs ≡ []
nil_of [] h = refl
nil_of (x ∷ xs) h = absurd (grind (arith, nat_tests))

pub some_of : (xs : List ℕ) → (length xs == 0) ≡ false → 0 < length xs
some_of xs h = grind (arith, nat_tests)
