-- Writing a report in parts.
use Rattle.std.proofs.Common.{◌≡◌, refl, ap, ap₂, sym, subst, ◌∙◌, append_assoc, arith, length-append, get_or, drop, ℕ, ◌+◌, ◌-◌, ◌<◌, ◌≤◌, List, [], ◌∷◌, ◌++◌, length, take, Option, Bool, true, false}
use Rattle.std.specs.Prelude.{Result, Ok, Err, OnOk, OnErr, ◌&&◌, if◌then◌else◌}
use Rattle.std.proofs.Math.Seq.{take-length}
use Rattle.con_outside.specs.Outside.{then_written, WroteFront, WrotePart}
use Rattle.con_outside.specs.Laws.{then_written-none, then_written-more}
use Rattle.con_events.specs.declared.entry.Entry.{Entry}
use Rattle.con_events.specs.declared.reply.Reply.{Reply}
use Rattle.con_lines.specs.declared.said.Said.{Said}
use Rattle.con_lines.specs.Ending.{Ending, ending_text}
use Rattle.con_lines.specs.Line.{ended, line_text}
use Rattle.con_trace.specs.Report.{said, said_text, report}
use Rattle.con_trace.specs.Words.Report.{end_of, ends_behind}
use Rattle.con_forms.specs.Told.{has_end, is_told, told}
use Rattle.con_telling.specs.Laws.{front_behind, report_cut, report_parts, whole_is_told}
use Rattle.con_telling.specs.Telling.{ended_report, lines_text, told_report}

-- what was written so far, and the lines that are still to come, are all lines
pub record Tells (all coming : List Said) (old now : Option (List ℕ)) : Type 0 where
  pub front : List ℕ
  pub wrote : now ≡ then_written old front
  pub parts : lines_text all ≡ front ++ lines_text coming

tells_none : (ss : List Said) (old : Option (List ℕ)) → Tells ss ss old old
tells_none ss old = record { front = []; wrote = then_written-none old; parts = refl }

tells_more : (all ss : List Said) (s : Said) (old now new : Option (List ℕ)) → Tells all (s ∷ ss) old now → new ≡ then_written now (said_text s) → Tells all ss old new
tells_more all ss s old now new t wrote = record {
  front = t.front ++ said_text s;
  wrote = then_written-more t.front (said_text s) old now new t.wrote wrote;
  parts = t.parts ∙ sym (append_assoc t.front (said_text s) (lines_text ss));
}

append_nothing : (xs : List ℕ) → xs ++ [] ≡ xs
append_nothing [] = refl
append_nothing (x ∷ xs) = ap (λ ys. x ∷ ys) (append_nothing xs)

-- no line is left
tells_all : (all : List Said) (old now : Option (List ℕ)) → Tells all [] old now → now ≡ then_written old (lines_text all)
tells_all all old now t = t.wrote ∙ ap (then_written old) (sym (append_nothing t.front) ∙ sym t.parts)

-- a line was cut
tells_cut : (all ss : List Said) (s : Said) (old now new : Option (List ℕ)) → Tells all (s ∷ ss) old now → WroteFront (said_text s) now new → WroteFront (lines_text all) old new
tells_cut all ss s old now new t w = front_behind t.front (said_text s) (lines_text ss) (lines_text all) old now new t.wrote t.parts w

-- all of it is a front
pub whole_front : (all : List ℕ) (old new : Option (List ℕ)) → new ≡ then_written old all → WroteFront all old new
whole_front all old new wrote = (length all, omega arith, wrote ∙ ap (then_written old) (sym (all_taken all)))
  where
    all_taken : (xs : List ℕ) → take (length xs) xs ≡ xs
    all_taken [] = refl
    all_taken (x ∷ xs) = ap (λ ys. x ∷ ys) (all_taken xs)

-- no line more was written
tells_stop : (all ss : List Said) (old now : Option (List ℕ)) → Tells all ss old now → WroteFront (lines_text all) old now
tells_stop all ss old now t = front_behind t.front [] (lines_text ss) (lines_text all) old now now t.wrote t.parts (whole_front [] now now (then_written-none now))

-- ---- the last line

-- the last line was cut
pub report_ended : (ss : List Said) (last : Ending) (old now new : Option (List ℕ)) → now ≡ then_written old (lines_text ss) → WroteFront (ended (ending_text last)) now new → WroteFront (report ss last) old new
report_ended ss last old now new wrote w =
    front_behind (lines_text ss) (ended (ending_text last)) [] (report ss last) old now new wrote (report_parts ss last ∙ ap (λ xs. lines_text ss ++ xs) (sym (append_nothing (ended (ending_text last))))) w

pub report_whole : (ss : List Said) (last : Ending) (old now new : Option (List ℕ)) → now ≡ then_written old (lines_text ss) → new ≡ then_written now (ended (ending_text last)) → new ≡ then_written old (report ss last)
report_whole ss last old now new wrote behind =
    then_written-more (lines_text ss) (ended (ending_text last)) old now new wrote behind ∙ ap (then_written old) (sym (report_parts ss last))

-- a front of what stands behind what was written leaves something out, where more comes or it is not all
cut_behind : (a b c all : List ℕ) (old now new : Option (List ℕ)) → now ≡ then_written old a → all ≡ a ++ (b ++ c) → (w : WroteFront b now new) → w.0 < length b + length c → WrotePart all old new
unfolding front_behind
cut_behind a b c all old now new wrote parts w less = (
  length a + w.0,
  (let e : length all ≡ length a + (length b + length c) = ap length parts ∙ (length-append a (b ++ c) ∙ ap (λ n. length a + n) (length-append b c)) in omega (arith, e, less)),
  (front_behind a b c all old now new wrote parts w).2,
)

last_line_is_some : (text : List ℕ) → 0 < length (ended text)
last_line_is_some text = let e : length (text ++ 10 ∷ []) ≡ length text + 1 = length-append text (10 ∷ []) in omega (arith, e)

-- the lines were cut, and the last line is not there
pub report_is_cut : (ss : List Said) (last : Ending) (old new : Option (List ℕ)) → WroteFront (lines_text ss) old new → WrotePart (report ss last) old new
report_is_cut ss last old new w =
    let some = last_line_is_some (ending_text last) in
    cut_behind [] (lines_text ss) (ended (ending_text last)) (report ss last) old old new (then_written-none old) (report_parts ss last) w (omega (arith, w.1, some))

-- the last line was cut, and not written whole
pub report_ends_cut : (ss : List Said) (last : Ending) (old now new : Option (List ℕ)) → now ≡ then_written old (lines_text ss) → WrotePart (ended (ending_text last)) now new → WrotePart (report ss last) old new
report_ends_cut ss last old now new wrote w =
    let few : w.0 ≤ length (ended (ending_text last)) = omega (arith, w.1) in
    cut_behind (lines_text ss) (ended (ending_text last)) [] (report ss last) old now new wrote (report_parts ss last ∙ ap (λ xs. lines_text ss ++ xs) (sym (append_nothing (ended (ending_text last)))))
    (w.0, few, w.2) (omega (arith, w.1))

-- what holds at all holds of each answer that is bad
pub at_err : {A B P : Type 0} (r : Result A B) → P → OnErr r P
at_err (Ok x) p = tt
at_err (Err e) p = p

-- an answer that is bad makes another one bad
pub on_err : {A B P Q : Type 0} (r : Result A B) → (P → Q) → OnErr r P → OnErr r Q
on_err (Ok x) f h = h
on_err (Err e) f h = f h

-- an answer that is good makes another one good
pub on_ok : {A B P Q : Type 0} (r : Result A B) → (P → Q) → OnOk r P → OnOk r Q
on_ok (Ok x) f h = f h
on_ok (Err e) f h = h

-- ---- a step of the loop

-- what was written of the lines of a history, of those of them that are told, and whether all are told
pub record Writes (h : List Entry) (hs : List Reply) (ms : List ℕ) (es : List Entry) (rs : List Reply) (ns : List ℕ) (old now : Option (List ℕ)) : Type 0 where
  pub said' : Tells (said h hs ms) (said es rs ns) old now
  pub told' : Tells (told h hs ms) (told es rs ns) old now
  pub all' : is_told es rs ns ≡ true → is_told h hs ms ≡ true

pub writes_none : (h : List Entry) (hs : List Reply) (ms : List ℕ) (old : Option (List ℕ)) → Writes h hs ms h hs ms old old
writes_none h hs ms old = record { said' = tells_none (said h hs ms) old; told' = tells_none (told h hs ms) old; all' = λ t. t }

told_next : (e : Entry) (es : List Entry) (r : Reply) (rs : List Reply) (ns : List ℕ) → has_end e.event ns ≡ true
    → told (e ∷ es) (r ∷ rs) ns ≡ (let s : Said = record { entry = e; reply = r; end = end_of e.event ns } in s) ∷ told es rs (ends_behind e.event ns)
told_next e es r rs ns has =
    let s : Said = record { entry = e; reply = r; end = end_of e.event ns } in
    ap (λ (b : Bool). if b then s ∷ told es rs (ends_behind e.event ns) else []) has

is_told_next : (e : Entry) (es : List Entry) (r : Reply) (rs : List Reply) (ns : List ℕ) → has_end e.event ns ≡ true → is_told es rs (ends_behind e.event ns) ≡ true
    → is_told (e ∷ es) (r ∷ rs) ns ≡ true
is_told_next e es r rs ns has t = ap (λ (b : Bool). b && is_told es rs (ends_behind e.event ns)) has ∙ t

writes_more : (h : List Entry) (hs : List Reply) (ms : List ℕ) (e : Entry) (es : List Entry) (r : Reply) (rs : List Reply) (ns : List ℕ) (old now new : Option (List ℕ))
    → Writes h hs ms (e ∷ es) (r ∷ rs) ns old now → has_end e.event ns ≡ true → new ≡ then_written now (ended (line_text e r (end_of e.event ns)))
    → Writes h hs ms es rs (ends_behind e.event ns) old new
writes_more h hs ms e es r rs ns old now new w has wrote =
    let s : Said = record { entry = e; reply = r; end = end_of e.event ns } in record {
      said' = tells_more (said h hs ms) (said es rs (ends_behind e.event ns)) s old now new w.said' wrote;
      told' = tells_more (told h hs ms) (told es rs (ends_behind e.event ns)) s old now new (subst (λ ss. Tells (told h hs ms) ss old now) (told_next e es r rs ns has) w.told') wrote;
      all' = λ t. w.all' (is_told_next e es r rs ns has t);
    }

-- ---- what the loop's step has: the first entry and the first reply of those that are still to come

rest_is : {A : Type 0} (x : A) (xs : List A) → take (length (x ∷ xs) - 1) (drop 1 (x ∷ xs)) ≡ xs
rest_is x xs = (let n : length (x ∷ xs) - 1 ≡ length xs = omega arith in ap (λ k. take k xs) n) ∙ take-length xs

pub writes_step : (h : List Entry) (hs : List Reply) (ms : List ℕ) (es : List Entry) (rs : List Reply) (ns : List ℕ) (e : Entry) (r : Reply) (end : ℕ) (later : List ℕ) (old now new : Option (List ℕ))
    → 1 ≤ length es → 1 ≤ length rs → e ≡ get_or es 0 e → r ≡ get_or rs 0 r → Writes h hs ms es rs ns old now → has_end e.event ns ≡ true → end ≡ end_of e.event ns
    → later ≡ ends_behind e.event ns → new ≡ then_written now (ended (line_text e r end))
    → Writes h hs ms (take (length es - 1) (drop 1 es)) (take (length rs - 1) (drop 1 rs)) later old new
writes_step h hs ms [] rs ns e r end later old now new le lr ie ir w has is ib wrote = absurd (omega (arith, le))
writes_step h hs ms (x ∷ es) [] ns e r end later old now new le lr ie ir w has is ib wrote = absurd (omega (arith, lr))
writes_step h hs ms (x ∷ es) (y ∷ rs) ns e r end later old now new le lr ie ir w has is ib wrote =
    let same : end ≡ end_of x.event ns = is ∙ ap (λ (z : Entry). end_of z.event ns) ie in
    let text : new ≡ then_written now (ended (line_text x y (end_of x.event ns))) =
    wrote ∙ (ap (λ n. then_written now (ended (line_text e r n))) same ∙ ap₂ (λ (a : Entry) (b : Reply). then_written now (ended (line_text a b (end_of x.event ns)))) ie ir) in
    let more : Writes h hs ms es rs (ends_behind x.event ns) old new = writes_more h hs ms x es y rs ns old now new w (subst (λ (z : Entry). has_end z.event ns ≡ true) ie has) text in
    subst (λ (ks : List ℕ). Writes h hs ms (take (length (x ∷ es) - 1) (drop 1 (x ∷ es))) (take (length (y ∷ rs) - 1) (drop 1 (y ∷ rs))) ks old new) (sym (ib ∙ ap (λ (z : Entry). ends_behind z.event ns) ie))
    (subst (λ (ys : List Reply). Writes h hs ms (take (length (x ∷ es) - 1) (drop 1 (x ∷ es))) ys (ends_behind x.event ns) old new) (sym (rest_is y rs))
    (subst (λ (xs : List Entry). Writes h hs ms xs rs (ends_behind x.event ns) old new) (sym (rest_is x es)) more))

-- a line was cut: of all lines, and of those that are told
pub cut_step : (h : List Entry) (hs : List Reply) (ms : List ℕ) (es : List Entry) (rs : List Reply) (ns : List ℕ) (e : Entry) (r : Reply) (end : ℕ) (old now new : Option (List ℕ))
    → 1 ≤ length es → 1 ≤ length rs → e ≡ get_or es 0 e → r ≡ get_or rs 0 r → Writes h hs ms es rs ns old now → has_end e.event ns ≡ true → end ≡ end_of e.event ns
    → WroteFront (ended (line_text e r end)) now new → WroteFront (lines_text (said h hs ms)) old new × WroteFront (lines_text (told h hs ms)) old new
cut_step h hs ms [] rs ns e r end old now new le lr ie ir w has is f = absurd (omega (arith, le))
cut_step h hs ms (x ∷ es) [] ns e r end old now new le lr ie ir w has is f = absurd (omega (arith, lr))
cut_step h hs ms (x ∷ es) (y ∷ rs) ns e r end old now new le lr ie ir w has is f =
    let s : Said = record { entry = x; reply = y; end = end_of x.event ns } in
    let same : end ≡ end_of x.event ns = is ∙ ap (λ (z : Entry). end_of z.event ns) ie in
    let line : WroteFront (said_text s) now new = subst (λ n. WroteFront (ended (line_text x y n)) now new) same
    (subst (λ (b : Reply). WroteFront (ended (line_text x b end)) now new) ir (subst (λ (a : Entry). WroteFront (ended (line_text a r end)) now new) ie f)) in (
      tells_cut (said h hs ms) (said es rs (ends_behind x.event ns)) s old now new w.said' line,
      tells_cut (told h hs ms) (told es rs (ends_behind x.event ns)) s old now new
          (subst (λ ss. Tells (told h hs ms) ss old now) (told_next x es y rs ns (subst (λ (z : Entry). has_end z.event ns ≡ true) ie has)) w.told') line,
    )

-- the lines end before a picture without a length, or behind the last one that has its answer
pub stop_step : (h : List Entry) (hs : List Reply) (ms : List ℕ) (es : List Entry) (rs : List Reply) (ns : List ℕ) (old now : Option (List ℕ)) → Writes h hs ms es rs ns old now
    → WroteFront (lines_text (said h hs ms)) old now × WroteFront (lines_text (told h hs ms)) old now
stop_step h hs ms es rs ns old now w = (tells_stop (said h hs ms) (said es rs ns) old now w.said', tells_stop (told h hs ms) (told es rs ns) old now w.told')

-- no entry is left, or no reply
pub none_left : (h : List Entry) (hs : List Reply) (ms : List ℕ) (rs : List Reply) (ns : List ℕ) (old now : Option (List ℕ)) → Writes h hs ms [] rs ns old now
    → (now ≡ then_written old (lines_text (said h hs ms))) × (is_told h hs ms ≡ true)
none_left h hs ms rs ns old now w = (tells_all (said h hs ms) old now w.said', w.all' refl)

pub none_answered : (h : List Entry) (hs : List Reply) (ms : List ℕ) (es : List Entry) (ns : List ℕ) (old now : Option (List ℕ)) → Writes h hs ms es [] ns old now
    → (now ≡ then_written old (lines_text (said h hs ms))) × (is_told h hs ms ≡ true)
none_answered h hs ms [] ns old now w = (tells_all (said h hs ms) old now w.said', w.all' refl)
none_answered h hs ms (e ∷ es) ns old now w = (tells_all (said h hs ms) old now w.said', w.all' refl)

-- ---- a report as far as it is told

-- the lines that are told are a front of it
lines_front : (b : Bool) (h : List Entry) (rs : List Reply) (ns : List ℕ) (last : Ending) (old new : Option (List ℕ)) → is_told h rs ns ≡ b → WroteFront (lines_text (said h rs ns)) old new
    → WroteFront (lines_text (told h rs ns)) old new → WroteFront (told_report h rs ns last) old new
lines_front true h rs ns last old new t all some = subst (λ x. WroteFront x old new) (sym (whole_is_told h rs ns last t)) (report_cut (said h rs ns) last old new all)
lines_front false h rs ns last old new t all some =
    subst (λ (b : Bool). WroteFront (if b then ended_report h rs ns last else lines_text (told h rs ns)) old new) (sym t) some

pub told_front : (h : List Entry) (rs : List Reply) (ns : List ℕ) (last : Ending) (old new : Option (List ℕ)) → WroteFront (lines_text (said h rs ns)) old new
    → WroteFront (lines_text (told h rs ns)) old new → WroteFront (told_report h rs ns last) old new
told_front h rs ns last old new all some = lines_front (is_told h rs ns) h rs ns last old new refl all some

-- and so is a front of the whole one, where all is told
pub told_whole_front : (h : List Entry) (rs : List Reply) (ns : List ℕ) (last : Ending) (old new : Option (List ℕ)) → is_told h rs ns ≡ true → WroteFront (ended_report h rs ns last) old new
    → WroteFront (told_report h rs ns last) old new
told_whole_front h rs ns last old new t w = subst (λ x. WroteFront x old new) (sym (whole_is_told h rs ns last t)) w
