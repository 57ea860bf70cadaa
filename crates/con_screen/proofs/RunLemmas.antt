-- Units that go at once: what their items are.
use Rattle.std.proofs.Common.{◌≡◌, ℕ, zero, suc, ◌+◌, ◌-◌, ◌<◌, ◌≤◌, Bool, true, false, not, cond, ◌==◌, ◌&&◌, List, [], ◌∷◌, ◌++◌, map, length, take, drop, get_or, refl, sym, ap, ◌∙◌, arith}
use Rattle.std.specs.Prelude.{fold}
use Rattle.std.specs.List.{list_all}
use Rattle.std.proofs.lemmas.Bool.Decides.{nat_tests}
use Rattle.std.proofs.lemmas.List.{take_all, length-take-le, length-drop}
use Rattle.con_units.specs.Stored.{is_control}
use Rattle.con_units.specs.Split.{next, split_after}
use Rattle.con_vtgram.specs.Text.{is_front, whole, is_acting}
use Rattle.con_vtgram.specs.Spoken.{Spoken, spoken, spoken_by}
use Rattle.con_vtgram.specs.declared.item.Item.{Item}
use Rattle.con_vtgram.specs.declared.item.Item.TheVariants as items
use Rattle.con_page.specs.Page.{Page}
use Rattle.con_page.specs.Effect.{effect}
use Rattle.con_page.specs.Run.{is_printed, all_printed}
use Rattle.con_page.specs.Ends.{is_end, all_ended}
use Rattle.con_page.specs.declared.mode.Mode.{Mode}
use Rattle.con_screen.specs.Told.{Told, told_after, is_switch}
use Rattle.con_screen.specs.Words.Told.{Answered}
use Rattle.con_screen.specs.Done.{Done, DoneSome, IsRun}
use Rattle.con_screen.specs.Parts.{has_sequences}
use Rattle.con_screen.specs.Screen.{Screen}
use Rattle.con_screen.specs.Written.{split_in, heard, Stage, written, switches}
use Rattle.con_screen.specs.Words.Written.{spoken_alone, any_switch}
use Rattle.con_screen.proofs.WriteLemmas.{split_after-append, written-none, written-append, switches-none, switches-append, Stands, MoreSome}

both : (a b : Bool) → (a && b) ≡ true → (a ≡ true) × (b ≡ true)
both true b h = (refl, h)
both false b h = cc

-- ---- units whose items are known, each by itself

abbrev said : (ℕ → Item) → ℕ → Spoken
said k u = spoken_by [] (k u)

-- the item of a unit between sequences, where they act
abbrev IsNext : (ℕ → Bool) → (ℕ → Item) → Type 0
IsNext test k = (u : ℕ) → test u ≡ true → next spoken [] u ≡ record { items = said k u ∷ []; tail = [] }

-- and where they do not
abbrev IsAlone : (ℕ → Bool) → (ℕ → Item) → Mode → Type 0
IsAlone test k m = (u : ℕ) → test u ≡ true → spoken_alone m u ≡ said k u

split_after_all : (test : ℕ → Bool) (k : ℕ → Item) → IsNext test k → (us : List ℕ) → list_all test us ≡ true → split_after spoken [] us ≡ record { items = map (said k) us; tail = [] }
unfolding split_after
split_after_all test k is [] h = refl
split_after_all test k is (u ∷ us) h = let p = both (test u) (list_all test us) h in
    split_after-append [] (u ∷ []) us ∙ rw (is u p.0, split_after_all test k is us p.1) refl

alone_all : (test : ℕ → Bool) (k : ℕ → Item) (m : Mode) → IsAlone test k m → (us : List ℕ) → list_all test us ≡ true → map (spoken_alone m) us ≡ map (said k) us
alone_all test k m is [] h = refl
alone_all test k m is (u ∷ us) h = let p = both (test u) (list_all test us) h in rw (is u p.0, alone_all test k m is us p.1) refl

split_all : (test : ℕ → Bool) (k : ℕ → Item) (m : Mode) → IsNext test k → IsAlone test k m → (us : List ℕ) → list_all test us ≡ true → split_in m [] us ≡ record { items = map (said k) us; tail = [] }
unfolding split_in
split_all test k m sequences alone us h = by_mode (has_sequences m)
  where
    by_mode : (b : Bool) → cond b (split_after spoken [] us) (record { items = map (spoken_alone m) us; tail = [] }) ≡ record { items = map (said k) us; tail = [] }
    by_mode true = split_after_all test k sequences us h
    by_mode false = rw (alone_all test k m alone us h) refl

-- nothing goes at once
pub none_run : (s : Screen) → IsRun s [] s.page
none_run s = record { written_is = λ t. written-none s t; switch_is = switches-none s }

-- ---- printed units

not_true : (b : Bool) → not b ≡ true → b ≡ false
not_true true h = cc
not_true false h = refl

not_acting : (u : ℕ) → is_control u ≡ false → is_acting u ≡ false
not_acting u h = grind (arith, nat_tests)

not_escape : (u : ℕ) → is_control u ≡ false → (u == 0x1B) ≡ false
not_escape u h = grind (arith, nat_tests)

next_printed : IsNext is_printed items.Print
unfolding next is_front whole
next_printed u h = let c : is_control u ≡ false = not_true (is_control u) h in rw (not_escape u c, not_acting u c, c) refl

alone_printed : (m : Mode) → IsAlone is_printed items.Print m
alone_printed m u h = rw (not_acting u (not_true (is_control u) h)) (plain m.processed)
  where
    plain : (b : Bool) → spoken_by [] (cond (b && false) (items.Control u) (items.Print u)) ≡ said items.Print u
    plain true = refl
    plain false = refl

printed_heard : (p : Page) (t : Told) (us : List ℕ) → fold heard (record { page = p; told = t }) (map (said items.Print) us) ≡ record { page = all_printed p us; told = t }
unfolding heard told_after all_printed
printed_heard p t [] = refl
printed_heard p t (u ∷ us) = printed_heard (effect p (items.Print u)) t us

printed_stay : (us : List ℕ) → any_switch (map (said items.Print) us) ≡ false
unfolding is_switch
printed_stay [] = refl
printed_stay (u ∷ us) = printed_stay us

pub printed_run : (s : Screen) (us : List ℕ) (page : Page) → s.text ≡ [] → list_all is_printed us ≡ true → page ≡ all_printed s.page us → IsRun s us page
unfolding written switches
printed_run s us page none all is = let e = split_all is_printed items.Print s.page.mode next_printed (alone_printed s.page.mode) us all in record {
  written_is = λ t. rw (none, e, is) (rw (printed_heard s.page t us) refl);
  switch_is = rw (none, e) (printed_stay us);
}

-- ---- controls that act

end_not_escape : (u : ℕ) → is_end u ≡ true → (u == 0x1B) ≡ false
end_not_escape u h = grind (arith, nat_tests)

end_acting : (u : ℕ) → is_end u ≡ true → is_acting u ≡ true
end_acting u h = grind (arith, nat_tests)

next_end : IsNext is_end items.Control
unfolding next is_front whole
next_end u h = rw (end_not_escape u h, end_acting u h) refl

alone_end : (m : Mode) → m.processed ≡ true → IsAlone is_end items.Control m
alone_end m on u h = rw (on, end_acting u h) refl

ended_heard : (p : Page) (t : Told) (us : List ℕ) → fold heard (record { page = p; told = t }) (map (said items.Control) us) ≡ record { page = all_ended p us; told = t }
unfolding heard told_after all_ended
ended_heard p t [] = refl
ended_heard p t (u ∷ us) = ended_heard (effect p (items.Control u)) t us

ended_stay : (us : List ℕ) → any_switch (map (said items.Control) us) ≡ false
unfolding is_switch
ended_stay [] = refl
ended_stay (u ∷ us) = ended_stay us

pub ended_run : (s : Screen) (us : List ℕ) (page : Page) → s.text ≡ [] → s.page.mode.processed ≡ true → list_all is_end us ≡ true → page ≡ all_ended s.page us → IsRun s us page
unfolding written switches
ended_run s us page none on all is = let e = split_all is_end items.Control s.page.mode next_end (alone_end s.page.mode on) us all in record {
  written_is = λ t. rw (none, e, is) (rw (ended_heard s.page t us) refl);
  switch_is = rw (none, e) (ended_stay us);
}

-- where they are none, they need not act
pub ended_if : (s : Screen) (units : List ℕ) (n : ℕ) (page : Page) → n ≤ length units → s.text ≡ [] → (0 < n → s.page.mode.processed ≡ true) → list_all is_end (take n units) ≡ true → page ≡ all_ended s.page (take n units) → IsRun s (take n units) page
unfolding all_ended
ended_if s units zero page le none on all is = rw is (none_run s)
ended_if s units (suc n) page le none on all is = ended_run s (take (suc n) units) page none (on (omega arith)) all is

-- ---- several units, as code has them

pub run_some : (s : Screen) (a b : Answered) (units : List ℕ) (n : ℕ) (page : Page) → n ≤ length units → IsRun s (take n units) page → b ≡ record a { room = a.room - n }
    → DoneSome s a (take n units) page s.text b false
run_some s a b units n page le run told_is =
    let long : length (take n units) ≡ n = length-take-le n units le in
    let e = run.written_is a.told in record {
      page_is = sym (ap (λ (g : Stage). g.screen.page) e);
      tail_is = sym (ap (λ (g : Stage). g.screen.text) e);
      told_is = told_is ∙ rw (e, long) refl;
      switch_is = sym run.switch_is;
    }

-- where nothing went at once, the page is as it was
pub run_none : (s : Screen) (t : Told) (units : List ℕ) (n : ℕ) (page : Page) → n ≤ 0 → IsRun s (take n units) page → page ≡ s.page
run_none s t units zero page h run = ap (λ (g : Stage). g.screen.page) (sym (run.written_is t) ∙ written-none s t)
run_none s t units (suc n) page h run = absurd (omega (arith, h))

pub unit_done : (s : Screen) (a b : Answered) (u : ℕ) (page : Page) (tail : List ℕ) (switch : Bool) → Done s a u page tail b switch → DoneSome s a (u ∷ []) page tail b switch
unit_done s a b u page tail switch d = record {
  page_is = d.page_is;
  tail_is = d.tail_is;
  told_is = d.told_is;
  switch_is = d.switch_is;
}

take_none : (n : ℕ) → take {A = ℕ} n [] ≡ []
take_none zero = refl
take_none (suc n) = refl

take-add : (i n : ℕ) (xs : List ℕ) → take (i + n) xs ≡ take i xs ++ take n (drop i xs)
take-add zero n xs = let e : 0 + n ≡ n = omega arith in rw e refl
take-add (suc i) n [] = take_none (suc i + n) ∙ sym (take_none n)
take-add (suc i) n (x ∷ xs) = let e : suc i + n ≡ suc (i + n) = omega arith in rw e (ap (λ zs. x ∷ zs) (take-add i n xs))

-- some more units
pub stands_some : (s : Screen) (a : Answered) (units : List ℕ) (i n : ℕ) (now : Screen) (page : Page) (tail : List ℕ) (answered further : Answered) (b : Bool) → i + n ≤ length units → Stands s a units i now answered
    → DoneSome now answered (take n (take (length units - i) (drop i units))) page tail further b → MoreSome s a units (i + n) (record { page = page; text = tail }) further b
stands_some s a units i n now page tail answered further b le h whole_done =
    let whole_is : take (length units - i) (drop i units) ≡ drop i units = take_all (length units - i) (drop i units) (omega (arith, length-drop i units)) in
    let done = rw whole_is at whole_done in
    let us : List ℕ = take n (drop i units) in
    let long : length us ≡ n = length-take-le n (drop i units) (omega (arith, length-drop i units)) in
    let units_is : take (i + n) units ≡ take i units ++ us = take-add i n units in
    let e : written now answered.told us ≡ written s a.told (take (i + n) units) = rw (h.screen, h.told, units_is) (written-append s a.told (take i units) us) in
    record {
      screen = rw (done.page_is, done.tail_is) (ap (λ (g : Stage). g.screen) e);
      told = done.told_is ∙ rw e (let r : answered.room - length us ≡ a.room - (i + n) = rw (h.told, long) (omega arith) in rw r refl);
      switch = rw (units_is, switches-append s a.told (take i units) us, h.none, ← h.screen) (sym done.switch_is);
    }

pub take_one : (us : List ℕ) → 0 < length us → take 1 us ≡ get_or us 0 0 ∷ []
take_one [] h = absurd (omega arith)
take_one (u ∷ us) h = refl

pub one_done : (s : Screen) (a b : Answered) (units : List ℕ) (before page : Page) (tail : List ℕ) (switch : Bool) → 0 < length units → before ≡ s.page → Done (record s { page = before }) a (get_or units 0 0) page tail b switch → DoneSome s a (take 1 units) page tail b switch
one_done s a b units before page tail switch some same d = let e = rw same at d in rw (take_one units some) (unit_done s a b (get_or units 0 0) page tail switch e)
