-- What is told of a last line is one of the last lines there are.
use Rattle.std.proofs.Common.{◌≡◌, refl, sym, subst, ℕ, ◌<◌, List, Option, Some, None, Bool, true, false}
use Rattle.std.specs.Prelude.{IfSome, ◌==◌, ◌||◌, option_map, option_and_then, if◌then◌else◌, codes}
use Rattle.std.specs.Str.{bytes_eq, IsUtf8}
use Rattle.std.proofs.lemmas.Bool.{cond_both, eqb-true}
use Rattle.std.proofs.lemmas.Slice.Eq.{bytes_eq-Decides}
use Rattle.con_units.specs.declared.view.FrameFault.{FrameFault}
use Rattle.serde_json.specs.Data.{Data, Items, no_items, item}
use Rattle.serde_json.specs.Find.{as_str, as_array}
use Rattle.con_lines.specs.Ending.{Ending, alone, worded, at_frame, IsEnding, done, no_memory, usage, document, link, terminal, missing, failed, too_long, mirror, frame}
use Rattle.con_lines.specs.declared.last.Last.{Last}
use Rattle.con_lines.specs.Last.{last_of, TextFits}
use Rattle.con_lines.specs.Told.{length_in, alone_in, worded_in, kind_in, ending_items, ending_in}
use Rattle.con_lines.proofs.TablesFit.{and_then_keeps}
use Rattle.con_lines.proofs.TellsFit.{any, length_fits}

-- it is one, where its text is UTF-8
abbrev Is : Ending → Type 0
Is e = TextFits e → IsEnding e

alone_is : (n : ℕ) → IfSome (alone_in n) Is
alone_is n = cond_both (n == 0) (Some (alone 0)) _ (λ o. IfSome o Is) (λ h t. done) (λ h. cond_both (n == 9) (Some (alone 9)) None (λ o. IfSome o Is) (λ h t. no_memory) (λ h. tt))

same : (text word : List ℕ) → bytes_eq text word ≡ true → text ≡ word
same text word h = (bytes_eq-Decides text word).0 h

-- the status and the text of a row
row : (n m : ℕ) (text word : List ℕ) → (n == m) ≡ true → bytes_eq text word ≡ true → IsEnding (worded m word) → IsEnding (worded n text)
row n m text word h k e = rw (eqb-true n m h, same text word k) e

if_row : (b : Bool) (n : ℕ) (text : List ℕ) → (b ≡ true → IsUtf8 text → IsEnding (worded n text)) → IfSome (if b then Some (worded n text) else None) Is
if_row b n text h = cond_both b (Some (worded n text)) None (λ o. IfSome o Is) (λ k t. h k t) (λ k. tt)

either : (a b : Bool) (P : Type 0) → (a || b) ≡ true → (a ≡ true → P) → (b ≡ true → P) → P
either true b P h f g = f refl
either false b P h f g = g h

never : (P : Type 0) → false ≡ true → P
never P h = absurd (cc)

worded_is : (n : ℕ) (text : List ℕ) → IfSome (worded_in n text) Is
worded_is n text =
    let Q : Bool → Type 0 = λ b. IfSome (if b then Some (worded n text) else None) Is in
    cond_both (n == 2) (bytes_eq text (codes "usage")) _ Q (λ h. if_row _ n text (λ k u. row n 2 text (codes "usage") h k usage))
    (λ _. cond_both (n == 3) true _ Q (λ h. λ u. rw (eqb-true n 3 h) (document text u))
    (λ _. cond_both (n == 4) (bytes_eq text (codes "link")) _ Q (λ h. if_row _ n text (λ k u. row n 4 text (codes "link") h k link))
    (λ _. cond_both (n == 5) (bytes_eq text (codes "term")) _ Q (λ h. if_row _ n text (λ k u. row n 5 text (codes "term") h k terminal))
    (λ _. cond_both (n == 7) (bytes_eq text (codes "missing") || bytes_eq text (codes "failed")) _ Q
    (λ h. if_row _ n text (λ k u. either (bytes_eq text (codes "missing")) (bytes_eq text (codes "failed")) (IsEnding (worded n text)) k (λ k. row n 7 text (codes "missing") h k missing) (λ k. row n 7 text (codes "failed") h k failed)))
    (λ _. cond_both (n == 10) (bytes_eq text (codes "too long")) _ Q (λ h. if_row _ n text (λ k u. row n 10 text (codes "too long") h k too_long))
    (λ _. cond_both (n == 12) (bytes_eq text (codes "mirror")) false Q (λ h. if_row _ n text (λ k u. row n 12 text (codes "mirror") h k mirror)) (λ _. tt)))))))

frame_is : (place : ℕ) (o : Option FrameFault) → place < 18446744073709551616 → IfSome (option_map (at_frame place) o) Is
frame_is place None p = tt
frame_is place (Some kind) p = λ t. frame place kind p

items_are : (ds : Items) → IfSome (ending_items ds) Is
items_are no_items = tt
items_are (item w no_items) = tt
items_are (item w (item s no_items)) = and_then_keeps (length_in s) alone_in (λ _. Unit {0}) Is (any (length_in s)) (λ n p. alone_is n)
items_are (item w (item s (item t no_items))) = and_then_keeps (length_in s) _ (λ _. Unit {0}) Is (any (length_in s)) (λ n p. and_then_keeps (as_str t) (worded_in n) (λ _. Unit {0}) Is (any (as_str t)) (λ text q. worded_is n text))
items_are (item w (item s (item p (item k no_items)))) = and_then_keeps (length_in p) _ (λ n. n < 18446744073709551616) Is (length_fits p) (λ place q. frame_is place (option_and_then kind_in (as_str k)) q)
items_are (item w (item s (item p (item k (item more ds))))) = tt

some_is : (d : Data) → IfSome (ending_in d) Is
some_is d = and_then_keeps (as_array d) ending_items (λ _. Unit {0}) Is (any (as_array d)) (λ ds p. items_are ds)

pub ending_is : (d : Data) (e : Ending) → ending_in d ≡ Some e → TextFits e → IsEnding e
ending_is d e h = subst (λ o. IfSome o Is) h (some_is d)

-- and so is a last line that was read
pub some_ending : (o : Option Last) (d : Data) → option_map last_of o ≡ ending_in d → IfSome o (λ l. TextFits (last_of l)) → IfSome o (λ l. IsEnding (last_of l))
some_ending None d e t = tt
some_ending (Some l) d e t = ending_is d (last_of l) (sym e) t
