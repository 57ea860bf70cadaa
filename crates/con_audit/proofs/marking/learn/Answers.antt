-- The marks go on with the page, and the flags with both.
use Rattle.std.proofs.Common.{◌∙◌, sym, ap}
use Rattle.std.specs.Prelude.{option_to_list}
use Rattle.con_term.specs.Page.{Page}
use Rattle.con_vtgram.specs.State.{item_of}
use Rattle.con_audit.specs.Known.{Known, marked, all_learned}
use Rattle.con_audit.specs.Flags.{known_by}
use Rattle.con_audit.proofs.MarkLemmas.{tied_length, known_next}
use Rattle.con_audit.proofs.marking.learn.Goals as goal

pub returns-clause-known : goal.returns-clause-known
returns-clause-known c =
    let s = c.args.page.now in let m = c.args.marks.now in let n = c.mark.new.marks in
    let o = item_of c.args.found c.args.unit c.args.csi.now in
    let tied = c.mark.ensures s (tied_length s m c.args.flags c.is_page.ensures c.is_page-2.ensures c.requires.tied) c.requires.tied in
    ap (λ f. known_by n f) c.next_flags.ensures ∙ known_next s m n c.args.flags o tied

pub returns-clause-tied : goal.returns-clause-tied
returns-clause-tied c =
    let s = c.args.page.now in let m = c.args.marks.now in let n = c.mark.new.marks in
    let o = item_of c.args.found c.args.unit c.args.csi.now in
    let tied = c.mark.ensures s (tied_length s m c.args.flags c.is_page.ensures c.is_page-2.ensures c.requires.tied) c.requires.tied in
    let k = ap (λ f. known_by n f) c.next_flags.ensures ∙ known_next s m n c.args.flags o tied in
    tied ∙ ap (λ (t : Page). marked t (all_learned s (known_by m c.args.flags) (option_to_list o))) (sym c.apply.ensures) ∙ ap (λ (q : Known). marked c.apply.new.self q) (sym k)
