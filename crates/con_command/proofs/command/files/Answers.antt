use Rattle.std.proofs.Common.{◌≡◌, ◌∙◌, codes, refl}
use Rattle.clap.specs.Words.{found_of}
use Rattle.clap.proofs.WalkLemmas.{first_value-rows}
use Rattle.con_command.proofs.command.files.Goals as goal

four : {A : Type 0} (a b c d k l m n : A) → a ≡ k → b ≡ l → c ≡ m → d ≡ n → ◌≡◌ {A = A × A × A × A} (a, b, c, d) (k, l, m, n)
four a b c d k l m n p q r s = rw (p, q, r, s) refl

pub returns : goal.returns
returns c =
    let found = found_of c.args.inner.now in
    four _ _ _ _ _ _ _ _ (c.get_str.ensures ∙ first_value-rows found (codes "session")) (c.get_str-2.ensures ∙ first_value-rows found (codes "link"))
    (c.get_str-3.ensures ∙ first_value-rows found (codes "stream")) (c.get_str-4.ensures ∙ first_value-rows found (codes "report"))
