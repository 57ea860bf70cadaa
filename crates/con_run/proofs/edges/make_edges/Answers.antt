use Rattle.std.proofs.Common.{ℕ, ◌<◌, ◌≡◌, ◌∷◌, List, All, subst, sym, ◌∙◌, refl, arith}
use Rattle.con_book.specs.Laws.{has_pass-above}
use Rattle.con_book.specs.Passes.{view_of}
use Rattle.con_run.specs.Crews.{down_from}
use Rattle.con_run.proofs.Beginning.{below_painter, below_terminal, edges_begin}
use Rattle.con_run.proofs.edges.make_edges.Goals as goal

pub new-requires-clause-fresh : goal.new-requires-clause-fresh
new-requires-clause-fresh c =
    let few : c.args.clients < 1000 = omega (arith, c.requires.few) in
    has_pass-above 1000 (view_of c.args.opening.now) (omega arith)
    (subst (λ (l : List ℕ). All (λ a. a < 1000) l) (sym c.requires.opening.made') (below_terminal c.args.clients few))

pub new-requires-2-clause-fresh : goal.new-requires-2-clause-fresh
new-requires-2-clause-fresh c =
    let few : c.args.clients < 1000 = omega (arith, c.requires.few) in
    let made' : (view_of c.new.new.opening).made ≡ 1000 ∷ down_from c.args.clients = (λ i. (c.new.ensures.opening.1 i).made)
    ∙ (λ i. 1000 ∷ c.requires.opening.made' i) in
    has_pass-above 1001 (view_of c.new.new.opening) (omega arith) (subst (λ (l : List ℕ). All (λ a. a < 1001) l) (sym made') (below_painter c.args.clients few))

pub returns-clause-go : goal.returns-clause-go
returns-clause-go c = λ session racks before old e.
    edges_begin session racks before old _ _ _ _ c.new.ensures.history.1 c.requires.side.0 refl c.requires.side.1 c.new-2.ensures.history.1
    c.new-3.ensures.items refl c.in_ok-put.ensures.put.0 c.in_ok-put.ensures.take.0 refl refl
