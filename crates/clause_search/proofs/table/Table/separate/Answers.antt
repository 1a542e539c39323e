use Rattle.std.proofs.Common.{◌≡◌, ℕ, List, [], ◌∷◌, get_or, ap, sym, ◌∙◌, subst, refl}
use Rattle.logic_meaning.specs.Form.{Form}
use Rattle.logic_meaning.specs.Formula.{One}
use Rattle.logic_meaning.specs.Atom.{Compare, Differs, Below, Above}
use Rattle.logic_meaning.specs.Tree.{Tree}
use Rattle.formula_tree.specs.declared.shape.Shape.{Shape}
use Rattle.formula_store.specs.declared.id.FormulaId.{FormulaId}
use Rattle.formula_store.specs.Nodes.{tree}
use Rattle.clause_theory.specs.declared.clause.Literal.{Literal}
use Rattle.clause_theory.specs.declared.clause.Clause.{Clause}
use Rattle.clause_search.specs.Variables.{StandsFor, StandsAmong}
use Rattle.clause_search.specs.Soundness.{Question, IsLaw}
use Rattle.clause_search.specs.Tables.{Grows}
use Rattle.clause_search.proofs.NodeLaws.{holds_at, fails_at, node_stands}
use Rattle.clause_search.proofs.Solving.{separate_law}
use Rattle.clause_search.proofs.Begun.{grows_then, grows_by, stands_still}
use Rattle.clause_search.proofs.table.Table.separate.Goals as goal

pub returns : goal.returns
returns c =
    let nodes = c.args.places.now.store.now in
    let ids = c.args.places.now.ids.now in
    let place = c.args.place in
    let context = c.args.context in
    let t0 = c.args.self.now in
    let t1 = c.add.new.self in
    let t2 = c.add-2.new.self in
    let form = c.in-Some.form.now in
    let i = c.in_ok-below.below in
    let j = c.in_ok-above.above in
    let low : Tree = One (Compare Below form) in
    let high : Tree = One (Compare Above form) in
    let first : Grows nodes context t0 t1 = c.in_ok-below.ensures.grown nodes in
    let second : Grows nodes context t1 t2 = c.in_ok-above.ensures.grown nodes in
    let both = grows_then nodes context t0 t1 t2 first second in
    let below1 : StandsAmong t1.variables.items i low = subst (λ (g : Form). StandsAmong t1.variables.items i (One (Compare Below g))) c.in_ok-copy.ensures.same c.in_ok-below.ensures.place in
    let below = stands_still t1.variables.items t2.variables.items i low second.kept below1 in
    let above : StandsAmong t2.variables.items j high = subst (λ (g : Form). StandsAmong t2.variables.items j (One (Compare Above g))) c.in_ok-copy-2.ensures.same c.in_ok-above.ensures.place in
    let same : tree nodes (get_or ids place (record { number = 0 })) ≡ One (Compare Differs form) = c.shape.ensures.tree ∙ c.in-Some.ensures (tree nodes) in
    let at = node_stands nodes ids place c.requires.place in
    let differs = λ (f : ℕ → Tree) (stands : StandsFor nodes t2.variables.items f). at f (c.requires.nodes f (both.kept nodes f stands)) ∙ same in
    let literals : c.in_ok-literals.literals.items ≡ fails_at place ∷ holds_at i ∷ holds_at j ∷ [] =
    c.in_ok-literals.ensures.items
    ∙ ap (λ (l : Literal). l ∷ c.holds.result ∷ c.holds-2.result ∷ []) c.fails.ensures
    ∙ ap (λ (l : Literal). fails_at place ∷ l ∷ c.holds-2.result ∷ []) c.holds.ensures
    ∙ ap (λ (l : Literal). fails_at place ∷ holds_at i ∷ l ∷ []) c.holds-2.ensures in
    let k : Clause = record { literals = c.in_ok-literals.literals } in
    let law = λ (q : Question) (here : q.nodes ≡ nodes).
    subst (IsLaw q t2.variables.items) (sym literals)
    (separate_law q t2.variables.items place i j form
    (λ f stands. differs f (subst (λ (ns : List (Shape FormulaId)). StandsFor ns t2.variables.items f) here stands))
    below above) in
    grows_then nodes context t0 t2 _ both (grows_by nodes context t2 _ k refl c.in_ok-push.ensures.items law)
