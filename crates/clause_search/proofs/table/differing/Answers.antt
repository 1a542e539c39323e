use Rattle.std.proofs.Common.{◌≡◌, Option, Some, None, IfSome, Bor, ap, ◌∙◌}
use Rattle.logic_meaning.specs.Form.{Form}
use Rattle.logic_meaning.specs.Formula.{One}
use Rattle.logic_meaning.specs.Atom.{Atom, Compare, Differs}
use Rattle.normal_atoms.specs.Atoms.{atom_of}
use Rattle.formula_tree.specs.Shapes.{tree_over}
use Rattle.clause_search.proofs.table.differing.Goals as goal

some_to : {X : Type 0} (P Q : X → Type 0) → ((x : X) → P x → Q x) → (o : Option X) → IfSome o P → IfSome o Q
some_to P Q to None h = tt
some_to P Q to (Some x) h = to x h

pub returns-in-One : goal.returns-in-One
returns-in-One c =
    some_to (λ (form : Bor Form). atom_of c.in-One.atom ≡ Compare Differs form.now) _
    (λ form same tree. ap (λ n. tree_over tree n) c.in-One.is ∙ ap (λ (a : Atom). One a) same)
    c.form_that_differs.result c.form_that_differs.ensures
