use Rattle.std.proofs.Common.{◌≡◌, ℕ, List, Bool, subst, sym, ap, ◌∙◌}
use Rattle.std.specs.List.{fold}
use Rattle.logic_meaning.specs.Tree.{Tree}
use Rattle.normal_atoms.specs.Atoms.{context_of}
use Rattle.written_syntax.specs.declared.tree.Formula.{Formula}
use Rattle.written_syntax.specs.CodeTrees.{formula_tree, named_tree}
use Rattle.formula_tree.specs.Makers.{IsMade}
use Rattle.logic_meaning.specs.Names.{with_name}
use Rattle.language_meaning.specs.NamesAfter.{names_after}
use Rattle.language_meaning.specs.Resolving.{resolve, formula_variables}
use Rattle.formula_resolving.specs.BoundIds.{answered_trees}
use Rattle.formula_resolving.specs.Numbering.{IsNumbered, some_bound}
use Rattle.formula_resolving.specs.Parts.{AreTold}
use Rattle.formula_resolving.proofs.Answered.{same_bound}
use Rattle.formula_resolving.proofs.FirstCause.{unmet}
use Rattle.formula_resolving.proofs.HoleNames.{variables_named}
use Rattle.formula_resolving.proofs.Refusing.{accepted, refused}
use Rattle.formula_resolving.proofs.resolving.resolved.Goals as goal

-- names in holes are no variables, and the name of a variable is that of no answer
module _ {Id : Type 0} (tree : Id → Tree) (inner : List Id) (bound : List (List ℕ × Id)) (f : Formula) (old new : List (List ℕ)) (some : Bool) (h : IsNumbered bound (formula_variables (formula_tree f)) old new some) where
  numbered_names : new ≡ names_after old (named_tree 0 f)
  numbered_names = h.names ∙ ap (λ xs. fold with_name old xs) (sym (variables_named f 0))

  numbered_met : some ≡ some_bound (answered_trees tree inner bound) (formula_variables (named_tree 0 f))
  numbered_met = h.met ∙ same_bound tree inner bound (formula_variables (formula_tree f)) h.short ∙ ap (λ xs. some_bound (answered_trees tree inner bound) xs) (sym (variables_named f 0))

pub unreachable-requires : goal.unreachable-requires
unreachable-requires g c = unmet c.in-Ok.named c.in-Ok-read_formula.part.causes c.in-Ok-read_formula.part.height c.in-None.ensures (c.in-Ok-read_formula.ensures.read.built.left_out c.in-None-id.is)

pub returns-in-Some-clause-refused : goal.returns-in-Some-clause-refused
returns-in-Some-clause-refused g c =
    let C = context_of c.args.context in
    let tree = g.M.Maker.tree c.args.maker.now in
    let b = answered_trees tree c.args.inner.now c.args.bound.now in
    let f = named_tree 0 c.args.formula.now in
    let part = c.in-Ok-read_formula.part in
    refused C b c.args.names.now f part.causes c.in-Ok.named part.height
    (subst (λ (n : List (List ℕ)). AreTold C b n f part.causes) (numbered_names tree c.args.inner.now c.args.bound.now c.args.formula.now _ _ _ c.in-Ok.ensures.numbered) c.in-Ok-read_formula.ensures.read.causes)
    (numbered_met tree c.args.inner.now c.args.bound.now c.args.formula.now _ _ _ c.in-Ok.ensures.numbered) c.in-Ok-read_formula.ensures.read.built.height c.in-Some.cause c.in-Some.ensures

pub returns-in-Some-id-clause-accepted : goal.returns-in-Some-id-clause-accepted
returns-in-Some-id-clause-accepted g c =
    let C = context_of c.args.context in
    let tree = g.M.Maker.tree c.args.maker.now in
    let b = answered_trees tree c.args.inner.now c.args.bound.now in
    let f = named_tree 0 c.args.formula.now in
    let part = c.in-Ok-read_formula.part in
    accepted C b c.args.names.now f part.causes c.in-Ok.named part.height
    (subst (λ (n : List (List ℕ)). AreTold C b n f part.causes) (numbered_names tree c.args.inner.now c.args.bound.now c.args.formula.now _ _ _ c.in-Ok.ensures.numbered) c.in-Ok-read_formula.ensures.read.causes)
    (numbered_met tree c.args.inner.now c.args.bound.now c.args.formula.now _ _ _ c.in-Ok.ensures.numbered) c.in-Ok-read_formula.ensures.read.built.height c.in-None.ensures

pub returns-in-Some-id-clause-names : goal.returns-in-Some-id-clause-names
returns-in-Some-id-clause-names g c = numbered_names (g.M.Maker.tree c.args.maker.now) c.args.inner.now c.args.bound.now c.args.formula.now _ _ _ c.in-Ok.ensures.numbered

pub returns-in-Some-id-clause-resolved : goal.returns-in-Some-id-clause-resolved
returns-in-Some-id-clause-resolved g c =
    let C = context_of c.args.context in
    let tree = g.M.Maker.tree c.args.maker.now in
    subst (λ (n : List (List ℕ)). IsMade (g.M.Maker.is_id c.read_formula.new.maker) (g.M.Maker.tree c.read_formula.new.maker) c.in-Some-id.id (resolve C (answered_trees tree c.args.inner.now c.args.bound.now) n (named_tree 0 c.args.formula.now)))
    (numbered_names tree c.args.inner.now c.args.bound.now c.args.formula.now _ _ _ c.in-Ok.ensures.numbered) (c.in-Ok-read_formula.ensures.read.built.made c.in-Some-id.id c.in-Some-id.is)
