use Rattle.std.proofs.Common.{◌≡◌, ◌≤◌, ◌<◌, ℕ, List, length, map, sym, subst}
use Rattle.logic_meaning.specs.Every.{Every}
use Rattle.logic_meaning.specs.Some.{EachOf}
use Rattle.logic_meaning.specs.Sizes.{nodes}
use Rattle.logic_meaning.specs.Tree.{Tree, IsFree}
use Rattle.normal_atoms.specs.Atoms.{context_of, atom_of}
use Rattle.logic_meaning.specs.NormalForm.{IsNormal}
use Rattle.logic_meaning.specs.Measure.{size, atom_measure}
use Rattle.shape_theory.specs.Orderly.{IsOrderly}
use Rattle.logic_meaning.specs.Trees.{IsReduced}
use Rattle.shape_theory.specs.Simplifiable.{IsSimplifiable, AreAssumable, EquivalentUnder, simplified_under}
use Rattle.shape_theory.proofs.TreeLaws.{keeps_truth, is_reduced, keeps_shape, brings_no_name, brings_no_node, brings_no_atom}
use Rattle.shape_theory.proofs.Longer.{no_longer}
use Rattle.logic_meaning.specs.Text.{tree_text}
use Rattle.formula_laws.specs.Within.{IsAtomWithin}
use Rattle.formula_store.specs.Nodes.{tree}
use Rattle.normal_atoms.proofs.Meaning.{all_within}
use Rattle.shape_theory.proofs.Limited.{assumable, simplifiable}
use Rattle.formula_store.proofs.Numbers.{numbers_are_within}
use Rattle.theory_simplifier.proofs.Assuming.{orderly_normal, every_normal}
use Rattle.theory_simplifier.proofs.repeat.simplify.Goals as goal

pub repeated_under-requires-clause-formula : goal.repeated_under-requires-clause-formula
repeated_under-requires-clause-formula c = simplifiable (context_of c.args.context) (tree c.args.store.now c.args.id) c.requires.formula (numbers_are_within c.args.store.now c.args.id c.requires.id)

same : (c : goal.In_ok-repeated_under) → tree c.repeated_under.new.store c.in_ok-repeated_under.field-0 ≡ simplified_under (context_of c.args.context) (map atom_of c.args.theory.now) (tree c.args.store.now c.args.id)
same c = c.in_ok-repeated_under.ensures.made.same

-- what holds of the simplified formula holds of the answer
carried : (c : goal.In_ok-repeated_under) (P : Tree → Type 0) → P (simplified_under (context_of c.args.context) (map atom_of c.args.theory.now) (tree c.args.store.now c.args.id)) → P (tree c.repeated_under.new.store c.in_ok-repeated_under.field-0)
carried c P = subst P (sym (same c))

formula_is : (c : goal.In_ok-repeated_under) → IsSimplifiable (context_of c.args.context) (tree c.args.store.now c.args.id)
formula_is c = simplifiable (context_of c.args.context) (tree c.args.store.now c.args.id) c.requires.formula (numbers_are_within c.args.store.now c.args.id c.requires.id)

assumed_are : (c : goal.In_ok-repeated_under) → AreAssumable (context_of c.args.context) (map atom_of c.args.theory.now)
assumed_are c = assumable (context_of c.args.context) (map atom_of c.args.theory.now) c.requires.theory (all_within c.args.theory.now c.requires.well_formed)

orderly : (c : goal.In_ok-repeated_under) → IsOrderly (IsNormal (context_of c.args.context)) (simplified_under (context_of c.args.context) (map atom_of c.args.theory.now) (tree c.args.store.now c.args.id))
orderly c = orderly_normal (context_of c.args.context) (simplified_under (context_of c.args.context) (map atom_of c.args.theory.now) (tree c.args.store.now c.args.id)) (keeps_shape (context_of c.args.context) (map atom_of c.args.theory.now) (tree c.args.store.now c.args.id) (formula_is c))

pub returns-clause-simplified : goal.returns-clause-simplified
returns-clause-simplified c = same c

pub returns-clause-truth : goal.returns-clause-truth
returns-clause-truth c = carried c (λ g. EquivalentUnder (context_of c.args.context) (map atom_of c.args.theory.now) g (tree c.args.store.now c.args.id)) (keeps_truth (context_of c.args.context) (map atom_of c.args.theory.now) (tree c.args.store.now c.args.id) (assumed_are c) (formula_is c))

pub returns-clause-reduced : goal.returns-clause-reduced
returns-clause-reduced c = carried c (λ g. IsReduced (context_of c.args.context) g (map atom_of c.args.theory.now)) (is_reduced (context_of c.args.context) (map atom_of c.args.theory.now) (tree c.args.store.now c.args.id) (assumed_are c) (formula_is c))

pub returns-clause-shape : goal.returns-clause-shape
returns-clause-shape c = carried c (IsOrderly (IsNormal (context_of c.args.context))) (orderly c)

pub returns-clause-normal : goal.returns-clause-normal
returns-clause-normal c = carried c (Every (IsNormal (context_of c.args.context))) (every_normal (context_of c.args.context) (simplified_under (context_of c.args.context) (map atom_of c.args.theory.now) (tree c.args.store.now c.args.id)) (orderly c))

pub returns-clause-names : goal.returns-clause-names
returns-clause-names c = carried c (λ g. (x : ℕ) → IsFree g x → IsFree (tree c.args.store.now c.args.id) x) (brings_no_name (context_of c.args.context) (map atom_of c.args.theory.now) (tree c.args.store.now c.args.id) (formula_is c))

pub returns-clause-nodes : goal.returns-clause-nodes
returns-clause-nodes c = carried c (λ g. nodes g ≤ nodes (tree c.args.store.now c.args.id)) (brings_no_node (context_of c.args.context) (map atom_of c.args.theory.now) (tree c.args.store.now c.args.id) (formula_is c))

pub returns-clause-atoms : goal.returns-clause-atoms
returns-clause-atoms c = carried c (λ g. size atom_measure g ≤ size atom_measure (tree c.args.store.now c.args.id)) (brings_no_atom (context_of c.args.context) (map atom_of c.args.theory.now) (tree c.args.store.now c.args.id) (formula_is c))

pub returns-clause-text : goal.returns-clause-text
returns-clause-text c =
    carried c (λ g. (names : List (List ℕ)) → EachOf (λ name. 0 < length name) names → Every (IsAtomWithin (length names)) (tree c.args.store.now c.args.id) → length (tree_text names g) ≤ length (tree_text names (tree c.args.store.now c.args.id)))
    (λ names named h. no_longer names named (context_of c.args.context) (map atom_of c.args.theory.now) (tree c.args.store.now c.args.id) (formula_is c) h)
