-- What is left of a formula of the store once it is simplified under the assumptions.
use Rattle.std.proofs.Common.{◌≡◌, List, Option, Some, None, subst, sym}
use Rattle.std.specs.Prelude.{MatchOption}
use Rattle.exact_numbers.specs.Limit.{InLimit}
use Rattle.logic_meaning.specs.Context.{Context}
use Rattle.logic_meaning.specs.Formula.{No}
use Rattle.logic_meaning.specs.Atom.{Atom, Compare, Congruent, form_of}
use Rattle.logic_meaning.specs.Numbers.{IsAtomInLimit}
use Rattle.logic_meaning.specs.Tree.{Tree, TrueAt}
use Rattle.formula_laws.proofs.EachAtom.{every_map}
use Rattle.formula_tree.specs.declared.shape.Shape.{Shape}
use Rattle.formula_store.specs.declared.id.FormulaId.{FormulaId}
use Rattle.formula_store.specs.Nodes.{tree, IsId}
use Rattle.formula_store.proofs.Numbers.{numbers_are_within}
use Rattle.case_theory.specs.Simplified.{HasConstantsWithin}
use Rattle.branch_pruning.specs.Pruned.{IsPrunedTo}
use Rattle.branch_rounds.specs.Worked.{IsLeft, IsWorkedTo}

constant_within : (a : Atom) → IsAtomInLimit a → InLimit (form_of a).constant
constant_within (Compare r f) h = h.0
constant_within (Congruent b m f) h = h.1.0

pub constants_within : (nodes : List (Shape FormulaId)) (id : FormulaId) → IsId nodes id → HasConstantsWithin (tree nodes id)
constants_within nodes id i = every_map IsAtomInLimit (λ (a : Atom). InLimit (form_of a).constant) constant_within (tree nodes id) (numbers_are_within nodes id i)

-- what is pruned is worked on
pub worked_to : {c : Context} {ks : List Atom} {f : Tree} {nodes : List (Shape FormulaId)} {id : FormulaId} → IsPrunedTo c ks f nodes id → IsWorkedTo c ks f nodes id
worked_to h = record { is = h.is; worked = h.worked }

-- nothing is left only of what is never true
pub left_is : (c : Context) (ks : List Atom) (f : Tree) (nodes : List (Shape FormulaId)) (id : FormulaId) (r : Option FormulaId) → IsPrunedTo c ks f nodes id → MatchOption r (tree nodes id ≡ No) (λ l. l ≡ id) → IsLeft c ks f nodes r
left_is c ks f nodes id None h m = λ p o t u. subst (λ g. TrueAt c g p) m ((h.worked.equivalent p o t).0 u)
left_is c ks f nodes id (Some l) h m = subst (λ k. IsLeft c ks f nodes (Some k)) (sym m) h
