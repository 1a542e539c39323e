-- The laws of simplification for resolved formulas.
use Rattle.std.proofs.Common.{◌<◌, arith, nat_eq}
use Rattle.logic_meaning.specs.Point.{Of, move}
use Rattle.logic_meaning.specs.Atom.{Says, Mentions}
use Rattle.formula_laws.proofs.Same.{atom_alike}
use Rattle.logic_meaning.specs.NormalForm.{negated_normal}
use Rattle.logic_meaning.specs.Merging.{IsKept}
use Rattle.normal_atoms.specs.Computed.{IsNormalWithin}
use Rattle.shape_theory.specs.AtomKit.{atom_kit}
use Rattle.logic_meaning.specs.Contained.{contains}
use Rattle.logic_meaning.specs.Measure.{atom_measure}
use Rattle.shape_theory.specs.NodeMeasure.{node_measure}
use Rattle.logic_meaning.specs.Trees.{LeavesOpen}
use Rattle.shape_theory.specs.Simplifiable.{simplified_under}
use Rattle.shape_theory.specs.Laws.{SimplifyingKeepsTruth, SimplifiedIsReduced, SimplifyingKeepsShape, SimplifyingBringsNoName, SimplifyingQuantifiesNoName, SimplifyingBringsNoQuantifier, SimplifyingBringsNoNode, SimplifyingBringsNoAtom}
use Rattle.shape_theory.proofs.Nodes.{node_laws, atom_laws, nodes_size}
use Rattle.shape_theory.proofs.Simplified.{simplified_within, simplified_smaller, simplified_reduced, simplified_true}
use Rattle.shape_theory.proofs.Shape.{Keeps, Undecided}
use Rattle.shape_theory.proofs.Bound.{simplified_bound, free_bound, orderly_free}
use Rattle.shape_theory.proofs.Wider.{wider}
use Rattle.shape_theory.proofs.AtomLaws.{merges_within, names_told, merges_itself, negation_within, truthful, kept_so, open_so}

pub keeps_truth : SimplifyingKeepsTruth
keeps_truth c ks f k h = simplified_true (atom_kit c) (IsNormalWithin c) Mentions (merges_within c) (names_told c) Says (move nat_eq) c (Of c) (truthful c) f ks h k

pub keeps_shape : SimplifyingKeepsShape
keeps_shape c ks f h = (simplified_within (atom_kit c) (IsNormalWithin c) Mentions (merges_within c) (names_told c) f ks h).0

pub brings_no_name : SimplifyingBringsNoName
brings_no_name c ks f h = (simplified_within (atom_kit c) (IsNormalWithin c) Mentions (merges_within c) (names_told c) f ks h).1

pub is_reduced : SimplifiedIsReduced
is_reduced c ks f k h =
    wider (IsNormalWithin c)
    (Keeps (atom_kit c) (IsNormalWithin c) Mentions (merges_within c) (names_told c) (merges_itself c) atom_alike) (IsKept c)
    (Undecided (atom_kit c) (IsNormalWithin c) Mentions (merges_within c) (names_told c) (merges_itself c) atom_alike) (LeavesOpen c)
    negated_normal contains Mentions (negation_within c) (kept_so c) (open_so c)
    (simplified_under c ks f) ks (keeps_shape c ks f h) k
    (simplified_reduced (atom_kit c) (IsNormalWithin c) Mentions (merges_within c) (names_told c) (merges_itself c) atom_alike f ks h)

pub brings_no_node : SimplifyingBringsNoNode
brings_no_node c ks f h =
    let a = nodes_size (IsNormalWithin c) f h in
    let b = nodes_size (IsNormalWithin c) (simplified_under c ks f) (keeps_shape c ks f h) in
    let l = simplified_smaller (atom_kit c) (IsNormalWithin c) Mentions (merges_within c) (names_told c) node_measure 1 (node_laws (atom_kit c) (IsNormalWithin c)) f ks h in
    omega arith

pub brings_no_atom : SimplifyingBringsNoAtom
brings_no_atom c ks f h = simplified_smaller (atom_kit c) (IsNormalWithin c) Mentions (merges_within c) (names_told c) atom_measure 0 (atom_laws (atom_kit c) (IsNormalWithin c)) f ks h

pub quantifies_no_name : SimplifyingQuantifiesNoName
quantifies_no_name c ks f n h = simplified_bound (atom_kit c) (λ x. x < n) f ks h

pub brings_no_quantifier : SimplifyingBringsNoQuantifier
brings_no_quantifier c ks f h k = orderly_free (IsNormalWithin c) (simplified_under c ks f) (keeps_shape c ks f h) (simplified_bound (atom_kit c) (λ x. ⊥) f ks (free_bound f k))
