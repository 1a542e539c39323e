-- Direct formulas: their block and matrix, what folding leaves of the matrix, and the size of what is put in and simplified.
use Rattle.std.proofs.Common.{◌≡◌, ℕ, suc, zero, ◌*◌, ◌≤◌, Bool, true, ◌&&◌, Some, List, [], ◌∷◌, refl, ap, sym, ◌∙◌, subst, arith}
use Rattle.std.specs.Prelude.{nat_eq}
use Rattle.std.proofs.Math.IntN.{ℤ, pos, negsuc}
use Rattle.logic_meaning.specs.Answer.{Place, Exact}
use Rattle.logic_meaning.specs.Atom.{Atom, Compare, Congruent, form_of}
use Rattle.logic_meaning.specs.Context.{Fields}
use Rattle.logic_meaning.specs.Every.{EveryOf}
use Rattle.logic_meaning.specs.Fold.{put_together, all_pieces, from_pieces, folded, all_folded}
use Rattle.logic_meaning.specs.Form.{Form, coefficient, without}
use Rattle.logic_meaning.specs.Formula.{Yes, No, One, And, Ex, none, also}
use Rattle.logic_meaning.specs.Limits.{each, combination_within}
use Rattle.formula_laws.proofs.Same.{both_true}
use Rattle.nnf_trees.specs.Placed.{all_within}
use Rattle.nnf_trees.proofs.ResultLaws.{within_once}
use Rattle.branch_rounds.specs.FromBranchPoints.{conjuncts}
use Rattle.logic_meaning.specs.Shape.{matrix_of, block_of}
use Rattle.logic_meaning.specs.Plain.{ArePlain}
use Rattle.logic_meaning.specs.Sizes.{nodes}
use Rattle.logic_meaning.specs.Some.{EachOf}
use Rattle.logic_meaning.specs.Tree.{Tree, Trees}
use Rattle.logic_meaning.specs.declared.junction.Junction.TheVariants.{Conjunction}
use Rattle.logic_meaning.specs.declared.quantifier.Quantifier.TheVariants.{Exists}
use Rattle.logic_meaning.specs.Atoms.{atoms_of}
use Rattle.logic_meaning.specs.BothTheories.{IsPlaceIn, raw_atom}
use Rattle.logic_meaning.specs.Overflow.{ModulusWithin}
use Rattle.logic_meaning.specs.Steps.{atom_at, normalised, result_at}
use Rattle.logic_meaning.specs.Substitution.{where_zero}
use Rattle.elimination_theory.proofs.Simple.{IsSimple}
use Rattle.elimination_theory.proofs.WithinTests.{within_tests, combination_tests}
use Rattle.logic_meaning.specs.NormalForm.{IsNormal, normal_atom}
use Rattle.normal_atoms.proofs.NormalLaws.{normal_in}
use Rattle.logic_meaning.specs.Cases.{case_sign, case_matrix, case_names}
use Rattle.logic_meaning.specs.StopLimits.{modulus_within, numbers_within, normal_within, atom_within}
use Rattle.logic_meaning.specs.LimitsWithin.{ConstantWithin, AtomFormsWithin}
use Rattle.logic_meaning.specs.Reference.{normal_tree, turned}
use Rattle.elimination_theory.proofs.Tidy.{atom_at_simple}
use Rattle.logic_meaning.specs.Direct.{AreAtoms, first_equation, direct_answer}
use Rattle.logic_meaning.specs.Roots.{IsRootOf, IsRoot}

-- ---- the block

-- it is of one name, over the conjunction
pub matrix_is : (f : Tree) (x : ℕ) (fs : Trees) → normal_tree f ≡ Ex x (And fs) → case_matrix f ≡ And fs
matrix_is f x fs e = ap (λ g. matrix_of nat_eq (turned (case_sign g) g) Exists []) e

pub names_are : (f : Tree) (x : ℕ) (fs : Trees) → normal_tree f ≡ Ex x (And fs) → case_names f ≡ x ∷ []
names_are f x fs e = ap (λ g. block_of nat_eq (turned (case_sign g) g) Exists []) e

-- ---- the matrix

pub atoms_plain : (fs : Trees) → AreAtoms fs → ArePlain fs
atoms_plain none h = tt
atoms_plain (also (One a) fs) h = (tt, atoms_plain fs h)
atoms_plain (also f fs) h = absurd h

atom_pieces : (fs : Trees) → AreAtoms fs → all_pieces Conjunction (all_folded fs) ≡ Some fs
atom_pieces none h = refl
atom_pieces (also (One a) fs) h = ap (put_together (Some (also (One a) none))) (atom_pieces fs h)
atom_pieces (also f fs) h = absurd h

-- what is left where it is folded: the conjunction itself, or its only member
abbrev kept : Trees → Tree
kept fs = from_pieces Conjunction (Some fs)

folded_is : (fs : Trees) → AreAtoms fs → folded (And fs) ≡ kept fs
folded_is fs h = ap (from_pieces Conjunction) (atom_pieces fs h)

kept_nodes : (fs : Trees) → AreAtoms fs → nodes (kept fs) ≤ nodes (And fs)
kept_nodes none h = omega arith
kept_nodes (also (One a) none) h = omega arith
kept_nodes (also (One a) (also g gs)) h = omega arith
kept_nodes (also f fs) h = absurd h

pub folded_nodes : (fs : Trees) → AreAtoms fs → nodes (folded (And fs)) ≤ nodes (And fs)
folded_nodes fs h = subst (λ g. nodes g ≤ nodes (And fs)) (sym (folded_is fs h)) (kept_nodes fs h)

-- its conjuncts are the members, of which there are some
kept_conjuncts : (f : Tree) (fs : Trees) → AreAtoms (also f fs) → conjuncts (kept (also f fs)) ≡ also f fs
kept_conjuncts (One a) none h = refl
kept_conjuncts (One a) (also g gs) h = refl
kept_conjuncts f fs h = absurd h

kept_equation : (x : ℕ) (fs : Trees) (e : Form) → AreAtoms fs → first_equation x fs ≡ Some e → first_equation x (conjuncts (kept fs)) ≡ Some e
kept_equation x none e h i = cc
kept_equation x (also f fs) e h i = ap (first_equation x) (kept_conjuncts f fs h) ∙ i

pub folded_equation : (x : ℕ) (fs : Trees) (e : Form) → AreAtoms fs → first_equation x fs ≡ Some e → first_equation x (conjuncts (folded (And fs))) ≡ Some e
folded_equation x fs e h i = ap (λ g. first_equation x (conjuncts g)) (folded_is fs h) ∙ kept_equation x fs e h i

-- ---- no number passes the limit

where_true : {P : Type 0} (z : ℤ) (b : Bool) → (P → b ≡ true) → (¬ (z ≡ pos 0) → P) → where_zero z true b ≡ true
where_true (pos zero) b k h = refl
where_true (pos (suc n)) b k h = k (h (λ e. cc))
where_true (negsuc n) b k h = k (h (λ e. cc))

modulus_true : (d : ℕ) (a : Atom) → ModulusWithin d a → modulus_within d a ≡ true
modulus_true d (Compare r f) h = refl
modulus_true d (Congruent holds n f) h = (within_tests (pos (d * n))).1 h

constant_true : (t : Tree) → ConstantWithin t → normal_within t ≡ true
constant_true (One a) h = (within_tests (form_of a).constant).1 h
constant_true f h = refl

atom_true : (x : ℕ) (e : Form) (d : ℕ) (a : Atom) → AtomFormsWithin Fields x (Exact e d) a → atom_within Fields x (Exact e d) a ≡ true
atom_true x e d a =
    let t = normalised (normal_atom Fields) (raw_atom Fields x (Exact e d) a) in
    where_true (coefficient x (form_of a)) (numbers_within x (Exact e d) a && normal_within t)
    (λ h. both_true (numbers_within x (Exact e d) a) (normal_within t)
    (both_true (combination_within (coefficient x (form_of a)) e (pos d) (without x (form_of a))) (modulus_within d a) ((combination_tests (coefficient x (form_of a)) e (pos d) (without x (form_of a))).1 h.0.0) (modulus_true d a h.0.1))
    (constant_true t h.1))

all_true : {X : Type 0} (test : X → Bool) (P : X → Type 0) → ((y : X) → P y → test y ≡ true) → (ys : List X) → EachOf P ys → each test ys ≡ true
all_true test P k [] h = refl
all_true test P k (y ∷ ys) h = both_true (test y) (each test ys) (k y h.0) (all_true test P k ys h.1)

-- the root of an equation is an Exact place
root_exact : (a : ℤ) (t : Form) (s : Place) → IsRootOf Fields a t s → (e : Form) × (d : ℕ) × (s ≡ Exact e d)
root_exact (pos zero) t s h = absurd h
root_exact (pos (suc n)) t s h = (_, _, h)
root_exact (negsuc n) t s h = (_, _, h)

conjunction_true : (x : ℕ) (s : Place) (fs : Trees) → (e : Form) × (d : ℕ) × (s ≡ Exact e d) → EachOf (AtomFormsWithin Fields x s) (atoms_of (And fs)) → all_within Fields x s (And fs) ≡ true
conjunction_true x s fs r h =
    sym (within_once Fields x s (And fs)) ∙ ap (λ p. each (atom_within Fields x p) (atoms_of (And fs))) r.2
    ∙ all_true (atom_within Fields x (Exact r.0 r.1)) (AtomFormsWithin Fields x (Exact r.0 r.1)) (atom_true x r.0 r.1) (atoms_of (And fs)) (subst (λ p. EachOf (AtomFormsWithin Fields x p) (atoms_of (And fs))) r.2 h)

kept_within : (x : ℕ) (s : Place) (fs : Trees) → AreAtoms fs → all_within Fields x s (And fs) ≡ true → all_within Fields x s (kept fs) ≡ true
kept_within x s none h e = refl
kept_within x s (also (One a) none) h e = e
kept_within x s (also (One a) (also g gs)) h e = e
kept_within x s (also f fs) h e = absurd h

pub folded_within : (x : ℕ) (s : Place) (fs : Trees) (e : Form) → AreAtoms fs → IsRoot Fields x e s → EachOf (AtomFormsWithin Fields x s) (atoms_of (And fs)) → all_within Fields x s (folded (And fs)) ≡ true
folded_within x s fs e h r w =
    ap (all_within Fields x s) (folded_is fs h) ∙ kept_within x s fs h (conjunction_true x s fs (root_exact (coefficient x e) (without x e) s r) w)

-- ---- what is put in

simple_alone : (t : Tree) → IsSimple Fields t → folded t ≡ folded (And (also t none))
simple_alone Yes h = refl
simple_alone No h = refl
simple_alone (One a) h = refl
simple_alone f h = absurd h

kept_answer : (x : ℕ) (s : Place) (fs : Trees) → IsPlaceIn Fields s → EveryOf (IsNormal Fields) fs → AreAtoms fs → result_at Fields (normal_atom Fields) x s (kept fs) ≡ direct_answer x fs s
kept_answer x s none p n h = refl
kept_answer x s (also (One a) none) p n h = simple_alone (atom_at Fields (normal_atom Fields) x s a) (atom_at_simple Fields x s a p (normal_in Fields a n.0))
kept_answer x s (also (One a) (also g gs)) p n h = refl
kept_answer x s (also f fs) p n h = absurd h

pub folded_answer : (x : ℕ) (s : Place) (fs : Trees) → IsPlaceIn Fields s → EveryOf (IsNormal Fields) fs → AreAtoms fs → result_at Fields (normal_atom Fields) x s (folded (And fs)) ≡ direct_answer x fs s
folded_answer x s fs p n h = ap (result_at Fields (normal_atom Fields) x s) (folded_is fs h) ∙ kept_answer x s fs p n h
