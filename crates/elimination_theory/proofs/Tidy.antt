-- Tidy formulas stay tidy: through folding, negation and steps.
use Rattle.std.proofs.Common.{ℕ, List, [], ◌∷◌, Option, Some, None, refl, inl, inr}
use Rattle.logic_meaning.specs.Context.{Context, Fields, Integers}
use Rattle.logic_meaning.specs.Formula.{Yes, No, One, Not, And, Or, Impl, Repl, Equiv, Ex, All, none, also}
use Rattle.logic_meaning.specs.Every.{Every, EveryOf}
use Rattle.logic_meaning.specs.Form.{coefficient}
use Rattle.logic_meaning.specs.Atom.{Atom, form_of}
use Rattle.formula_laws.specs.TheoryAtoms.{AtomIn}
use Rattle.logic_meaning.specs.Plain.{IsPlain, ArePlain}
use Rattle.logic_meaning.specs.Some.{Among, EachOf}
use Rattle.logic_meaning.specs.Fold.{append, pieces_of, put_together, all_pieces, from_pieces, fold_list, folded, all_folded}
use Rattle.logic_meaning.specs.declared.junction.Junction.{Junction}
use Rattle.logic_meaning.specs.declared.junction.Junction.TheVariants.{Conjunction, Disjunction}
use Rattle.logic_meaning.specs.NegationNormal.{normal_form_of_not, normal_forms_of_not, both}
use Rattle.logic_meaning.specs.Replaced.{replaced}
use Rattle.logic_meaning.specs.Answer.{Place}
use Rattle.logic_meaning.specs.Tree.{Tree, Trees}
use Rattle.formula_laws.specs.Equivalence.{InContext}
use Rattle.formula_laws.proofs.EachAtom.{every_map}
use Rattle.formula_laws.proofs.Fold.{plain_of_members, every_of_members, fold_list_has, folded_plain, folded_every}
use Rattle.formula_laws.proofs.ReplacedShape.{every_replaced}
use Rattle.logic_meaning.specs.NormalForm.{IsNormal, normal_atom, negated_normal}
use Rattle.normal_atoms.proofs.NormalLaws.{normal_in, normal_truth, normal_names, normal_within, normal_normal, normal_atomic, negated_normal_is}
use Rattle.logic_meaning.specs.declared.side.Side.TheVariants.{Lower}
use Rattle.logic_meaning.specs.Atoms.{atoms_of}
use Rattle.logic_meaning.specs.BothTheories.{IsPlaceIn, raw_atom, guard_of, test_points}
use Rattle.logic_meaning.specs.Steps.{normalised, atom_at, result_at, Result, kept, results, step}
use Rattle.elimination_theory.specs.StepTheorems.{IsNormaliser}
use Rattle.elimination_theory.proofs.Simple.{IsSimple, simple_plain, simple_normalised, where_zero_has, raw_simple, guard_simple, replaced_plain}
use Rattle.elimination_theory.proofs.BothSubstitutions.{place_in, point_suits}
use Rattle.logic_meaning.specs.Members.{AreTwo}
use Rattle.elimination_theory.specs.Theorems.{IsProper, IsBranching, AreBranching, IsTidy}

-- the normal form of atoms is one in the sense of elimination steps
pub normaliser : (c : Context) → IsNormaliser c (normal_atom c)
normaliser c = record {
  atomic = λ a i. normal_atomic c a;
  in_context = normal_within c;
  equivalent = normal_truth c;
  names = λ a y i. normal_names c a i y;
}

-- ---- two members at least

EachBranching : Trees → Type 0
EachBranching none = Unit {0}
EachBranching (also f fs) = IsBranching f × EachBranching fs

ArePieces : Option Trees → Type 0
ArePieces None = Unit {0}
ArePieces (Some fs) = AreBranching fs

branching_append : (fs gs : Trees) → AreBranching fs → AreBranching gs → AreBranching (append fs gs)
branching_append none gs h k = k
branching_append (also f fs) gs h k = (h.0, h.1, branching_append fs gs h.2 k)

branching_together : (o u : Option Trees) → ArePieces o → ArePieces u → ArePieces (put_together o u)
unfolding ArePieces
branching_together None u h k = tt
branching_together (Some fs) None h k = tt
branching_together (Some fs) (Some gs) h k = branching_append fs gs h k

branching_pieces : (j : Junction) (f : Tree) → IsBranching f → ArePieces (pieces_of j f)
unfolding ArePieces
branching_pieces Conjunction Yes h = tt
branching_pieces Conjunction No h = tt
branching_pieces Conjunction (And fs) h = h.1
branching_pieces Conjunction f h = (tt, h, tt)
branching_pieces Disjunction Yes h = tt
branching_pieces Disjunction No h = tt
branching_pieces Disjunction (Or fs) h = h.1
branching_pieces Disjunction f h = (tt, h, tt)

branching_all_pieces : (j : Junction) (fs : Trees) → EachBranching fs → ArePieces (all_pieces j fs)
unfolding ArePieces EachBranching
branching_all_pieces j none h = tt
branching_all_pieces j (also f fs) h = branching_together (pieces_of j f) (all_pieces j fs) (branching_pieces j f h.0) (branching_all_pieces j fs h.1)

branching_from_pieces : (j : Junction) (o : Option Trees) → ArePieces o → IsBranching (from_pieces j o)
unfolding ArePieces
branching_from_pieces Conjunction None h = tt
branching_from_pieces Conjunction (Some none) h = tt
branching_from_pieces Conjunction (Some (also f none)) h = h.1
branching_from_pieces Conjunction (Some (also f (also g gs))) h = (tt, h)
branching_from_pieces Disjunction None h = tt
branching_from_pieces Disjunction (Some none) h = tt
branching_from_pieces Disjunction (Some (also f none)) h = h.1
branching_from_pieces Disjunction (Some (also f (also g gs))) h = (tt, h)

branching_fold_list : (j : Junction) (fs : Trees) → EachBranching fs → IsBranching (fold_list j fs)
branching_fold_list j fs h = branching_from_pieces j (all_pieces j fs) (branching_all_pieces j fs h)

mutual
  unfolding EachBranching

  branching_folded : (f : Tree) → IsPlain f → IsBranching (folded f)
  branching_folded Yes h = tt
  branching_folded No h = tt
  branching_folded (One a) h = tt
  branching_folded (Not f) h = absurd h
  branching_folded (And fs) h = branching_fold_list Conjunction (all_folded fs) (branching_all_folded fs h)
  branching_folded (Or fs) h = branching_fold_list Disjunction (all_folded fs) (branching_all_folded fs h)
  branching_folded (Impl f g) h = absurd h
  branching_folded (Repl f g) h = absurd h
  branching_folded (Equiv f g) h = absurd h
  branching_folded (Ex x f) h = absurd h
  branching_folded (All x f) h = absurd h

  branching_all_folded : (fs : Trees) → ArePlain fs → EachBranching (all_folded fs)
  branching_all_folded none h = tt
  branching_all_folded (also f fs) h = (branching_folded f h.0, branching_all_folded fs h.1)

two_turned : (fs : Trees) → AreTwo fs → AreTwo (normal_forms_of_not negated_normal fs)
two_turned none h = h
two_turned (also f none) h = h
two_turned (also f (also g fs)) h = h

proper_turned : (f : Tree) → IsPlain f → IsProper f → IsProper (normal_form_of_not negated_normal f)
proper_turned Yes p h = h
proper_turned No p h = h
proper_turned (One a) p h = tt
proper_turned (And fs) p h = tt
proper_turned (Or fs) p h = tt
proper_turned (Not f) p h = absurd p
proper_turned (Impl f g) p h = absurd p
proper_turned (Repl f g) p h = absurd p
proper_turned (Equiv f g) p h = absurd p
proper_turned (Ex x f) p h = absurd p
proper_turned (All x f) p h = absurd p

module _ (c : Context) where
  -- the members are tidy
  abbrev pub AreTidy : Trees → Type 0
  AreTidy none = Unit {0}
  AreTidy (also f fs) = IsTidy c f × AreTidy fs

  tidy_plain : (fs : Trees) → AreTidy fs → ArePlain fs
  tidy_plain none h = tt
  tidy_plain (also f fs) h = (h.0.is_plain, tidy_plain fs h.1)

  tidy_normal : (fs : Trees) → AreTidy fs → EveryOf (IsNormal c) fs
  tidy_normal none h = tt
  tidy_normal (also f fs) h = (h.0.normal, tidy_normal fs h.1)

  tidy_branching : (fs : Trees) → AreTidy fs → EachBranching fs
  unfolding EachBranching
  tidy_branching none h = tt
  tidy_branching (also f fs) h = (h.0.two_members, tidy_branching fs h.1)

  pub tidy_in : (f : Tree) → IsTidy c f → InContext c f
  tidy_in f h = every_map (IsNormal c) (AtomIn c) (normal_in c) f h.normal

  pub tidy_fold_list : (j : Junction) (fs : Trees) → AreTidy fs → IsTidy c (fold_list j fs)
  tidy_fold_list j fs h = record {
    is_plain = fold_list_has IsPlain ArePlain plain_of_members j fs (tidy_plain fs h);
    normal = fold_list_has (Every (IsNormal c)) (EveryOf (IsNormal c)) (every_of_members (IsNormal c)) j fs (tidy_normal fs h);
    two_members = branching_fold_list j fs (tidy_branching fs h);
  }

  pub tidy_folded : (f : Tree) → IsPlain f → Every (IsNormal c) f → IsTidy c (folded f)
  tidy_folded f plain normal = record { is_plain = folded_plain f plain; normal = folded_every (IsNormal c) f normal; two_members = branching_folded f plain }

  branching_turned : (fs : Trees) → ArePlain fs → AreBranching fs → AreTidy (normal_forms_of_not negated_normal fs) → AreBranching (normal_forms_of_not negated_normal fs)
  branching_turned none p b h = tt
  branching_turned (also f fs) p b h = (proper_turned f p.0 b.0, h.0.two_members, branching_turned fs p.1 b.2 h.1)

  mutual
    turned_tidy : (f : Tree) → IsPlain f → Every (IsNormal c) f → IsBranching f → IsTidy c (normal_form_of_not negated_normal f)
    turned_tidy Yes p n b = record { is_plain = tt; normal = tt; two_members = tt }
    turned_tidy No p n b = record { is_plain = tt; normal = tt; two_members = tt }
    turned_tidy (One a) p n b = record { is_plain = tt; normal = negated_normal_is c a n; two_members = tt }
    turned_tidy (Not f) p n b = absurd p
    turned_tidy (And fs) p n b = let h = turned_all fs p n b.1 in record { is_plain = tidy_plain _ h; normal = tidy_normal _ h; two_members = (two_turned fs b.0, branching_turned fs p b.1 h) }
    turned_tidy (Or fs) p n b = let h = turned_all fs p n b.1 in record { is_plain = tidy_plain _ h; normal = tidy_normal _ h; two_members = (two_turned fs b.0, branching_turned fs p b.1 h) }
    turned_tidy (Impl f g) p n b = absurd p
    turned_tidy (Repl f g) p n b = absurd p
    turned_tidy (Equiv f g) p n b = absurd p
    turned_tidy (Ex x f) p n b = absurd p
    turned_tidy (All x f) p n b = absurd p

    turned_all : (fs : Trees) → ArePlain fs → EveryOf (IsNormal c) fs → AreBranching fs → AreTidy (normal_forms_of_not negated_normal fs)
    turned_all none p n b = tt
    turned_all (also f fs) p n b = (turned_tidy f p.0 n.0 b.1, turned_all fs p.1 n.1 b.2)

  pub tidy_turned : (f : Tree) → IsTidy c f → IsTidy c (normal_form_of_not negated_normal f)
  tidy_turned f h = turned_tidy f h.is_plain h.normal h.two_members

-- ---- what a step leaves

module _ (c : Context) where
  normalised_normal : (t : Tree) → IsSimple c t → Every (IsNormal c) (normalised (normal_atom c) t)
  normalised_normal Yes h = tt
  normalised_normal No h = tt
  normalised_normal (One a) h = normal_normal c a h
  normalised_normal _ h = absurd h

  atom_at_normal : (x : ℕ) (s : Place) (a : Atom) → IsPlaceIn c s → IsNormal c a → Every (IsNormal c) (atom_at c (normal_atom c) x s a)
  atom_at_normal x s a p n =
      where_zero_has (Every (IsNormal c)) (coefficient x (form_of a)) (One a) (normalised (normal_atom c) (raw_atom c x s a)) n
      (normalised_normal (raw_atom c x s a) (raw_simple c x s a p (normal_in c a n)))

  pub put_normal : (x : ℕ) (s : Place) (f : Tree) → IsPlaceIn c s → Every (IsNormal c) f → Every (IsNormal c) (replaced (atom_at c (normal_atom c) x s) (λ y. y) f)
  put_normal x s f p n = every_replaced (atom_at c (normal_atom c) x s) (λ y. y) (IsNormal c) f (every_map _ _ (λ a m. atom_at_normal x s a p m) f n)

  pub atom_at_simple : (x : ℕ) (s : Place) (a : Atom) → IsPlaceIn c s → AtomIn c a → IsSimple c (atom_at c (normal_atom c) x s a)
  atom_at_simple x s a p i =
      where_zero_has (IsSimple c) (coefficient x (form_of a)) (One a) (normalised (normal_atom c) (raw_atom c x s a)) i
      (simple_normalised c (normal_atom c) (normaliser c) (raw_atom c x s a) (raw_simple c x s a p i))

  put_plain : (x : ℕ) (s : Place) (f : Tree) → IsPlaceIn c s → IsTidy c f → IsPlain (replaced (atom_at c (normal_atom c) x s) (λ y. y) f)
  put_plain x s f p h = (replaced_plain c (atom_at c (normal_atom c) x s) f (λ a i. atom_at_simple x s a p i) h.is_plain (tidy_in c f h)).0

pub result_tidy : (c : Context) (x : ℕ) (s : Place) (f : Tree) → IsPlaceIn c s → IsTidy c f → IsTidy c (result_at c (normal_atom c) x s f)
result_tidy Fields x s f p h = tidy_folded Fields (replaced (atom_at Fields (normal_atom Fields) x s) (λ y. y) f) (put_plain Fields x s f p h) (put_normal Fields x s f p h.normal)
result_tidy Integers x s f p h =
    let g = guard_simple s p in
    tidy_folded Integers (And (both (normalised (normal_atom Integers) (guard_of Integers s)) (replaced (atom_at Integers (normal_atom Integers) x s) (λ y. y) f)))
    (simple_plain Integers _ (simple_normalised Integers (normal_atom Integers) (normaliser Integers) (guard_of Integers s) g), (put_plain Integers x s f p h, tt))
    (normalised_normal Integers (guard_of Integers s) g, (put_normal Integers x s f p h.normal, tt))

module _ (c : Context) (x : ℕ) (f : Tree) where
  kept_tidy : (s : Place) (g : Tree) (rest : List Result) → IsTidy c g → EachOf (λ r. IsTidy c r.tree) rest → EachOf (λ r. IsTidy c r.tree) (kept s g rest)
  kept_tidy s No rest h k = k
  kept_tidy s _ rest h k = (h, k)

  results_tidy : (places : List Place) → ((s : Place) → Among places s → IsPlaceIn c s) → IsTidy c f → EachOf (λ r. IsTidy c r.tree) (results c (normal_atom c) x f places)
  results_tidy [] p h = tt
  results_tidy (s ∷ places) p h =
      kept_tidy s (result_at c (normal_atom c) x s f) (results c (normal_atom c) x f places) (result_tidy c x s f (p s (inl refl)) h) (results_tidy places (λ q m. p q (inr m)) h)

  -- each result of a step is tidy
  pub step_tidy : IsTidy c f → EachOf (λ r. IsTidy c r.tree) (step c (normal_atom c) Lower x f)
  step_tidy h = results_tidy (test_points c Lower x (atoms_of f)) (λ s m. place_in c x s f (point_suits c Lower x f s (tidy_in c f h) m)) h
