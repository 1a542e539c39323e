-- Conditions of direct formulas: they are no larger than the direct answer, or false.
use Rattle.std.proofs.Common.{◌≡◌, inl, inr, ℕ, suc, ◌<◌, ◌≤◌, List, [], ◌∷◌, length, true, ap, subst, refl, arith}
use Rattle.logic_meaning.specs.Answer.{Place}
use Rattle.logic_meaning.specs.Atom.{Atom, Compare, Equals}
use Rattle.logic_meaning.specs.Context.{Context, Fields}
use Rattle.logic_meaning.specs.Every.{Every}
use Rattle.logic_meaning.specs.Formula.{One, And, Ex}
use Rattle.logic_meaning.specs.Replaced.{replaced}
use Rattle.logic_meaning.specs.Sizes.{nodes}
use Rattle.logic_meaning.specs.Some.{EachOf}
use Rattle.logic_meaning.specs.Tree.{Tree, Trees, IsFree}
use Rattle.formula_laws.specs.Within.{IsAtomWithin}
use Rattle.formula_laws.proofs.EachAtom.{every_map}
use Rattle.formula_laws.proofs.Fold.{folded_nodes}
use Rattle.formula_laws.proofs.ReplacedShape.{nodes_replaced}
use Rattle.logic_meaning.specs.BothTheories.{IsPlaceIn}
use Rattle.logic_meaning.specs.Steps.{atom_at}
use Rattle.elimination_theory.proofs.Simple.{simple_nodes}
use Rattle.logic_meaning.specs.NormalForm.{IsNormal, normal_atom}
use Rattle.normal_atoms.proofs.NormalLaws.{normal_in}
use Rattle.logic_meaning.specs.Cases.{Case, case_sign}
use Rattle.logic_meaning.specs.Reference.{normal_tree}
use Rattle.elimination_theory.specs.Theorems.{IsTidy}
use Rattle.elimination_theory.proofs.Sound.{normal_normal_tree}
use Rattle.elimination_theory.proofs.Tidy.{atom_at_simple}
use Rattle.elimination_theory.proofs.Turning.{turned_brings}
use Rattle.formula_tree.specs.declared.shape.Shape.{Shape}
use Rattle.formula_store.specs.declared.id.FormulaId.{FormulaId}
use Rattle.formula_store.specs.Nodes.{tree}
use Rattle.logic_meaning.specs.Direct.{IsDirect, direct_answer}
use Rattle.case_theory.proofs.Direct.{direct_exact}
use Rattle.case_theory.proofs.Points.{root_point}
use Rattle.engine_answers.specs.declared.case_tree.Case as code
use Rattle.engine_answers.specs.CaseTrees.{cases_seen, guards_together}
use Rattle.shape_theory.specs.Texts.{IsNoLarger}
use Rattle.form_commands.specs.Conditions.{IsNoLargerOrFalse}
use Rattle.form_commands.specs.Forms.{IsSimplifiedAs}
use Rattle.form_commands.proofs.EliminatedLemmas.{plain_free, free_below, within_of_names, unquantified_bound}

-- a tidy formula whose free names are those of another is within the names of it
tidy_within : (c : Context) (n : ℕ) (f g : Tree) → IsTidy c g → ((y : ℕ) → IsFree g y → IsFree f y) → Every (IsAtomWithin n) f → Every (IsAtomWithin n) g
tidy_within c n f g tidy names within = within_of_names c n g tidy.normal (unquantified_bound (λ x. x < n) g (plain_free g tidy.is_plain)) (λ y u. free_below n y f within (names y u))

module _ (limit : ℕ) (f : Tree) (normal : Every (IsNormal Fields) f) (x : ℕ) (fs : Trees) (s : Place) (d : IsDirect limit (normal_tree f) x fs s) where
  root_in : IsPlaceIn Fields s
  root_in = let e = d.equation in (root_point Fields x (One (Compare Equals e.0)) e.0 s tt tt refl e.2).each.0.suits

  normal_form_normal : Every (IsNormal Fields) (normal_tree f)
  normal_form_normal = normal_normal_tree Fields limit f normal

  matrix_normal : Every (IsNormal Fields) (And fs)
  matrix_normal = subst (Every (IsNormal Fields)) d.is normal_form_normal

  -- the direct answer is within the limit
  pub answer_few : nodes (direct_answer x fs s) < limit
  answer_few =
      let a : nodes (direct_answer x fs s) ≤ nodes (replaced (atom_at Fields (normal_atom Fields) x s) (λ y. y) (And fs)) = folded_nodes (replaced (atom_at Fields (normal_atom Fields) x s) (λ y. y) (And fs)) in
      let b : nodes (replaced (atom_at Fields (normal_atom Fields) x s) (λ y. y) (And fs)) ≡ nodes (And fs) =
      nodes_replaced (atom_at Fields (normal_atom Fields) x s) (λ y. y) (And fs)
      (every_map (IsNormal Fields) (λ a. nodes (atom_at Fields (normal_atom Fields) x s a) ≡ 1) (λ a n. simple_nodes Fields (atom_at Fields (normal_atom Fields) x s a) (atom_at_simple Fields x s a root_in (normal_in Fields a n))) (And fs) matrix_normal) in
      let few : nodes (Ex x (And fs)) ≤ limit = subst (λ (g : Tree). nodes g ≤ limit) d.is d.few in
      smaller _ _ _ _ a b few
    where
      smaller : (answer put matrix limit : ℕ) → answer ≤ put → put ≡ matrix → suc matrix ≤ limit → answer < limit
      smaller answer put matrix limit a b few = omega arith

  -- it asks for the formula itself
  pub is_asked : case_sign (normal_tree f) ≡ true
  is_asked = ap case_sign d.is

  answer_names : (y : ℕ) → IsFree (direct_answer x fs s) y → IsFree f y
  answer_names y u = (turned_brings Fields f y).0 ((direct_exact limit (normal_tree f) x fs s normal_form_normal d).eliminated.names y u)

  answer_within : (n : ℕ) → Every (IsAtomWithin n) f → Every (IsAtomWithin n) (direct_answer x fs s)
  answer_within n within = tidy_within Fields n f (direct_answer x fs s) (direct_exact limit (normal_tree f) x fs s normal_form_normal d).tidy answer_names within

  module _ (store : List (Shape FormulaId)) where
    -- what one case at most says is within the limit
    pub joined_few : (items : List code.Case) → length items ≤ 1 → EachOf (λ (k : code.Case). IsNoLarger (direct_answer x fs s) (tree store k.guard)) items → nodes (guards_together (cases_seen store items)) ≤ limit
    joined_few [] one h = let few = answer_few in omega arith
    joined_few (k ∷ []) one h = let n = h.0.nodes in let few = answer_few in omega arith
    joined_few (k ∷ (e ∷ items)) one h = absurd (omega (arith, one))

    -- and simplified it is no larger than the direct answer, or false
    pub joined_no_larger : (c : Context) (ks : List Atom) (items : List code.Case) (t : Tree) → length items ≤ 1 → EachOf (λ (k : code.Case). IsNoLarger (direct_answer x fs s) (tree store k.guard)) items →
        EachOf (λ (k : Case). IsTidy c k.guard) (cases_seen store items) → ((y : ℕ) → IsFree (guards_together (cases_seen store items)) y → IsFree f y) → IsSimplifiedAs c ks (guards_together (cases_seen store items)) t →
        IsNoLargerOrFalse f (direct_answer x fs s) t
    joined_no_larger c ks [] t one h tidy names l = inr l.form
    joined_no_larger c ks (k ∷ []) t one h tidy names l =
        inl (
        record {
          nodes = let n = h.0.nodes in let m = l.nodes in omega arith;
          text = λ texts some within.
              let a = l.text texts some (tidy_within c (length texts) f (tree store k.guard) tidy.0 names within) in
              let b = h.0.text texts some (answer_within (length texts) within) in
              omega arith;
        })
    joined_no_larger c ks (k ∷ (e ∷ items)) t one h tidy names l = absurd (omega (arith, one))
