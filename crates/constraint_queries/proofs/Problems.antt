-- The resolved problem is a weak problem: names to be eliminated before a conjunction of weak constraints.
use Rattle.std.proofs.Common.{◌≡◌, ℕ, List, [], ◌∷◌, map, Bool, true, false, ap, sym, subst, refl}
use Rattle.std.proofs.Math.IntN.{ℤ, pos, negsuc}
use Rattle.std.proofs.lemmas.Bool.{false≢true}
use Rattle.std.specs.Prelude.{Result, Ok, Err}
use Rattle.std.specs.Ordering.{int_cmp}
use Rattle.logic_meaning.specs.declared.quantifier.Quantifier.TheVariants.{Exists}
use Rattle.logic_meaning.specs.Atom.{Relation, Equals, Differs, Below, AtMost, Above, AtLeast, Compare}
use Rattle.logic_meaning.specs.Context.{Fields}
use Rattle.logic_meaning.specs.Every.{Every, EveryOf}
use Rattle.logic_meaning.specs.Form.{Form, Term}
use Rattle.logic_meaning.specs.Formula.{Yes, No, One, Not, And, Or, Impl, Repl, Equiv, Ex, All, none, also}
use Rattle.logic_meaning.specs.Replaced.{replaced, all_replaced}
use Rattle.logic_meaning.specs.Plain.{IsPlain, ArePlain}
use Rattle.logic_meaning.specs.Sorted.{gathered}
use Rattle.logic_meaning.specs.Tree.{Tree}
use Rattle.logic_meaning.specs.NormalForm.{constant_tree, holds, facing, compared_in_fields, normal_atom}
use Rattle.language_meaning.specs.declared.tree.Relation as syntax
use Rattle.language_meaning.specs.declared.tree.Relation.TheVariants as relation
use Rattle.language_meaning.specs.Trees as trees
use Rattle.language_meaning.specs.Trees.{TermTree, WrittenAtom, FormulaTree, FormulaTrees, Cong, Ncong, Bound}
use Rattle.language_meaning.specs.Value.{relation_of}
use Rattle.language_meaning.specs.Constraints.{is_weak, is_weak_constraint}
use Rattle.written_syntax.specs.ConstraintLists.{AreWeakConstraints}
use Rattle.language_meaning.specs.QuantifiedNames.{quantified_names}
use Rattle.language_meaning.specs.RationalForms.{RationalForm, Missing, formed_difference}
use Rattle.language_meaning.specs.Resolving.{compared, resolved_atom}
use Rattle.logic_meaning.specs.Names.{place}
use Rattle.linear_theory.specs.WeakTargets.{IsWeak, IsWeakRelation, exs}
use Rattle.linear_theory.proofs.Weak.{weak_in_fields}
use Rattle.program_meaning.specs.State.{State, known}
use Rattle.program_meaning.specs.Targets.{target_name, problem_names, together, resolved_problem}
use Rattle.constraint_queries.specs.Found.{IsWeakProblem}

-- ---- constraints

-- only and, or, atoms and constants stand in the tree, and its atoms are weak
pub record IsWeakTree (t : Tree) : Type 0 where
  pub is_plain : IsPlain t
  pub weak : Every IsWeak t

settled : (b : Bool) → IsWeakTree (constant_tree b)
settled true = record { is_plain = tt; weak = tt }
settled false = record { is_plain = tt; weak = tt }

facing_weak : (k : ℤ) (r : Relation) → IsWeakRelation r → IsWeakRelation (facing k r)
facing_weak (pos n) r h = h
facing_weak (negsuc n) Equals h = tt
facing_weak (negsuc n) Differs h = h
facing_weak (negsuc n) Below h = absurd h
facing_weak (negsuc n) AtMost h = tt
facing_weak (negsuc n) Above h = absurd h
facing_weak (negsuc n) AtLeast h = tt

in_fields : (r : Relation) (ts : List Term) (k : ℤ) → IsWeakRelation r → IsWeakTree (compared_in_fields r ts k)
in_fields r [] k h = settled (holds r (int_cmp k (pos 0)))
in_fields r (t ∷ ts) k h = record { is_plain = tt; weak = facing_weak t.times r h }

normal_weak : (r : Relation) (f : Form) → IsWeakRelation r → IsWeakTree (normal_atom Fields (Compare r f))
unfolding normal_atom
normal_weak r f h = in_fields r (gathered f).terms (gathered f).constant h

relation_weak : (rel : syntax.Relation) → is_weak rel ≡ true → IsWeakRelation (relation_of rel)
relation_weak relation.Equal h = tt
relation_weak relation.Differs h = absurd (false≢true h)
relation_weak relation.Less h = absurd (false≢true h)
relation_weak relation.AtMost h = tt
relation_weak relation.Greater h = absurd (false≢true h)
relation_weak relation.AtLeast h = tt

compared_weak : (rel : syntax.Relation) (r : Result RationalForm Missing) → is_weak rel ≡ true → IsWeakTree (compared Fields rel r)
compared_weak rel (Ok d) h = normal_weak (relation_of rel) d.form (relation_weak rel h)
compared_weak rel (Err e) h = record { is_plain = tt; weak = tt }

-- a comparison of two terms by =, <= or >=
pub record IsWeakComparison (f : FormulaTree) : Type 0 where
  pub relation : syntax.Relation
  pub left : TermTree
  pub right : TermTree
  pub is : f ≡ One (trees.Compare relation left right)
  pub weak : is_weak relation ≡ true

pub weak_comparison : (f : FormulaTree) → is_weak_constraint f ≡ true → IsWeakComparison f
weak_comparison (One (trees.Compare r s t)) h = record { relation = r; left = s; right = t; is = refl; weak = h }
weak_comparison (One (Cong s t m)) h = absurd (false≢true h)
weak_comparison (One (Ncong s t m)) h = absurd (false≢true h)
weak_comparison (One (Bound x)) h = absurd (false≢true h)
weak_comparison Yes h = absurd (false≢true h)
weak_comparison No h = absurd (false≢true h)
weak_comparison (Not f) h = absurd (false≢true h)
weak_comparison (And fs) h = absurd (false≢true h)
weak_comparison (Or fs) h = absurd (false≢true h)
weak_comparison (Impl f g) h = absurd (false≢true h)
weak_comparison (Repl f g) h = absurd (false≢true h)
weak_comparison (Equiv f g) h = absurd (false≢true h)
weak_comparison (Ex x f) h = absurd (false≢true h)
weak_comparison (All x f) h = absurd (false≢true h)

-- ---- the quantifiers

-- what stands behind the quantifiers is resolved, and their names are numbered
pub names_resolved : (by : WrittenAtom → Tree) (number : List ℕ → ℕ) (xs : List (List ℕ)) (f : FormulaTree) → replaced by number (quantified_names Exists xs f) ≡ exs (map number xs) (replaced by number f)
names_resolved by number [] f = refl
names_resolved by number (x ∷ xs) f = ap (λ t. Ex (number x) t) (names_resolved by number xs f)

module _ (s : State) (fields : s.context ≡ Fields) where
  abbrev by : WrittenAtom → Tree
  by = resolved_atom s.context (known s) (place s.names)

  comparison_weak : (f : FormulaTree) → IsWeakComparison f → IsWeakTree (replaced by (place s.names) f)
  comparison_weak f h =
      subst (λ g. IsWeakTree (replaced by (place s.names) g)) (sym h.is)
      (subst (λ c. IsWeakTree (compared c h.relation (formed_difference c (place s.names) h.left h.right))) (sym fields) (compared_weak h.relation (formed_difference Fields (place s.names) h.left h.right) h.weak))

  members_plain : (fs : FormulaTrees) → AreWeakConstraints fs → ArePlain (all_replaced by (place s.names) fs)
  members_plain none h = tt
  members_plain (also f fs) h = ((comparison_weak f (weak_comparison f h.0)).is_plain, members_plain fs h.1)

  members_weak : (fs : FormulaTrees) → AreWeakConstraints fs → EveryOf IsWeak (all_replaced by (place s.names) fs)
  members_weak none h = tt
  members_weak (also f fs) h = ((comparison_weak f (weak_comparison f h.0)).weak, members_weak fs h.1)

  pub together_weak : (f : FormulaTree) (fs : FormulaTrees) → is_weak_constraint f ≡ true → AreWeakConstraints fs → IsWeakTree (replaced by (place s.names) (together f fs))
  together_weak f none h k = comparison_weak f (weak_comparison f h)
  together_weak f (also g gs) h k = record { is_plain = members_plain (also f (also g gs)) (h, k); weak = members_weak (also f (also g gs)) (h, k) }

-- the resolved problem of a target under weak constraints
pub weak_problem : (s : State) (written : FormulaTrees) (target : TermTree) → s.context ≡ Fields → AreWeakConstraints written → IsWeakProblem (resolved_problem s written target)
weak_problem s written target fields weak =
    let equation : FormulaTree = One (trees.Compare relation.Equal (trees.Named target_name) target) in
    let tree = together_weak s fields equation written refl weak in
    record {
      names = map (place s.names) (problem_names written target);
      matrix = replaced (resolved_atom s.context (known s) (place s.names)) (place s.names) (together equation written);
      same = names_resolved (resolved_atom s.context (known s) (place s.names)) (place s.names) (problem_names written target) (together equation written);
      is_plain = tree.is_plain;
      weak = tree.weak;
      in_fields = weak_in_fields (replaced (resolved_atom s.context (known s) (place s.names)) (place s.names) (together equation written)) tree.weak;
    }
