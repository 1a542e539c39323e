-- A formula that is shortened step by step.
use Rattle.std.proofs.Common.{◌≡◌, ℕ, List, map, sym, subst, ◌∙◌, arith}
use Rattle.logic_meaning.specs.Tree.{Tree, IsFree}
use Rattle.logic_meaning.specs.Trees.{IsReduced}
use Rattle.shape_theory.specs.Simplifiable.{EquivalentUnder}
use Rattle.normal_atoms.specs.Atoms.{context_of, atom_of}
use Rattle.formula_tree.specs.declared.shape.Shape.{Shape}
use Rattle.formula_store.specs.declared.id.FormulaId.{FormulaId}
use Rattle.formula_store.specs.Nodes.{tree}
use Rattle.case_theory.specs.Worked.{IsWorked}
use Rattle.case_theory.proofs.Worked.{working_goes_on}
use Rattle.case_theory.proofs.Under.{under_then}
use Rattle.branch_pruning.specs.Pruned.{IsPrunedTo}
use Rattle.branch_rounds.specs.declared.work.Work.{Work}
use Rattle.text_extents.specs.Extents.{IsNeverLarger}
use Rattle.short_answers.specs.Asking.{FollowsUnder, IsFollowing, IsTidyId}
use Rattle.short_answers.specs.Shorter.{IsShortenedTo}
use Rattle.short_answers.proofs.Keeping.{KeepsAll}
use Rattle.short_answers.proofs.Licensed.{same_truth}

module _ (w : Work) where
  -- a formula that stays
  pub shortened_itself : (nodes : List (Shape FormulaId)) (id : FormulaId) → IsTidyId (context_of w.context) nodes id → IsShortenedTo w (tree nodes id) nodes id
  shortened_itself nodes id t = record {
    is = t.is;
    worked = (working_goes_on (context_of w.context) (map atom_of w.assumed.now)).itself (tree nodes id) t.tidy;
    reduced = λ r. r;
    never_larger = record { nodes = omega arith; text = λ names. omega arith };
  }

  pub shortened_kept : (f : Tree) (a b : List (Shape FormulaId)) (id : FormulaId) → KeepsAll a b → IsShortenedTo w f a id → IsShortenedTo w f b id
  shortened_kept f a b id k h = record {
    is = k.is id h.is;
    worked = subst (IsWorked (context_of w.context) (map atom_of w.assumed.now) f) (sym (k.same id h.is)) h.worked;
    reduced = λ r. subst (λ g. IsReduced (context_of w.context) g (map atom_of w.assumed.now)) (sym (k.same id h.is)) (h.reduced r);
    never_larger = subst (IsNeverLarger f) (sym (k.same id h.is)) h.never_larger;
  }

  never_larger_then : (f g h : Tree) → IsNeverLarger f g → IsNeverLarger g h → IsNeverLarger f h
  never_larger_then f g h a b =
      let m = a.nodes in
      let n = b.nodes in
      record { nodes = omega arith; text = λ names. let u = a.text names in let v = b.text names in omega arith }

  pub shortened_then : (f : Tree) (a b : List (Shape FormulaId)) (one two : FormulaId) → IsShortenedTo w f a one → IsShortenedTo w (tree a one) b two → IsShortenedTo w f b two
  shortened_then f a b one two h k = record {
    is = k.is;
    worked = (working_goes_on (context_of w.context) (map atom_of w.assumed.now)).further f (tree a one) (tree b two) h.worked k.worked;
    reduced = λ r. k.reduced (h.reduced r);
    never_larger = never_larger_then f (tree a one) (tree b two) h.never_larger k.never_larger;
  }

  -- what has the truth of f, simplified, is f shortened where it is never larger and has no other names
  pub simplified_other : (f g : Tree) (nodes : List (Shape FormulaId)) (id : FormulaId) → EquivalentUnder (context_of w.context) (map atom_of w.assumed.now) f g → IsPrunedTo (context_of w.context) (map atom_of w.assumed.now) g nodes id →
      IsNeverLarger f (tree nodes id) → ((x : ℕ) → IsFree (tree nodes id) x → IsFree f x) → IsShortenedTo w f nodes id
  simplified_other f g nodes id same h small names = record {
    is = h.is;
    worked = record { equivalent = under_then (context_of w.context) (map atom_of w.assumed.now) f g (tree nodes id) same h.worked.equivalent; tidy = h.worked.tidy; names = names };
    reduced = λ r. h.reduced;
    never_larger = small;
  }

  -- two formulas of which each follows from the other
  pub same_of_both : (old now new : List (Shape FormulaId)) (id other : FormulaId) → KeepsAll old now → KeepsAll now new → IsTidyId (context_of w.context) old id → IsFollowing w (tree old id) now other →
      FollowsUnder (context_of w.context) (map atom_of w.assumed.now) (tree now other) (tree now id) → EquivalentUnder (context_of w.context) (map atom_of w.assumed.now) (tree new id) (tree new other)
  same_of_both old now new id other before after t follows back =
      let c = context_of w.context in
      let ks = map atom_of w.assumed.now in
      let one : tree new id ≡ tree old id = after.same id (before.is id t.is) ∙ before.same id t.is in
      let two : tree new other ≡ tree now other = after.same other follows.tidy.is in
      subst (λ (f : Tree). EquivalentUnder c ks f (tree new other)) (sym one)
      (subst (λ (g : Tree). EquivalentUnder c ks (tree old id) g) (sym two) (same_truth c ks (tree old id) (tree now other) follows.follows (subst (FollowsUnder c ks (tree now other)) (before.same id t.is) back)))
