-- The members of a list, and what they are worked on to.
use Rattle.std.proofs.Common.{◌≡◌, List, [], ◌∷◌, ◌++◌, map, refl, ap, sym, subst, ◌∙◌}
use Rattle.std.specs.List.{AllByRecursion}
use Rattle.logic_meaning.specs.Context.{Context}
use Rattle.logic_meaning.specs.Every.{Every, EveryOf}
use Rattle.logic_meaning.specs.Fold.{joined, fold_list, folded, all_folded}
use Rattle.logic_meaning.specs.Formula.{Yes, No, One, Not, And, Or, Impl, Repl, Equiv, Ex, All, also}
use Rattle.logic_meaning.specs.declared.junction.Junction.{Junction}
use Rattle.logic_meaning.specs.declared.junction.Junction.TheVariants.{Conjunction, Disjunction}
use Rattle.logic_meaning.specs.Shape.{IsQuantifierFree, AreQuantifierFree}
use Rattle.logic_meaning.specs.Plain.{IsAtomic, IsNegationNormal, AreNegationNormal}
use Rattle.logic_meaning.specs.Tree.{Tree, Trees}
use Rattle.normal_atoms.specs.Atoms.{context_of, atom_of}
use Rattle.logic_meaning.specs.NormalForm.{IsNormal}
use Rattle.elimination_theory.specs.Theorems.{IsTidy}
use Rattle.formula_tree.specs.declared.shape.Shape.{Shape}
use Rattle.formula_tree.specs.Makers.{Keeps}
use Rattle.formula_tree.specs.Trees.{members}
use Rattle.formula_store.specs.declared.id.FormulaId.{FormulaId}
use Rattle.formula_store.specs.Nodes.{tree, IsId}
use Rattle.case_theory.specs.Worked.{IsWorked, AreWorked}
use Rattle.case_theory.proofs.Worked.{working_goes_on}
use Rattle.branch_rounds.specs.declared.work.Work.{Work}
use Rattle.engine_answers.specs.Without.{IsReady, AreMembersOf, IsWithout}

-- ---- the members of a formula that is ready

module _ (c : Context) (nodes : List (Shape FormulaId)) where
  each_ready : (ids : List FormulaId) → AllByRecursion (IsId nodes) ids → EveryOf (IsNormal c) (members (map (tree nodes) ids)) → AreNegationNormal (members (map (tree nodes) ids)) → AllByRecursion (IsReady c nodes) ids
  each_ready [] i n f = tt
  each_ready (m ∷ ids) i n f = (record { is = i.0; normal = n.0; form = f.0 }, each_ready ids i.1 n.1 f.1)

  list_ready : (j : Junction) (ids : List FormulaId) → AllByRecursion (IsId nodes) ids → Every (IsNormal c) (joined j (members (map (tree nodes) ids))) → IsNegationNormal (joined j (members (map (tree nodes) ids))) →
      AllByRecursion (IsReady c nodes) ids
  list_ready Conjunction ids i n f = each_ready ids i n f
  list_ready Disjunction ids i n f = each_ready ids i n f

  pub members_ready : (j : Junction) (id : FormulaId) (ids : List FormulaId) → IsReady c nodes id → AreMembersOf nodes j id ids → AllByRecursion (IsReady c nodes) ids
  members_ready j id ids r a = list_ready j ids a.are (subst (Every (IsNormal c)) a.same r.normal) (subst IsNegationNormal a.same r.form)

-- a formula stays ready as more is made
pub ready_kept : (c : Context) (old new : List (Shape FormulaId)) → Keeps (IsId old) (tree old) (IsId new) (tree new) → (id : FormulaId) → IsReady c old id → IsReady c new id
ready_kept c old new k id r = record {
  is = k.is id r.is;
  normal = subst (Every (IsNormal c)) (sym (k.same id r.is)) r.normal;
  form = subst IsNegationNormal (sym (k.same id r.is)) r.form;
}

free_members : (j : Junction) (fs : Trees) → IsQuantifierFree (joined j fs) → AreQuantifierFree fs
free_members Conjunction fs h = h
free_members Disjunction fs h = h

each_free : (nodes : List (Shape FormulaId)) (ids : List FormulaId) → AreQuantifierFree (members (map (tree nodes) ids)) → AllByRecursion (λ (m : FormulaId). IsQuantifierFree (tree nodes m)) ids
each_free nodes [] h = tt
each_free nodes (m ∷ ids) h = (h.0, each_free nodes ids h.1)

-- none of them has a quantifier where the list has none
pub members_free : (nodes : List (Shape FormulaId)) (j : Junction) (id : FormulaId) (ids : List FormulaId) → AreMembersOf nodes j id ids → IsQuantifierFree (tree nodes id) →
    AllByRecursion (λ (m : FormulaId). IsQuantifierFree (tree nodes m)) ids
members_free nodes j id ids a h = each_free nodes ids (free_members j (members (map (tree nodes) ids)) (subst IsQuantifierFree a.same h))

-- ---- an atom or a constant

atomic_tidy : (c : Context) (f : Tree) → IsAtomic f → Every (IsNormal c) f → IsTidy c f
atomic_tidy c Yes h n = record { is_plain = tt; normal = tt; two_members = tt }
atomic_tidy c No h n = record { is_plain = tt; normal = tt; two_members = tt }
atomic_tidy c (One a) h n = record { is_plain = tt; normal = n; two_members = tt }
atomic_tidy c (Not f) h n = absurd h
atomic_tidy c (And fs) h n = absurd h
atomic_tidy c (Or fs) h n = absurd h
atomic_tidy c (Impl f g) h n = absurd h
atomic_tidy c (Repl f g) h n = absurd h
atomic_tidy c (Equiv f g) h n = absurd h
atomic_tidy c (Ex x f) h n = absurd h
atomic_tidy c (All x f) h n = absurd h

atomic_folded : (f : Tree) → IsAtomic f → f ≡ folded f
atomic_folded Yes h = refl
atomic_folded No h = refl
atomic_folded (One a) h = refl
atomic_folded (Not f) h = absurd h
atomic_folded (And fs) h = absurd h
atomic_folded (Or fs) h = absurd h
atomic_folded (Impl f g) h = absurd h
atomic_folded (Repl f g) h = absurd h
atomic_folded (Equiv f g) h = absurd h
atomic_folded (Ex x f) h = absurd h
atomic_folded (All x f) h = absurd h

-- it is worked on as it stands
pub atomic_without : (w : Work) (nodes : List (Shape FormulaId)) (id : FormulaId) → IsReady (context_of w.context) nodes id → IsAtomic (tree nodes id) → IsWithout w (tree nodes id) nodes id
atomic_without w nodes id r h = record {
  to = record { is = r.is; worked = (working_goes_on (context_of w.context) (map atom_of w.assumed.now)).itself (tree nodes id) (atomic_tidy (context_of w.context) (tree nodes id) h r.normal) };
  plain = λ q. atomic_folded (tree nodes id) h;
}

-- ---- what formulas are worked on to, one after the other

abbrev pub AllWithout : Work → List (Shape FormulaId) → List Tree → List FormulaId → Type 0
AllWithout w nodes [] [] = Unit {0}
AllWithout w nodes [] (r ∷ rs) = ⊥
AllWithout w nodes (f ∷ fs) [] = ⊥
AllWithout w nodes (f ∷ fs) (r ∷ rs) = IsWithout w f nodes r × AllWithout w nodes fs rs

module _ (w : Work) (old new : List (Shape FormulaId)) (k : Keeps (IsId old) (tree old) (IsId new) (tree new)) where
  -- it stays so as more is made
  pub without_kept : (f : Tree) (r : FormulaId) → IsWithout w f old r → IsWithout w f new r
  without_kept f r h = record {
    to = record { is = k.is r h.to.is; worked = subst (IsWorked (context_of w.context) (map atom_of w.assumed.now) f) (sym (k.same r h.to.is)) h.to.worked };
    plain = λ q. k.same r h.to.is ∙ h.plain q;
  }

  -- and one comes
  pub without_more : (fs : List Tree) (rs : List FormulaId) (f : Tree) (r : FormulaId) → AllWithout w old fs rs → IsWithout w f new r → AllWithout w new (fs ++ f ∷ []) (rs ++ r ∷ [])
  without_more [] [] f r a h = (h, tt)
  without_more [] (s ∷ rs) f r a h = absurd a
  without_more (g ∷ fs) [] f r a h = absurd a
  without_more (g ∷ fs) (s ∷ rs) f r a h = (without_kept g s a.0, without_more fs rs f r a.1 h)

module _ (w : Work) (nodes : List (Shape FormulaId)) where
  pub without_ids : (fs : List Tree) (rs : List FormulaId) → AllWithout w nodes fs rs → AllByRecursion (IsId nodes) rs
  without_ids [] [] a = tt
  without_ids [] (r ∷ rs) a = absurd a
  without_ids (f ∷ fs) [] a = absurd a
  without_ids (f ∷ fs) (r ∷ rs) a = (a.0.to.is, without_ids fs rs a.1)

  all_worked : (fs : List Tree) (rs : List FormulaId) → AllWithout w nodes fs rs → AreWorked (context_of w.context) (map atom_of w.assumed.now) (members fs) (members (map (tree nodes) rs))
  all_worked [] [] a = tt
  all_worked [] (r ∷ rs) a = absurd a
  all_worked (f ∷ fs) [] a = absurd a
  all_worked (f ∷ fs) (r ∷ rs) a = (a.0.to.worked, all_worked fs rs a.1)

  each_folded : (fs : List Tree) (rs : List FormulaId) → AllWithout w nodes fs rs → AreQuantifierFree (members fs) → members (map (tree nodes) rs) ≡ all_folded (members fs)
  each_folded [] [] a q = refl
  each_folded [] (r ∷ rs) a q = absurd a
  each_folded (f ∷ fs) [] a q = absurd a
  each_folded (f ∷ fs) (r ∷ rs) a q = λ i. also (a.0.plain q.0 i) (each_folded fs rs a.1 q.1 i)

  list_folded : (j : Junction) (fs : List Tree) (rs : List FormulaId) → AllWithout w nodes fs rs → IsQuantifierFree (joined j (members fs)) → fold_list j (members (map (tree nodes) rs)) ≡ folded (joined j (members fs))
  list_folded Conjunction fs rs a q = ap (fold_list Conjunction) (each_folded fs rs a q)
  list_folded Disjunction fs rs a q = ap (fold_list Disjunction) (each_folded fs rs a q)

  -- The list of the formulas is worked on to what these make, joined and folded.
  pub list_without : (j : Junction) (f : Tree) (fs : List Tree) (rs : List FormulaId) (new : List (Shape FormulaId)) (r : FormulaId) → f ≡ joined j (members fs) → AllWithout w nodes fs rs → IsId new r →
      tree new r ≡ fold_list j (members (map (tree nodes) rs)) → IsWithout w f new r
  list_without j f fs rs new r e a i s =
      let c = context_of w.context in
      let ks = map atom_of w.assumed.now in
      record {
        to = record { is = i; worked = subst (λ g. IsWorked c ks g (tree new r)) (sym e) (subst (IsWorked c ks (joined j (members fs))) (sym s) ((working_goes_on c ks).of_list j (members fs) (members (map (tree nodes) rs)) (all_worked fs rs a))) };
        plain = λ q. s ∙ list_folded j fs rs a (subst IsQuantifierFree e q) ∙ sym (ap folded e);
      }
