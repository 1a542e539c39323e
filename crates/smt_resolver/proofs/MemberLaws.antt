-- What is read of the members of an operator, and of the values of a let, one after another.
use Rattle.std.proofs.Common.{◌≡◌, List, [], ◌∷◌, ◌++◌, Option, Some, None, refl, ap, sym, ◌∙◌, subst, if◌then◌else◌}
use Rattle.language_meaning.specs.Value.{same_name}
use Rattle.logic_meaning.specs.Bindings.{bound_to}
use Rattle.smt_resolver.proofs.ReadingLaws.{frame_more, frame_stays}
use Rattle.std.specs.Prelude.{ℕ, option_map}
use Rattle.std.specs.List.{AllByRecursion}
use Rattle.logic_meaning.specs.Context.{Context}
use Rattle.logic_meaning.specs.Tree.{Tree}
use Rattle.language_meaning.specs.Trees.{TermTree, FormulaTree}
use Rattle.formula_tree.specs.Makers.{Keeps}
use Rattle.smt_language.specs.Trees.{ExpressionTree, ExpressionTrees, LocalTrees, none, also, no_local, also_local}
use Rattle.smt_language.specs.Operators.{Meaning, Term, Formula}
use Rattle.smt_language.specs.Meaning.{Scope, with_symbol, and_then, meaning, meanings, local_scope}
use Rattle.smt_meaning.proofs.Levels.{all_append}
use Rattle.smt_resolver.specs.declared.value.Value.{Value}
use Rattle.smt_resolver.specs.declared.value.Value.TheVariants as value
use Rattle.smt_resolver.specs.declared.value.MemberValues.{MemberValues}
use Rattle.smt_resolver.specs.Values.{IsTermValue, AreTermValues, IsFormulaValue, AreFormulaValues, HasId}
use Rattle.smt_resolver.specs.Readings.{IsMeaning, IsMeant, AreMembersOf, AreMeant, IsMemberAdded, HasValueId, HaveMemberIds, IsFrame, IsFrameRead, terms_among, formulas_among}
use Rattle.smt_resolver.proofs.Lists.{each_more}
use Rattle.smt_resolver.proofs.PartLists.{append_one, append_none, values_stay}

-- ---- one member more

terms_more : (ms : List Meaning) (t : TermTree) → terms_among (ms ++ Term t ∷ []) ≡ terms_among ms ++ t ∷ []
terms_more [] t = refl
terms_more (Term s ∷ ms) t = ap (λ xs. s ∷ xs) (terms_more ms t)
terms_more (Formula f ∷ ms) t = terms_more ms t

terms_same : (ms : List Meaning) (f : FormulaTree) → terms_among (ms ++ Formula f ∷ []) ≡ terms_among ms
terms_same [] f = refl
terms_same (Term s ∷ ms) f = ap (λ xs. s ∷ xs) (terms_same ms f)
terms_same (Formula g ∷ ms) f = terms_same ms f

formulas_more : (ms : List Meaning) (f : FormulaTree) → formulas_among (ms ++ Formula f ∷ []) ≡ formulas_among ms ++ f ∷ []
formulas_more [] f = refl
formulas_more (Term s ∷ ms) f = formulas_more ms f
formulas_more (Formula g ∷ ms) f = ap (λ xs. g ∷ xs) (formulas_more ms f)

formulas_same : (ms : List Meaning) (t : TermTree) → formulas_among (ms ++ Term t ∷ []) ≡ formulas_among ms
formulas_same [] t = refl
formulas_same (Term s ∷ ms) t = formulas_same ms t
formulas_same (Formula g ∷ ms) t = ap (λ xs. g ∷ xs) (formulas_same ms t)

module _ {Id : Type 0} (c : Context) (limit : ℕ) (P : Id → Type 0) (t : Id → Tree) where
  pub member_added : (ms : List Meaning) (m : Meaning) (old new : MemberValues Id) (v : Value Id) → AreMembersOf c limit P t ms old → IsMeaning c limit P t m v → IsMemberAdded old v new → AreMembersOf c limit P t (ms ++ m ∷ []) new
  member_added ms (Term s) old new (value.Term v) h k a = record {
    terms = subst (AreTermValues c limit (terms_among (ms ++ Term s ∷ []))) (sym a.0) (subst (λ xs. AreTermValues c limit xs (old.terms.items ++ v ∷ [])) (sym (terms_more ms s)) (each_more (IsTermValue c limit) (terms_among ms) s old.terms.items v h.terms k));
    formulas = subst (AreFormulaValues c limit P t (formulas_among (ms ++ Term s ∷ []))) (sym a.1) (subst (λ xs. AreFormulaValues c limit P t xs old.formulas.items) (sym (formulas_same ms s)) h.formulas);
  }
  member_added ms (Formula f) old new (value.Formula v) h k a = record {
    terms = subst (AreTermValues c limit (terms_among (ms ++ Formula f ∷ []))) (sym a.0) (subst (λ xs. AreTermValues c limit xs old.terms.items) (sym (terms_same ms f)) h.terms);
    formulas = subst (AreFormulaValues c limit P t (formulas_among (ms ++ Formula f ∷ []))) (sym a.1) (subst (λ xs. AreFormulaValues c limit P t xs (old.formulas.items ++ v ∷ [])) (sym (formulas_more ms f)) (each_more (IsFormulaValue c limit P t) (formulas_among ms) f old.formulas.items v h.formulas k));
  }
  member_added ms (Term s) old new (value.Formula v) h k a = absurd k
  member_added ms (Formula f) old new (value.Term v) h k a = absurd k

  pub no_members_yet : (m : MemberValues Id) → m.terms.items ≡ [] → m.formulas.items ≡ [] → AreMembersOf c limit P t [] m
  no_members_yet m e f = record { terms = subst (AreTermValues c limit []) (sym e) tt; formulas = subst (AreFormulaValues c limit P t []) (sym f) tt }

module _ {Id : Type 0} (P : Id → Type 0) (t : Id → Tree) (Q : Id → Type 0) (u : Id → Tree) (k : Keeps P t Q u) (c : Context) (limit : ℕ) where
  pub members_stay : (ms : List Meaning) (m : MemberValues Id) → AreMembersOf c limit P t ms m → AreMembersOf c limit Q u ms m
  members_stay ms m h = record { terms = h.terms; formulas = values_stay P t Q u k c limit (formulas_among ms) m.formulas.items h.formulas }

pub member_ids_more : {Id : Type 0} (P : Id → Type 0) (old new : MemberValues Id) (v : Value Id) → HaveMemberIds P old → HasValueId P v → IsMemberAdded old v new → HaveMemberIds P new
member_ids_more P old new (value.Term v) h k a = subst (AllByRecursion (HasId P)) (sym a.1) h
member_ids_more P old new (value.Formula v) h k a = subst (AllByRecursion (HasId P)) (sym a.1) (all_append (HasId P) old.formulas.items (v ∷ []) h (k, tt))

-- ---- members that are left

shifted : (ds : List Meaning) (d : Meaning) (o : Option (List Meaning)) → option_map (λ ms. ds ++ ms) (option_map (λ ms. d ∷ ms) o) ≡ option_map (λ ms. (ds ++ d ∷ []) ++ ms) o
shifted ds d None = refl
shifted ds d (Some ms) = ap Some (sym (append_one ds d ms))

module _ {Id : Type 0} (c : Context) (limit : ℕ) (s : Scope) (n : ℕ) (all : ExpressionTrees) where
  -- what was read of the first members, with those that are left
  pub record MemberState (P : Id → Type 0) (t : Id → Tree) (rest : ExpressionTrees) (m : MemberValues Id) : Type 0 where
    pub done : List Meaning
    pub means : meanings c s n all ≡ option_map (λ ms. done ++ ms) (meanings c s n rest)
    pub values : AreMembersOf c limit P t done m

  pub member_step : (P : Id → Type 0) (t : Id → Tree) (Q : Id → Type 0) (u : Id → Tree) (e : ExpressionTree) (rest : ExpressionTrees) (old new : MemberValues Id) (v : Value Id) → MemberState P t (also e rest) old → Keeps P t Q u
      → IsMeant c limit Q u (meaning c s n e) (Some v) → IsMemberAdded old v new → MemberState Q u rest new
  member_step P t Q u e rest old new v h k i a = go (meaning c s n e) refl i
    where
      go : (o : Option Meaning) → meaning c s n e ≡ o → IsMeant c limit Q u o (Some v) → MemberState Q u rest new
      go None j x = absurd x
      go (Some d) j x = record {
        done = h.done ++ d ∷ [];
        means = h.means ∙ ap (λ o. option_map (λ ms. h.done ++ ms) (and_then o (λ m. option_map (λ ms. m ∷ ms) (meanings c s n rest)))) j ∙ shifted h.done d (meanings c s n rest);
        values = member_added c limit Q u h.done d old new v (members_stay P t Q u k c limit h.done old h.values) x a;
      }

  pub member_missing : (P : Id → Type 0) (t : Id → Tree) (Q : Id → Type 0) (u : Id → Tree) (e : ExpressionTree) (rest : ExpressionTrees) (m : MemberValues Id) → MemberState P t (also e rest) m → IsMeant c limit Q u (meaning c s n e) None → AreMeant c limit Q u (meanings c s n all) None
  member_missing P t Q u e rest m h i = go (meaning c s n e) refl i
    where
      go : (o : Option Meaning) → meaning c s n e ≡ o → IsMeant c limit Q u o None → AreMeant c limit Q u (meanings c s n all) None
      go None j x = subst (λ o. AreMeant c limit Q u o None) (sym (h.means ∙ ap (λ o. option_map (λ ms. h.done ++ ms) (and_then o (λ m. option_map (λ ms. m ∷ ms) (meanings c s n rest)))) j)) tt
      go (Some d) j x = absurd x

  pub members_done : (P : Id → Type 0) (t : Id → Tree) (m : MemberValues Id) → MemberState P t none m → AreMeant c limit P t (meanings c s n all) (Some m)
  members_done P t m h = subst (λ o. AreMeant c limit P t o (Some m)) (sym (h.means ∙ ap Some (append_none h.done))) h.values

-- ---- values of a let that are left

module _ {Id : Type 0} (c : Context) (limit : ℕ) (s : Scope) (n : ℕ) (all : LocalTrees) where
  -- what was read of the first values, with those that are left
  pub record LocalState (P : Id → Type 0) (t : Id → Tree) (rest : LocalTrees) (frame : List (List ℕ × Value Id)) : Type 0 where
    pub inner : Scope
    pub means : local_scope c s n all s ≡ local_scope c s n rest inner
    pub values : IsFrame c limit P t frame s inner

  pub local_step : (P : Id → Type 0) (t : Id → Tree) (Q : Id → Type 0) (u : Id → Tree) (y : List ℕ) (e : ExpressionTree) (rest : LocalTrees) (old new : List (List ℕ × Value Id)) (v : Value Id) → LocalState P t (also_local y e rest) old → Keeps P t Q u
      → IsMeant c limit Q u (meaning c s n e) (Some v) → ((x : List ℕ) → bound_to new x ≡ (if same_name y x then Some v else bound_to old x)) → LocalState Q u rest new
  local_step P t Q u y e rest old new v h k i a = go (meaning c s n e) refl i
    where
      go : (o : Option Meaning) → meaning c s n e ≡ o → IsMeant c limit Q u o (Some v) → LocalState Q u rest new
      go None j x = absurd x
      go (Some d) j x = record {
        inner = with_symbol y d h.inner;
        means = h.means ∙ ap (λ o. and_then o (λ m. local_scope c s n rest (with_symbol y m h.inner))) j;
        values = frame_more c limit Q u old new y v d s h.inner (frame_stays P t Q u k c limit old s h.inner h.values) x a;
      }

  pub local_missing : (P : Id → Type 0) (t : Id → Tree) (Q : Id → Type 0) (u : Id → Tree) (y : List ℕ) (e : ExpressionTree) (rest : LocalTrees) (frame : List (List ℕ × Value Id)) → LocalState P t (also_local y e rest) frame → IsMeant c limit Q u (meaning c s n e) None → IsFrameRead c limit Q u (local_scope c s n all s) s None
  local_missing P t Q u y e rest frame h i = go (meaning c s n e) refl i
    where
      go : (o : Option Meaning) → meaning c s n e ≡ o → IsMeant c limit Q u o None → IsFrameRead c limit Q u (local_scope c s n all s) s None
      go None j x = subst (λ o. IsFrameRead c limit Q u o s None) (sym (h.means ∙ ap (λ o. and_then o (λ m. local_scope c s n rest (with_symbol y m h.inner))) j)) tt
      go (Some d) j x = absurd x

  pub locals_done : (P : Id → Type 0) (t : Id → Tree) (frame : List (List ℕ × Value Id)) → LocalState P t no_local frame → IsFrameRead c limit P t (local_scope c s n all s) s (Some frame)
  locals_done P t frame h = subst (λ o. IsFrameRead c limit P t o s (Some frame)) (sym h.means) h.values
