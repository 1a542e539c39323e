-- What the guards of a case tree tell of a formula at a point.
use Rattle.std.proofs.Common.{◌≡◌, ◌↔◌, ℕ, zero, suc, ◌<◌, get_or, length, arith, ℤ, Bool, true, false, not, List, [], ◌∷◌, inl, inr, ⊎_elim, sym, ap, subst, unsigned_abs}
use Rattle.std.proofs.Math.IntN.{pos}
use Rattle.std.specs.Prelude.{◌<ℤ◌, IsTrue, Option, Some, None, MatchOption}
use Rattle.logic_meaning.specs.Context.{Context, IsDenominator}
use Rattle.logic_meaning.specs.Point.{Point, Of}
use Rattle.logic_meaning.specs.Formula.{Or}
use Rattle.logic_meaning.specs.Every.{Every}
use Rattle.logic_meaning.specs.Some.{Among, EachOf}
use Rattle.logic_meaning.specs.Atom.{Atom, Says}
use Rattle.logic_meaning.specs.Tree.{Tree, TrueAt}
use Rattle.elimination_theory.proofs.BothTheories.{decided}
use Rattle.logic_meaning.specs.NormalForm.{IsNormal}
use Rattle.logic_meaning.specs.Cases.{case_sign, case_names}
use Rattle.logic_meaning.specs.Reference.{normal_tree}
use Rattle.elimination_theory.specs.Theorems.{IsTidy}
use Rattle.logic_meaning.specs.AnswerParts.{guards_of}
use Rattle.elimination_theory.proofs.Turning.{normal_inside}
use Rattle.formula_tree.specs.declared.shape.Shape.{Shape}
use Rattle.formula_store.specs.declared.id.FormulaId.{FormulaId}
use Rattle.formula_store.specs.Nodes.{tree, IsId}
use Rattle.formula_store.specs.Truths.{Tells}
use Rattle.case_theory.specs.CaseTree.{without_all, IsCaseUnder, SaysUnder}
use Rattle.case_theory.proofs.Simplified.{plain_free}
use Rattle.case_theory.proofs.Without.{without_all_each}
use Rattle.engine_answers.specs.declared.case_tree.Case.{Case}
use Rattle.engine_answers.specs.declared.case_tree.CaseTree.{CaseTree}
use Rattle.engine_answers.specs.CaseTrees.{cases_seen, IsCaseTreeOf}
use Rattle.engine_answers.specs.Truths.{CanBeTold}
use Rattle.engine_answers.proofs.Whole.{whole_where_asked}

-- ---- what is said of an option

pub match_some : {T : Type 0} (o : Option T) (P : Type 0) (Q : T → Type 0) (x : T) → o ≡ Some x → MatchOption o P Q → Q x
match_some (Some y) P Q x e h = let same : y ≡ x = cc (e) in subst Q same h
match_some None P Q x e h = absurd (cc (e))

pub match_none : {T : Type 0} (o : Option T) (P : Type 0) (Q : T → Type 0) → o ≡ None → MatchOption o P Q → P
match_none (Some y) P Q e h = absurd (cc (e))
match_none None P Q e h = h

-- ---- an element by its place

pub each_there : (P : Case → Type 0) (xs : List Case) (i : ℕ) (x : Case) → i < length xs → x ≡ get_or xs i x → EachOf P xs → P x
each_there P [] i x l e h = absurd (omega arith)
each_there P (y ∷ xs) zero x l e h = subst P (sym e) h.0
each_there P (y ∷ xs) (suc i) x l e h = each_there P xs i x (omega arith) e h.1

pub among_there : (xs : List Case) (i : ℕ) (x : Case) → i < length xs → x ≡ get_or xs i x → Among xs x
among_there [] i x l e = absurd (omega arith)
among_there (y ∷ xs) zero x l e = inl (sym e)
among_there (y ∷ xs) (suc i) x l e = inr (among_there xs i x (omega arith) e)

module _ (c : Context) (nodes : List (Shape FormulaId)) where
  -- the guards are tidy
  guards_tidy : (ks : List Atom) (f matrix : Tree) (block : List ℕ) (cases : List Case) → EachOf (IsCaseUnder c ks f matrix block) (cases_seen nodes cases) → EachOf (λ (k : Case). IsTidy c (tree nodes k.guard)) cases
  guards_tidy ks f matrix block [] h = tt
  guards_tidy ks f matrix block (k ∷ cases) h = (h.0.tidy, guards_tidy ks f matrix block cases h.1)

  can_be_told : (d : ℤ) (cases : List Case) → pos 0 <ℤ d → IsDenominator c (unsigned_abs d) → EachOf (λ (k : Case). IsId nodes k.guard) cases → EachOf (λ (k : Case). IsTidy c (tree nodes k.guard)) cases → EachOf (CanBeTold nodes d) cases
  can_be_told d [] h of are tidy = tt
  can_be_told d (k ∷ cases) h of are tidy = (
    record { is = are.0; free = plain_free c (tree nodes k.guard) tidy.0.is_plain; whole = whole_where_asked c (tree nodes k.guard) d tidy.0.normal h of },
    can_be_told d cases h of are.1 tidy.1,
  )

  pub tree_told : (f : Tree) (t : CaseTree) → IsCaseTreeOf c [] f nodes t → (d : ℤ) → pos 0 <ℤ d → IsDenominator c (unsigned_abs d) → EachOf (CanBeTold nodes d) t.cases.items
  tree_told f t h d positive of =
      can_be_told d t.cases.items positive of h.guards (guards_tidy (without_all (case_names f) []) f (tree nodes t.matrix) (case_names f) t.cases.items h.cases.each)

  module _ (p : Point ℕ) where
    pub some_true : (cases : List Case) (k : Case) → Among cases k → Tells true (tree nodes k.guard) p → TrueAt c (Or (guards_of (cases_seen nodes cases))) p
    some_true [] k m t = absurd m
    some_true (j ∷ cases) k (inl e) t = inl (subst (λ (i : Case). TrueAt c (tree nodes i.guard) p) (sym e) (t c))
    some_true (j ∷ cases) k (inr m) t = inr (some_true cases k m t)

    pub none_true : (cases : List Case) → EachOf (λ (k : Case). Tells false (tree nodes k.guard) p) cases → ¬ (TrueAt c (Or (guards_of (cases_seen nodes cases))) p)
    none_true [] h t = t
    none_true (k ∷ cases) h t = ⊎_elim (h.0 c) (none_true cases h.1) t

    module _ (f : Tree) (n : Every (IsNormal c) f) (o : Of c p) (t : CaseTree) (h : IsCaseTreeOf c [] f nodes t) where
      abbrev guards : Tree
      guards = Or (guards_of (cases_seen nodes t.cases.items))

      abbrev sign : Bool
      sign = case_sign (normal_tree f)

      says : SaysUnder c (without_all (case_names f) []) sign f guards
      says = h.cases.together

      -- where a guard is true, so is the formula, or for a block of all it is not
      pub told_some : TrueAt c guards p → IsTrue (not t.universal) ↔ TrueAt c f p
      told_some g = go sign h.universal says
        where
          go : (b : Bool) → t.universal ≡ not b → SaysUnder c (without_all (case_names f) []) b f guards → IsTrue (not t.universal) ↔ TrueAt c f p
          go true u s = (λ w. (s p o (without_all_each (λ k. Says k p) (case_names f) [] tt)).1 g, λ w. ap not u)
          go false u s =
              let no : ¬ (TrueAt c f p) = (s p o (without_all_each (λ k. Says k p) (case_names f) [] tt)).1 g in
              (λ w. let e : not t.universal ≡ false = ap not u in absurd (cc (e, w)), λ w. absurd (no w))

      -- and where none is, it is the other way round
      pub told_none : ¬ (TrueAt c guards p) → IsTrue t.universal ↔ TrueAt c f p
      told_none g = go sign h.universal says
        where
          go : (b : Bool) → t.universal ≡ not b → SaysUnder c (without_all (case_names f) []) b f guards → IsTrue t.universal ↔ TrueAt c f p
          go true u s = (λ w. absurd (cc (u, w)), λ w. absurd (g ((s p o (without_all_each (λ k. Says k p) (case_names f) [] tt)).0 w)))
          go false u s =
              let i = s p o (without_all_each (λ k. Says k p) (case_names f) [] tt) in
              (λ w. ⊎_elim (λ v. v) (λ v. absurd (g (i.0 v))) (decided c f p (normal_inside c f n) o), λ w. u)
