-- What the guards of a formula without free names tell of it.
use Rattle.std.proofs.Common.{◌≡◌, ◌⊎◌, ◌↔◌, ◌<◌, ℕ, zero, suc, length, get_or, arith, Bool, true, false, not, List, [], ◌∷◌, inl, inr, ⊎_elim, refl, subst, sym}
use Rattle.std.proofs.Math.Bool.{beq}
use Rattle.std.specs.Prelude.{IsTrue}
use Rattle.logic_meaning.specs.Context.{Context}
use Rattle.logic_meaning.specs.Every.{Every}
use Rattle.logic_meaning.specs.Formula.{Yes, No, Or}
use Rattle.logic_meaning.specs.Some.{EachOf, SomeOf}
use Rattle.logic_meaning.specs.Atom.{Atom, Says}
use Rattle.logic_meaning.specs.Tree.{Tree, TrueAt, IsFree}
use Rattle.logic_meaning.specs.NormalForm.{IsNormal}
use Rattle.elimination_theory.proofs.BothTheories.{decided}
use Rattle.logic_meaning.specs.AnswerParts.{guards_of}
use Rattle.logic_meaning.specs.Cases.{case_sign, case_names}
use Rattle.logic_meaning.specs.Reference.{normal_tree}
use Rattle.elimination_theory.proofs.Turning.{normal_inside}
use Rattle.formula_tree.specs.declared.shape.Shape.{Shape}
use Rattle.formula_store.specs.declared.id.FormulaId.{FormulaId}
use Rattle.formula_store.specs.Nodes.{tree}
use Rattle.case_theory.specs.CaseTree.{IsCaseUnder, SaysUnder, without_all}
use Rattle.case_theory.proofs.Without.{without_all_each}
use Rattle.logic_meaning.specs.Values.{origin}
use Rattle.sample_reference.proofs.Chain.{origin_of}
use Rattle.sample_reference.proofs.Constants.{closed_constant}
use Rattle.engine_answers.specs.declared.case_tree.Case.{Case}
use Rattle.engine_answers.specs.declared.case_tree.CaseTree.{CaseTree}
use Rattle.engine_answers.specs.CaseTrees.{IsCaseTreeOf, cases_seen}

-- that some guard is `true`
abbrev pub SomeTrue : List (Shape FormulaId) → List Case → Type 0
SomeTrue nodes cases = SomeOf (λ (k : Case). tree nodes k.guard ≡ Yes) cases

-- P holds of the element at this place, so of some element
some_there : (P : Case → Type 0) (xs : List Case) (i : ℕ) (x : Case) → i < length xs → x ≡ get_or xs i x → P x → SomeOf P xs
some_there P [] i x l e h = absurd (omega arith)
some_there P (y ∷ xs) zero x l e h = inl (subst P e h)
some_there P (y ∷ xs) (suc i) x l e h = inr (some_there P xs i x (omega arith) e h)

-- The guard at this place is `true`, so some guard is.
pub true_there : (nodes : List (Shape FormulaId)) (cases : List Case) (i : ℕ) (k : Case) → i < length cases → k ≡ get_or cases i k → tree nodes k.guard ≡ Yes → SomeTrue nodes cases
true_there nodes cases i k l e h = some_there (λ (j : Case). tree nodes j.guard ≡ Yes) cases i k l e h

module _ (c : Context) (nodes : List (Shape FormulaId)) (f : Tree) (closed : (y : ℕ) → ¬ (IsFree f y)) where
  -- each guard is `true` or `false`, so some guard is `true` exactly where their disjunction is true
  guards_tell : (ks : List Atom) (matrix : Tree) (block : List ℕ) (cases : List Case) → EachOf (IsCaseUnder c ks f matrix block) (cases_seen nodes cases) → SomeTrue nodes cases ↔ TrueAt c (Or (guards_of (cases_seen nodes cases))) origin
  guards_tell ks matrix block [] h = (λ t. t, λ t. t)
  guards_tell ks matrix block (k ∷ cases) h =
      let rest = guards_tell ks matrix block cases h.1 in (
        ⊎_elim (λ e. inl (subst (λ (g : Tree). TrueAt c g origin) (sym e) tt)) (λ s. inr (rest.0 s)),
        ⊎_elim (λ t. inl (only t (closed_constant c (tree nodes k.guard) h.0.tidy (λ y m. closed y (h.0.names y m))))) (λ s. inr (rest.1 s)),
      )
    where
      only : TrueAt c (tree nodes k.guard) origin → (tree nodes k.guard ≡ Yes) ⊎ (tree nodes k.guard ≡ No) → tree nodes k.guard ≡ Yes
      only t (inl e) = e
      only t (inr e) = absurd (subst (λ (g : Tree). TrueAt c g origin) e t)

  module _ (n : Every (IsNormal c) f) (t : CaseTree) (h : IsCaseTreeOf c [] f nodes t) where
    abbrev guards : Tree
    guards = Or (guards_of (cases_seen nodes t.cases.items))

    says : SaysUnder c (without_all (case_names f) []) (case_sign (normal_tree f)) f guards
    says = h.cases.together

    tell : SomeTrue nodes t.cases.items ↔ TrueAt c guards origin
    tell = guards_tell (without_all (case_names f) []) (tree nodes t.matrix) (case_names f) t.cases.items h.cases.each

    -- The formula is true where some guard is `true`, or for a block of `all` where none is.
    pub told_by : (b : Bool) → IsTrue b ↔ SomeTrue nodes t.cases.items → IsTrue (not (beq b t.universal)) ↔ TrueAt c f origin
    told_by b e = go (case_sign (normal_tree f)) t.universal h.universal says b (λ w. tell.0 (e.0 w), λ w. e.1 (tell.1 w))
      where
        go : (s u : Bool) → u ≡ not s → SaysUnder c (without_all (case_names f) []) s f guards → (d : Bool) → IsTrue d ↔ TrueAt c guards origin → IsTrue (not (beq d u)) ↔ TrueAt c f origin
        go true true i j d k = absurd (cc (i))
        go false false i j d k = absurd (cc (i))
        go true false i j true k =
            let same = j origin (origin_of c) (without_all_each (λ a. Says a origin) (case_names f) [] tt) in
            (λ w. same.1 (k.0 w), λ w. k.1 (same.0 w))
        go true false i j false k =
            let same = j origin (origin_of c) (without_all_each (λ a. Says a origin) (case_names f) [] tt) in
            (λ w. same.1 (k.0 w), λ w. k.1 (same.0 w))
        go false true i j true k =
            let same = j origin (origin_of c) (without_all_each (λ a. Says a origin) (case_names f) [] tt) in
            (λ w. absurd (cc (w)), λ w. absurd (same.1 (k.0 refl) w))
        go false true i j false k =
            let same = j origin (origin_of c) (without_all_each (λ a. Says a origin) (case_names f) [] tt) in
            (λ w. ⊎_elim (λ v. v) (λ v. absurd (cc (k.1 (same.0 v)))) (decided c f origin (normal_inside c f n) (origin_of c)), λ w. refl)
