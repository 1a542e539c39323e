-- A solver's clauses stay laws, and the empty clause among them leaves no point.
use Rattle.std.proofs.Common.{◌≡◌, ℕ, zero, suc, List, [], ◌∷◌, ◌++◌, Some, length, ap, ◌∙◌, subst, refl, slice_get, arith}
use Rattle.logic_meaning.specs.Point.{Point}
use Rattle.std.proofs.Math.IntN.{ℤ, pos}
use Rattle.std.specs.Prelude.{◌<ℤ◌}
use Rattle.std.proofs.lemmas.Int.{ints}
use Rattle.logic_meaning.specs.Formula.{Yes, One}
use Rattle.logic_meaning.specs.Form.{Form, value}
use Rattle.logic_meaning.specs.Atom.{Compare, Differs, Below, Above}
use Rattle.logic_meaning.specs.Tree.{Tree, TrueAt}
use Rattle.normal_atoms.specs.declared.atoms.Context.{Context}
use Rattle.formula_tree.specs.declared.shape.Shape.{Shape}
use Rattle.formula_store.specs.declared.id.FormulaId.{FormulaId}
use Rattle.clause_theory.specs.declared.clause.Literal.{Literal}
use Rattle.clause_theory.specs.declared.clause.Clause.{Clause}
use Rattle.clause_theory.specs.Clauses.{AllHold, Implies}
use Rattle.clause_theory.proofs.Marked.{each_push, each_of}
use Rattle.clause_theory.proofs.UnitSteps.{each_at}
use Rattle.clause_search.proofs.NodeLaws.{holds_at, fails_at}
use Rattle.clause_search.specs.declared.variables.Variable.{Variable}
use Rattle.clause_search.specs.Variables.{formula, IsRowed, StandsFor}
use Rattle.clause_search.specs.Refuting.{IsTheoryLaw}
use Rattle.clause_search.specs.Soundness.{Question, IsMet, IsLaw, AreSound, IsUnmet}
use Rattle.clause_search.specs.Variables.{AreKept, StandsAmong}

-- ---- places

front_at : {X : Type 0} (xs ys : List X) (k : ℕ) (x : X) → slice_get xs k ≡ Some x → slice_get (xs ++ ys) k ≡ Some x
front_at [] ys k x e = absurd cc
front_at (y ∷ xs) ys zero x e = e
front_at (y ∷ xs) ys (suc k) x e = front_at xs ys k x e

last_at : {X : Type 0} (xs : List X) (x : X) → slice_get (xs ++ x ∷ []) (length xs) ≡ Some x
last_at [] x = refl
last_at (y ∷ xs) x = last_at xs x

-- one variable more
pub kept_push : (vs : List Variable) (v : Variable) → AreKept vs (vs ++ v ∷ [])
kept_push vs v nodes f stands k w there = stands k w (front_at vs (v ∷ []) k w there)

pub stands_last : (vs : List Variable) (v : Variable) (t : Tree) → ((nodes : List (Shape FormulaId)) → formula nodes v.meaning ≡ t) → StandsAmong (vs ++ v ∷ []) (length vs) t
stands_last vs v t same nodes f stands = stands (length vs) v (last_at vs v) ∙ same nodes

-- ---- formulas for the variables

formulas : List (Shape FormulaId) → List Variable → ℕ → Tree
formulas nodes [] k = Yes
formulas nodes (v ∷ vs) zero = formula nodes v.meaning
formulas nodes (v ∷ vs) (suc k) = formulas nodes vs k

formulas_stand : (nodes : List (Shape FormulaId)) (vs : List Variable) → StandsFor nodes vs (formulas nodes vs)
unfolding formulas
formulas_stand nodes [] k w e = absurd cc
formulas_stand nodes (v ∷ vs) zero w e = let same : v ≡ w = cc in ap (λ (u : Variable). formula nodes u.meaning) same
formulas_stand nodes (v ∷ vs) (suc k) w e = formulas_stand nodes vs k w e

-- ---- laws

module _ (q : Question) (context : Context) (vs : List Variable) (clauses : List Clause) (sound : AreSound q context vs clauses) where
  all_hold : (f : ℕ → Tree) → StandsFor q.nodes vs f → (p : Point ℕ) → IsMet q p → AllHold f q.theory p clauses
  all_hold f stands p met i k there = each_at (λ (j : Clause). IsLaw q vs j.literals.items) clauses i k sound.laws there f stands p met

  pub implied_law : (ls : List Literal) → Implies clauses ls → IsLaw q vs ls
  implied_law ls implies f stands p met = implies f q.theory p (all_hold f stands p met)

  pub theory_law : (ls : List Literal) → IsTheoryLaw vs ls → IsLaw q vs ls
  theory_law ls law f stands p met = law f q.theory p (record { nodes = q.nodes; rowed = sound.rowed; stands = stands; of_theory = met.of_theory })

  pub clause_push : (k : Clause) → IsLaw q vs k.literals.items → AreSound q context vs (clauses ++ k ∷ [])
  clause_push k law = record { theory = sound.theory; rowed = sound.rowed; laws = each_push (λ (j : Clause). IsLaw q vs j.literals.items) clauses k sound.laws law }

  pub variable_push : (v : Variable) → IsRowed q.theory q.nodes v → AreSound q context (vs ++ v ∷ []) clauses
  variable_push v rowed = record {
    theory = sound.theory;
    rowed = each_push (IsRowed q.theory q.nodes) vs v sound.rowed rowed;
    laws = each_of (λ (j : Clause). IsLaw q vs j.literals.items) (λ (j : Clause). IsLaw q (vs ++ v ∷ []) j.literals.items) clauses (λ k law f stands. law f (kept_push vs v q.nodes f stands)) sound.laws;
  }

  -- the empty clause
  pub unmet : Implies clauses [] → IsUnmet q
  unmet implies p met = implied_law [] implies (formulas q.nodes vs) (formulas_stand q.nodes vs) p met tt

-- ---- a form that differs from 0

not_zero : (v : ℤ) → ¬ (v <ℤ pos 0) → ¬ (pos 0 <ℤ v) → v ≡ pos 0
not_zero v low high = grind (arith, ints)

module _ (q : Question) (vs : List Variable) (place below above : ℕ) (form : Form) where
  -- it is below 0 or above
  pub separate_law : ((f : ℕ → Tree) → StandsFor q.nodes vs f → f place ≡ One (Compare Differs form)) → StandsAmong vs below (One (Compare Below form)) → StandsAmong vs above (One (Compare Above form))
      → IsLaw q vs (fails_at place ∷ holds_at below ∷ holds_at above ∷ [])
  separate_law differs less more f stands p met fail =
      let low = subst (λ (t : Tree). ¬ (TrueAt q.theory t p)) (less q.nodes f stands) fail.1.0 in
      let high = subst (λ (t : Tree). ¬ (TrueAt q.theory t p)) (more q.nodes f stands) fail.1.1.0 in
      let away = subst (λ (t : Tree). ¬ ¬ (TrueAt q.theory t p)) (differs f stands) fail.0 in
      away (λ h. h (not_zero (value form p) low high))
