-- The variables and clauses with which a solver begins.
use Rattle.std.proofs.Common.{◌≡◌, ℕ, zero, suc, List, [], ◌∷◌, ◌++◌, Some, ap, sym, ◌∙◌, subst, refl, inl, inr, slice_get}
use Rattle.std.specs.List.{AllByRecursion}
use Rattle.logic_meaning.specs.Some.{EachOf, Among}
use Rattle.logic_meaning.specs.Tree.{Tree, TrueAt}
use Rattle.normal_atoms.specs.declared.atoms.Context.{Context}
use Rattle.normal_atoms.specs.Atoms.{context_of}
use Rattle.formula_tree.specs.declared.shape.Shape.{Shape}
use Rattle.formula_store.specs.declared.id.FormulaId.{FormulaId}
use Rattle.formula_store.specs.Nodes.{tree, IsId}
use Rattle.formula_store.specs.Order.{IsOrder}
use Rattle.formula_store.proofs.Counted.{within_id, each_within}
use Rattle.clause_theory.specs.declared.clause.Clause.{Clause}
use Rattle.clause_theory.proofs.Marked.{each_push, each_of}
use Rattle.clause_search.specs.declared.variables.Meaning.{Meaning}
use Rattle.clause_search.specs.declared.variables.Meaning.TheVariants.{Node}
use Rattle.clause_search.specs.declared.variables.Variable.{Variable}
use Rattle.clause_search.specs.declared.table.Table.{Table}
use Rattle.clause_search.specs.Variables.{formula, IsRowed, StandsFor, AreKept, StandsAmong}
use Rattle.clause_search.specs.Nodes.{StandsForNodes, IsNodeLaw, AreNodeLaws, StandsAt}
use Rattle.clause_search.specs.Tables.{AreNodes, HaveNodes, Grows}
use Rattle.clause_search.specs.Soundness.{Question, IsLaw, AreSound}
use Rattle.clause_search.proofs.NodeLaws.{holds_at}
use Rattle.clause_search.proofs.Solving.{clause_push}

-- ---- the formulas that stand in one

each_from : (P : FormulaId → Type 0) (ids : List FormulaId) → ((x : FormulaId) → Among ids x → P x) → AllByRecursion P ids
each_from P [] h = tt
each_from P (i ∷ ids) h = (h i (inl refl), each_from P ids (λ x m. h x (inr m)))

pub subformula_ids : (nodes : List (Shape FormulaId)) (root : FormulaId) (ids : List FormulaId) → IsId nodes root → IsOrder nodes (root ∷ []) ids → AllByRecursion (IsId nodes) ids
subformula_ids nodes root ids h o = each_from (IsId nodes) ids (λ x m. within_id nodes h.are root x h (each_within nodes h.are root ids o.only x m))

-- ---- their variables

variable_at : (ids : List FormulaId) (vs : List Variable) (k : ℕ) (id : FormulaId) → AreNodes ids vs → slice_get ids k ≡ Some id → (v : Variable) × (slice_get vs k ≡ Some v) × (v.meaning ≡ Node id)
variable_at [] vs k id are e = absurd cc
variable_at (i ∷ ids) [] k id are e = absurd cc
variable_at (i ∷ ids) (v ∷ vs) zero id are e = let same : i ≡ id = cc in let m : v.meaning ≡ Node i = cc in (v, refl, m ∙ ap (λ (j : FormulaId). Node j) same)
variable_at (i ∷ ids) (v ∷ vs) (suc k) id are e = let rest : AreNodes ids vs = cc in variable_at ids vs k id rest e

pub nodes_push : (ids : List FormulaId) (vs : List Variable) (id : FormulaId) (v : Variable) → AreNodes ids vs → v.meaning ≡ Node id → AreNodes (ids ++ id ∷ []) (vs ++ v ∷ [])
nodes_push [] [] id v are e = ap (λ (m : Meaning). m ∷ []) e
nodes_push [] (w ∷ vs) id v are e = absurd cc
nodes_push (i ∷ ids) [] id v are e = absurd cc
nodes_push (i ∷ ids) (w ∷ vs) id v are e = let rest : AreNodes ids vs = cc in let more = nodes_push ids vs id v rest e in let first : w.meaning ≡ Node i = cc in cc

module _ (q : Question) (context : Context) (theory : q.theory ≡ context_of context) (ids : List FormulaId) (vs : List Variable) (are : AreNodes ids vs) where
  pub nodes_stand : (f : ℕ → Tree) → StandsFor q.nodes vs f → StandsForNodes q.nodes ids f
  nodes_stand f stands k id there =
      let found = variable_at ids vs k id are there in
      stands k found.0 found.1 ∙ ap (λ m. formula q.nodes m) found.2

  -- the clauses of the nodes, and that the formula is true
  pub begun : (clauses : List Clause) (place : ℕ) (k : Clause) → EachOf (IsRowed q.theory q.nodes) vs → AreNodeLaws q.nodes ids clauses → StandsAt q.nodes ids place (tree q.nodes q.root) → k.literals.items ≡ holds_at place ∷ []
      → AreSound q context vs (clauses ++ k ∷ [])
  begun clauses place k rowed laws at e =
      let law : IsLaw q vs (holds_at place ∷ []) = λ f stands p met fail. fail.0 (subst (λ (t : Tree). TrueAt q.theory t p) (sym (at f (nodes_stand f stands))) met.true_at) in
      record {
        theory = theory;
        rowed = rowed;
        laws =
            each_push (λ (j : Clause). IsLaw q vs j.literals.items) clauses k
            (each_of (λ (j : Clause). IsNodeLaw q.nodes ids j.literals.items) (λ (j : Clause). IsLaw q vs j.literals.items) clauses (λ j law f stands p met. law f (nodes_stand f stands) q.theory p) laws)
            (subst (IsLaw q vs) (sym e) law);
      }

-- ---- tables that grow

module _ (nodes : List (Shape FormulaId)) (context : Context) where
  pub no_growth : (t : Table) → Grows nodes context t t
  no_growth t = record { sound = λ q same sound. sound; kept = λ ns f stands. stands }

  pub grows_then : (t u v : Table) → Grows nodes context t u → Grows nodes context u v → Grows nodes context t v
  grows_then t u v first next = record { sound = λ q same sound. next.sound q same (first.sound q same sound); kept = λ ns f stands. first.kept ns f (next.kept ns f stands) }

pub nodes_still : (nodes : List (Shape FormulaId)) (ids : List FormulaId) (old new : List Variable) → AreKept old new → HaveNodes nodes ids old → HaveNodes nodes ids new
nodes_still nodes ids old new kept have f stands = have f (kept nodes f stands)

pub stands_still : (old new : List Variable) (k : ℕ) (t : Tree) → AreKept old new → StandsAmong old k t → StandsAmong new k t
stands_still old new k t kept at nodes f stands = at nodes f (kept nodes f stands)

-- a clause more
pub grows_by : (nodes : List (Shape FormulaId)) (context : Context) (t u : Table) (k : Clause) → t.variables ≡ u.variables → u.clauses.items ≡ t.clauses.items ++ k ∷ []
    → ((q : Question) → q.nodes ≡ nodes → IsLaw q t.variables.items k.literals.items) → Grows nodes context t u
grows_by nodes context t u k same items law = record {
  sound = λ q here sound.
      let more = clause_push q context t.variables.items t.clauses.items sound k (law q here) in
      subst (λ v. AreSound q context v.items u.clauses.items) same (subst (AreSound q context t.variables.items) (sym items) more);
  kept = subst (λ v. AreKept t.variables.items v.items) same (λ ns f stands. stands);
}
