-- What a measured call says about the computation that defines it.
use Rattle.std.specs.Prelude.{◌≡◌, ℕ, Bool, true, false, List, [], ◌∷◌, map, Result}
use Rattle.logic_meaning.specs.declared.quantifier.Quantifier.TheVariants.{Exists, ForAll}
use Rattle.logic_meaning.specs.Context.{Context}
use Rattle.std.specs.declared.result.Result.TheVariants.{Ok, Err}
use Rattle.logic_meaning.specs.Formula.{none, also}
use Rattle.logic_meaning.specs.Fold.{append, fold_list}
use Rattle.logic_meaning.specs.declared.junction.Junction.{Junction}
use Rattle.logic_meaning.specs.declared.junction.Junction.TheVariants.{Disjunction}
use Rattle.logic_meaning.specs.Tree.{Tree, Trees}
use Rattle.logic_meaning.specs.Measured.{Outcome, stopped, done, then_of}
use Rattle.logic_meaning.specs.Measured as stop
use Rattle.logic_meaning.specs.Reference.{Branch, branch_trees, turned, steps, branches}
use Rattle.formula_tree.specs.Trees.{members}
use Rattle.logic_meaning.specs.declared.form.VarId.{VarId}
use Rattle.nnf_trees.specs.declared.nnf.Nnf.{Nnf}
use Rattle.logic_meaning.specs.declared.quantifier.Quantifier.{Quantifier}
use Rattle.nnf_trees.specs.Nnfs.{nnf_of}
use Rattle.reference_engine.specs.declared.measured.Measured.{Measured}
use Rattle.reference_engine.specs.declared.measured.Measured.TheVariants.{Overflow, Nodes, Memory}

-- the error is the event that stops the computation; want of memory says nothing of it
abbrev pub StopsWith : {A : Type 0} → Measured → Outcome A → Type 0
StopsWith Overflow o = o ≡ stopped stop.Overflow
StopsWith Nodes o = o ≡ stopped stop.Nodes
StopsWith Memory o = Unit {0}

-- the result, as it is viewed, and the cost are those of the computation
abbrev pub Told : {A B : Type 0} → (A → B) → Result A Measured → ℕ → Outcome (B × ℕ) → Type 0
Told view (Ok v) cost o = o ≡ done (view v, cost)
Told view (Err e) cost o = StopsWith e o

abbrev pub the_unit : Unit {0} → Unit {0}
the_unit u = tt

-- a formula as a branch without steps
abbrev pub bare : Tree → Branch
bare f = record { tree = f; steps = [] }

abbrev pub all_bare : Trees → List Branch
all_bare none = []
all_bare (also f fs) = bare f ∷ all_bare fs

-- the formulas of a list
abbrev pub formulas_of : List Nnf → Trees
formulas_of fs = members (map nnf_of fs)

-- the formulas of branches, without their steps
abbrev pub seen : Outcome (List Branch × ℕ) → Outcome (Trees × ℕ)
seen o = then_of o (λ r. done (branch_trees r.0, r.1))

abbrev pub numbers : List VarId → List ℕ
numbers names = map (λ (v : VarId). v.number) names

-- some formulas before those of a computation
abbrev pub prefixed : Trees → Outcome (Trees × ℕ) → Outcome (Trees × ℕ)
prefixed fs o = then_of o (λ q. done (append fs q.0, q.1))

-- one formula, as the formulas of branches
abbrev pub only : Tree → Trees
only f = also f none

-- members, joined
abbrev pub joined_after : Junction → Outcome (Trees × ℕ) → Outcome (Trees × ℕ)
joined_after j o = then_of o (λ r. done (only (fold_list j r.0), r.1))

abbrev pub is_ex : Quantifier → Bool
is_ex Exists = true
is_ex ForAll = false

-- joined by or into one formula, which is negated for false
abbrev pub made_one : Bool → Outcome (Trees × ℕ) → Outcome (Trees × ℕ)
made_one sign o = then_of o (λ r. done (only (turned sign (fold_list Disjunction r.0)), r.1))

module _ (c : Context) (limit : ℕ) where
  -- steps after branches
  abbrev pub stepped : ℕ → Outcome (Trees × ℕ) → Outcome (Trees × ℕ)
  stepped x o = then_of o (λ r. seen (steps c limit x (all_bare r.0) r.1))

  abbrev pub chained_branches : List ℕ → Bool → ℕ → Tree → ℕ → Outcome (Trees × ℕ)
  chained_branches names sign x f cost = stepped x (seen (branches c limit (x ∷ names) sign f cost))

  abbrev pub closed_branches : Bool → Bool → ℕ → Tree → ℕ → Outcome (Trees × ℕ)
  closed_branches sign inner x f cost = made_one sign (stepped x (seen (branches c limit (x ∷ []) inner f cost)))
