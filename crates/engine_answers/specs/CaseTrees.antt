-- What a case tree over the formulas of a store stands for.
use Rattle.std.specs.Prelude.{◌≡◌, ℕ, not, ◌≤◌, ◌↔◌, List, All as Each, map, length, Some}
use Rattle.logic_meaning.specs.Context.{Context}
use Rattle.logic_meaning.specs.Formula.{Or}
use Rattle.logic_meaning.specs.Fold.{from_pieces}
use Rattle.logic_meaning.specs.declared.junction.Junction.TheVariants.{Disjunction}
use Rattle.logic_meaning.specs.Some.{EachOf}
use Rattle.logic_meaning.specs.Atom.{Atom}
use Rattle.logic_meaning.specs.Tree.{Tree, IsFree}
use Rattle.formula_laws.specs.Equivalence.{Equivalent}
use Rattle.elimination_theory.specs.Theorems.{IsTidy, IsProper}
use Rattle.logic_meaning.specs.Reference.{normal_tree}
use Rattle.logic_meaning.specs.AnswerParts.{guards_of}
use Rattle.logic_meaning.specs.Cases as reference
use Rattle.logic_meaning.specs.declared.form.VarId.{VarId}
use Rattle.formula_tree.specs.declared.shape.Shape.{Shape}
use Rattle.formula_store.specs.declared.id.FormulaId.{FormulaId}
use Rattle.formula_store.specs.Nodes.{tree, IsId}
use Rattle.test_points.specs.Points.{answer_of, IsTestPoint}
use Rattle.case_theory.specs.CaseTree.{IsCaseTree}
use Rattle.engine_answers.specs.declared.case_tree.Case.{Case}
use Rattle.engine_answers.specs.declared.case_tree.CaseTree.{CaseTree}

-- the case with the tree of its guard and the places of its test points
abbrev pub case_seen : List (Shape FormulaId) → Case → reference.Case
case_seen nodes k = record { guard = tree nodes k.guard; answers = map answer_of k.answers.items }

abbrev pub cases_seen : List (Shape FormulaId) → List Case → List reference.Case
cases_seen nodes ks = map (case_seen nodes) ks

-- The cases of f under a theory, over formulas of the store: the block and its sign are those of the leading block of f, and the
-- cases are those of the theory of elimination by cases.
pub record IsCaseTreeOf (c : Context) (theory : List Atom) (f : Tree) (nodes : List (Shape FormulaId)) (t : CaseTree) : Type 0 where
  pub universal : t.universal ≡ not (reference.case_sign (normal_tree f))
  pub block : map (λ (x : VarId). x.number) t.block.items ≡ reference.case_names f
  pub matrix : IsId nodes t.matrix
  pub guards : EachOf (λ (k : Case). IsId nodes k.guard) t.cases.items
  pub points : EachOf (λ (k : Case). Each IsTestPoint k.answers.items) t.cases.items
  pub cases : IsCaseTree c theory f (tree nodes t.matrix) (cases_seen nodes t.cases.items)

-- the disjunction of the guards as it stands: false for no case, the guard for one
abbrev pub guards_together : List reference.Case → Tree
guards_together ks = from_pieces Disjunction (Some (guards_of ks))

-- It is equivalent to their disjunction, has its free names, and is tidy where each guard is and none of several is a constant.
pub record SaysDisjunction (c : Context) (ks : List reference.Case) : Type 0 where
  pub equivalent : Equivalent c (Or (guards_of ks)) (guards_together ks)
  pub names : (y : ℕ) → IsFree (guards_together ks) y ↔ IsFree (Or (guards_of ks)) y
  pub tidy : EachOf (λ (k : reference.Case). IsTidy c k.guard) ks → (2 ≤ length ks → EachOf (λ (k : reference.Case). IsProper k.guard) ks) → IsTidy c (guards_together ks)

abbrev pub GuardsTogetherSay : Context → Type 0
GuardsTogetherSay c = (ks : List reference.Case) → SaysDisjunction c ks
