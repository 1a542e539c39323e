-- What an elimination finds of a formula.
use Rattle.std.specs.Prelude.{ℕ, List, map}
use Rattle.logic_meaning.specs.Answer.{Place}
use Rattle.logic_meaning.specs.Atom.{Atom}
use Rattle.logic_meaning.specs.Context.{Context}
use Rattle.logic_meaning.specs.Tree.{Tree, Trees}
use Rattle.normal_atoms.specs.Atoms.{context_of, atom_of}
use Rattle.formula_tree.specs.declared.shape.Shape.{Shape}
use Rattle.formula_store.specs.declared.id.FormulaId.{FormulaId}
use Rattle.branch_rounds.specs.Worked.{IsWorkedTo}
use Rattle.engine_answers.specs.declared.answer.Answer.{Answer}
use Rattle.engine_answers.specs.declared.answer.Answer.TheVariants.{Condition, Cases}
use Rattle.engine_answers.specs.declared.branched.Begun.{Begun}
use Rattle.engine_answers.specs.declared.task.Task.{Task}
use Rattle.engine_answers.specs.Begun.{IsBegun}
use Rattle.engine_answers.specs.CaseTrees.{IsCaseTreeOf}
use Rattle.engine_answers.specs.Direct.{IsDirectTree}

-- a condition is a formula to which f is worked on under the atoms; the cases are those of f
abbrev pub IsFound : Context → List Atom → Tree → List (Shape FormulaId) → Answer → Type 0
IsFound c ks f nodes (Condition r) = IsWorkedTo c ks f nodes r
IsFound c ks f nodes (Cases t) = IsCaseTreeOf c ks f nodes t

-- they are the cases of a direct formula
abbrev pub IsFoundDirect : ℕ → Trees → Place → List (Shape FormulaId) → Answer → Type 0
IsFoundDirect x fs s nodes (Condition r) = ⊥
IsFoundDirect x fs s nodes (Cases t) = IsDirectTree x fs s nodes t

-- whatever the formula is whose leading block was begun, to the formula of the id it is worked on
abbrev pub IsConditionOf : Task → List (Shape FormulaId) → Begun → List (Shape FormulaId) → FormulaId → Type 0
IsConditionOf t old b new r = (f : Tree) → IsBegun t f old b → IsWorkedTo (context_of t.context) (map atom_of t.theory.now) f new r
