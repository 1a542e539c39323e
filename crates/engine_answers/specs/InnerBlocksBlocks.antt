-- A block of one quantifier inside a formula.
use Rattle.std.specs.Prelude.{◌≡◌, ℕ, List, map}
use Rattle.logic_meaning.specs.declared.quantifier.Quantifier.{Quantifier}
use Rattle.logic_meaning.specs.Context.{Context}
use Rattle.formula_laws.specs.StandsOnce.{StandsOnce}
use Rattle.logic_meaning.specs.Every.{Every}
use Rattle.logic_meaning.specs.Tree.{Tree}
use Rattle.normal_atoms.specs.Atoms.{context_of, atom_of}
use Rattle.logic_meaning.specs.NormalForm.{IsNormal}
use Rattle.logic_meaning.specs.Reference.{turned}
use Rattle.formula_tree.specs.declared.shape.Shape.{Shape}
use Rattle.formula_store.specs.declared.id.FormulaId.{FormulaId}
use Rattle.formula_store.specs.Nodes.{tree}
use Rattle.case_theory.specs.Block.{ex_all}
use Rattle.case_theory.specs.CaseTree.{without_all}
use Rattle.case_theory.specs.Worked.{IsWorked}
use Rattle.narrowed_blocks.specs.declared.narrowing.NarrowedBlock.{NarrowedBlock}
use Rattle.narrowed_blocks.specs.Narrowing.{IsNarrowed, IsNarrowedTo}
use Rattle.engine_answers.specs.Blocks.{is_asked}
use Rattle.branch_rounds.specs.declared.work.Work.{Work}
use Rattle.branch_rounds.specs.Branches.{numbers}
use Rattle.branch_rounds.specs.Worked.{IsWork, IsWorkedTo}
use Rattle.engine_answers.specs.declared.inner_blocks_block.Block.{Block}

-- under the assumptions without the names
pub record IsUnder (w : Work) (names : List ℕ) (u : Work) : Type 0 where
  pub work : IsWork u
  pub context : u.context ≡ w.context
  pub assumed : map atom_of u.assumed.now ≡ without_all names (map atom_of w.assumed.now)

-- each name of the block stands once, and under it the assumptions without its names are used
pub record IsBlock (b : Block) : Type 0 where
  pub work : IsWork b.work.now
  pub under : IsUnder b.work.now (numbers b.names.now) b.under.now
  pub once : StandsOnce (numbers b.names.now)

-- f is the block of the quantifier over the inner formula: one of all is the negation of one of ex over the negated formula
pub record IsBlockOver (c : Context) (q : Quantifier) (block : List ℕ) (f inner : Tree) : Type 0 where
  pub whole : ex_all block (turned (is_asked q) inner) ≡ turned (is_asked q) f
  pub normal : Every (IsNormal c) f
  pub inner_normal : Every (IsNormal c) inner

-- where the formula inside a block was worked on to g, the block is worked on to the formula of the id
abbrev pub ClosesBlock : Block → Tree → List (Shape FormulaId) → FormulaId → Type 0
ClosesBlock b g nodes r = (f inner : Tree) → IsBlockOver (context_of b.work.now.context) b.quantifier (numbers b.names.now) f inner →
    IsWorked (context_of b.work.now.context) (map atom_of b.under.now.assumed.now) inner g → IsWorkedTo (context_of b.work.now.context) (map atom_of b.work.now.assumed.now) f nodes r

-- this is left of the block of ex over m, where the assumptions without its names are true
abbrev pub IsLeftOf : Block → Tree → List (Shape FormulaId) → NarrowedBlock → Type 0
IsLeftOf b m nodes n = IsNarrowedTo (context_of b.work.now.context) (map atom_of b.under.now.assumed.now) m (numbers b.names.now) nodes n

-- Where the formula inside the block of ex was worked on to m, of whose block this is left, the block is worked on to the formula of the id.
abbrev pub IsShortOver : Block → List (Shape FormulaId) → NarrowedBlock → List (Shape FormulaId) → FormulaId → Type 0
IsShortOver b old n new r = (f m : Tree) → IsNarrowed (context_of b.work.now.context) (map atom_of b.under.now.assumed.now) m (numbers b.names.now) (tree old n.matrix) (numbers n.names.items) →
    IsWorked (context_of b.work.now.context) (map atom_of b.under.now.assumed.now) f m → IsWorkedTo (context_of b.work.now.context) (map atom_of b.work.now.assumed.now) (ex_all (numbers b.names.now) f) new r
