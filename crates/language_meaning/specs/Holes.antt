-- Commands inside formulas. A formula in which commands stand is a tree with a hole at each of these, and the commands beside it.
use Rattle.std.specs.Prelude.{ℕ, ◌+◌, List, [], ◌∷◌, replicate, Option, Some, None}
use Rattle.logic_meaning.specs.Formula.{One}
use Rattle.logic_meaning.specs.Formula as plain
use Rattle.language_meaning.specs.Trees.{Bound, FormulaTree, FormulaTrees}

-- a command that can stand inside a formula, with its formula and what it may assume
pub data InnerTree : Type 0 where
  Nnf : FormulaTree → InnerTree
  Pnf : FormulaTree → InnerTree
  Dnf : FormulaTree → InnerTree
  Cnf : FormulaTree → InnerTree
  Simpl : FormulaTree → FormulaTrees → InnerTree
  Qe : FormulaTree → FormulaTrees → InnerTree

-- what stands where a command does: a name that no text spells
abbrev pub hole : FormulaTree
hole = One (Bound [])

-- The name of an answer, by its number: a text of zero bytes, longer than each name that a script can write. So no two answers share a
-- name, and no answer shares one with a formula that the session has bound.
abbrev pub inner_name : ℕ → List ℕ
inner_name k = replicate (65 + k) 0

mutual
  -- a command, with those inside its formula
  pub data Nest : Type 0 where
    nest : InnerTree → Nests → Nest

  -- commands, in the order of the text
  pub data Nests : Type 0 where
    alone : Nests
    beside : Nest → Nests → Nests

-- how many there are; those inside them do not count
abbrev pub command_count : Nests → ℕ
command_count alone = 0
command_count (beside n ns) = 1 + command_count ns

-- the first ones before the second
abbrev pub together : Nests → Nests → Nests
together alone ms = ms
together (beside n ns) ms = beside n (together ns ms)

-- A tree with a hole at each command, these commands, and the tree with the name of an answer in each hole: those of the numbers from
-- one on, in the order of the text.
pub record Holed (F : Type 0) : Type 0 where
  pub tree : F
  pub inner : Nests
  pub named : ℕ → F

-- no command stands inside
abbrev pub whole : {F : Type 0} → F → Holed F
whole f = record { tree = f; inner = alone; named = λ k. f }

-- what stands over one formula
abbrev pub over : {F G : Type 0} → (F → G) → Holed F → Holed G
over g h = record { tree = g h.tree; inner = h.inner; named = λ k. g (h.named k) }

-- what stands over two
abbrev pub over_both : {F G H : Type 0} → (F → G → H) → Holed F → Holed G → Holed H
over_both g h i = record { tree = g h.tree i.tree; inner = together h.inner i.inner; named = λ k. g (h.named k) (i.named (k + command_count h.inner)) }

-- the members of a list
abbrev pub all_of : List (Holed FormulaTree) → Holed FormulaTrees
all_of [] = whole plain.none
all_of (h ∷ hs) = over_both plain.also h (all_of hs)

-- a command over a formula, whose inner commands have the numbers from 0 on
abbrev pub nested : (FormulaTree → InnerTree) → Holed FormulaTree → Nest
nested c h = nest (c (h.named 0)) h.inner

-- the same of a command that may assume atoms
abbrev pub nested_under : (FormulaTree → FormulaTrees → InnerTree) → Holed FormulaTree → Holed FormulaTrees → Nest
nested_under c h given = nest (c (h.named 0) (given.named (command_count h.inner))) (together h.inner given.inner)

-- a formula that is a command
abbrev pub computed : Nest → Holed FormulaTree
computed n = record { tree = hole; inner = beside n alone; named = λ k. One (Bound (inner_name k)) }

-- the command that a formula is, where it is one alone
abbrev pub command_alone : FormulaTree → Nests → Option Nest
command_alone (One (Bound [])) (beside n alone) = Some n
command_alone t ns = None
