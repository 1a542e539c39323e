-- What the reader gives: statements whose formulas and entries are proper, with names that a script can write.
use Rattle.std.specs.Prelude.{List, length, nat_lt, if◌then◌else◌}
use Rattle.std.specs.List.{AllByRecursion}
use Rattle.language_meaning.specs.declared.tree.Literal.{Literal}
use Rattle.language_meaning.specs.Names.{IsVariable}
use Rattle.written_syntax.specs.Proper.{IsNumeral, IsSigned}
use Rattle.logic_meaning.specs.Formula.{Yes, One}
use Rattle.logic_meaning.specs.Replaced.{replaced}
use Rattle.language_meaning.specs.Trees.{WrittenAtom, Compare, Cong, Ncong, Bound, FormulaTree}
use Rattle.language_meaning.specs.Holes.{InnerTree, Nest, Nests, nest, alone, beside}
use Rattle.language_meaning.specs.Holes as inside
use Rattle.written_syntax.specs.Writable.{IsWritableTerm, IsWritableFormula, AreWritableFormulas, AreWritableEntries}
use Rattle.language_meaning.specs.declared.grid.Ratio.{Ratio}
use Rattle.language_meaning.specs.declared.grid.GridAxis.{GridAxis}
use Rattle.written_syntax.specs.ConstraintLists.{AreConstraints, AreWeakConstraints}
use Rattle.language_meaning.specs.Statements.{CommandTree, Echo, Nnf, Pnf, Dnf, Cnf, Simpl, Qe, Qea, Holds, Sample, Grid, Certify, Check, Least, ActionTree, Empty, Ignored, Finish, Choose, Say, Assign, Assume, Retract, StatementTree}

-- numbers within the limit, where they fit, with no sign below
pub record IsWritableRatio (r : Ratio) : Type 0 where
  pub above : IsSigned r.above
  pub below : IsNumeral r.below

-- three such fractions, for a name of a variable
pub record IsWritableAxis (a : GridAxis) : Type 0 where
  pub name : IsVariable a.name
  pub low : IsWritableRatio a.low
  pub high : IsWritableRatio a.high
  pub step : IsWritableRatio a.step

abbrev pub AreWritableAxes : List GridAxis → Type 0
AreWritableAxes = AllByRecursion IsWritableAxis

-- numbers within the limit, where they fit
abbrev pub AreWritableNumbers : List Literal → Type 0
AreWritableNumbers = AllByRecursion IsSigned

-- an atom with true in the place of an answer, whose name is longer than each that a script can write
abbrev pub unanswered_atom : WrittenAtom → FormulaTree
unanswered_atom (Compare rel s t) = One (Compare rel s t)
unanswered_atom (Cong s t m) = One (Cong s t m)
unanswered_atom (Ncong s t m) = One (Ncong s t m)
unanswered_atom (Bound x) = if nat_lt 64 (length x) then Yes else One (Bound x)

-- a formula with true in the places of answers
abbrev pub unanswered : FormulaTree → FormulaTree
unanswered f = replaced unanswered_atom (λ x. x) f

-- The formula can be written, where these commands stand inside it and their answers have names.
abbrev pub IsFormulaBeside : Nests → FormulaTree → Type 0
IsFormulaBeside alone f = IsWritableFormula f
IsFormulaBeside (beside n ns) f = IsWritableFormula (unanswered f)

module _ (P : FormulaTree → Type 0) where
  -- The formula of the command has P. Each other formula, each entry, each axis and each number can be written, and constraints are constraints: in what is assumed, and in
  -- constraints, no command stands.
  abbrev pub IsCommandOver : CommandTree → Type 0
  IsCommandOver (Echo f) = P f
  IsCommandOver (Nnf f) = P f
  IsCommandOver (Pnf f) = P f
  IsCommandOver (Dnf f) = P f
  IsCommandOver (Cnf f) = P f
  IsCommandOver (Simpl f given) = P f × AreWritableFormulas given
  IsCommandOver (Qe f given) = P f × AreWritableFormulas given
  IsCommandOver (Qea f given) = P f × AreWritableFormulas given
  IsCommandOver (Holds f entries) = P f × AreWritableEntries entries
  IsCommandOver (Sample f entries) = P f × AreWritableEntries entries
  IsCommandOver (Grid f axes) = P f × AreWritableAxes axes
  IsCommandOver (Certify constraints) = AreWritableFormulas constraints × AreConstraints constraints
  IsCommandOver (Check constraints multipliers) = (AreWritableFormulas constraints × AreConstraints constraints) × AreWritableNumbers multipliers
  IsCommandOver (Least constraints target) = (AreWritableFormulas constraints × AreWeakConstraints constraints) × IsWritableTerm target

  -- the same of the command of the action, if it has one, and of its atoms; and its name can be written
  abbrev pub IsActionOver : ActionTree → Type 0
  IsActionOver Empty = Unit {0}
  IsActionOver Ignored = Unit {0}
  IsActionOver Finish = Unit {0}
  IsActionOver (Choose setting) = Unit {0}
  IsActionOver (Say c) = IsCommandOver c
  IsActionOver (Assign x c) = IsVariable x × IsCommandOver c
  IsActionOver (Assume given) = AreWritableFormulas given
  IsActionOver Retract = Unit {0}

  -- the same of a command inside a formula
  abbrev pub IsInnerOver : InnerTree → Type 0
  IsInnerOver (inside.Nnf f) = P f
  IsInnerOver (inside.Pnf f) = P f
  IsInnerOver (inside.Dnf f) = P f
  IsInnerOver (inside.Cnf f) = P f
  IsInnerOver (inside.Simpl f given) = P f × AreWritableFormulas given
  IsInnerOver (inside.Qe f given) = P f × AreWritableFormulas given

-- a command inside which no other stands
abbrev pub IsWritableCommand : CommandTree → Type 0
IsWritableCommand = IsCommandOver IsWritableFormula

-- an action inside which no command stands
abbrev pub IsWritableAction : ActionTree → Type 0
IsWritableAction = IsActionOver IsWritableFormula

abbrev mutual
  -- the command can be written, and so can those inside it
  pub IsWritableNest : Nest → Type 0
  IsWritableNest (nest c ns) = IsInnerOver (IsFormulaBeside ns) c × AreWritableNests ns

  -- each of the commands can
  pub AreWritableNests : Nests → Type 0
  AreWritableNests alone = Unit {0}
  AreWritableNests (beside n ns) = IsWritableNest n × AreWritableNests ns

-- the action of the statement can be written, and so can the commands inside its formulas
pub record IsWritable (s : StatementTree) : Type 0 where
  pub action : IsActionOver (IsFormulaBeside s.inner) s.action
  pub inner : AreWritableNests s.inner
