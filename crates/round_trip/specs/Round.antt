-- Which trees are printed so that they are read back, and what is proved of them.
use Rattle.std.specs.Prelude.{◌≡◌, ◌<◌, ℕ, ◌≤◌, true, List, [], ◌++◌, length, codes}
use Rattle.std.specs.List.{AllByRecursion, IsDistinct}
use Rattle.logic_meaning.specs.Context.{Context}
use Rattle.logic_meaning.specs.Atom.{Atom}
use Rattle.logic_meaning.specs.Numbers.{IsAtomInLimit}
use Rattle.logic_meaning.specs.Tree.{Tree}
use Rattle.logic_meaning.specs.Every.{Every}
use Rattle.logic_meaning.specs.Sizes.{height}
use Rattle.logic_meaning.specs.NormalForm.{IsNormal}
use Rattle.language_meaning.specs.Names.{IsVariable}
use Rattle.language_meaning.specs.Trees.{FormulaTree}
use Rattle.language_meaning.specs.Holes.{alone}
use Rattle.language_meaning.specs.Value.{same_name}
use Rattle.language_meaning.specs.Statements.{StatementTree, Say, Echo}
use Rattle.language_meaning.specs.declared.limit.TheConstants.{BYTE_LIMIT}
use Rattle.language_meaning.specs.declared.level.TheConstants.{LEVEL_LIMIT}
use Rattle.language_meaning.specs.Statement.{Spells, IsDeep}
use Rattle.language_meaning.specs.Resolving.{resolve}
use Rattle.language_meaning.specs.NamesAfter.{names_after}
use Rattle.language_meaning.specs.Causes.{most_height}
use Rattle.resolved_formulas.specs.Accepted.{IsAccepted}
use Rattle.logic_meaning.specs.Text.{tree_text}
use Rattle.logic_meaning.specs.Members.{HasTwoMembers}
use Rattle.formula_laws.specs.Within.{IsAtomWithin, IsTreeWithin}
use Rattle.round_trip.specs.Written.{written_formula}
use Rattle.round_trip.specs.Levels.{tree_level}

-- ---- names and numbers

-- names that a script can write, each once
pub record AreVariables (names : List (List ℕ)) : Type 0 where
  pub distinct : IsDistinct same_name names
  pub variables : AllByRecursion IsVariable names

abbrev pub IsAtomPrintable : ℕ → Atom → Type 0
IsAtomPrintable n a = IsAtomWithin n a × IsAtomInLimit a

-- ---- trees

-- The numbers of the tree are within the limit, its names stand in a list of n names, and each conjunction and
-- disjunction has two members at least.
pub record IsPrintable (n : ℕ) (f : Tree) : Type 0 where
  pub numbers : Every IsAtomInLimit f
  pub names : IsTreeWithin n f
  pub joins : HasTwoMembers f

-- each atom is in normal form, and the tree is no higher than a resolved formula may be
pub record IsResolved (c : Context) (f : Tree) : Type 0 where
  pub atoms : Every (IsNormal c) f
  pub low : height f ≤ most_height

-- the text of the tree as a statement
abbrev pub line_text : List (List ℕ) → Tree → List ℕ
line_text names f = tree_text names f ++ codes ";"

-- The text is no longer and no deeper than the reader takes it: 4 MiB, and 512 levels.
pub record IsReadable (names : List (List ℕ)) (f : Tree) : Type 0 where
  pub short : length (line_text names f) ≤ BYTE_LIMIT
  pub shallow : tree_level f ≤ LEVEL_LIMIT

-- ---- what is proved

-- the statement that prints a formula, in which no command stands
abbrev pub printed_echo : FormulaTree → StatementTree
printed_echo f = record { action = Say (Echo f); printed = true; inner = alone }

-- the bytes spell this one statement
pub record SpellsAlone (bytes : List ℕ) (s : StatementTree) : Type 0 where
  pub spelled : Spells bytes s
  pub alone : (t : StatementTree) → Spells bytes t → t ≡ s

-- The text of a tree with its end mark spells one statement, which prints the written formula of the tree.
abbrev pub TextSpells : Type 0
TextSpells =
    (names : List (List ℕ)) (f : Tree) → AreVariables names → IsPrintable (length names) f → IsReadable names f →
    SpellsAlone (line_text names f) (printed_echo (written_formula names f))

-- The formula has no cause of a refusal, brings no new name, and is resolved to the tree.
pub record IsResolvedTo (c : Context) (names : List (List ℕ)) (written : FormulaTree) (f : Tree) : Type 0 where
  pub accepted : IsAccepted c [] names written
  pub same_names : names_after names written ≡ names
  pub same_tree : resolve c [] names written ≡ f

-- The written formula of a resolved tree is resolved to the tree, where nothing is bound.
abbrev pub WrittenIsResolved : Type 0
WrittenIsResolved =
    (c : Context) (names : List (List ℕ)) (f : Tree) → AreVariables names → IsPrintable (length names) f → IsResolved c f →
    IsResolvedTo c names (written_formula names f) f

-- Each statement that the bytes spell prints a formula that is resolved to the tree; and there is one.
pub record IsReadBack (c : Context) (names : List (List ℕ)) (bytes : List ℕ) (f : Tree) : Type 0 where
  pub written : FormulaTree
  pub spells : SpellsAlone bytes (printed_echo written)
  pub resolved : IsResolvedTo c names written f
  pub same_text : line_text (names_after names written) (resolve c [] (names_after names written) written) ≡ bytes

-- What is printed is read back under the same names, in the same context and with nothing bound.
abbrev pub TextIsReadBack : Type 0
TextIsReadBack =
    (c : Context) (names : List (List ℕ)) (f : Tree) → AreVariables names → IsPrintable (length names) f → IsResolved c f → IsReadable names f →
    IsReadBack c names (line_text names f) f

-- Where a token of such a text is too deep, the reader refuses it for that.
abbrev pub DeepTextIsNesting : Type 0
DeepTextIsNesting =
    (names : List (List ℕ)) (f : Tree) → AreVariables names → IsPrintable (length names) f → length (line_text names f) ≤ BYTE_LIMIT → LEVEL_LIMIT < tree_level f →
    IsDeep (line_text names f)

-- a tree of the height 257 at most has a text of 512 levels at most
abbrev pub HeightBoundsLevel : Type 0
HeightBoundsLevel = (f : Tree) → height f ≤ 257 → tree_level f ≤ LEVEL_LIMIT
