-- What stands beside the commands inside it.
use Rattle.language_meaning.specs.Trees.{FormulaTree, FormulaTrees}
use Rattle.language_meaning.specs.Holes.{InnerTree, Nest, Nests, nest, alone, together, command_count, Holed}
use Rattle.language_meaning.specs.Holes as inside
use Rattle.language_meaning.specs.Statements.{CommandTree, Nnf, Pnf, Dnf, Cnf, Simpl, Qe}

-- A tree in whose formulas the answers of commands have the names of the numbers from 0 on, in the order of the text, and these commands.
pub record WithInner (T : Type 0) : Type 0 where
  pub tree : T
  pub inner : Nests

-- no command stands inside
abbrev pub bare : {T : Type 0} → T → WithInner T
bare t = record { tree = t; inner = alone }

-- what stands over it, with the same commands inside
abbrev pub around : {T U : Type 0} → (T → U) → WithInner T → WithInner U
around g w = record { tree = g w.tree; inner = w.inner }

-- what is said of a formula
abbrev pub about : {T : Type 0} → (FormulaTree → T) → Holed FormulaTree → WithInner T
about c h = record { tree = c (h.named 0); inner = h.inner }

-- what is said of a list of formulas
abbrev pub about_all : {T : Type 0} → (FormulaTrees → T) → Holed FormulaTrees → WithInner T
about_all c hs = record { tree = c (hs.named 0); inner = hs.inner }

-- what is said of a formula and of a list after it
abbrev pub about_under : {T : Type 0} → (FormulaTree → FormulaTrees → T) → Holed FormulaTree → Holed FormulaTrees → WithInner T
about_under c h given = record { tree = c (h.named 0) (given.named (command_count h.inner)); inner = together h.inner given.inner }

-- the command that a command inside a formula is by itself
abbrev pub command_of : InnerTree → CommandTree
command_of (inside.Nnf f) = Nnf f
command_of (inside.Pnf f) = Pnf f
command_of (inside.Dnf f) = Dnf f
command_of (inside.Cnf f) = Cnf f
command_of (inside.Simpl f given) = Simpl f given
command_of (inside.Qe f given) = Qe f given

-- a command with those inside it, as one that stands in no other
abbrev pub command_in : Nest → WithInner CommandTree
command_in (nest c ns) = record { tree = command_of c; inner = ns }
