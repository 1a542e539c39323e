use Rattle.std.proofs.Common.{◌≡◌, map, take}
use Rattle.std.specs.List.{fold}
use Rattle.logic_meaning.specs.Names.{with_name}
use Rattle.language_meaning.specs.Resolving.{all_variables}
use Rattle.formula_resolving.specs.Numbering.{Grows}
use Rattle.language_meaning.specs.Trees.{formulas_of}
use Rattle.written_syntax.specs.CodeTrees.{formula_tree}
use Rattle.form_commands.proofs.assumptions.number_all.Given as goal

-- the variables of the formulas so far are numbered
abbrev pub invariant-loop-assumption : goal.invariant-loop-assumption
invariant-loop-assumption l = record {
  numbered : l.names ≡ fold with_name l.fn.names (all_variables (formulas_of (map formula_tree (take l.assumption-index l.given))));
  grown : Grows l.fn.names l.names;
}
