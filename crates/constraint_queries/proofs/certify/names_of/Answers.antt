use Rattle.std.proofs.Common.{◌≡◌, [], map, sym, subst, rules}
use Rattle.std.specs.List.{fold}
use Rattle.language_meaning.specs.Trees.{formulas_of}
use Rattle.written_syntax.specs.CodeTrees.{formula_tree}
use Rattle.logic_meaning.specs.Names.{with_name}
use Rattle.language_meaning.specs.Resolving.{all_variables}
use Rattle.session_state.proofs.VariableLemmas.{AllVariables, variables_of_all, all_put_in}
use Rattle.constraint_queries.proofs.certify.names_of.Goals as goal

pub places_of-requires : goal.places_of-requires
places_of-requires c =
    let written = formulas_of (map formula_tree c.args.written.now) in
    let is : c.number_all.new.names ≡ fold with_name [] (all_variables written) = search rules in
    subst AllVariables (sym is) (all_put_in [] (all_variables written) tt (variables_of_all written c.requires))
