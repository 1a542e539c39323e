use Rattle.std.proofs.Common.{sym, ap, ◌∙◌, subst, arith}
use Rattle.language_meaning.specs.Trees.{TermTree}
use Rattle.written_syntax.specs.CodeTrees.{term_tree}
use Rattle.language_meaning.specs.Value.{HasName}
use Rattle.written_syntax.proofs.TreeEquations.{tree-Name}
use Rattle.formula_resolving.proofs.Measures.{term_below}
use Rattle.free_names.specs.Places.{name_in_scope}
use Rattle.free_names.specs.Scopes.{AreAmong}
use Rattle.free_names.proofs.Search.{one_among}
use Rattle.free_names.proofs.valued.+terms.Goals as goal

pub in_term-returns-in-Name : goal.in_term-returns-in-Name
in_term-returns-in-Name t c =
    let has = name_in_scope c.args.around.now.names.now c.args.around.now.valued.now c.args.opened.now in
    subst (λ (s : TermTree). AreAmong (HasName s) has c.is_in_scope.result) (sym (ap term_tree c.in-Name.is ∙ tree-Name c.in-Name.name))
    (one_among has c.in-Name.name c.is_in_scope.result c.is_in_scope.ensures)

pub in_terms-in_term-requires : goal.in_terms-in_term-requires
in_terms-in_term-requires t c = let k = term_below _ _ _ c.term-item.is c.loop-term-test.true in omega arith
