use Rattle.std.proofs.Common.{sym, subst}
use Rattle.exact_numbers.specs.Fraction.{frac_of}
use Rattle.logic_meaning.specs.Tree.{Tree}
use Rattle.formula_store.specs.Nodes.{tree}
use Rattle.logic_meaning.specs.LeastFraction.{IsLeastFraction}
use Rattle.session_state.proofs.StateLemmas.{keeps_then}
use Rattle.constraint_queries.proofs.FoundSteps.{least_found}
use Rattle.constraint_queries.proofs.found.eliminated.Goals as goal

pub attained-requires-clause-id : goal.attained-requires-clause-id
attained-requires-clause-id g c _ _ = c.in_ok-condition.ensures.kept.store.is c.args.problem c.requires.id

pub attained-requires-clause-least : goal.attained-requires-clause-least
attained-requires-clause-least g c _ _ =
    subst (λ (f : Tree). IsLeastFraction c.args.target.number f (frac_of c.in-Ok-At.least)) (sym (c.in_ok-condition.ensures.kept.store.same c.args.problem c.requires.id))
    (least_found c.args.target.number (tree c.args.state.now.store c.args.problem) c.requires.weak c.condition.new.state c.in_ok-condition.condition c.in_ok-condition.ensures.condition c.in-Ok-At.field-0 _ c.in-Ok-At.ensures.computed c.in-Ok-At.field-0-is)

pub returns-in-Ok-Infeasible-clause-found : goal.returns-in-Ok-Infeasible-clause-found
returns-in-Ok-Infeasible-clause-found g c =
    least_found c.args.target.number (tree c.args.state.now.store c.args.problem) c.requires.weak c.condition.new.state c.in_ok-condition.condition c.in_ok-condition.ensures.condition c.in-Ok-Infeasible.field-0 _ c.in-Ok-Infeasible.ensures.computed c.in-Ok-Infeasible.field-0-is

pub returns-in-Ok-Unbounded-clause-found : goal.returns-in-Ok-Unbounded-clause-found
returns-in-Ok-Unbounded-clause-found g c =
    (least_found c.args.target.number (tree c.args.state.now.store c.args.problem) c.requires.weak c.condition.new.state c.in_ok-condition.condition c.in_ok-condition.ensures.condition c.in-Ok-Unbounded.field-0 _ c.in-Ok-Unbounded.ensures.computed c.in-Ok-Unbounded.field-0-is).1

pub returns-in-Ok-At-clause-kept : goal.returns-in-Ok-At-clause-kept
returns-in-Ok-At-clause-kept g c = keeps_then c.args.state.now c.condition.new.state c.attained.new.state c.in_ok-condition.ensures.kept c.attained.ensures.kept
