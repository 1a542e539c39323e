use Rattle.normal_atoms.specs.Atoms.{context_of}
use Rattle.formula_store.specs.Nodes.{tree}
use Rattle.formula_store.proofs.Makes.{keeps_then}
use Rattle.form_commands.proofs.EliminatedLemmas.{answer_orderly}
use Rattle.form_commands.proofs.forms.simplified_answer.Goals as goal

pub simplified-requires-clause-formula : goal.simplified-requires-clause-formula
simplified-requires-clause-formula c =
    answer_orderly (context_of c.args.context) (tree c.args.store.now c.args.id) (tree c.eliminated.new.store c.in_ok-answer.answer) c.in_ok-answer.ensures.answer.exact

pub returns-in-Ok-clause-kept : goal.returns-in-Ok-clause-kept
returns-in-Ok-clause-kept c = keeps_then c.args.store.now c.eliminated.new.store c.simplified.new.store c.eliminated.ensures.kept c.simplified.ensures.kept

pub returns-in-Err-clause-kept : goal.returns-in-Err-clause-kept
returns-in-Err-clause-kept c = keeps_then c.args.store.now c.eliminated.new.store c.simplified.new.store c.eliminated.ensures.kept c.simplified.ensures.kept
