use Rattle.std.proofs.Common.{◌∷◌, [], refl, subst}
use Rattle.formula_store.specs.Nodes.{tree}
use Rattle.short_answers.specs.declared.answer.Answer.{Answer}
use Rattle.short_answers.specs.Asking.{IsAnswerTo}
use Rattle.short_answers.proofs.asking.Asker.is_met.Goals as goal

pub returns-then-is_empty-clause-nowhere : goal.returns-then-is_empty-clause-nowhere
returns-then-is_empty-clause-nowhere g c = λ n. absurd (n refl)

pub ask-requires-clause-members : goal.ask-requires-clause-members
ask-requires-clause-members g c κs within = (c.requires.case, tt)

pub returns-in_ok-keep_true-in-At-clause-nowhere : goal.returns-in_ok-keep_true-in-At-clause-nowhere
returns-in_ok-keep_true-in-At-clause-nowhere g c = λ n. absurd (n refl)

pub returns-in-Unknown-clause-nowhere : goal.returns-in-Unknown-clause-nowhere
returns-in-Unknown-clause-nowhere g c = λ n. absurd (n refl)

pub returns-in-Nowhere-clause-nowhere : goal.returns-in-Nowhere-clause-nowhere
returns-in-Nowhere-clause-nowhere g c = λ no.
    subst (λ (a : Answer). IsAnswerTo c.args.self.now.work.now (tree c.args.store.now c.args.case ∷ []) a) c.in-Nowhere.is c.in_ok-ask.ensures.answer
