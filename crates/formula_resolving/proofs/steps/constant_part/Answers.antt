use Rattle.std.proofs.Common.{subst, sym, refl}
use Rattle.logic_meaning.specs.Fold.{neutral}
use Rattle.formula_resolving.specs.MetCauses.{no_causes}
use Rattle.formula_resolving.specs.Parts.{IsPart}
use Rattle.formula_resolving.proofs.FirstCause.{none_met}
use Rattle.formula_resolving.proofs.PartLaws.{finished_as, finished_id, ok_map, true_part, false_part}
use Rattle.formula_resolving.proofs.steps.constant_part.Goals as goal

pub returns-in-Conjunction-clause-read : goal.returns-in-Conjunction-clause-read
returns-in-Conjunction-clause-read g c =
    ok_map c.finish.result
    (λ r w k bound names. subst (λ j. IsPart k bound names (g.M.Maker.is_id c.finish.new.maker) (g.M.Maker.tree c.finish.new.maker) (neutral j) r) (sym c.in-Conjunction.is)
    (true_part _ _ _ _ _ _ no_causes r none_met (finished_as w c.none.ensures refl refl)))
    c.finish.ensures.finished

pub returns-in-Disjunction-clause-read : goal.returns-in-Disjunction-clause-read
returns-in-Disjunction-clause-read g c =
    ok_map c.finish-in-Disjunction.result
    (λ r w k bound names. subst (λ j. IsPart k bound names (g.M.Maker.is_id c.finish-in-Disjunction.new.maker) (g.M.Maker.tree c.finish-in-Disjunction.new.maker) (neutral j) r) (sym c.in-Disjunction.is)
    (false_part _ _ _ _ _ _ no_causes r none_met (finished_as w c.none-in-Disjunction.ensures refl refl)))
    c.finish-in-Disjunction.ensures.finished

pub returns-in-Conjunction-clause-ids : goal.returns-in-Conjunction-clause-ids
returns-in-Conjunction-clause-ids g c = ok_map c.finish.result (λ r w. finished_id w) c.finish.ensures.finished

pub returns-in-Disjunction-clause-ids : goal.returns-in-Disjunction-clause-ids
returns-in-Disjunction-clause-ids g c = ok_map c.finish-in-Disjunction.result (λ r w. finished_id w) c.finish-in-Disjunction.ensures.finished
