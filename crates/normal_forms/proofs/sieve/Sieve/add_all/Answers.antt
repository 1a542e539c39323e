use Rattle.std.proofs.Common.{◌∙◌, sym, ap, ◌∷◌, [], List}
use Rattle.logic_meaning.specs.declared.junction.Junction.TheVariants.{Conjunction}
use Rattle.formula_store.specs.declared.id.FormulaId.{FormulaId}
use Rattle.normal_forms.specs.Atoms.{id_kit, add}
use Rattle.normal_forms.specs.Sieves.{swept}
use Rattle.normal_forms.proofs.LineSteps.{all_then}
use Rattle.normal_forms.proofs.sieve.Sieve.add_all.Goals as goal

pub loop-line-preserved : goal.loop-line-preserved
loop-line-preserved c =
    c.in_ok-add.ensures.added ∙ ap (λ (ls : List (List FormulaId)). add ls c.in-Some.line) c.loop-line.invariant
    ∙ sym (all_then id_kit Conjunction (swept c.args.self.now.lines) c.loop-line.yielded (c.in-Some.line ∷ []))
