use Rattle.std.proofs.Common.{◌≡◌, List, [], ◌∷◌, None, true, refl, sym, ap, ◌∙◌, subst}
use Rattle.std.specs.Prelude.{slice_get}
use Rattle.logic_meaning.specs.Every.{Every}
use Rattle.normal_atoms.specs.Atoms.{IsWellFormed}
use Rattle.sample_reference.proofs.SamePoints.{none_some}
use Rattle.nnf_trees.specs.declared.nnf.Nnf.{Nnf}
use Rattle.nnf_trees.proofs.NnfEquations.{nnf-Constant, atoms-Constant}
use Rattle.reference_engine.specs.Told.{formulas_of}
use Rattle.plain_samples.specs.Rooted.{first_or_yes}
use Rattle.plain_samples.proofs.chain.first_copied.Goals as goal

none_first : (fs : List Nnf) → None ≡ slice_get fs 0 → fs ≡ []
none_first [] e = refl
none_first (f ∷ fs) e = none_some f e

pub returns-in-None-clause-formula : goal.returns-in-None-clause-formula
returns-in-None-clause-formula c = nnf-Constant true ∙ ap (λ fs. first_or_yes (formulas_of fs)) (sym (none_first c.args.formulas.now c.in-None.ensures.value))

pub returns-in-None-clause-proper : goal.returns-in-None-clause-proper
returns-in-None-clause-proper c = subst (Every IsWellFormed) (sym (atoms-Constant true)) tt
