use Rattle.std.proofs.Common.{ap, ◌∙◌}
use Rattle.logic_meaning.specs.declared.form.VarId.{VarId}
use Rattle.formula_tree.proofs.NamePlaces.{number_is}
use Rattle.formula_tree.proofs.names.Names.place.Goals as goal

pub returns : goal.returns
returns c = ap (λ (v : VarId). v.number) c.unwrap_or.ensures ∙ number_is c.find.result _ _ _ c.find.ensures c.count.ensures
