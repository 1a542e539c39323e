use Rattle.std.proofs.Common.{sym, ap, ◌∙◌, subst, take, []}
use Rattle.std.specs.Map.{keys_of}
use Rattle.formula_store.specs.Stored.{AreStored}
use Rattle.formula_store.proofs.Cut.{cut_stored, keys_taken}
use Rattle.formula_store.proofs.store.Store.cut.Goals as goal

pub invariant_of-self : goal.invariant_of-self
invariant_of-self c = subst (AreStored []) (sym c.truncate.ensures.entries) (cut_stored c.args.count c.self.inside.nodes.entries c.self.invariant)

pub returns : goal.returns
returns c = ap keys_of c.truncate.ensures.entries ∙ keys_taken c.args.count c.self.inside.nodes.entries ∙ ap (take c.args.count) c.self.view_is
