use Rattle.std.proofs.Common.{sym, subst}
use Rattle.std.specs.Map.{keys_of}
use Rattle.formula_store.specs.Changes.{IsChange}
use Rattle.formula_store.specs.Layers.{all}
use Rattle.formula_store.specs.Nodes.{IsId}
use Rattle.formula_store.proofs.Layered.{is_change}
use Rattle.formula_store.proofs.overlay.Overlay.finish.Goals as goal

pub of-requires : goal.of-requires
of-requires c =
    subst (λ n. IsChange (record { own = keys_of c.self.inside.own.entries; root = c.args.root; begun = n })) (sym c.self.invariant.size)
    (is_change c.self.inside.store.now (keys_of c.self.inside.own.entries) c.self.invariant.stored.nodes c.args.root (subst (λ v. IsId (all v) c.args.root) (sym c.self.view_is) c.requires))
