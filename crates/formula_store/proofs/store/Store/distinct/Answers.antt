use Rattle.std.proofs.Common.{rules, ◌≡◌, length, sym, ◌∙◌}
use Rattle.formula_store.proofs.Counted.{counted}
use Rattle.formula_store.proofs.store.Store.distinct.Goals as goal

pub returns : goal.returns
returns c =
    let n : c.len.result ≡ length c.in_ok-ids.ids.items = search rules in
    n ∙ sym (counted c.args.self.now c.subformulas.ensures.nodes c.args.id c.in_ok-ids.ids.items c.requires c.in_ok-ids.ensures.order)
