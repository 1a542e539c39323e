use Rattle.std.proofs.Common.{rules, ◌≡◌, true, sym, ◌∙◌}
use Rattle.virtual_subst.proofs.SameIds.{ids_same}
use Rattle.virtual_subst.proofs.nodes.same_ids.Goals as goal

pub returns : goal.returns
returns c t =
    let yes : c.eq.result ≡ true = search rules in
    ids_same c.args.these.now c.args.those.now (sym c.eq.ensures ∙ yes)
