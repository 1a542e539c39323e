use Rattle.std.proofs.Common.{rules, ◌≡◌, true, sym, ◌∙◌}
use Rattle.branch_rounds.proofs.Places.{names_same}
use Rattle.branch_rounds.proofs.spread.same_names.Goals as goal

pub returns : goal.returns
returns c t =
    let yes : c.eq.result ≡ true = search rules in
    names_same c.args.these.now c.args.those.now (sym c.eq.ensures ∙ yes)
