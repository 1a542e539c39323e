use Rattle.std.proofs.Common.{rules, ◌≡◌, false, sym, ◌∙◌}
use Rattle.branch_points.proofs.Names.{at_place}
use Rattle.branch_points.proofs.absent.absent_name.Goals as goal

pub returns-then-not-stands : goal.returns-then-not-stands
returns-then-not-stands c =
    let e : c.stands.result ≡ false = search rules in
    (at_place c.args.left.now c.loop-name.name-index (record { number = 0 }) c.loop-name-test.true, sym c.stands.ensures ∙ e)
