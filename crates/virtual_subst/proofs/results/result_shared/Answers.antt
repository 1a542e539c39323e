use Rattle.std.proofs.Common.{ap, ◌∙◌}
use Rattle.normal_atoms.specs.Atoms.{context_of}
use Rattle.formula_store.specs.Nodes.{tree}
use Rattle.formula_store.proofs.Makes.{keeps_then}
use Rattle.test_points.specs.Points.{place_of}
use Rattle.virtual_subst.specs.Guarded.{guarded}
use Rattle.virtual_subst.proofs.Joined.{guarded_result}
use Rattle.virtual_subst.proofs.results.result_shared.Goals as goal

pub returns-in_err-with_guard-in-Ok-clause-kept : goal.returns-in_err-with_guard-in-Ok-clause-kept
returns-in_err-with_guard-in-Ok-clause-kept c = keeps_then c.args.store.now c.put_in_store.new.store c.with_guard.new.store c.in-Ok.ensures.kept c.with_guard.ensures.kept

pub returns-in_ok-with_guard-in-Ok-clause-made : goal.returns-in_ok-with_guard-in-Ok-clause-made
returns-in_ok-with_guard-in-Ok-clause-made c =
    let k = context_of c.args.context in
    let s = place_of c.args.point.now in
    let made = c.in_ok-with_guard-in-Ok.ensures.made in
    record {
      is = made.is;
      same = made.same ∙ ap (guarded k s) c.in-Ok.ensures.made.same ∙ guarded_result k c.args.point.now.name.number s (tree c.args.store.now c.args.id) c.requires.place.place;
    }

pub returns-in_ok-with_guard-in-Ok-clause-kept : goal.returns-in_ok-with_guard-in-Ok-clause-kept
returns-in_ok-with_guard-in-Ok-clause-kept c = keeps_then c.args.store.now c.put_in_store.new.store c.with_guard.new.store c.in-Ok.ensures.kept c.with_guard.ensures.kept
