use Rattle.formula_resolving.specs.BoundIds.{answered_trees}
use Rattle.formula_resolving.proofs.PartLaws.{ok_map}
use Rattle.formula_resolving.proofs.AtomLaws.{read_proper, compare_part}
use Rattle.formula_resolving.proofs.reading.comparison_part.Goals as goal

pub atom_part-requires : goal.atom_part-requires
atom_part-requires g c = read_proper _ _ _ _ _ (c.in_ok-read.ensures (answered_trees (g.M.Maker.tree c.args.maker.now) c.args.scope.now.inner.now c.args.scope.now.bound.now))

pub returns-clause-read : goal.returns-clause-read
returns-clause-read g c = ok_map c.atom_part.result (λ r w. compare_part _ _ _ _ _ _ _ _ _ _ r (c.in_ok-read.ensures (answered_trees (g.M.Maker.tree c.args.maker.now) c.args.scope.now.inner.now c.args.scope.now.bound.now)) w) c.atom_part.ensures.finished
