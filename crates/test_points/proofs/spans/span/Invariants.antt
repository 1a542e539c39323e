use Rattle.std.proofs.Common.{◌≡◌, map, length, All, unsigned_abs}
use Rattle.std.proofs.Math.IntN.{pos}
use Rattle.std.specs.Prelude.{◌<ℤ◌}
use Rattle.exact_numbers.specs.Limit.{InLimit}
use Rattle.logic_meaning.specs.Some.{EachOf}
use Rattle.logic_meaning.specs.IntegersPoints.{own_span}
use Rattle.normal_atoms.specs.Atoms.{atom_of, IsWellFormed}
use Rattle.test_points.proofs.Multiples.{span_from, IsSpanned}
use Rattle.test_points.proofs.spans.span.Given as goal

abbrev pub invariant-loop-atom : goal.invariant-loop-atom
invariant-loop-atom l = record {
  rest : span_from (unsigned_abs l.scale) l.x.number (unsigned_abs l.span) (map atom_of l.left) ≡ own_span l.x.number (map atom_of l.fn.atoms);
  positive : pos 0 <ℤ l.span;
  within : InLimit l.span;
  well_formed : All IsWellFormed l.left;
  spanned : EachOf (IsSpanned (unsigned_abs l.scale) l.x.number) (map atom_of l.left);
}

abbrev pub decreases-loop-atom : goal.decreases-loop-atom
decreases-loop-atom l = length l.left
