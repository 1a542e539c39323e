use Rattle.std.proofs.Common.{map, take, sym, subst, inl, inr}
use Rattle.std.specs.Prelude.{IfSome}
use Rattle.std.proofs.lemmas.Option.{IfSome_then}
use Rattle.logic_meaning.specs.Some.{Among}
use Rattle.normal_atoms.specs.declared.atoms.Context.TheVariants.{Integers}
use Rattle.normal_atoms.specs.Atoms.{atom_of}
use Rattle.branch_points.specs.declared.counts.Candidate.{Candidate}
use Rattle.branch_points.specs.Counts.{IsCandidate, IsBeaten}
use Rattle.branch_points.proofs.Names.{at_place}
use Rattle.branch_points.proofs.FewestPoints.{each_more, one_of, beaten_along, each_along}
use Rattle.branch_points.proofs.counts.fewest.Goals as goal

pub loop-name-preserved : goal.loop-name-preserved
loop-name-preserved c =
    let atoms = map atom_of c.args.atoms.now in
    let left = c.args.left.now in
    let i = c.loop-name.name-index in
    let new = c.fewer-best.result in
    let P : Candidate → Type 0 = λ k. Among left k.name × IsCandidate atoms k in
    let own : IfSome c.cheaper_side.result P =
    IfSome_then c.cheaper_side.result c.cheaper_side.ensures.found (λ k p. (subst (Among left) (sym p.0) (at_place left i (record { number = 0 }) c.loop-name-test.true), p.1)) in
    record {
      found = one_of P new c.loop-name.best c.cheaper_side.result c.fewer-best.ensures.one c.loop-name.invariant.found own;
      least = each_more (IsBeaten Integers atoms new) left i (record { number = 0 }) c.loop-name-test.true
          (each_along Integers atoms c.loop-name.best new (take i left) (λ n h. c.fewer-best.ensures.least n (inl h)) c.loop-name.invariant.least)
          (beaten_along Integers atoms c.cheaper_side.result new _ (λ n h. c.fewer-best.ensures.least n (inr h)) c.cheaper_side.ensures.least);
    }
