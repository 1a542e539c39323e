use Rattle.std.proofs.Common.{◌≡◌, length, sym, subst, arith}
use Rattle.atom_pruning.specs.Asked.{Asked, asked_of, AreMarks}
use Rattle.atom_pruning.proofs.Keeping.{ImpliedBelow, one_more, all_implied}
use Rattle.atom_pruning.proofs.implied.are_implied.Goals as goal

pub loop-place-preserved : goal.loop-place-preserved
loop-place-preserved c =
    let q = asked_of c.in_ok-question.question.rows in
    let before = c.loop-place.invariant in
    let implied = c.in_ok-implies.ensures.implied c.if-not-branch.false in
    record {
      marks = subst (AreMarks q) (sym c.in_ok-implies.ensures.marks) before.marks;
      implied = one_more q c.loop-place.marks.items c.loop-place.place before.marks implied before.implied;
      effort = omega arith;
    }

pub returns-clause-implied : goal.returns-clause-implied
returns-clause-implied c = λ _.
    let q : Asked = record { given = c.args.given.now; assumed = c.args.assumed.now; negated = c.args.atoms.now } in
    let below = subst (λ r. ImpliedBelow r c.loop-place.place) c.in_ok-question.ensures c.loop-place.invariant.implied in
    let all : c.loop-place.place ≡ length c.args.atoms.now = omega arith in
    all_implied q (subst (ImpliedBelow q) all below)
