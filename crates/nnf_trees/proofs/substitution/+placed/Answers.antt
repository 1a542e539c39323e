use Rattle.std.proofs.Common.{rules, arith, ◌≡◌, ◌≤◌, ◌+◌, ◌∷◌, ◌++◌, [], List, drop, sym, ap, ◌∙◌, subst}
use Rattle.std.proofs.lemmas.List.{at_drop_all}
use Rattle.formula_laws.specs.TheoryAtoms.{AtomIn}
use Rattle.logic_meaning.specs.Every.{EveryOf}
use Rattle.logic_meaning.specs.Fold.{append}
use Rattle.logic_meaning.specs.Sizes.{nodes, all_nodes}
use Rattle.formula_laws.specs.Equivalence.{InContext}
use Rattle.normal_atoms.specs.Atoms.{context_of}
use Rattle.nnf_trees.specs.declared.nnf.Nnf.{Nnf}
use Rattle.nnf_trees.specs.Nnfs.{nnf_of, nnfs_of, AreProper}
use Rattle.nnf_trees.proofs.Counting.{drop_at}
use Rattle.nnf_trees.proofs.Pieces.{Formulas_of, itself_proper}
use Rattle.test_points.specs.Points.{place_of}
use Rattle.nnf_trees.specs.Placed.{put_all, all_within, each_within}
use Rattle.nnf_trees.proofs.PutLaws.{one_put, all_put, also_within, and_known}
use Rattle.nnf_trees.proofs.substitution.+placed.Goals as goal

pub all_substituted-loop-f-preserved : goal.all_substituted-loop-f-preserved
all_substituted-loop-f-preserved t c =
    let o = context_of c.args.context in
    let x = c.args.point.now.name.number in
    let s = place_of c.args.point.now in
    let all = nnfs_of c.args.fs.now in
    let f = c.f-item.result in
    let rest : List Nnf = drop (c.loop-f.f-index + 1) c.items-f-items.result.now in
    let split = drop_at c.items-f-items.result.now c.loop-f.f-index f c.loop-f-test.true c.f-item.is in
    let pushed : c.push.new.self.items ≡ c.loop-f.made.items ++ c.in-Ok.g ∷ [] = search rules in
    let parts : AreProper (f ∷ rest) = subst AreProper split c.loop-f.invariant.rest in
    let few : nodes (nnf_of f) + all_nodes (Formulas_of rest) ≤ all_nodes all = subst (λ (xs : List Nnf). all_nodes (Formulas_of xs) ≤ all_nodes all) split c.loop-f.invariant.small in
    let inside : InContext o (nnf_of f) × EveryOf (AtomIn o) (Formulas_of rest) = subst (λ (xs : List Nnf). EveryOf (AtomIn o) (Formulas_of xs)) split c.loop-f.invariant.in_context in
    record {
      left = one_put o x s c.loop-f.made.items c.push.new.self.items c.in-Ok.g (nnf_of f) (Formulas_of rest) (put_all o x s all)
          (subst (λ (xs : List Nnf). append (Formulas_of c.loop-f.made.items) (put_all o x s (Formulas_of xs)) ≡ put_all o x s all) split c.loop-f.invariant.left) c.in-Ok.ensures.formula pushed;
      within = sym (also_within o x s (nnf_of f) (Formulas_of rest) ∙ and_known (all_within o x s (nnf_of f)) (each_within o x s (Formulas_of rest)) c.in-Ok.ensures.within)
          ∙ subst (λ (xs : List Nnf). each_within o x s (Formulas_of xs) ≡ each_within o x s all) split c.loop-f.invariant.within;
      small = omega (arith, few);
      made = itself_proper c.in-Ok.g c.loop-f.made.items c.push.new.self.items c.loop-f.invariant.made c.in-Ok.ensures.proper pushed;
      rest = parts.1;
      in_context = inside.1;
    }

pub all_substituted-returns : goal.all_substituted-returns
all_substituted-returns t c =
    let o = context_of c.args.context in
    let x = c.args.point.now.name.number in
    let s = place_of c.args.point.now in
    let over = at_drop_all Formulas_of c.items-f-items.result.now c.loop-f.f-index c.loop-f-test.false in
    record {
      formulas = all_put o x s c.loop-f.made.items (Formulas_of (drop c.loop-f.f-index c.items-f-items.result.now)) (put_all o x s (nnfs_of c.args.fs.now)) c.loop-f.invariant.left over;
      proper = c.loop-f.invariant.made;
      within = sym c.loop-f.invariant.within ∙ ap (each_within o x s) over;
    }
