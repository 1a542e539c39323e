use Rattle.std.proofs.Common.{arith, ◌≡◌, ◌≤◌, ◌+◌, ◌∷◌, List, drop, option_map, sym, ap, ◌∙◌, subst}
use Rattle.exact_numbers.specs.Fraction.{frac_of}
use Rattle.logic_meaning.specs.Sizes.{nodes, all_nodes}
use Rattle.logic_meaning.specs.Atoms.{atoms_in, atoms_in_all}
use Rattle.nnf_trees.specs.declared.nnf.Nnf.{Nnf}
use Rattle.nnf_trees.specs.Nnfs.{nnf_of, nnfs_of}
use Rattle.nnf_trees.proofs.Counting.{drop_at}
use Rattle.nnf_trees.proofs.Pieces.{Formulas_of}
use Rattle.plain_samples.specs.Roots.{least_among}
use Rattle.plain_samples.proofs.Leasts.{among_append}
use Rattle.plain_samples.proofs.critical.+walked.Goals as goal

pub least_in_members-loop-f-preserved : goal.least_in_members-loop-f-preserved
least_in_members-loop-f-preserved t c =
    let side = c.args.side in
    let x = c.args.x.number in
    let b = option_map frac_of c.args.bound in
    let least = option_map frac_of c.loop-f.least in
    let all = nnfs_of c.args.fs.now in
    let f = c.f-item.result in
    let rest : List Nnf = drop (c.loop-f.f-index + 1) c.items-f-items.result.now in
    let split = drop_at c.items-f-items.result.now c.loop-f.f-index f c.loop-f-test.true c.f-item.is in
    let few : nodes (nnf_of f) + all_nodes (Formulas_of rest) ≤ all_nodes all = subst (λ (xs : List Nnf). all_nodes (Formulas_of xs) ≤ all_nodes all) split c.loop-f.invariant.small in
    let left : least_among side x b least (atoms_in_all (Formulas_of (f ∷ rest))) ≡ least_among side x b (option_map frac_of c.args.before) (atoms_in_all all)
    = subst (λ (xs : List Nnf). least_among side x b least (atoms_in_all (Formulas_of xs)) ≡ least_among side x b (option_map frac_of c.args.before) (atoms_in_all all)) split c.loop-f.invariant.left in
    record {
      left = ap (λ o. least_among side x b o (atoms_in_all (Formulas_of rest))) c.least_in-least.ensures ∙ sym (among_append side x b least (atoms_in (nnf_of f)) (atoms_in_all (Formulas_of rest))) ∙ left;
      small = omega (arith, few);
    }
