use Rattle.std.proofs.Common.{arith, ◌≡◌, ◌≤◌, ◌+◌, ◌∷◌, List, map, drop, sym, ap, ◌∙◌, subst, true}
use Rattle.std.proofs.lemmas.List.{at_drop_all}
use Rattle.logic_meaning.specs.Every.{EveryOf}
use Rattle.logic_meaning.specs.Fold.{append}
use Rattle.logic_meaning.specs.Sizes.{nodes, all_nodes}
use Rattle.normal_atoms.specs.Atoms.{IsWellFormed}
use Rattle.formula_tree.specs.Trees.{members}
use Rattle.nnf_trees.specs.declared.nnf.Nnf.{Nnf}
use Rattle.nnf_trees.specs.Nnfs.{nnf_of, nnfs_of, AreProper}
use Rattle.nnf_trees.specs.Forms.{forms}
use Rattle.nnf_trees.proofs.Counting.{drop_at}
use Rattle.nnf_trees.proofs.Pieces.{Formulas_of, itself_proper}
use Rattle.nnf_trees.proofs.FormLaws.{one_made, all_made}
use Rattle.nnf_trees.proofs.negation.+negated.Goals as goal

pub all_negated-loop-f-init : goal.all_negated-loop-f-init
all_negated-loop-f-init t c = record {
  left = ap (λ (xs : List Nnf). append (Formulas_of xs) (forms true (members (map nnf_of c.items-f-items.result.now)))) c.new-made.ensures.items ∙ ap (forms true) (sym c.items-f-items.ensures.formulas);
  small = subst (λ fs. all_nodes fs ≤ all_nodes (nnfs_of c.args.fs.now)) c.items-f-items.ensures.formulas (omega arith);
  made = subst AreProper (sym c.new-made.ensures.items) tt;
  rest = subst (EveryOf IsWellFormed) c.items-f-items.ensures.atoms c.requires;
}

pub all_negated-loop-f-preserved : goal.all_negated-loop-f-preserved
all_negated-loop-f-preserved t c =
    let split = drop_at c.items-f-items.result.now c.loop-f.f-index c.f-item.result c.loop-f-test.true c.f-item.is in
    let rest = drop (c.loop-f.f-index + 1) c.items-f-items.result.now in
    let parts : AreProper (c.f-item.result ∷ rest) = subst AreProper split c.loop-f.invariant.rest in
    let few : nodes (nnf_of c.f-item.result) + all_nodes (members (map nnf_of rest)) ≤ all_nodes (nnfs_of c.args.fs.now)
    = subst (λ (xs : List Nnf). all_nodes (members (map nnf_of xs)) ≤ all_nodes (nnfs_of c.args.fs.now)) split c.loop-f.invariant.small in
    record {
      left = one_made true c.loop-f.made.items c.push.new.self.items c.in_ok-negated.field-0 (nnf_of c.f-item.result) (members (map nnf_of rest)) (forms true (nnfs_of c.args.fs.now))
          (subst (λ (xs : List Nnf). append (Formulas_of c.loop-f.made.items) (forms true (members (map nnf_of xs))) ≡ forms true (nnfs_of c.args.fs.now)) split c.loop-f.invariant.left)
          c.in_ok-negated.ensures.form c.in_ok-push.ensures.items;
      small = omega (arith, few);
      made = itself_proper c.in_ok-negated.field-0 c.loop-f.made.items c.push.new.self.items c.loop-f.invariant.made c.in_ok-negated.ensures.proper c.in_ok-push.ensures.items;
      rest = parts.1;
    }

pub all_negated-returns-clause-forms : goal.all_negated-returns-clause-forms
all_negated-returns-clause-forms t c =
    c.of.ensures.formulas ∙ all_made true c.loop-f.made.items (members (map nnf_of (drop c.loop-f.f-index c.items-f-items.result.now))) (forms true (nnfs_of c.args.fs.now)) c.loop-f.invariant.left
    (at_drop_all (λ (xs : List Nnf). members (map nnf_of xs)) c.items-f-items.result.now c.loop-f.f-index c.loop-f-test.false)
