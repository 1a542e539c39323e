use Rattle.std.proofs.Common.{rules, ◌≡◌, List, [], ◌∷◌, ◌++◌, map, length, refl, subst}
use Rattle.formula_tree.specs.Trees.{tree_of}
use Rattle.nnf_trees.specs.Nnfs.{nnf_of}
use Rattle.reference_engine.specs.declared.branch.Leaf.{Leaf}
use Rattle.reference_engine.specs.declared.cases.PrintedCase.{PrintedCase}
use Rattle.reference_engine.specs.Case.{case_seen, leaf_case}
use Rattle.reference_engine.specs.Stand.{AreSound}
use Rattle.reference_engine.proofs.Standing.{cases_go_on, cases_end, points_pushed, nothing}
use Rattle.reference_engine.proofs.cases.told.Goals as goal

pub loop-leaf-preserved : goal.loop-leaf-preserved
loop-leaf-preserved c =
    let leaf = c.in-Some.leaf in
    let split : c.loop-leaf.leaf-iterator.rest.items ≡ leaf ∷ c.next.new.self.rest.items = search rules in
    let case : PrintedCase = record { guard = c.in_ok-guard.guard; answers = leaf.points } in
    let pushed : c.push.new.self.items ≡ c.loop-leaf.cases.items ++ case ∷ [] = search rules in
    let guard : tree_of c.in_ok-guard.guard ≡ nnf_of leaf.formula = search rules in
    let sound : AreSound (leaf ∷ c.next.new.self.rest.items) = subst AreSound split c.loop-leaf.invariant.rest in
    record {
      can = tt;
      finite = tt;
      cases = cases_go_on c.loop-leaf.cases.items c.push.new.self.items case leaf c.next.new.self.rest.items (map leaf_case c.args.leaves.items) (subst (λ (xs : List Leaf). map case_seen c.loop-leaf.cases.items ++ map leaf_case xs ≡ map leaf_case c.args.leaves.items) split c.loop-leaf.invariant.cases) guard refl pushed;
      points = points_pushed c.loop-leaf.cases.items c.push.new.self.items case c.loop-leaf.invariant.points sound.0.points pushed;
      rest = sound.1;
    }

pub returns-clause-cases : goal.returns-clause-cases
returns-clause-cases c =
    let none_left : length c.loop-leaf.leaf-iterator.rest.items ≡ 0 = search rules in
    cases_end c.loop-leaf.cases.items c.loop-leaf.leaf-iterator.rest.items (map leaf_case c.args.leaves.items) c.loop-leaf.invariant.cases (nothing c.loop-leaf.leaf-iterator.rest.items none_left)
