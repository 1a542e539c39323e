use Rattle.std.proofs.Common.{rules, ◌≡◌, ◌∷◌, ◌++◌, [], List, map, length, refl, subst}
use Rattle.reference_engine.specs.declared.branch.Leaf.{Leaf}
use Rattle.reference_engine.specs.Case.{leaf_case}
use Rattle.reference_engine.specs.Stand.{AreSound}
use Rattle.reference_engine.proofs.Standing.{nothing}
use Rattle.engine_answers.specs.declared.case_tree.Case.{Case}
use Rattle.engine_answers.specs.CaseTrees.{cases_seen}
use Rattle.formula_store.proofs.Makes.{keeps_then}
use Rattle.engine_answers.proofs.OneMore.{guards_more, points_more, same_more, same_end}
use Rattle.engine_answers.proofs.listed.of_leaves.Goals as goal

pub share-requires : goal.share-requires
share-requires c =
    let split : c.loop-leaf.leaf-iterator.rest.items ≡ c.in-Some.leaf ∷ c.next.new.self.rest.items = search rules in
    let sound : AreSound (c.in-Some.leaf ∷ c.next.new.self.rest.items) = subst AreSound split c.loop-leaf.invariant.rest in
    sound.0.proper

pub loop-leaf-preserved : goal.loop-leaf-preserved
loop-leaf-preserved c =
    let leaf = c.in-Some.leaf in
    let rest = c.next.new.self.rest.items in
    let split : c.loop-leaf.leaf-iterator.rest.items ≡ leaf ∷ rest = search rules in
    let sound : AreSound (leaf ∷ rest) = subst AreSound split c.loop-leaf.invariant.rest in
    let same : cases_seen c.loop-leaf.store c.loop-leaf.cases.items ++ map leaf_case (leaf ∷ rest) ≡ map leaf_case c.args.leaves.items =
    subst (λ (xs : List Leaf). cases_seen c.loop-leaf.store c.loop-leaf.cases.items ++ map leaf_case xs ≡ map leaf_case c.args.leaves.items) split c.loop-leaf.invariant.same in
    let case : Case = record { guard = c.in-Ok.guard; answers = leaf.points } in
    let pushed : c.push.new.self.items ≡ c.loop-leaf.cases.items ++ case ∷ [] = search rules in
    let made = c.in-Ok.ensures.made in
    let old = c.loop-leaf.store in
    let new = c.share.new.store in
    record {
      can = tt;
      finite = tt;
      guards = guards_more old new c.share.ensures.kept c.loop-leaf.cases.items c.push.new.self.items case pushed c.loop-leaf.invariant.guards made.is;
      points = points_more old new c.share.ensures.kept c.loop-leaf.cases.items c.push.new.self.items case pushed c.loop-leaf.invariant.points sound.0.points;
      same = same_more old new c.share.ensures.kept c.loop-leaf.cases.items c.push.new.self.items case pushed leaf rest (map leaf_case c.args.leaves.items) c.loop-leaf.invariant.guards same made.same refl;
      rest = sound.1;
      kept = keeps_then c.args.store.now old new c.loop-leaf.invariant.kept c.share.ensures.kept;
    }

pub returns-clause-shared : goal.returns-clause-shared
returns-clause-shared c =
    let none_left : length c.loop-leaf.leaf-iterator.rest.items ≡ 0 = search rules in
    record {
      guards = c.loop-leaf.invariant.guards;
      points = c.loop-leaf.invariant.points;
      same = same_end c.loop-leaf.store c.loop-leaf.cases.items c.loop-leaf.leaf-iterator.rest.items (map leaf_case c.args.leaves.items) c.loop-leaf.invariant.same (nothing c.loop-leaf.leaf-iterator.rest.items none_left);
    }

pub returns-in_default-clause-kept : goal.returns-in_default-clause-kept
returns-in_default-clause-kept c = keeps_then c.args.store.now c.loop-leaf.store c.share.new.store c.loop-leaf.invariant.kept c.share.ensures.kept

pub returns-in_err-push-clause-kept : goal.returns-in_err-push-clause-kept
returns-in_err-push-clause-kept c = keeps_then c.args.store.now c.loop-leaf.store c.share.new.store c.loop-leaf.invariant.kept c.share.ensures.kept
