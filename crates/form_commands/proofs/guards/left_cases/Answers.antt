use Rattle.std.proofs.Common.{rules, ◌≡◌, ◌∷◌, List, map, length, subst}
use Rattle.std.specs.Prelude.{option_map}
use Rattle.logic_meaning.specs.Some.{EachOf}
use Rattle.normal_atoms.specs.Atoms.{context_of, atom_of}
use Rattle.logic_meaning.specs.NormalForm.{IsNormal}
use Rattle.logic_meaning.specs.Cases.{Case}
use Rattle.reference_engine.specs.declared.branch.Leaf.{Leaf}
use Rattle.reference_engine.specs.Case.{case_seen, leaf_case}
use Rattle.reference_engine.specs.Stand.{AreSound}
use Rattle.reference_engine.proofs.Standing.{nothing}
use Rattle.shape_theory.specs.Orderly.{IsOrderly}
use Rattle.formula_store.proofs.Makes.{keeps_then}
use Rattle.form_commands.proofs.CaseLemmas.{LeavesAll, leaves_more, leaves_end}
use Rattle.form_commands.proofs.guards.left_cases.Goals as goal

pub left_case-requires-clause-sound : goal.left_case-requires-clause-sound
left_case-requires-clause-sound c =
    let split : c.loop-leaf.leaf-iterator.rest.items ≡ c.in-Some.leaf ∷ c.next.new.self.rest.items = search rules in
    let sound : AreSound (c.in-Some.leaf ∷ c.next.new.self.rest.items) = subst AreSound split c.loop-leaf.invariant.sound in
    sound.0

pub left_case-requires-clause-orderly : goal.left_case-requires-clause-orderly
left_case-requires-clause-orderly c =
    let theory = context_of c.args.context in
    let split : c.loop-leaf.leaf-iterator.rest.items ≡ c.in-Some.leaf ∷ c.next.new.self.rest.items = search rules in
    let orderly : EachOf (λ (k : Case). IsOrderly (IsNormal theory) k.guard) (map leaf_case (c.in-Some.leaf ∷ c.next.new.self.rest.items)) =
    subst (λ (xs : List Leaf). EachOf (λ (k : Case). IsOrderly (IsNormal theory) k.guard) (map leaf_case xs)) split c.loop-leaf.invariant.orderly in
    orderly.0

pub loop-leaf-preserved : goal.loop-leaf-preserved
loop-leaf-preserved c =
    let theory = context_of c.args.context in
    let ks = map atom_of c.args.atoms.now in
    let leaf = c.in-Some.leaf in
    let rest = c.next.new.self.rest.items in
    let split : c.loop-leaf.leaf-iterator.rest.items ≡ leaf ∷ rest = search rules in
    let sound : AreSound (leaf ∷ rest) = subst AreSound split c.loop-leaf.invariant.sound in
    let orderly : EachOf (λ (k : Case). IsOrderly (IsNormal theory) k.guard) (map leaf_case (leaf ∷ rest)) =
    subst (λ (xs : List Leaf). EachOf (λ (k : Case). IsOrderly (IsNormal theory) k.guard) (map leaf_case xs)) split c.loop-leaf.invariant.orderly in
    let before : LeavesAll theory ks (map case_seen c.loop-leaf.cases.items) (map leaf_case (leaf ∷ rest)) (map leaf_case c.args.leaves.items) =
    subst (λ (xs : List Leaf). LeavesAll theory ks (map case_seen c.loop-leaf.cases.items) (map leaf_case xs) (map leaf_case c.args.leaves.items)) split c.loop-leaf.invariant.left in
    record {
      can = tt;
      finite = tt;
      left = leaves_more theory ks (map case_seen c.loop-leaf.cases.items) (map case_seen c.push_left.new.cases.items) (leaf_case leaf) (map leaf_case rest) (map leaf_case c.args.leaves.items) (option_map case_seen c.in_ok-case.case)
          before c.in_ok-case.ensures.left c.in_ok-push_left.ensures.cases;
      points = c.push_left.ensures.points;
      sound = sound.1;
      orderly = orderly.1;
      kept = keeps_then c.args.store.now c.loop-leaf.store c.left_case.new.store c.loop-leaf.invariant.kept c.left_case.ensures.kept;
    }

pub returns-in_err-push_left-clause-kept : goal.returns-in_err-push_left-clause-kept
returns-in_err-push_left-clause-kept c = keeps_then c.args.store.now c.loop-leaf.store c.left_case.new.store c.loop-leaf.invariant.kept c.left_case.ensures.kept

pub returns-clause-left : goal.returns-clause-left
returns-clause-left c =
    let theory = context_of c.args.context in
    let ks = map atom_of c.args.atoms.now in
    let none_left : length c.loop-leaf.leaf-iterator.rest.items ≡ 0 = search rules in
    leaves_end theory ks (map case_seen c.loop-leaf.cases.items) (map leaf_case c.args.leaves.items)
    (subst (λ (xs : List Leaf). LeavesAll theory ks (map case_seen c.loop-leaf.cases.items) (map leaf_case xs) (map leaf_case c.args.leaves.items)) (nothing c.loop-leaf.leaf-iterator.rest.items none_left) c.loop-leaf.invariant.left)
