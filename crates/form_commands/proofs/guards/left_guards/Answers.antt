use Rattle.std.proofs.Common.{rules, ◌≡◌, ◌∷◌, List, All as Each, map, length, sym, subst}
use Rattle.std.specs.Prelude.{option_map}
use Rattle.logic_meaning.specs.Some.{EachOf}
use Rattle.logic_meaning.specs.Tree.{Tree}
use Rattle.normal_atoms.specs.Atoms.{context_of, atom_of}
use Rattle.logic_meaning.specs.NormalForm.{IsNormal}
use Rattle.logic_meaning.specs.Cases.{Case}
use Rattle.test_points.specs.Points.{answer_of, IsTestPoint}
use Rattle.reference_engine.specs.Case.{case_seen}
use Rattle.reference_engine.proofs.Standing.{nothing}
use Rattle.shape_theory.specs.Orderly.{IsOrderly}
use Rattle.formula_store.specs.Nodes.{tree, IsId}
use Rattle.formula_store.proofs.Makes.{keeps_then}
use Rattle.engine_answers.specs.declared.case_tree.Case.{Case as Found}
use Rattle.engine_answers.specs.CaseTrees.{cases_seen}
use Rattle.form_commands.specs.Cases.{IsLeftOf}
use Rattle.form_commands.proofs.CaseLemmas.{LeavesAll, leaves_more, leaves_end}
use Rattle.form_commands.proofs.guards.left_guards.Goals as goal

pub left_guard-requires-clause-id : goal.left_guard-requires-clause-id
left_guard-requires-clause-id c =
    let split : c.loop-case.case-iterator.rest.items ≡ c.in-Some.case ∷ c.next.new.self.rest.items = search rules in
    let guards : EachOf (λ (k : Found). IsId c.args.store.now k.guard) (c.in-Some.case ∷ c.next.new.self.rest.items) = subst (EachOf (λ (k : Found). IsId c.args.store.now k.guard)) split c.loop-case.invariant.guards in
    c.loop-case.invariant.kept.is c.in-Some.case.guard guards.0

pub left_guard-requires-clause-well_formed_points : goal.left_guard-requires-clause-well_formed_points
left_guard-requires-clause-well_formed_points c =
    let split : c.loop-case.case-iterator.rest.items ≡ c.in-Some.case ∷ c.next.new.self.rest.items = search rules in
    let points : EachOf (λ (k : Found). Each IsTestPoint k.answers.items) (c.in-Some.case ∷ c.next.new.self.rest.items) = subst (EachOf (λ (k : Found). Each IsTestPoint k.answers.items)) split c.loop-case.invariant.well_formed in
    points.0

pub left_guard-requires-clause-orderly : goal.left_guard-requires-clause-orderly
left_guard-requires-clause-orderly c =
    let theory = context_of c.args.context in
    let split : c.loop-case.case-iterator.rest.items ≡ c.in-Some.case ∷ c.next.new.self.rest.items = search rules in
    let guards : EachOf (λ (k : Found). IsId c.args.store.now k.guard) (c.in-Some.case ∷ c.next.new.self.rest.items) = subst (EachOf (λ (k : Found). IsId c.args.store.now k.guard)) split c.loop-case.invariant.guards in
    let orderly : EachOf (λ (k : Case). IsOrderly (IsNormal theory) k.guard) (cases_seen c.args.store.now (c.in-Some.case ∷ c.next.new.self.rest.items)) =
    subst (λ (xs : List Found). EachOf (λ (k : Case). IsOrderly (IsNormal theory) k.guard) (cases_seen c.args.store.now xs)) split c.loop-case.invariant.orderly in
    subst (λ (g : Tree). IsOrderly (IsNormal theory) g) (sym (c.loop-case.invariant.kept.same c.in-Some.case.guard guards.0)) orderly.0

pub loop-case-preserved : goal.loop-case-preserved
loop-case-preserved c =
    let theory = context_of c.args.context in
    let ks = map atom_of c.args.atoms.now in
    let store = c.args.store.now in
    let case = c.in-Some.case in
    let rest = c.next.new.self.rest.items in
    let split : c.loop-case.case-iterator.rest.items ≡ case ∷ rest = search rules in
    let guards : EachOf (λ (k : Found). IsId store k.guard) (case ∷ rest) = subst (EachOf (λ (k : Found). IsId store k.guard)) split c.loop-case.invariant.guards in
    let points : EachOf (λ (k : Found). Each IsTestPoint k.answers.items) (case ∷ rest) = subst (EachOf (λ (k : Found). Each IsTestPoint k.answers.items)) split c.loop-case.invariant.well_formed in
    let orderly : EachOf (λ (k : Case). IsOrderly (IsNormal theory) k.guard) (cases_seen store (case ∷ rest)) =
    subst (λ (xs : List Found). EachOf (λ (k : Case). IsOrderly (IsNormal theory) k.guard) (cases_seen store xs)) split c.loop-case.invariant.orderly in
    let before : LeavesAll theory ks (map case_seen c.loop-case.cases.items) (cases_seen store (case ∷ rest)) (cases_seen store c.args.found.items) =
    subst (λ (xs : List Found). LeavesAll theory ks (map case_seen c.loop-case.cases.items) (cases_seen store xs) (cases_seen store c.args.found.items)) split c.loop-case.invariant.left in
    let left : IsLeftOf theory ks (record { guard = tree store case.guard; answers = map answer_of case.answers.items }) (option_map case_seen c.in_ok-left.left) =
    subst (λ (g : Tree). IsLeftOf theory ks (record { guard = g; answers = map answer_of case.answers.items }) (option_map case_seen c.in_ok-left.left)) (c.loop-case.invariant.kept.same case.guard guards.0) c.in_ok-left.ensures.left in
    record {
      can = tt;
      finite = tt;
      left = leaves_more theory ks (map case_seen c.loop-case.cases.items) (map case_seen c.push_left.new.cases.items) (record { guard = tree store case.guard; answers = map answer_of case.answers.items }) (cases_seen store rest) (cases_seen store c.args.found.items)
          (option_map case_seen c.in_ok-left.left) before left c.in_ok-push_left.ensures.cases;
      points = c.push_left.ensures.points;
      guards = guards.1;
      well_formed = points.1;
      orderly = orderly.1;
      kept = keeps_then store c.loop-case.store c.left_guard.new.store c.loop-case.invariant.kept c.left_guard.ensures.kept;
    }

pub returns-in_err-left-clause-kept : goal.returns-in_err-left-clause-kept
returns-in_err-left-clause-kept c = keeps_then c.args.store.now c.loop-case.store c.left_guard.new.store c.loop-case.invariant.kept c.left_guard.ensures.kept

pub returns-in_err-push_left-clause-kept : goal.returns-in_err-push_left-clause-kept
returns-in_err-push_left-clause-kept c = keeps_then c.args.store.now c.loop-case.store c.left_guard.new.store c.loop-case.invariant.kept c.left_guard.ensures.kept

pub returns-clause-left : goal.returns-clause-left
returns-clause-left c =
    let theory = context_of c.args.context in
    let ks = map atom_of c.args.atoms.now in
    let store = c.args.store.now in
    let none_left : length c.loop-case.case-iterator.rest.items ≡ 0 = search rules in
    leaves_end theory ks (map case_seen c.loop-case.cases.items) (cases_seen store c.args.found.items)
    (subst (λ (xs : List Found). LeavesAll theory ks (map case_seen c.loop-case.cases.items) (cases_seen store xs) (cases_seen store c.args.found.items)) (nothing c.loop-case.case-iterator.rest.items none_left) c.loop-case.invariant.left)
