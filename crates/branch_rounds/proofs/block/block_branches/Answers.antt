use Rattle.std.proofs.Common.{rules, ◌≡◌, ℕ, ◌+◌, List, [], length, drop, sym, ap, subst, refl, arith, length-drop, ⊎_elim}
use Rattle.logic_meaning.specs.Some.{EachOf, SomeOf}
use Rattle.formula_store.specs.Nodes.{tree}
use Rattle.formula_store.proofs.Makes.{keeps_then}
use Rattle.branch_rounds.specs.Branches.{Seen, IsOpen, ArePendingOf, AreBranchesOf, numbers}
use Rattle.branch_rounds.specs.Rounds.{PassesAt, IsLeftAlone}
use Rattle.normal_atoms.specs.Atoms.{context_of}
use Rattle.branch_rounds.proofs.Alone.{direct_over, alone_over}
use Rattle.branch_rounds.proofs.Never.{no_branches, none_alone}
use Rattle.branch_rounds.proofs.Thinned.{branches_thinned, alone_thinned, each_id}
use Rattle.branch_rounds.proofs.EachRound.{all_some, all_ended, begun_pending, one_less}
use Rattle.branch_rounds.proofs.block.block_branches.Goals as goal

pub loop-name-init : goal.loop-name-init
loop-name-init g c =
    let w = c.args.work.now in
    let nodes = c.args.store.now in
    let is = sym c.in_ok-branches.ensures in
    record {
      kept = record { is = λ id h. h; same = λ id h. refl };
      are_open = subst (λ (l : List Seen). EachOf (IsOpen w nodes) l) is (record { is = c.requires.id; tidy = c.requires.tidy; points = tt; once = c.requires.once }, tt);
      many = subst (λ (l : List Seen). EachOf (λ (b : Seen). length b.left ≡ length c.args.block.now) l) is (refl, tt);
      first = λ e. c.in_ok-branches.ensures;
      budget = λ e. refl;
      alone = λ x s d e. absurd (omega (arith, e));
      pending = subst (λ (l : List Seen). ArePendingOf w (tree nodes c.args.matrix) (numbers c.args.block.now) nodes l) is (begun_pending w nodes c.args.matrix c.args.block.now c.requires.tidy c.requires.lack c.requires.once);
    }

pub round-requires-clause-are_open : goal.round-requires-clause-are_open
round-requires-clause-are_open g c κs within = c.loop-name.invariant.are_open

pub round-requires-clause-some : goal.round-requires-clause-some
round-requires-clause-some g c κs within =
    let less = one_less c.args.block.now c.loop-name._name-index c.loop-name-test.true in
    all_some (length (drop (c.loop-name._name-index + 1) c.args.block.now)) c.loop-name.branches.items
    (subst (λ (n : ℕ). EachOf (λ (b : Seen). length b.left ≡ n) c.loop-name.branches.items) less c.loop-name.invariant.many)

pub loop-name-preserved : goal.loop-name-preserved
loop-name-preserved g c =
    let less = one_less c.args.block.now c.loop-name._name-index c.loop-name-test.true in
    let round = c.in-Ok.ensures.round in
    record {
      kept = keeps_then c.args.store.now c.loop-name.store c.round.new.store c.loop-name.invariant.kept c.in-Ok.ensures.kept;
      are_open = round.are_open;
      first = λ e. absurd (omega (arith, e));
      budget = λ e. absurd (omega (arith, e));
      alone = λ x s d e.
          let one : length c.args.block.now ≡ 1 = ap length d.alone in
          let zero : c.loop-name._name-index ≡ 0 = omega (arith, one, c.loop-name-test.true) in
          let is = sym (c.loop-name.invariant.kept.same c.args.matrix c.requires.id) in
          let here = direct_over (context_of c.args.work.now.context) x s c.args.block.now (tree c.args.store.now c.args.matrix) (tree c.loop-name.store c.args.matrix) c.args.budget.now.nodes c.loop-name.budget.nodes is (c.loop-name.invariant.budget zero) d in
          alone_over (context_of c.args.work.now.context) x s (tree c.args.store.now c.args.matrix) (tree c.loop-name.store c.args.matrix) is c.round.new.store c.in-Ok.branches.items
          (c.in-Ok.ensures.direct (record { formula = c.args.matrix; points = []; left = c.args.block.now }) x s (c.loop-name.invariant.first zero) here);
      many = round.fewer (length (drop (c.loop-name._name-index + 1) c.args.block.now)) (subst (λ (n : ℕ). EachOf (λ (b : Seen). length b.left ≡ n) c.loop-name.branches.items) less c.loop-name.invariant.many);
      pending = round.goes_on (tree c.args.store.now c.args.matrix) (numbers c.args.block.now) c.loop-name.invariant.pending;
    }

pub returns-in-Err-clause-kept : goal.returns-in-Err-clause-kept
returns-in-Err-clause-kept g c = keeps_then c.args.store.now c.loop-name.store c.round.new.store c.loop-name.invariant.kept c.in-Err.ensures.kept

pub returns-then-branch-clause-branches : goal.returns-then-branch-clause-branches
returns-then-branch-clause-branches g c =
    let none : c.new.result.items ≡ [] = search rules in
    subst (AreBranchesOf c.args.work.now (tree c.args.store.now c.args.matrix) (numbers c.args.block.now) c.args.store.now) (sym none)
    (no_branches c.args.work.now (tree c.args.store.now c.args.matrix) (numbers c.args.block.now) c.args.store.now c.requires.lack (c.in_ok-is_impossible.ensures.impossible c.if-branch.true))

pub returns-then-branch-clause-direct : goal.returns-then-branch-clause-direct
returns-then-branch-clause-direct g c x s d =
    let none : c.new.result.items ≡ [] = search rules in
    subst (IsLeftAlone (context_of c.args.work.now.context) x.number s (tree c.args.store.now c.args.matrix) c.args.store.now) (sym none)
    (none_alone (context_of c.args.work.now.context) x.number s (tree c.args.store.now c.args.matrix) c.args.store.now)

pub thinned-requires-clause-ids : goal.thinned-requires-clause-ids
thinned-requires-clause-ids g c = each_id c.args.work.now c.loop-name.store c.loop-name.branches.items c.loop-name.invariant.are_open

pub returns-clause-branches : goal.returns-clause-branches
returns-clause-branches g c =
    let over : length (drop c.loop-name._name-index c.args.block.now) ≡ 0 = let a = length-drop c.loop-name._name-index c.args.block.now in omega (arith, a, c.loop-name-test.false) in
    branches_thinned c.args.work.now (tree c.args.store.now c.args.matrix) (numbers c.args.block.now) c.loop-name.store c.loop-name.branches.items c.in_ok-thinned.field-0.items
    (record {
      are_open = c.loop-name.invariant.are_open;
      pending = c.loop-name.invariant.pending;
      ended = all_ended c.loop-name.branches.items (subst (λ (n : ℕ). EachOf (λ (b : Seen). length b.left ≡ n) c.loop-name.branches.items) over c.loop-name.invariant.many);
    }) c.in_ok-thinned.ensures.thinned

pub returns-in-Err-clause-one_name : goal.returns-in-Err-clause-one_name
returns-in-Err-clause-one_name g c x e h =
    let w = c.args.work.now in
    let one : length c.args.block.now ≡ 1 = ap length e in
    let zero : c.loop-name._name-index ≡ 0 = omega (arith, one, c.loop-name-test.true) in
    let passes = subst (SomeOf (λ (b : Seen). PassesAt w.context (tree c.loop-name.store b.formula) b.left)) (c.loop-name.invariant.first zero) (c.in-Err.ensures.overflow h) in
    subst (λ f. PassesAt w.context f c.args.block.now) (c.loop-name.invariant.kept.same c.args.matrix c.requires.id) (⊎_elim (λ p. p) (λ p. absurd p) passes)

pub returns-in-Err-clause-direct : goal.returns-in-Err-clause-direct
returns-in-Err-clause-direct g c x s d =
    let one : length c.args.block.now ≡ 1 = ap length d.alone in
    let zero : c.loop-name._name-index ≡ 0 = omega (arith, one, c.loop-name-test.true) in
    let is = sym (c.loop-name.invariant.kept.same c.args.matrix c.requires.id) in
    c.in-Err.ensures.direct (record { formula = c.args.matrix; points = []; left = c.args.block.now }) x s (c.loop-name.invariant.first zero)
    (direct_over (context_of c.args.work.now.context) x s c.args.block.now (tree c.args.store.now c.args.matrix) (tree c.loop-name.store c.args.matrix) c.args.budget.now.nodes c.loop-name.budget.nodes is (c.loop-name.invariant.budget zero) d)

pub returns-clause-direct : goal.returns-clause-direct
returns-clause-direct g c x s d =
    let one : length c.args.block.now ≡ 1 = ap length d.alone in
    alone_thinned (context_of c.args.work.now.context) x.number s (tree c.args.store.now c.args.matrix) c.args.work.now c.loop-name.store c.loop-name.branches.items c.in_ok-thinned.field-0.items
    (c.loop-name.invariant.alone x s d (omega (arith, one, c.loop-name-test.false))) c.in_ok-thinned.ensures.thinned
