use Rattle.std.proofs.Common.{rules, ◌≡◌, suc, ◌<◌, List, [], ◌∷◌, ◌++◌, length, sym, ap, ◌∙◌, subst, inl, inr, ⊎_elim}
use Rattle.std.proofs.lemmas.List.{append-nil}
use Rattle.std.specs.Prelude.{IsTrue}
use Rattle.logic_meaning.specs.Some.{EachOf, SomeOf}
use Rattle.formula_store.proofs.Makes.{keeps_then}
use Rattle.formula_store.specs.Nodes.{tree, IsId}
use Rattle.nnf_trees.proofs.Pieces.{empty}
use Rattle.branch_rounds.specs.Branches.{Seen, IsOpen, ArePendingOf}
use Rattle.branch_rounds.specs.Rounds.{IsRound, IsSettled, IsSpreadOver, PassesAt, IsLeftAlone}
use Rattle.branch_rounds.proofs.Alone.{direct_here, alone_here, spread_alone, only_branch, some_branch}
use Rattle.normal_atoms.specs.Atoms.{context_of}
use Rattle.branch_rounds.proofs.Standing.{all_open_kept}
use Rattle.branch_rounds.proofs.Going.{one_goes, all_spread, only_true}
use Rattle.branch_rounds.proofs.EachRound.{each_is, spread_each, all_fewer_by}
use Rattle.branch_rounds.proofs.work.Work.round.Goals as goal

pub loop-branch-preserved : goal.loop-branch-preserved
loop-branch-preserved g c =
    let w = c.args.self.now in
    let old = c.loop-branch.store in
    let new = c.step.new.store in
    let so_far = c.loop-branch.invariant in
    let step = c.in-Ok.ensures in
    let made = c.loop-branch.spread in
    let b = c.in-Some.branch in
    let next = c.in-Ok.next.items in
    let rest = c.next.new.self.rest.items in
    let split : c.loop-branch.branch-iterator.rest.items ≡ b ∷ rest = search rules in
    let left_open = subst (EachOf (IsOpen w old)) split so_far.left_open in
    record {
      can = tt;
      finite = tt;
      kept = keeps_then c.args.store.now old new so_far.kept step.kept;
      made_open = spread_each (IsOpen w new) made next c.add_all.new.spread (all_open_kept old new step.kept w made so_far.made_open) step.step.are_open c.in_ok-add_all.ensures;
      left_open = all_open_kept old new step.kept w rest left_open.1;
      as_first = (subst (EachOf (IsOpen w c.args.store.now)) split so_far.as_first).1;
      among = λ s. so_far.among (subst (SomeOf (λ (d : Seen). PassesAt w.context (tree c.args.store.now d.formula) d.left)) (sym split) (inr s));
      some = (subst (EachOf (λ (d : Seen). 0 < length d.left)) split so_far.some).1;
      made_fewer = λ n h.
          spread_each (λ (d : Seen). length d.left ≡ n) made next c.add_all.new.spread (so_far.made_fewer n h)
          (all_fewer_by b.left n (subst (EachOf (λ (d : Seen). length d.left ≡ suc n)) split (so_far.left_many n h)).0 next step.step.fewer) c.in_ok-add_all.ensures;
      left_many = λ n h. (subst (EachOf (λ (d : Seen). length d.left ≡ suc n)) split (so_far.left_many n h)).1;
      alone = λ d x s e h.
          ⊎_elim
          (λ y.
          let one = only_branch b d rest (sym split ∙ y.0) in
          let is = (subst (EachOf (IsOpen w c.args.store.now)) e c.requires.are_open).0.is in
          let left = step.direct x s (direct_here w c.args.store.now old so_far.kept b d one.0 is x s c.args.budget.now.nodes c.loop-branch.budget.nodes y.2 h) in
          let all : c.add_all.new.spread ≡ next = spread_alone c.add_all.new.spread next left.few (subst (λ (l : List Seen). IsSpreadOver l next c.add_all.new.spread) y.1 c.in_ok-add_all.ensures) in
          inr (
            one.1,
            subst (λ (l : List Seen). IsLeftAlone (context_of w.context) x.number s (tree c.args.store.now d.formula) new l) (sym all)
                (alone_here w c.args.store.now old so_far.kept b d one.0 is x s new next left),
          ))
          (λ z. some_branch b rest (sym split ∙ z.0))
          (so_far.alone d x s e h);
      pending = λ matrix block a.
          all_spread w matrix block new made c.add_all.new.spread rest next c.in_ok-add_all.ensures
          (one_goes w matrix block old new step.kept made rest b next so_far.made_open left_open.1 step.step (subst (λ (l : List Seen). ArePendingOf w matrix block old (made ++ l)) split (so_far.pending matrix block a)));
    }

pub returns-in-Err-clause-kept : goal.returns-in-Err-clause-kept
returns-in-Err-clause-kept g c = keeps_then c.args.store.now c.loop-branch.store c.step.new.store c.loop-branch.invariant.kept c.in-Err.ensures.kept

pub returns-in_err-add_all-clause-kept : goal.returns-in_err-add_all-clause-kept
returns-in_err-add_all-clause-kept g c = keeps_then c.args.store.now c.loop-branch.store c.step.new.store c.loop-branch.invariant.kept c.in-Ok.ensures.kept

pub returns-then-settles-clause-kept : goal.returns-then-settles-clause-kept
returns-then-settles-clause-kept g c = keeps_then c.args.store.now c.loop-branch.store c.step.new.store c.loop-branch.invariant.kept c.in-Ok.ensures.kept

pub settles-requires : goal.settles-requires
settles-requires g c =
    subst (λ (l : List Seen). EachOf (λ (b : Seen). IsId c.step.new.store b.formula) l) (sym c.deref.ensures.value) (each_is c.args.self.now c.step.new.store c.in-Ok.next.items c.in-Ok.ensures.step.are_open)

pub returns-then-settles-clause-round : goal.returns-then-settles-clause-round
returns-then-settles-clause-round g c =
    let w = c.args.self.now in
    let old = c.loop-branch.store in
    let new = c.step.new.store in
    let so_far = c.loop-branch.invariant in
    let step = c.in-Ok.ensures in
    let made = c.loop-branch.spread in
    let b = c.in-Some.branch in
    let next = c.in-Ok.next.items in
    let rest = c.next.new.self.rest.items in
    let split : c.loop-branch.branch-iterator.rest.items ≡ b ∷ rest = search rules in
    let left_open = subst (EachOf (IsOpen w old)) split so_far.left_open in
    let yes : IsTrue c.settles.result = search rules in
    let settled : IsSettled new next = subst (IsSettled new) c.deref.ensures.value (c.settles.ensures yes) in
    record {
      are_open = step.step.are_open;
      fewer = λ n h. all_fewer_by b.left n (subst (EachOf (λ (d : Seen). length d.left ≡ suc n)) split (so_far.left_many n h)).0 next step.step.fewer;
      goes_on = λ matrix block a.
          subst (ArePendingOf w matrix block new) (sym settled.1)
          (only_true w matrix block new made rest settled.0 settled.2
          (subst (λ (l : List Seen). ArePendingOf w matrix block new (made ++ (l ++ rest))) settled.1
          (one_goes w matrix block old new step.kept made rest b next so_far.made_open left_open.1 step.step (subst (λ (l : List Seen). ArePendingOf w matrix block old (made ++ l)) split (so_far.pending matrix block a)))));
    }

pub returns-clause-round : goal.returns-clause-round
returns-clause-round g c =
    let w = c.args.self.now in
    let so_far = c.loop-branch.invariant in
    let none_left : length c.loop-branch.branch-iterator.rest.items ≡ 0 = search rules in
    let ended : c.loop-branch.branch-iterator.rest.items ≡ [] = empty c.loop-branch.branch-iterator.rest.items none_left in
    let is : c.into_branches.result.items ≡ c.loop-branch.spread = c.into_branches.ensures in
    subst (λ (l : List Seen). IsRound w c.args.store.now c.args.branches.items c.loop-branch.store l) (sym is) (record {
      are_open = so_far.made_open;
      fewer = so_far.made_fewer;
      goes_on = λ matrix block a. subst (ArePendingOf w matrix block c.loop-branch.store) (ap (λ (l : List Seen). c.loop-branch.spread ++ l) ended ∙ append-nil c.loop-branch.spread) (so_far.pending matrix block a);
    })

pub returns-in-Err-clause-overflow : goal.returns-in-Err-clause-overflow
returns-in-Err-clause-overflow g c e =
    let w = c.args.self.now in
    let first = c.args.store.now in
    let so_far = c.loop-branch.invariant in
    let b = c.in-Some.branch in
    let split : c.loop-branch.branch-iterator.rest.items ≡ b ∷ c.next.new.self.rest.items = search rules in
    let is = (subst (EachOf (IsOpen w first)) split so_far.as_first).0.is in
    so_far.among (subst (SomeOf (λ (d : Seen). PassesAt w.context (tree first d.formula) d.left)) (sym split) (inl (subst (λ f. PassesAt w.context f b.left) (so_far.kept.same b.formula is) (c.in-Err.ensures.overflow e))))

pub returns-in-Err-clause-direct : goal.returns-in-Err-clause-direct
returns-in-Err-clause-direct g c d x s e h =
    let w = c.args.self.now in
    let old = c.loop-branch.store in
    let so_far = c.loop-branch.invariant in
    let b = c.in-Some.branch in
    let rest = c.next.new.self.rest.items in
    let split : c.loop-branch.branch-iterator.rest.items ≡ b ∷ rest = search rules in
    ⊎_elim
    (λ y.
    let one = only_branch b d rest (sym split ∙ y.0) in
    let is = (subst (EachOf (IsOpen w c.args.store.now)) e c.requires.are_open).0.is in
    c.in-Err.ensures.direct x s (direct_here w c.args.store.now old so_far.kept b d one.0 is x s c.args.budget.now.nodes c.loop-branch.budget.nodes y.2 h))
    (λ z. some_branch b rest (sym split ∙ z.0))
    (so_far.alone d x s e h)

pub returns-then-settles-clause-direct : goal.returns-then-settles-clause-direct
returns-then-settles-clause-direct g c d x s e h =
    let w = c.args.self.now in
    let old = c.loop-branch.store in
    let so_far = c.loop-branch.invariant in
    let b = c.in-Some.branch in
    let rest = c.next.new.self.rest.items in
    let split : c.loop-branch.branch-iterator.rest.items ≡ b ∷ rest = search rules in
    ⊎_elim
    (λ y.
    let one = only_branch b d rest (sym split ∙ y.0) in
    let is = (subst (EachOf (IsOpen w c.args.store.now)) e c.requires.are_open).0.is in
    alone_here w c.args.store.now old so_far.kept b d one.0 is x s c.step.new.store c.in-Ok.next.items
    (c.in-Ok.ensures.direct x s (direct_here w c.args.store.now old so_far.kept b d one.0 is x s c.args.budget.now.nodes c.loop-branch.budget.nodes y.2 h)))
    (λ z. some_branch b rest (sym split ∙ z.0))
    (so_far.alone d x s e h)

pub returns-clause-direct : goal.returns-clause-direct
returns-clause-direct g c d x s e h =
    let w = c.args.self.now in
    let so_far = c.loop-branch.invariant in
    let none_left : length c.loop-branch.branch-iterator.rest.items ≡ 0 = search rules in
    let ended : c.loop-branch.branch-iterator.rest.items ≡ [] = empty c.loop-branch.branch-iterator.rest.items none_left in
    subst (λ (l : List Seen). IsLeftAlone (context_of w.context) x.number s (tree c.args.store.now d.formula) c.loop-branch.store l) (sym c.into_branches.ensures)
    (⊎_elim (λ y. some_branch d [] (sym y.0 ∙ ended)) (λ z. z.1) (so_far.alone d x s e h))
