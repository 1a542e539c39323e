use Rattle.std.proofs.Common.{◌≡◌, ◌+◌, ℕ, List, map, drop, Bool, true, inl, arith, ap, subst, sym, ◌∙◌}
use Rattle.std.specs.Ordering.{nat_cmp}
use Rattle.std.specs.BTreeSet.{contains}
use Rattle.logic_meaning.specs.Sizes.{nodes}
use Rattle.written_syntax.specs.declared.tree.Formula as written
use Rattle.language_meaning.specs.Trees.{FormulaTree, FormulaTrees}
use Rattle.language_meaning.specs.Holes.{command_count}
use Rattle.written_syntax.specs.CodeTrees.{formula_tree, named_tree}
use Rattle.written_syntax.specs.Valued.{IsUnquantified}
use Rattle.written_syntax.proofs.Quantified.{matrix_unquantified}
use Rattle.language_meaning.specs.Resolving.{MentionsNumber}
use Rattle.logic_meaning.specs.Names.{place}
use Rattle.formula_store.specs.Nodes.{tree}
use Rattle.formula_resolving.specs.BoundIds.{answered_trees}
use Rattle.formula_resolving.proofs.HoleNames.{prefix_named}
use Rattle.formula_resolving.proofs.Measures.{formula_below, matrix_nodes}
use Rattle.formula_resolving.proofs.PartLaws.{ok_map}
use Rattle.formula_resolving.proofs.WrittenParts.{count_of}
use Rattle.free_names.specs.Places.{IsFreeHere, AreFreeHere, in_scope}
use Rattle.free_names.specs.Scopes.{AreAmong, IsOpened}
use Rattle.free_names.proofs.Named.{members_named, pair_is, pair_nodes, pair_free, joint_is, joint_nodes, joint_free, next_named, next_count, end_named, end_count}
use Rattle.free_names.proofs.Search.{SearchedTo, search_more, search_end, among_both}
use Rattle.free_names.proofs.Scopes.{scope_among, among_same}
use Rattle.free_names.proofs.valued.+formulas.Goals as goal

-- ---- in_formula

pub in_formula-in_matrix-requires : goal.in_formula-in_matrix-requires
in_formula-in_matrix-requires t c =
    let is = c.after_quantifiers.ensures in (
      (let k = matrix_nodes (formula_tree c.args.formula.now) in let e = ap nodes is.matrix in omega arith),
      (
        subst IsUnquantified (sym is.matrix) (matrix_unquantified (formula_tree c.args.formula.now)),
        (c.requires.ids, (c.requires.answers, (omega (arith, c.requires.room, ap command_count is.inner), c.requires.sound))),
      ),
    )

pub in_formula-returns-clause-among : goal.in_formula-returns-clause-among
in_formula-returns-clause-among t c =
    let around = c.args.around.now in
    let number = place around.names.now in
    let old = contains nat_cmp c.args.opened.now in
    let inside = contains nat_cmp c.open_scope.new.opened in
    let f = named_tree c.args.taken.now c.args.formula.now in
    scope_among (MentionsNumber (answered_trees (tree around.store.now) around.inner.now around.bound.now) number) number f (contains nat_cmp around.valued.now) old inside c.in_ok-new.new.items _
    (subst (λ (xs : List (List ℕ)). IsOpened (map number xs) old inside c.in_ok-new.new.items) (sym (prefix_named c.args.formula.now c.args.taken.now)) c.in_ok-new.ensures)
    (subst (λ (g : FormulaTree). AreAmong (IsFreeHere around.store.now around.inner.now around.bound.now around.names.now g) (in_scope around.valued.now c.open_scope.new.opened) c.in_ok-valued.valued) (c.after_quantifiers.ensures.named c.args.taken.now) c.in_ok-valued.ensures.among)

pub in_formula-returns-clause-taken : goal.in_formula-returns-clause-taken
in_formula-returns-clause-taken t c = λ e. c.in_ok-valued.ensures.taken e ∙ ap (λ ns. c.args.taken.now + command_count ns) c.after_quantifiers.ensures.inner

-- ---- in_pair

pub in_pair-returns-then-not-branch-clause-among : goal.in_pair-returns-then-not-branch-clause-among
in_pair-returns-then-not-branch-clause-among t c =
    let around = c.args.around.now in
    let here : ℕ → Type 0 = IsFreeHere around.store.now around.inner.now around.bound.now around.names.now (named_tree c.args.taken.now c.args.left.now) in
    let found = subst (λ (b : Bool). AreAmong here (in_scope around.valued.now c.args.opened.now) b) c.if-not-branch.true c.in_ok-in_formula.ensures.among in
    (found.0, inl found.1, found.2)

pub in_pair-returns-clause-among : goal.in_pair-returns-clause-among
in_pair-returns-clause-among t c =
    let around = c.args.around.now in
    let v = contains nat_cmp around.valued.now in
    let old = contains nat_cmp c.args.opened.now in
    let has = in_scope around.valued.now c.args.opened.now in
    let left : ℕ → Type 0 = IsFreeHere around.store.now around.inner.now around.bound.now around.names.now (named_tree c.args.taken.now c.args.left.now) in
    let right : ℕ → Type 0 = IsFreeHere around.store.now around.inner.now around.bound.now around.names.now (named_tree (c.args.taken.now + count_of c.args.left.now) c.args.right.now) in
    let passes : AreAmong left has true = subst (λ (b : Bool). AreAmong left has b) c.if-not-branch.false c.in_ok-in_formula.ensures.among in
    ok_map c.in_formula-2.result
    (λ r w.
    let at : AreAmong right (in_scope around.valued.now c.in_formula.new.opened) r = subst (λ (k : ℕ). AreAmong (IsFreeHere around.store.now around.inner.now around.bound.now around.names.now (named_tree k c.args.right.now)) (in_scope around.valued.now c.in_formula.new.opened) r) (c.in_ok-in_formula.ensures.taken c.if-not-branch.false) w in
    among_both left right has true r passes (among_same right v old (contains nat_cmp c.in_formula.new.opened) r c.in_ok-in_formula.ensures.kept at))
    c.in_formula-2.ensures.among

-- ---- in_formulas

pub in_formulas-in_formula-requires : goal.in_formulas-in_formula-requires
in_formulas-in_formula-requires t c = (
  (let k = formula_below _ _ _ c.formula-item.is c.loop-formula-test.true in omega arith),
  (
    c.requires.ids,
    (
      c.requires.answers,
      (omega (arith, c.requires.room, c.loop-formula.invariant.taken, next_count c.args.formulas.now c.loop-formula.formula-index c.formula-item.result c.loop-formula-test.true c.formula-item.is), c.loop-formula.invariant.sound),
    ),
  ),
)

pub in_formulas-returns-then-not-branch-clause-among : goal.in_formulas-returns-then-not-branch-clause-among
in_formulas-returns-then-not-branch-clause-among t c =
    let around = c.args.around.now in
    let fs : List written.Formula = c.args.formulas.now in
    let v = contains nat_cmp around.valued.now in
    let old = contains nat_cmp c.args.opened.now in
    let has = in_scope around.valued.now c.args.opened.now in
    let here : ℕ → Type 0 = IsFreeHere around.store.now around.inner.now around.bound.now around.names.now (named_tree c.loop-formula.taken c.formula-item.result) in
    let among : AreAmong here has c.in_ok-in_formula.field-0 = among_same here v old (contains nat_cmp c.loop-formula.opened) c.in_ok-in_formula.field-0 c.loop-formula.invariant.kept c.in_ok-in_formula.ensures.among in
    let not_here = subst (λ (b : Bool). AreAmong here has b) c.if-not-branch.true among in
    let searched = subst (λ (gs : FormulaTrees). SearchedTo (AreFreeHere around.store.now around.inner.now around.bound.now around.names.now (members_named c.args.taken.now fs)) (AreFreeHere around.store.now around.inner.now around.bound.now around.names.now gs) has)
    (next_named fs c.loop-formula.formula-index c.formula-item.result c.loop-formula-test.true c.formula-item.is c.loop-formula.taken) c.loop-formula.invariant.searched in
    (not_here.0, searched.found not_here.0 (inl not_here.1), not_here.2)

pub in_formulas-loop-formula-preserved : goal.in_formulas-loop-formula-preserved
in_formulas-loop-formula-preserved t c =
    let around = c.args.around.now in
    let fs : List written.Formula = c.args.formulas.now in
    let i : ℕ = c.loop-formula.formula-index in
    let x : written.Formula = c.formula-item.result in
    let v = contains nat_cmp around.valued.now in
    let old = contains nat_cmp c.args.opened.now in
    let has = in_scope around.valued.now c.args.opened.now in
    let here : ℕ → Type 0 = IsFreeHere around.store.now around.inner.now around.bound.now around.names.now (named_tree c.loop-formula.taken x) in
    let among : AreAmong here has c.in_ok-in_formula.field-0 = among_same here v old (contains nat_cmp c.loop-formula.opened) c.in_ok-in_formula.field-0 c.loop-formula.invariant.kept c.in_ok-in_formula.ensures.among in
    let passes = subst (λ (b : Bool). AreAmong here has b) c.if-not-branch.false among in
    let all = AreFreeHere around.store.now around.inner.now around.bound.now around.names.now (members_named c.args.taken.now fs) in
    let searched = subst (λ (gs : FormulaTrees). SearchedTo all (AreFreeHere around.store.now around.inner.now around.bound.now around.names.now gs) has) (next_named fs i x c.loop-formula-test.true c.formula-item.is c.loop-formula.taken) c.loop-formula.invariant.searched in
    let next : c.in_formula.new.taken ≡ c.loop-formula.taken + count_of x = c.in_ok-in_formula.ensures.taken c.if-not-branch.false in
    record {
      searched = subst (λ (k : ℕ). SearchedTo all (AreFreeHere around.store.now around.inner.now around.bound.now around.names.now (members_named k (drop (i + 1) fs))) has) (sym next)
          (search_more all here (AreFreeHere around.store.now around.inner.now around.bound.now around.names.now (members_named (c.loop-formula.taken + count_of x) (drop (i + 1) fs))) has searched passes);
      taken = omega (arith, next, c.loop-formula.invariant.taken, next_count fs i x c.loop-formula-test.true c.formula-item.is);
      kept = λ n. c.loop-formula.invariant.kept n ∙ c.in_ok-in_formula.ensures.kept n;
      sound = c.in_ok-in_formula.ensures.sound;
    }

pub in_formulas-returns-clause-among : goal.in_formulas-returns-clause-among
in_formulas-returns-clause-among t c =
    let around = c.args.around.now in
    let fs : List written.Formula = c.args.formulas.now in
    let has = in_scope around.valued.now c.args.opened.now in
    let all = AreFreeHere around.store.now around.inner.now around.bound.now around.names.now (members_named c.args.taken.now fs) in
    search_end all has
    (subst (λ (gs : FormulaTrees). SearchedTo all (AreFreeHere around.store.now around.inner.now around.bound.now around.names.now gs) has) (end_named fs c.loop-formula.formula-index c.loop-formula-test.false c.loop-formula.taken) c.loop-formula.invariant.searched)

pub in_formulas-returns-clause-taken : goal.in_formulas-returns-clause-taken
in_formulas-returns-clause-taken t c = λ e. omega (arith, c.loop-formula.invariant.taken, end_count c.args.formulas.now c.loop-formula.formula-index c.loop-formula-test.false)

-- ---- in_matrix

pub in_matrix-in_formulas-requires : goal.in_matrix-in_formulas-requires
in_matrix-in_formulas-requires t c =
    let is = joint_is _ _ _ c.in-And.is c.items.ensures in (
      (let e : nodes (formula_tree c.args.formula.now) ≡ _ = ap nodes is.1.tree ∙ joint_nodes is.0 _ in omega arith),
      (c.requires.ids, (c.requires.answers, (omega (arith, c.requires.room, is.1.count), c.requires.sound))),
    )

pub in_matrix-in_pair-requires : goal.in_matrix-in_pair-requires
in_matrix-in_pair-requires t c =
    let is = pair_is _ _ _ _ _ c.in-Impl.is c.deref-in-Impl.ensures c.deref-in-Impl-2.ensures in (
      (let e : nodes (formula_tree c.args.formula.now) ≡ _ = ap nodes is.1.tree ∙ pair_nodes is.0 _ _ in omega arith),
      (c.requires.ids, (c.requires.answers, (omega (arith, c.requires.room, is.1.count), c.requires.sound))),
    )

pub in_matrix-returns-in-And-clause-among : goal.in_matrix-returns-in-And-clause-among
in_matrix-returns-in-And-clause-among t c =
    let around = c.args.around.now in
    let is = joint_is _ _ _ c.in-And.is c.items.ensures in
    let has = in_scope around.valued.now c.args.opened.now in
    ok_map c.in_formulas.result
    (λ r w. subst (λ (f : FormulaTree). AreAmong (IsFreeHere around.store.now around.inner.now around.bound.now around.names.now f) has r) (sym (is.1.named c.args.taken.now))
    (joint_free (λ P. AreAmong P has r) (answered_trees (tree around.store.now) around.inner.now around.bound.now) (place around.names.now) is.0 _ w))
    c.in_formulas.ensures.among

pub in_matrix-returns-in-And-clause-taken : goal.in_matrix-returns-in-And-clause-taken
in_matrix-returns-in-And-clause-taken t c =
    let is = joint_is _ _ _ c.in-And.is c.items.ensures in
    ok_map c.in_formulas.result (λ r w e. w e ∙ ap (λ n. c.args.taken.now + n) (sym is.1.count)) c.in_formulas.ensures.taken

pub in_matrix-returns-in-Impl-clause-among : goal.in_matrix-returns-in-Impl-clause-among
in_matrix-returns-in-Impl-clause-among t c =
    let around = c.args.around.now in
    let is = pair_is _ _ _ _ _ c.in-Impl.is c.deref-in-Impl.ensures c.deref-in-Impl-2.ensures in
    let has = in_scope around.valued.now c.args.opened.now in
    ok_map c.in_pair.result
    (λ r w. subst (λ (f : FormulaTree). AreAmong (IsFreeHere around.store.now around.inner.now around.bound.now around.names.now f) has r) (sym (is.1.named c.args.taken.now))
    (pair_free (λ P. AreAmong P has r) (answered_trees (tree around.store.now) around.inner.now around.bound.now) (place around.names.now) is.0 _ _ w))
    c.in_pair.ensures.among

pub in_matrix-returns-in-Impl-clause-taken : goal.in_matrix-returns-in-Impl-clause-taken
in_matrix-returns-in-Impl-clause-taken t c =
    let is = pair_is _ _ _ _ _ c.in-Impl.is c.deref-in-Impl.ensures c.deref-in-Impl-2.ensures in
    ok_map c.in_pair.result (λ r w e. w e ∙ ap (λ n. c.args.taken.now + n) (sym is.1.count)) c.in_pair.ensures.taken
