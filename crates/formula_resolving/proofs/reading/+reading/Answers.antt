use Rattle.std.proofs.Common.{◌≡◌, ◌+◌, ℕ, List, map, take, arith, rules, subst, sym, ap, ◌∙◌, refl, Some}
use Rattle.std.proofs.lemmas.List.{take_all}
use Rattle.logic_meaning.specs.Fold.{joined}
use Rattle.logic_meaning.specs.Sizes.{nodes}
use Rattle.logic_meaning.specs.Shape.{quantified}
use Rattle.normal_atoms.specs.Atoms.{context_of}
use Rattle.language_meaning.specs.Trees.{FormulaTree}
use Rattle.language_meaning.specs.Holes.{command_count}
use Rattle.written_syntax.specs.CodeTrees.{formula_tree, named_tree}
use Rattle.written_syntax.specs.Proper.{IsProperFormula}
use Rattle.written_syntax.specs.Valued.{IsUnquantified}
use Rattle.written_syntax.specs.declared.tree.Formula.{Formula}
use Rattle.written_syntax.proofs.Quantified.{matrix_unquantified}
use Rattle.formula_resolving.specs.BoundIds.{answered_trees}
use Rattle.formula_resolving.specs.declared.parts.Opening.{Opening}
use Rattle.formula_resolving.specs.MetCauses.{no_causes}
use Rattle.formula_resolving.specs.Connectives.{Opens}
use Rattle.formula_resolving.specs.Heights.{over}
use Rattle.formula_resolving.specs.Parts.{AreMembers}
use Rattle.formula_resolving.proofs.Answered.{answered_stays}
use Rattle.formula_resolving.proofs.FirstCause.{none_met}
use Rattle.formula_resolving.proofs.Measures.{formula_below, matrix_nodes}
use Rattle.formula_resolving.proofs.NamedTrees.{named_each, count_each, all_named, all_counted, named_more, count_more, count_front}
use Rattle.formula_resolving.proofs.Openings.{opens_last}
use Rattle.formula_resolving.proofs.PartLaws.{keeps_then, part_stays, members_stay, ids_stay, all_stay, finished_as, ok_map, on_ok, part_as, part_under, true_part, false_part, not_part, quantified_part, pair_part, joint_part, one_member_more}
use Rattle.formula_resolving.proofs.WrittenParts.{true_is, false_is, name_is, computed_is, compare_is, cong_is, ncong_is, negation_is, conjunction_is, disjunction_is, implication_is, replication_is, equivalence_is, proper_matrix, proper_member}
use Rattle.formula_resolving.proofs.reading.+reading.Goals as goal

-- ---- read_formula

pub read_formula-read_matrix-requires : goal.read_formula-read_matrix-requires
read_formula-read_matrix-requires g t c = λ κs h.
    let is = c.in_ok-quantifiers.ensures.matrix in (
      (let k = matrix_nodes (formula_tree c.args.formula.now) in let e : nodes (formula_tree c.in_ok-quantifiers.matrix.now) ≡ _ = ap nodes is in omega arith),
      (
        search rules,
        (
          search rules,
          (
            subst IsUnquantified (sym is) (matrix_unquantified (formula_tree c.args.formula.now)),
            (
              subst IsProperFormula (sym is) (proper_matrix (formula_tree c.args.formula.now) c.requires.proper),
              (c.requires.ids, (c.requires.answers, omega (arith, c.requires.room, ap command_count c.in_ok-quantifiers.ensures.inner))),
            ),
          ),
        ),
      ),
    )

pub read_formula-prefix-preserved : goal.read_formula-prefix-preserved
read_formula-prefix-preserved g t c =
    let f : FormulaTree = c.prefix.invariant.part.0 in
    let q : Opening = c.in-Some.quantifier in
    let whole : FormulaTree = named_tree c.args.taken.now c.args.formula.now in
    let o = opens_last c.args.scope.now.names.now c.pop.new.self.items q whole f
    (subst (λ (qs : List Opening). Opens c.args.scope.now.names.now qs whole f) c.in-Some.ensures.items c.prefix.invariant.part.1) in record {
      part = (
        quantified q.quantifier o.0 f,
        o.1,
        quantified_part (context_of c.args.scope.now.context) (answered_trees (g.M.Maker.tree c.args.maker.now) c.args.scope.now.inner.now c.args.scope.now.bound.now) c.args.scope.now.names.now (g.M.Maker.is_id c.finish.new.maker) (g.M.Maker.tree c.prefix.maker) (g.M.Maker.tree c.finish.new.maker) (g.M.Maker.is_id c.prefix.maker) q o.0 f c.prefix.part c.in_ok-part-2.part
            o.2 c.prefix.invariant.part.2 (finished_as c.in_ok-part-2.ensures.finished refl c.above.ensures c.over.ensures),
      );
      kept = keeps_then _ _ _ _ _ _ c.prefix.invariant.kept c.in_ok-part-2.ensures.kept;
    }

-- ---- read_joint

pub read_joint-read_formula-requires : goal.read_joint-read_formula-requires
read_joint-read_formula-requires g t c = λ κs h. (
  (let k = formula_below _ _ _ c.formula-item.is c.loop-formula-test.true in omega arith),
  (
    search rules,
    (
      search rules,
      (
        proper_member _ _ _ c.requires.proper c.formula-item.is c.loop-formula-test.true,
        (
          ids_stay _ _ _ _ c.loop-formula.invariant.kept c.args.scope.now.bound.now c.requires.ids,
          (
            all_stay _ _ _ _ c.loop-formula.invariant.kept c.args.scope.now.inner.now c.requires.answers,
            omega (
              arith,
              c.requires.room,
              c.loop-formula.invariant.taken,
              all_counted c.args.formulas.now,
              count_more c.args.formulas.now c.loop-formula.formula-index c.formula-item.result c.formula-item.is c.loop-formula-test.true,
              count_front c.args.formulas.now (c.loop-formula.formula-index + 1),
            ),
          ),
        ),
      ),
    ),
  ),
)

pub read_joint-loop-formula-preserved : goal.read_joint-loop-formula-preserved
read_joint-loop-formula-preserved g t c =
    let fs : List Formula = c.args.formulas.now in
    let i : ℕ = c.loop-formula.formula-index in
    let x : Formula = c.formula-item.result in
    let at : c.loop-formula.taken ≡ c.args.taken.now + count_each (take i fs) = c.loop-formula.invariant.taken in
    record {
      members = subst (λ (ts : List FormulaTree). AreMembers (context_of c.args.scope.now.context) (answered_trees (g.M.Maker.tree c.args.maker.now) c.args.scope.now.inner.now c.args.scope.now.bound.now) c.args.scope.now.names.now (g.M.Maker.is_id c.read_formula.new.maker) (g.M.Maker.tree c.read_formula.new.maker) ts c.add.new.self) (sym (named_more fs i x c.formula-item.is c.loop-formula-test.true c.args.taken.now))
          (one_member_more (g.M.Maker.is_id c.read_formula.new.maker) (g.M.Maker.tree c.read_formula.new.maker) (context_of c.args.scope.now.context) (answered_trees (g.M.Maker.tree c.args.maker.now) c.args.scope.now.inner.now c.args.scope.now.bound.now) c.args.scope.now.names.now (named_each c.args.taken.now (take i fs)) (named_tree (c.args.taken.now + count_each (take i fs)) x) c.loop-formula.members c.add.new.self c.in_ok-part.part
          (members_stay _ _ _ _ c.in_ok-part.ensures.kept _ _ _ _ _ c.loop-formula.invariant.members)
          (part_as (ap (λ n. named_tree n x) (sym at)) (part_under (answered_stays _ _ _ _ c.loop-formula.invariant.kept c.args.scope.now.inner.now c.args.scope.now.bound.now c.requires.answers c.requires.ids) c.in_ok-part.ensures.read))
          c.in_ok-add.ensures.causes c.in_ok-add.ensures.height c.in_ok-add.ensures.ids);
      taken = omega (arith, c.in_ok-part.ensures.taken, at, count_more fs i x c.formula-item.is c.loop-formula-test.true);
      kept = keeps_then _ _ _ _ _ _ c.loop-formula.invariant.kept c.in_ok-part.ensures.kept;
    }

pub read_joint-returns-clause-read : goal.read_joint-returns-clause-read
read_joint-returns-clause-read g t c =
    ok_map c.finish.result
    (λ r w. part_as (ap (joined c.args.junction) (all_named c.args.taken.now c.args.formulas.now))
    (joint_part (context_of c.args.scope.now.context) (answered_trees (g.M.Maker.tree c.args.maker.now) c.args.scope.now.inner.now c.args.scope.now.bound.now) c.args.scope.now.names.now _ _ _ _ (named_each c.args.taken.now c.args.formulas.now) c.loop-formula.members r c.args.junction
    (subst (λ (fs : List Formula). AreMembers (context_of c.args.scope.now.context) (answered_trees (g.M.Maker.tree c.args.maker.now) c.args.scope.now.inner.now c.args.scope.now.bound.now) c.args.scope.now.names.now (g.M.Maker.is_id c.loop-formula.maker) (g.M.Maker.tree c.loop-formula.maker) (named_each c.args.taken.now fs) c.loop-formula.members) (take_all _ _ c.loop-formula-test.false) c.loop-formula.invariant.members)
    (finished_as w refl c.above.ensures (ap Some c.joined.ensures))))
    c.finish.ensures.finished

pub read_joint-returns-clause-taken : goal.read_joint-returns-clause-taken
read_joint-returns-clause-taken g t c =
    let all : take c.loop-formula.formula-index c.args.formulas.now ≡ c.args.formulas.now = take_all _ _ c.loop-formula-test.false in
    on_ok c.finish.result (omega (arith, c.loop-formula.invariant.taken, ap count_each all, all_counted c.args.formulas.now))

-- ---- read_matrix

pub read_matrix-read_joint-requires : goal.read_matrix-read_joint-requires
read_matrix-read_joint-requires g t c =
    let is = conjunction_is _ _ _ c.in-And.is c.items.ensures in
    λ κs h. (
      (let k : nodes (formula_tree c.args.formula.now) ≡ _ = ap nodes is.tree in omega arith),
      (search rules, (search rules, ((subst IsProperFormula is.tree c.requires.proper).1, (c.requires.ids, (c.requires.answers, omega (arith, c.requires.room, is.count)))))),
    )

pub read_matrix-read_joint-requires-in-Or : goal.read_matrix-read_joint-requires-in-Or
read_matrix-read_joint-requires-in-Or g t c =
    let is = disjunction_is _ _ _ c.in-Or.is c.items-in-Or.ensures in
    λ κs h. (
      (let k : nodes (formula_tree c.args.formula.now) ≡ _ = ap nodes is.tree in omega arith),
      (search rules, (search rules, ((subst IsProperFormula is.tree c.requires.proper).1, (c.requires.ids, (c.requires.answers, omega (arith, c.requires.room, is.count)))))),
    )

pub read_matrix-read_pair-requires : goal.read_matrix-read_pair-requires
read_matrix-read_pair-requires g t c =
    let is = implication_is _ _ _ _ _ c.in-Impl.is c.deref-in-Impl.ensures c.deref-in-Impl-2.ensures in
    let proper = subst IsProperFormula is.tree c.requires.proper in
    λ κs h. (
      (let k : nodes (formula_tree c.args.formula.now) ≡ _ = ap nodes is.tree in omega arith),
      (search rules, (search rules, (proper.0, (proper.1, (c.requires.ids, (c.requires.answers, omega (arith, c.requires.room, is.count))))))),
    )

pub read_matrix-read_pair-requires-in-Repl : goal.read_matrix-read_pair-requires-in-Repl
read_matrix-read_pair-requires-in-Repl g t c =
    let is = replication_is _ _ _ _ _ c.in-Repl.is c.deref-in-Repl.ensures c.deref-in-Repl-2.ensures in
    let proper = subst IsProperFormula is.tree c.requires.proper in
    λ κs h. (
      (let k : nodes (formula_tree c.args.formula.now) ≡ _ = ap nodes is.tree in omega arith),
      (search rules, (search rules, (proper.0, (proper.1, (c.requires.ids, (c.requires.answers, omega (arith, c.requires.room, is.count))))))),
    )

pub read_matrix-read_pair-requires-in-Equiv : goal.read_matrix-read_pair-requires-in-Equiv
read_matrix-read_pair-requires-in-Equiv g t c =
    let is = equivalence_is _ _ _ _ _ c.in-Equiv.is c.deref-in-Equiv.ensures c.deref-in-Equiv-2.ensures in
    let proper = subst IsProperFormula is.tree c.requires.proper in
    λ κs h. (
      (let k : nodes (formula_tree c.args.formula.now) ≡ _ = ap nodes is.tree in omega arith),
      (search rules, (search rules, (proper.0, (proper.1, (c.requires.ids, (c.requires.answers, omega (arith, c.requires.room, is.count))))))),
    )

pub read_matrix-returns-in-True-clause-read : goal.read_matrix-returns-in-True-clause-read
read_matrix-returns-in-True-clause-read g t c =
    ok_map c.finish.result (λ r w. part_as ((true_is _ c.in-True.is).named c.args.taken.now) (true_part _ _ _ _ _ _ no_causes r none_met (finished_as w c.none.ensures refl refl))) c.finish.ensures.finished

pub read_matrix-returns-in-False-clause-read : goal.read_matrix-returns-in-False-clause-read
read_matrix-returns-in-False-clause-read g t c =
    ok_map c.finish-in-False.result (λ r w. part_as ((false_is _ c.in-False.is).named c.args.taken.now) (false_part _ _ _ _ _ _ no_causes r none_met (finished_as w c.none-in-False.ensures refl refl))) c.finish-in-False.ensures.finished

pub read_matrix-returns-in-Named-clause-read : goal.read_matrix-returns-in-Named-clause-read
read_matrix-returns-in-Named-clause-read g t c =
    part_as ((name_is _ _ c.in-Named.is).named c.args.taken.now) (c.name_part.ensures (map (g.M.Maker.tree c.args.maker.now) c.args.scope.now.inner.now) (context_of c.args.scope.now.context) c.args.scope.now.names.now)

pub read_matrix-returns-in-Computed-clause-read : goal.read_matrix-returns-in-Computed-clause-read
read_matrix-returns-in-Computed-clause-read g t c =
    part_as ((computed_is _ _ c.in-Computed.is).named c.args.taken.now) (c.answer_part.ensures.read (context_of c.args.scope.now.context) c.args.scope.now.names.now)

pub read_matrix-returns-in_ok-part-in-Not-clause-read : goal.read_matrix-returns-in_ok-part-in-Not-clause-read
read_matrix-returns-in_ok-part-in-Not-clause-read g t c =
    ok_map c.finish-in-Not.result
    (λ r w. part_as ((negation_is _ _ _ c.in-Not.is c.deref-in-Not.ensures).named c.args.taken.now) (not_part _ _ _ _ _ _ _ _ c.in_ok-part-in-Not.part r c.in_ok-part-in-Not.ensures.read (finished_as w refl c.above.ensures c.negation.ensures)))
    c.finish-in-Not.ensures.finished

pub read_matrix-returns-in-And-clause-read : goal.read_matrix-returns-in-And-clause-read
read_matrix-returns-in-And-clause-read g t c =
    ok_map c.read_joint.result (λ r w. part_as ((conjunction_is _ _ _ c.in-And.is c.items.ensures).named c.args.taken.now) w) c.read_joint.ensures.read

pub read_matrix-returns-in-And-clause-taken : goal.read_matrix-returns-in-And-clause-taken
read_matrix-returns-in-And-clause-taken g t c =
    let is = conjunction_is _ _ _ c.in-And.is c.items.ensures in
    rw is.count c.read_joint.ensures.taken

pub read_matrix-returns-in-Or-clause-read : goal.read_matrix-returns-in-Or-clause-read
read_matrix-returns-in-Or-clause-read g t c =
    ok_map c.read_joint-in-Or.result (λ r w. part_as ((disjunction_is _ _ _ c.in-Or.is c.items-in-Or.ensures).named c.args.taken.now) w) c.read_joint-in-Or.ensures.read

pub read_matrix-returns-in-Or-clause-taken : goal.read_matrix-returns-in-Or-clause-taken
read_matrix-returns-in-Or-clause-taken g t c =
    let is = disjunction_is _ _ _ c.in-Or.is c.items-in-Or.ensures in
    rw is.count c.read_joint-in-Or.ensures.taken

pub read_matrix-returns-in-Impl-clause-read : goal.read_matrix-returns-in-Impl-clause-read
read_matrix-returns-in-Impl-clause-read g t c =
    ok_map c.read_pair.result (λ r w. part_as ((implication_is _ _ _ _ _ c.in-Impl.is c.deref-in-Impl.ensures c.deref-in-Impl-2.ensures).named c.args.taken.now) w) c.read_pair.ensures.read

pub read_matrix-returns-in-Impl-clause-taken : goal.read_matrix-returns-in-Impl-clause-taken
read_matrix-returns-in-Impl-clause-taken g t c =
    let is = implication_is _ _ _ _ _ c.in-Impl.is c.deref-in-Impl.ensures c.deref-in-Impl-2.ensures in
    rw is.count c.read_pair.ensures.taken

pub read_matrix-returns-in-Repl-clause-read : goal.read_matrix-returns-in-Repl-clause-read
read_matrix-returns-in-Repl-clause-read g t c =
    ok_map c.read_pair-in-Repl.result (λ r w. part_as ((replication_is _ _ _ _ _ c.in-Repl.is c.deref-in-Repl.ensures c.deref-in-Repl-2.ensures).named c.args.taken.now) w) c.read_pair-in-Repl.ensures.read

pub read_matrix-returns-in-Repl-clause-taken : goal.read_matrix-returns-in-Repl-clause-taken
read_matrix-returns-in-Repl-clause-taken g t c =
    let is = replication_is _ _ _ _ _ c.in-Repl.is c.deref-in-Repl.ensures c.deref-in-Repl-2.ensures in
    rw is.count c.read_pair-in-Repl.ensures.taken

pub read_matrix-returns-in-Equiv-clause-read : goal.read_matrix-returns-in-Equiv-clause-read
read_matrix-returns-in-Equiv-clause-read g t c =
    ok_map c.read_pair-in-Equiv.result (λ r w. part_as ((equivalence_is _ _ _ _ _ c.in-Equiv.is c.deref-in-Equiv.ensures c.deref-in-Equiv-2.ensures).named c.args.taken.now) w) c.read_pair-in-Equiv.ensures.read

pub read_matrix-returns-in-Equiv-clause-taken : goal.read_matrix-returns-in-Equiv-clause-taken
read_matrix-returns-in-Equiv-clause-taken g t c =
    let is = equivalence_is _ _ _ _ _ c.in-Equiv.is c.deref-in-Equiv.ensures c.deref-in-Equiv-2.ensures in
    rw is.count c.read_pair-in-Equiv.ensures.taken

-- ---- atoms

pub read_matrix-comparison_part-requires-clause-left_proper : goal.read_matrix-comparison_part-requires-clause-left_proper
read_matrix-comparison_part-requires-clause-left_proper g t c =
    (subst IsProperFormula (compare_is _ _ _ _ _ _ c.in-Compare.is c.deref.ensures c.deref-in-Compare.ensures).tree c.requires.proper).0

pub read_matrix-comparison_part-requires-clause-right_proper : goal.read_matrix-comparison_part-requires-clause-right_proper
read_matrix-comparison_part-requires-clause-right_proper g t c =
    (subst IsProperFormula (compare_is _ _ _ _ _ _ c.in-Compare.is c.deref.ensures c.deref-in-Compare.ensures).tree c.requires.proper).1

pub read_matrix-congruence_part-requires-clause-left_proper : goal.read_matrix-congruence_part-requires-clause-left_proper
read_matrix-congruence_part-requires-clause-left_proper g t c =
    (subst IsProperFormula (cong_is _ _ _ _ _ _ _ c.in-Cong.is c.deref-in-Cong.ensures c.deref-in-Cong-2.ensures c.deref-in-Cong-3.ensures).tree c.requires.proper).0

pub read_matrix-congruence_part-requires-clause-right_proper : goal.read_matrix-congruence_part-requires-clause-right_proper
read_matrix-congruence_part-requires-clause-right_proper g t c =
    (subst IsProperFormula (cong_is _ _ _ _ _ _ _ c.in-Cong.is c.deref-in-Cong.ensures c.deref-in-Cong-2.ensures c.deref-in-Cong-3.ensures).tree c.requires.proper).1

pub read_matrix-congruence_part-requires-clause-modulus_proper : goal.read_matrix-congruence_part-requires-clause-modulus_proper
read_matrix-congruence_part-requires-clause-modulus_proper g t c =
    (subst IsProperFormula (cong_is _ _ _ _ _ _ _ c.in-Cong.is c.deref-in-Cong.ensures c.deref-in-Cong-2.ensures c.deref-in-Cong-3.ensures).tree c.requires.proper).2

pub read_matrix-congruence_part-requires-in-Ncong-clause-left_proper : goal.read_matrix-congruence_part-requires-in-Ncong-clause-left_proper
read_matrix-congruence_part-requires-in-Ncong-clause-left_proper g t c =
    (subst IsProperFormula (ncong_is _ _ _ _ _ _ _ c.in-Ncong.is c.deref-in-Ncong.ensures c.deref-in-Ncong-2.ensures c.deref-in-Ncong-3.ensures).tree c.requires.proper).0

pub read_matrix-congruence_part-requires-in-Ncong-clause-right_proper : goal.read_matrix-congruence_part-requires-in-Ncong-clause-right_proper
read_matrix-congruence_part-requires-in-Ncong-clause-right_proper g t c =
    (subst IsProperFormula (ncong_is _ _ _ _ _ _ _ c.in-Ncong.is c.deref-in-Ncong.ensures c.deref-in-Ncong-2.ensures c.deref-in-Ncong-3.ensures).tree c.requires.proper).1

pub read_matrix-congruence_part-requires-in-Ncong-clause-modulus_proper : goal.read_matrix-congruence_part-requires-in-Ncong-clause-modulus_proper
read_matrix-congruence_part-requires-in-Ncong-clause-modulus_proper g t c =
    (subst IsProperFormula (ncong_is _ _ _ _ _ _ _ c.in-Ncong.is c.deref-in-Ncong.ensures c.deref-in-Ncong-2.ensures c.deref-in-Ncong-3.ensures).tree c.requires.proper).2

pub read_matrix-returns-in-Compare-clause-read : goal.read_matrix-returns-in-Compare-clause-read
read_matrix-returns-in-Compare-clause-read g t c =
    ok_map c.comparison_part.result (λ r w. part_as ((compare_is _ _ _ _ _ _ c.in-Compare.is c.deref.ensures c.deref-in-Compare.ensures).named c.args.taken.now) w) c.comparison_part.ensures.read

pub read_matrix-returns-in-Cong-clause-read : goal.read_matrix-returns-in-Cong-clause-read
read_matrix-returns-in-Cong-clause-read g t c =
    ok_map c.congruence_part.result (λ r w. part_as ((cong_is _ _ _ _ _ _ _ c.in-Cong.is c.deref-in-Cong.ensures c.deref-in-Cong-2.ensures c.deref-in-Cong-3.ensures).named c.args.taken.now) w) c.congruence_part.ensures.read

pub read_matrix-returns-in-Ncong-clause-read : goal.read_matrix-returns-in-Ncong-clause-read
read_matrix-returns-in-Ncong-clause-read g t c =
    ok_map c.congruence_part-in-Ncong.result (λ r w. part_as ((ncong_is _ _ _ _ _ _ _ c.in-Ncong.is c.deref-in-Ncong.ensures c.deref-in-Ncong-2.ensures c.deref-in-Ncong-3.ensures).named c.args.taken.now) w) c.congruence_part-in-Ncong.ensures.read

-- ---- read_pair

pub read_pair-returns-clause-read : goal.read_pair-returns-clause-read
read_pair-returns-clause-read g t c =
    ok_map c.finish.result
    (λ r w. pair_part (context_of c.args.scope.now.context) (answered_trees (g.M.Maker.tree c.args.maker.now) c.args.scope.now.inner.now c.args.scope.now.bound.now) c.args.scope.now.names.now _ _ _ _ _ _ c.in_ok-left.left c.in_ok-right.right r
    (part_stays _ _ _ _ c.in_ok-right.ensures.kept _ _ _ _ _ c.in_ok-left.ensures.read)
    (part_as (ap (λ n. named_tree n c.args.right.now) (sym c.in_ok-left.ensures.taken)) (part_under (answered_stays _ _ _ _ c.in_ok-left.ensures.kept c.args.scope.now.inner.now c.args.scope.now.bound.now c.requires.answers c.requires.ids) c.in_ok-right.ensures.read))
    c.args.pair (finished_as w c.or.ensures (c.above.ensures ∙ ap over c.max.ensures) c.over.ensures))
    c.finish.ensures.finished
