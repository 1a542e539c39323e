use Rattle.std.proofs.Common.{rules, refl, ◌≡◌, ◌+◌, ◌≤◌, ◌∷◌, [], ◌++◌, List, get_or, map, take, ap, sym, subst, ◌∙◌, arith}
use Rattle.logic_meaning.specs.Sizes.{nodes, all_nodes}
use Rattle.logic_meaning.specs.Formula.{No, And, Or}
use Rattle.logic_meaning.specs.Tree.{Tree}
use Rattle.normal_atoms.specs.Atoms.{context_of}
use Rattle.formula_tree.specs.Makers.{IsMade}
use Rattle.formula_tree.specs.Trees.{members}
use Rattle.formula_store.specs.declared.id.FormulaId.{FormulaId}
use Rattle.formula_store.specs.Nodes.{tree, IsId}
use Rattle.formula_store.proofs.Makes.{keeps_then}
use Rattle.formula_store.proofs.Marked.{all_at}
use Rattle.std.specs.List.{AllByRecursion}
use Rattle.theory_simplifier.proofs.Keeping.{if_ok_map}
use Rattle.theory_simplifier.proofs.FreeMembers.{nodes_at}
use Rattle.atom_pruning.specs.declared.rows.AtomRows.{AtomRows}
use Rattle.atom_pruning.specs.Rows.{AreRows}
use Rattle.atom_pruning.specs.Kept.{IsKept}
use Rattle.branch_pruning.specs.Cuts.{IsCutTo, IsInsideCutTo, AreAll, AreIn, said, left_by}
use Rattle.branch_pruning.proofs.CutTrees.{cut_nodes}
use Rattle.branch_pruning.proofs.Conjunctions.{decided_cut, inside_itself, impossible_cut, disjunction_cut, conjunction_cut, conjunction_left, left_few}
use Rattle.branch_pruning.proofs.Walking.{rows_length, cut_more}
use Rattle.branch_pruning.proofs.Staying.{on_ok_map, stays_then, stays_atoms, stays_cut, made_in}
use Rattle.branch_pruning.proofs.cutting.Cutter.+cut.Goals as goal

-- ---- a formula

pub inside-returns-then-branch-clause-cut : goal.inside-returns-then-branch-clause-cut
inside-returns-then-branch-clause-cut t c = record { is = c.requires.id; to = inside_itself (context_of c.args.self.now.context) c.args.self.now.assumed.items (tree c.args.store.now c.args.id) }

pub inside-returns-in_default-clause-cut : goal.inside-returns-in_default-clause-cut
inside-returns-in_default-clause-cut t c = record { is = c.requires.id; to = inside_itself (context_of c.args.self.now.context) c.args.self.now.assumed.items (tree c.args.store.now c.args.id) }

pub cut-inside-requires : goal.cut-inside-requires
cut-inside-requires t c =
    let d = c.in_ok-decided.ensures.decided in
    let few = cut_nodes (tree c.args.store.now c.args.id) (tree c.decided.new.store c.in_ok-decided.decided) d.to.to.cut in
    (omega arith, (d.is, stays_atoms c.args.self.now c.decided.new.self c.in_ok-decided.ensures.stays c.requires.assumed))

pub cut-returns-clause-cut : goal.cut-returns-clause-cut
cut-returns-clause-cut t c =
    let o = context_of c.args.self.now.context in
    let rows = c.args.self.now.assumed.items in
    let now = c.decided.new.store in
    let d = c.in_ok-decided.ensures.decided in
    if_ok_map c.inside.result _ _
    (λ r h. let k = stays_cut IsInsideCutTo c.args.self.now c.decided.new.self c.in_ok-decided.ensures.stays (tree now c.in_ok-decided.decided) (tree now c.in_ok-decided.decided) c.inside.new.store r refl h in
    record { is = k.is; to = decided_cut o rows (tree c.args.store.now c.args.id) (tree now c.in_ok-decided.decided) (tree c.inside.new.store r) d.to k.to })
    c.inside.ensures.cut

pub cut-returns-clause-stays : goal.cut-returns-clause-stays
cut-returns-clause-stays t c = on_ok_map c.inside.result (stays_then c.args.self.now c.decided.new.self c.inside.new.self c.in_ok-decided.ensures.stays) c.inside.ensures.stays

pub cut-returns-clause-kept : goal.cut-returns-clause-kept
cut-returns-clause-kept t c = keeps_then c.args.store.now c.decided.new.store c.inside.new.store c.decided.ensures.kept c.inside.ensures.kept

-- ---- a conjunction

pub conjunction-returns-in_ok-make-in-Impossible-clause-cut : goal.conjunction-returns-in_ok-make-in-Impossible-clause-cut
conjunction-returns-in_ok-make-in-Impossible-clause-cut t c =
    let o = context_of c.args.self.now.context in
    let rows = c.args.self.now.assumed.items in
    let fs = map (tree c.args.store.now) c.args.ids.now in
    let us = map said fs in
    let own : AreRows o us c.deref.result.now = subst (AreRows o us) (sym c.deref.ensures.value) c.in_ok-rows.ensures in
    made_in (IsInsideCutTo o rows) (And (members fs)) No c.make.new.self c.in_ok-make-in-Impossible.field-0 c.in_ok-make-in-Impossible.ensures.made
    (impossible_cut o rows fs (λ ks are. subst (IsKept o ks us) c.in-Impossible.is (c.in_ok-needed.ensures.kept o ks us are own)))

pub marked-assume-requires : goal.marked-assume-requires
marked-assume-requires t c =
    let fs = map (tree c.args.store.now) c.args.ids.now in
    let one_each = rows_length (context_of c.args.self.now.context) (map said fs) c.args.rows.items c.requires.rows in
    let enough = (c.requires.enough c.requires.assumed.atoms c.requires.assumed.are).one_each in
    omega arith

pub marked-each_inside-requires : goal.marked-each_inside-requires
marked-each_inside-requires t c =
    let o = context_of c.args.self.now.context in
    let fs = map (tree c.args.store.now) c.args.ids.now in
    let now = c.without_implied.new.store in
    let same : map (tree now) c.deref.result.now ≡ left_by c.args.marks.now fs = ap (map (tree now)) c.deref.ensures.value ∙ c.in_ok-left.ensures.made.same in
    let sizes : all_nodes (members (map (tree now) c.deref.result.now)) ≡ all_nodes (members (left_by c.args.marks.now fs)) = ap (λ gs. all_nodes (members gs)) same in
    let few = left_few c.args.marks.now fs in
    let told = c.in_ok-assume.ensures.told o c.requires.assumed.atoms (map said fs) c.requires.assumed.are c.requires.rows in (
      omega arith,
      (
        subst (AllByRecursion (IsId now)) (sym c.deref.ensures.value) c.in_ok-left.ensures.made.are,
        record { atoms = told.atoms; are = subst (λ k. AreRows (context_of k) told.atoms c.assume.new.self.assumed.items) (sym c.in_ok-assume.ensures.context) told.are },
      ),
    )

pub marked-returns-in_err-members-clause-kept : goal.marked-returns-in_err-members-clause-kept
marked-returns-in_err-members-clause-kept t c = keeps_then c.args.store.now c.without_implied.new.store c.each_inside.new.store c.without_implied.ensures.kept c.each_inside.ensures.kept

pub marked-returns-in_err-make-clause-kept : goal.marked-returns-in_err-make-clause-kept
marked-returns-in_err-make-clause-kept t c = keeps_then c.args.store.now c.without_implied.new.store c.make.new.self c.without_implied.ensures.kept c.make.ensures.kept

pub marked-returns-then-eq-clause-cut : goal.marked-returns-then-eq-clause-cut
marked-returns-then-eq-clause-cut t c =
    let o = context_of c.args.self.now.context in
    let rows = c.args.self.now.assumed.items in
    let fs : List Tree = map (tree c.args.store.now) c.args.ids.now in
    let now = c.without_implied.new.store in
    let bs = c.args.marks.now in
    let left : List FormulaId = c.in_ok-left.left.items in
    let made : IsMade (IsId c.make.new.self) (tree c.make.new.self) c.in_ok-make.field-0 (And (members (map (tree now) left))) =
    subst (λ rs. IsMade (IsId c.make.new.self) (tree c.make.new.self) c.in_ok-make.field-0 (And (members (map (tree now) rs)))) c.of.ensures c.in_ok-make.ensures.made in
    let same : map (tree now) left ≡ left_by bs fs = c.in_ok-left.ensures.made.same in
    made_in (IsInsideCutTo o rows) (And (members fs)) (And (members (left_by bs fs))) c.make.new.self c.in_ok-make.field-0
    (subst (λ gs. IsMade (IsId c.make.new.self) (tree c.make.new.self) c.in_ok-make.field-0 (And (members gs))) same made) (conjunction_left o rows bs fs c.requires.enough)

pub marked-returns-then-eq-clause-kept : goal.marked-returns-then-eq-clause-kept
marked-returns-then-eq-clause-kept t c = keeps_then c.args.store.now c.without_implied.new.store c.make.new.self c.without_implied.ensures.kept c.make.ensures.kept

pub marked-returns-in_err-make-2-clause-kept : goal.marked-returns-in_err-make-2-clause-kept
marked-returns-in_err-make-2-clause-kept t c =
    keeps_then c.args.store.now c.each_inside.new.store c.make-2.new.self (keeps_then c.args.store.now c.without_implied.new.store c.each_inside.new.store c.without_implied.ensures.kept c.each_inside.ensures.kept) c.make-2.ensures.kept

pub marked-returns-clause-cut : goal.marked-returns-clause-cut
marked-returns-clause-cut t c =
    let o = context_of c.args.self.now.context in
    let rows = c.args.self.now.assumed.items in
    let inner : List AtomRows = c.assume.new.self.assumed.items in
    let fs : List Tree = map (tree c.args.store.now) c.args.ids.now in
    let now = c.without_implied.new.store in
    let then = c.each_inside.new.store in
    let bs = c.args.marks.now in
    let ms : List FormulaId = c.in_ok-members.members.items in
    let same : map (tree now) c.deref.result.now ≡ left_by bs fs = ap (map (tree now)) c.deref.ensures.value ∙ c.in_ok-left.ensures.made.same in
    let each : AreAll (IsInsideCutTo (context_of c.assume.new.self.context) inner) (map (tree now) c.deref.result.now) (map (tree then) ms) = c.in_ok-members.ensures.cut.to in
    let cut : AreAll (IsInsideCutTo o inner) (left_by bs fs) (map (tree then) ms) =
    subst (λ gs. AreAll (IsInsideCutTo o inner) gs (map (tree then) ms)) same (subst (λ k. AreAll (IsInsideCutTo (context_of k) inner) (map (tree now) c.deref.result.now) (map (tree then) ms)) c.in_ok-assume.ensures.context each) in
    let made : IsMade (IsId c.make-2.new.self) (tree c.make-2.new.self) c.in_ok-make-2.field-0 (And (members (map (tree then) ms))) =
    subst (λ rs. IsMade (IsId c.make-2.new.self) (tree c.make-2.new.self) c.in_ok-make-2.field-0 (And (members (map (tree then) rs)))) c.of-2.ensures c.in_ok-make-2.ensures.made in
    made_in (IsInsideCutTo o rows) (And (members fs)) (And (members (map (tree then) ms))) c.make-2.new.self c.in_ok-make-2.field-0 made
    (conjunction_cut o rows inner bs fs (map (tree then) ms) c.requires.enough (λ ks are. c.in_ok-assume.ensures.told o ks (map said fs) are c.requires.rows) cut)

pub marked-returns-clause-kept : goal.marked-returns-clause-kept
marked-returns-clause-kept t c =
    keeps_then c.args.store.now c.each_inside.new.store c.make-2.new.self (keeps_then c.args.store.now c.without_implied.new.store c.each_inside.new.store c.without_implied.ensures.kept c.each_inside.ensures.kept) c.make-2.ensures.kept

-- ---- a disjunction

pub disjunction-returns-clause-cut : goal.disjunction-returns-clause-cut
disjunction-returns-clause-cut t c =
    let o = context_of c.args.self.now.context in
    let rows = c.args.self.now.assumed.items in
    let fs : List Tree = map (tree c.args.store.now) c.args.ids.now in
    let then = c.each_cut.new.store in
    let ms : List FormulaId = c.in_ok-members.members.items in
    let made : IsMade (IsId c.make.new.self) (tree c.make.new.self) c.in_ok-make.field-0 (Or (members (map (tree then) ms))) =
    subst (λ rs. IsMade (IsId c.make.new.self) (tree c.make.new.self) c.in_ok-make.field-0 (Or (members (map (tree then) rs)))) c.of.ensures c.in_ok-make.ensures.made in
    made_in (IsInsideCutTo o rows) (Or (members fs)) (Or (members (map (tree then) ms))) c.make.new.self c.in_ok-make.field-0 made (disjunction_cut o rows fs (map (tree then) ms) c.in_ok-members.ensures.cut.to)

pub disjunction-returns-clause-kept : goal.disjunction-returns-clause-kept
disjunction-returns-clause-kept t c = keeps_then c.args.store.now c.each_cut.new.store c.make.new.self c.each_cut.ensures.kept c.make.ensures.kept

-- ---- each member of a conjunction

pub each_inside-inside-requires : goal.each_inside-inside-requires
each_inside-inside-requires t c =
    let old = c.args.store.now in
    let ids : List FormulaId = c.args.ids.now in
    let i = c.loop-id.id-index in
    let id : FormulaId = get_or ids i (record { number = 0 }) in
    let there : IsId old id = all_at (IsId old) ids i (record { number = 0 }) c.loop-id-test.true c.requires.ids in
    let same : nodes (tree c.loop-id.store id) ≡ nodes (tree old id) = ap nodes (c.loop-id.invariant.kept.same id there) in
    let few : nodes (tree old id) ≤ all_nodes (members (map (tree old) ids)) = nodes_at (tree old) ids i (record { number = 0 }) c.loop-id-test.true in
    (omega arith, (c.loop-id.invariant.kept.is id there, stays_atoms c.args.self.now c.loop-id.self c.loop-id.invariant.stays c.requires.assumed))

pub each_inside-returns-in_err-member-clause-kept : goal.each_inside-returns-in_err-member-clause-kept
each_inside-returns-in_err-member-clause-kept t c = keeps_then c.args.store.now c.loop-id.store c.inside.new.store c.loop-id.invariant.kept c.inside.ensures.kept

pub each_inside-returns-in_err-push-clause-kept : goal.each_inside-returns-in_err-push-clause-kept
each_inside-returns-in_err-push-clause-kept t c = keeps_then c.args.store.now c.loop-id.store c.inside.new.store c.loop-id.invariant.kept c.inside.ensures.kept

pub each_inside-loop-id-preserved : goal.each_inside-loop-id-preserved
each_inside-loop-id-preserved t c =
    let o = context_of c.args.self.now.context in
    let rows = c.args.self.now.assumed.items in
    let old = c.args.store.now in
    let now = c.loop-id.store in
    let new = c.inside.new.store in
    let ids : List FormulaId = c.args.ids.now in
    let i = c.loop-id.id-index in
    let id : FormulaId = get_or ids i (record { number = 0 }) in
    let v = c.loop-id.invariant in
    let member : FormulaId = c.in_ok-member.member in
    let there : IsId old id = all_at (IsId old) ids i (record { number = 0 }) c.loop-id-test.true c.requires.ids in
    let pushed : c.push.new.self.items ≡ c.loop-id.cut.items ++ member ∷ [] = search rules in
    let one = stays_cut IsInsideCutTo c.args.self.now c.loop-id.self v.stays (tree now id) (tree old id) new member (v.kept.same id there) c.in_ok-member.ensures.cut in
    record {
      kept = keeps_then old now new v.kept c.inside.ensures.kept;
      stays = stays_then c.args.self.now c.loop-id.self c.inside.new.self v.stays c.in_ok-member.ensures.stays;
      cut = subst (AreIn (IsInsideCutTo o rows) (map (tree old) (take (i + 1) ids)) new) (sym pushed)
          (cut_more now new c.inside.ensures.kept (IsInsideCutTo o rows) (tree old) ids c.loop-id.cut.items i (record { number = 0 }) member c.loop-id-test.true v.cut one);
    }

-- ---- each member

pub each_cut-cut-requires : goal.each_cut-cut-requires
each_cut-cut-requires t c =
    let old = c.args.store.now in
    let ids : List FormulaId = c.args.ids.now in
    let i = c.loop-id.id-index in
    let id : FormulaId = get_or ids i (record { number = 0 }) in
    let there : IsId old id = all_at (IsId old) ids i (record { number = 0 }) c.loop-id-test.true c.requires.ids in
    let same : nodes (tree c.loop-id.store id) ≡ nodes (tree old id) = ap nodes (c.loop-id.invariant.kept.same id there) in
    let few : nodes (tree old id) ≤ all_nodes (members (map (tree old) ids)) = nodes_at (tree old) ids i (record { number = 0 }) c.loop-id-test.true in
    (omega arith, (c.loop-id.invariant.kept.is id there, stays_atoms c.args.self.now c.loop-id.self c.loop-id.invariant.stays c.requires.assumed))

pub each_cut-returns-in_err-member-clause-kept : goal.each_cut-returns-in_err-member-clause-kept
each_cut-returns-in_err-member-clause-kept t c = keeps_then c.args.store.now c.loop-id.store c.cut.new.store c.loop-id.invariant.kept c.cut.ensures.kept

pub each_cut-returns-in_err-push-clause-kept : goal.each_cut-returns-in_err-push-clause-kept
each_cut-returns-in_err-push-clause-kept t c = keeps_then c.args.store.now c.loop-id.store c.cut.new.store c.loop-id.invariant.kept c.cut.ensures.kept

pub each_cut-loop-id-preserved : goal.each_cut-loop-id-preserved
each_cut-loop-id-preserved t c =
    let o = context_of c.args.self.now.context in
    let rows = c.args.self.now.assumed.items in
    let old = c.args.store.now in
    let now = c.loop-id.store in
    let new = c.cut.new.store in
    let ids : List FormulaId = c.args.ids.now in
    let i = c.loop-id.id-index in
    let id : FormulaId = get_or ids i (record { number = 0 }) in
    let v = c.loop-id.invariant in
    let member : FormulaId = c.in_ok-member.member in
    let there : IsId old id = all_at (IsId old) ids i (record { number = 0 }) c.loop-id-test.true c.requires.ids in
    let pushed : c.push.new.self.items ≡ c.loop-id.cut.items ++ member ∷ [] = search rules in
    let one = stays_cut IsCutTo c.args.self.now c.loop-id.self v.stays (tree now id) (tree old id) new member (v.kept.same id there) c.in_ok-member.ensures.cut in
    record {
      kept = keeps_then old now new v.kept c.cut.ensures.kept;
      stays = stays_then c.args.self.now c.loop-id.self c.cut.new.self v.stays c.in_ok-member.ensures.stays;
      cut = subst (AreIn (IsCutTo o rows) (map (tree old) (take (i + 1) ids)) new) (sym pushed)
          (cut_more now new c.cut.ensures.kept (IsCutTo o rows) (tree old) ids c.loop-id.cut.items i (record { number = 0 }) member c.loop-id-test.true v.cut one);
    }
