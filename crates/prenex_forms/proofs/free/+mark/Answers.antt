use Rattle.std.proofs.Common.{◌≤◌, ◌+◌, Bool, List, map, drop, sym, ap, ◌∙◌, subst, arith}
use Rattle.std.specs.Prelude.{slice_set}
use Rattle.logic_meaning.specs.Shape.{quantified}
use Rattle.logic_meaning.specs.Atom.{Mentions}
use Rattle.logic_meaning.specs.Every.{FreeInSome}
use Rattle.logic_meaning.specs.Sizes.{nodes, all_nodes}
use Rattle.logic_meaning.specs.Tree.{Tree, IsFree}
use Rattle.formula_tree.specs.Trees.{members}
use Rattle.nnf_trees.specs.declared.nnf.Nnf.{Nnf}
use Rattle.nnf_trees.specs.Nnfs.{nnf_of, nnfs_of}
use Rattle.nnf_trees.proofs.Counting.{drop_at}
use Rattle.nnf_trees.proofs.NnfEquations.{nnf-Quantified}
use Rattle.prenex_forms.specs.Marks.{Marks}
use Rattle.prenex_forms.proofs.Marking.{marks_both, marks_behind, quantified_marks, shown_again}
use Rattle.prenex_forms.proofs.free.+mark.Goals as goal

pub mark_free-returns-in-Quantified-clause-marks : goal.mark_free-returns-in-Quantified-clause-marks
mark_free-returns-in-Quantified-clause-marks t c =
    let h = c.args.hidden.now in
    let a = c.args.marks.now in
    let n = c.in-Quantified.name.number in
    let g = nnf_of c.deref.result.now in
    let e = ap nnf_of c.in-Quantified.is ∙ nnf-Quantified c.in-Quantified.field-0 c.in-Quantified.name c.in-Quantified.inner
    ∙ ap (λ (f : Nnf). quantified c.in-Quantified.field-0 n (nnf_of f)) (sym c.deref.ensures) in
    let inner = subst (λ (k : List Bool). Marks k a (IsFree g) c.mark_free.new.marks) c.hide-before.ensures.hidden c.mark_free.ensures.marks in
    subst (λ (f : Tree). Marks h a (IsFree f) c.mark_free.new.marks) (sym e)
    (quantified_marks c.in-Quantified.field-0 n g h a c.mark_free.new.marks (marks_behind h a c.mark_free.new.marks n (IsFree g) c.requires inner))

pub mark_free-returns-in-Quantified-clause-hidden : goal.mark_free-returns-in-Quantified-clause-hidden
mark_free-returns-in-Quantified-clause-hidden t c =
    let n = c.in-Quantified.name.number in
    let k = c.mark_free.new.hidden in
    c.put_back.ensures ∙ ap (slice_set k n) c.hide-before.ensures.before ∙ shown_again c.args.hidden.now k n (c.mark_free.ensures.hidden ∙ c.hide-before.ensures.hidden)

pub mark_free_in-loop-member-preserved : goal.mark_free_in-loop-member-preserved
mark_free_in-loop-member-preserved t c =
    let items = c.items-member-items.result.now in
    let m = c.member-item.result in
    let split = drop_at items c.loop-member.member-index m c.loop-member-test.true c.member-item.is in
    let rest = drop (c.loop-member.member-index + 1) items in
    let before = c.loop-member.invariant in
    let h = c.loop-member.hidden in
    let few : nodes (nnf_of m) + all_nodes (members (map nnf_of rest)) ≤ all_nodes (nnfs_of c.args.members.now)
    = subst (λ (xs : List Nnf). all_nodes (members (map nnf_of xs)) ≤ all_nodes (nnfs_of c.args.members.now)) split before.small in
    let made = c.mark_free.ensures.marks in
    record {
      hidden = c.mark_free.ensures.hidden ∙ before.hidden;
      same = made.same ∙ before.same;
      goes = λ b k.
          let later = subst (λ (j : List Bool). Marks j c.mark_free.new.marks (FreeInSome Mentions (members (map nnf_of rest))) b) c.mark_free.ensures.hidden k in
          let both = marks_both h c.loop-member.marks c.mark_free.new.marks b (IsFree (nnf_of m)) (FreeInSome Mentions (members (map nnf_of rest))) made later in
          let all = before.goes b (subst (λ (xs : List Nnf). Marks h c.loop-member.marks (FreeInSome Mentions (members (map nnf_of xs))) b) (sym split) both) in
          subst (λ (j : List Bool). Marks j c.args.marks.now (FreeInSome Mentions (nnfs_of c.args.members.now)) b) (sym c.mark_free.ensures.hidden) all;
      small = omega (arith, few);
    }
