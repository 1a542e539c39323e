use Rattle.std.proofs.Common.{◌≡◌, ◌≤◌, ◌+◌, ◌⊎◌, ◌↔◌, ℕ, List, length, subst, sym, Some, arith, take, add-one}
use Rattle.std.specs.Prelude.{slice_get, pos}
use Rattle.logic_meaning.specs.Form.{Term, coefficient}
use Rattle.logic_meaning.specs.Some.{Among}
use Rattle.shape_theory.proofs.AtomNames.{multiple_among}
use Rattle.shape_theory.proofs.NamedAtoms.{names_of, named_multiple}
use Rattle.prenex_forms.specs.Marks.{Marks}
use Rattle.prenex_forms.proofs.Marking.{marks_as, mark_put, mark_skip, names_more, take_whole}
use Rattle.prenex_forms.proofs.free.mark_names.Goals as goal
use Rattle.prenex_forms.proofs.free.mark_names.Goals.{then-is_shown, else-is_shown}

pub loop-place-preserved : goal.loop-place-preserved
loop-place-preserved c =
    let h = c.args.hidden.now in
    let a = c.args.marks.now in
    let ts = c.args.form.now.terms in
    let i = c.loop-place.place in
    let n = c.in-Some.name.number in
    let t : Term = record { times = c.in-Some.field-0-1; name = n } in
    let at : slice_get ts i ≡ Some t = sym c.in-Some.ensures.value in
    let P = λ (k : ℕ) (x : ℕ). Among (names_of (take k ts)) x in
    let more : (x : ℕ) → P (i + 1) x ↔ (P i x ⊎ (n ≡ x)) = subst (λ (k : ℕ). (x : ℕ) → P k x ↔ (P i x ⊎ (n ≡ x))) (sym (add-one i)) (names_more i ts t at) in
    elim c.if-is_shown.branch [
      | then-is_shown w ↦
          let shown = c.is_shown.ensures.0 w.if-is_shown.true in
          subst (Marks h a (P (i + 1))) (sym w.marks-is) (mark_put h a c.loop-place.marks n (P i) (P (i + 1)) more c.requires c.loop-place.invariant shown.0 shown.1)
      | else-is_shown w ↦
          subst (Marks h a (P (i + 1))) (sym w.marks-is) (mark_skip h a c.loop-place.marks n (P i) (P (i + 1)) more c.requires c.loop-place.invariant (λ k. let b = c.is_shown.ensures.1 k in absurd (cc (b, w.if-is_shown.false))))
    ]

pub returns : goal.returns
unfolding coefficient
returns c =
    let ts = c.args.form.now.terms in
    let i = c.loop-place.place in
    let all : length ts ≤ i = omega arith in
    let whole = subst (λ (us : List Term). Marks c.args.hidden.now c.args.marks.now (Among (names_of us)) c.loop-place.marks) (take_whole i ts all) c.loop-place.invariant in
    let sorted = c.constant_part-constant.ensures.linear.sorted in
    marks_as c.args.hidden.now c.args.marks.now c.loop-place.marks (Among (names_of ts)) (λ x. ¬ (coefficient x c.args.form.now ≡ pos 0))
    (λ x. (λ m. named_multiple x ts sorted.rising sorted.nonzero m, λ m. multiple_among x ts m)) whole
