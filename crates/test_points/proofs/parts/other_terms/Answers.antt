use Rattle.std.proofs.Common.{◌∙◌, refl, sym, subst, arith, ap, List, Vec, Global, if◌then◌else◌}
use Rattle.std.proofs.Math.IntN.{ℤ, neg_ℤ}
use Rattle.exact_numbers.specs.Limit.{InLimit}
use Rattle.exact_numbers.proofs.Casts.{read_back}
use Rattle.logic_meaning.specs.Form.{Term}
use Rattle.linear_forms.specs.Linear.{term_of, terms_of}
use Rattle.logic_meaning.specs.declared.form.VarId.{VarId}
use Rattle.test_points.proofs.Forms.{terms_skip, terms_keep, terms_done, times_within, some_term}
use Rattle.test_points.proofs.parts.other_terms.Goals as goal
use Rattle.test_points.proofs.parts.other_terms.Goals.{in-Some+then-name-x+in_ok-push, in-Some+else-name-x, in_default}

pub signed-requires : goal.signed-requires
signed-requires c =
    let w = times_within c.args.form.now.terms c.loop-place.place (term_of (c.in-Some.name, c.in-Some.times)) c.in-Some.ensures.linear.within (sym c.in-Some.ensures.value) in
    subst InLimit (sym (read_back c.in-Some.times w)) w

pub loop-place-preserved : goal.loop-place-preserved
loop-place-preserved c =
    let b = c.args.negative in
    let x = c.args.x.number in
    let ts : List Term = c.args.form.now.terms in
    let i = c.loop-place.place in
    let kept : List (VarId × ℤ) = c.loop-place.kept.items in
    elim c.match-term.branch [
      | in-Some+then-name-x+in_ok-push w ↦
          let t : Term = term_of (w.in-Some.name, w.in-Some.times) in
          let within = times_within ts i t w.in-Some.ensures.linear.within (sym w.in-Some.ensures.value) in
          let number = read_back w.signed.result w.signed.ensures.within ∙ w.signed.ensures.value ∙ ap (λ (z : ℤ). if b then neg_ℤ z else z) (read_back w.in-Some.times within) in
          ap terms_of (ap (λ (v : Vec (VarId × ℤ) Global). v.items) w.kept-is ∙ w.in_ok-push.ensures.items)
          ∙ terms_keep b x ts i t (sym w.in-Some.ensures.value) kept c.loop-place.invariant _ w.if-name-x.true refl number
      | in-Some+else-name-x w ↦
          let t : Term = term_of (w.in-Some.name, w.in-Some.times) in
          ap (λ (v : Vec (VarId × ℤ) Global). terms_of v.items) w.kept-is ∙ terms_skip b x ts i t (sym w.in-Some.ensures.value) kept c.loop-place.invariant w.if-name-x.false
      | in_default w ↦ absurd (some_term c.term.result ts i w.in_default.not-Some c.term.ensures.value (let e = c.places-place-end.ensures in let l = c.loop-place-test.true in omega arith))
    ]

pub returns : goal.returns
returns c = terms_done c.args.negative c.args.x.number c.args.form.now.terms c.loop-place.place c.loop-place.kept.items (let e = c.places-place-end.ensures in let f = c.loop-place-test.false in omega arith) c.loop-place.invariant
