use Rattle.std.proofs.Common.{◌≡◌, ◌+◌, List, Some, None, arith, ap, sym, subst, ◌∙◌, option_map, pos, [], drop}
use Rattle.std.proofs.lemmas.Int.{to_z-of_z}
use Rattle.std.proofs.lemmas.List.{drop_all}
use Rattle.exact_numbers.specs.Limit.{InLimit}
use Rattle.exact_numbers.specs.Frac.{whole_frac, ◌>>=◌}
use Rattle.exact_numbers.specs.declared.fraction.Fraction.{Fraction}
use Rattle.exact_numbers.specs.Fraction.{frac_of}
use Rattle.exact_numbers.proofs.Casts.{fits, read_back}
use Rattle.logic_meaning.specs.Form.{Term, others}
use Rattle.logic_meaning.specs.Bounds.{terms_at}
use Rattle.certificates.specs.Search.{plus_term}
use Rattle.certificates.proofs.Ascents.{without_terms, places_more, limit_at, term_there}
use Rattle.certificates.proofs.found.Found.sum_without.Goals as goal
use Rattle.certificates.proofs.found.Found.sum_without.Goals.{in-Some+in_ok-sum, in_default}

pub plus_term-requires : goal.plus_term-requires
plus_term-requires c =
    let w = limit_at c.args.form.now.terms c.loop-place.place (record { times = c.in-Some.times; name = c.in-Some.other.number }) c.in-Some.ensures.linear.within c.in-Some.ensures.value in
    subst InLimit (sym (read_back c.in-Some.times w)) w

pub returns-in_err-sum : goal.returns-in_err-sum
returns-in_err-sum c =
    let x = c.args.name.number in
    let vs = c.args.self.now in
    let ts = c.args.form.now.terms in
    let w = limit_at ts c.loop-place.place (record { times = c.in-Some.times; name = c.in-Some.other.number }) c.in-Some.ensures.linear.within c.in-Some.ensures.value in
    let f = fits c.in-Some.times w in
    let none : None ≡ plus_term x vs (frac_of c.loop-place.sum) (record { times = c.in-Some.times; name = c.in-Some.other.number }) = simp to_z-of_z at c.in_err-sum.ensures in
    ap (option_map frac_of) c.from_residual.ensures
    ∙ ap (λ o. o >>= λ n. terms_at vs n (others x (drop (c.loop-place.place + 1) ts))) none
    ∙ sym (places_more x vs ts c.loop-place.place _ c.in-Some.ensures.value (frac_of c.loop-place.sum)) ∙ c.loop-place.invariant ∙ ap (terms_at vs (whole_frac (pos 0))) (without_terms x c.args.form.now)

pub loop-place-preserved : goal.loop-place-preserved
loop-place-preserved c =
    let x = c.args.name.number in
    let vs = c.args.self.now in
    let ts = c.args.form.now.terms in
    elim c.match-term.branch [
      | in-Some+in_ok-sum w ↦
          let l = limit_at ts c.loop-place.place (record { times = w.in-Some.times; name = w.in-Some.other.number }) w.in-Some.ensures.linear.within w.in-Some.ensures.value in
          let f = fits w.in-Some.times l in
          let some : Some (frac_of w.in_ok-sum.sum) ≡ plus_term x vs (frac_of c.loop-place.sum) (record { times = w.in-Some.times; name = w.in-Some.other.number }) = simp to_z-of_z at w.in_ok-sum.ensures in
          ap (λ (a : Fraction). terms_at vs (frac_of a) (others x (drop (c.loop-place.place + 1) ts))) w.sum-is
          ∙ ap (λ o. o >>= λ n. terms_at vs n (others x (drop (c.loop-place.place + 1) ts))) some
          ∙ sym (places_more x vs ts c.loop-place.place _ w.in-Some.ensures.value (frac_of c.loop-place.sum)) ∙ c.loop-place.invariant
      | in_default w ↦ absurd (term_there c.term.result ts c.loop-place.place w.in_default.not-Some c.term.ensures.value (let e = c.places-place-end.ensures in let l = c.loop-place-test.true in omega arith))
    ]

pub returns : goal.returns
unfolding terms_at
returns c =
    let x = c.args.name.number in
    let vs = c.args.self.now in
    let ts = c.args.form.now.terms in
    let e : drop c.loop-place.place ts ≡ [] = drop_all c.loop-place.place ts (let n = c.places-place-end.ensures in let l = c.loop-place-test.false in omega arith) in
    ap (λ (us : List Term). terms_at vs (frac_of c.loop-place.sum) (others x us)) (sym e) ∙ c.loop-place.invariant ∙ ap (terms_at vs (whole_frac (pos 0))) (without_terms x c.args.form.now)
