use Rattle.std.proofs.Common.{◌≡◌, List, [], ◌∷◌, ◌++◌, take, arith, sym, ◌∙◌}
use Rattle.std.proofs.lemmas.List.{take_all}
use Rattle.std.specs.Ordering.{nat_cmp}
use Rattle.std.specs.BTreeSet.{contains}
use Rattle.logic_meaning.specs.Form.{Term}
use Rattle.linear_forms.specs.Linear.{term_of}
use Rattle.free_names.proofs.Nodes.{term_missing, term_there, next_term, no_term, form_names}
use Rattle.free_names.proofs.missing.form_missing.Goals as goal
use Rattle.free_names.proofs.missing.form_missing.Goals.{in-Some+then-not-contains+in_ok-push, in-Some+else-not-contains, in_default}

pub loop-place-preserved : goal.loop-place-preserved
loop-place-preserved c =
    let ts : List Term = c.args.form.now.terms in
    let front : List Term = take c.loop-place.place ts in
    let has = contains nat_cmp c.args.valued.now in
    elim c.match-term.branch [
      | in-Some+then-not-contains+in_ok-push w ↦
          let t : Term = term_of (w.in-Some.name, w.in-Some.field-0-1) in
          let more = next_term ts c.loop-place.place t w.in-Some.ensures.value in
          let items : c.match-term.missing.items ≡ c.loop-place.missing.items ++ t.name ∷ [] = cc (w.missing-is, w.in_ok-push.ensures.items) in
          rw (items, more) (term_missing has front c.loop-place.missing.items t c.loop-place.invariant (sym w.contains.ensures ∙ w.if-not-contains.true))
      | in-Some+else-not-contains w ↦
          let t : Term = term_of (w.in-Some.name, w.in-Some.field-0-1) in
          let more = next_term ts c.loop-place.place t w.in-Some.ensures.value in
          let items : c.match-term.missing.items ≡ c.loop-place.missing.items = cc (w.missing-is) in
          rw (items, more) (term_there has front c.loop-place.missing.items t c.loop-place.invariant (sym w.contains.ensures ∙ w.if-not-contains.false))
      | in_default w ↦ absurd (no_term c.term.result ts c.loop-place.place w.in_default.not-Some c.term.ensures.value (let e = c.places-place-end.ensures in let l = c.loop-place-test.true in omega arith))
    ]

pub returns : goal.returns
returns c =
    let has = contains nat_cmp c.args.valued.now in
    let whole : take c.loop-place.place c.args.form.now.terms ≡ c.args.form.now.terms = take_all c.loop-place.place c.args.form.now.terms (let e = c.places-place-end.ensures in omega arith) in
    form_names c.args.form.now has c.loop-place.missing.items c.constant_part-sorted.ensures.linear.sorted (rw whole at c.loop-place.invariant)
