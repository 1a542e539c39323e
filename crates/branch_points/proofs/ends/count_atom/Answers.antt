use Rattle.std.proofs.Common.{List, nat_eq, sym, subst, arith, rules, FitsSigned, ℤ}
use Rattle.std.specs.Int.{w128}
use Rattle.std.proofs.lemmas.Int.{to_z-of_z}
use Rattle.std.specs.HashMap.{get}
use Rattle.logic_meaning.specs.Form.{Term}
use Rattle.linear_forms.specs.Linear.{term_of}
use Rattle.normal_atoms.specs.Atoms.{atom_of}
use Rattle.branch_points.specs.Ends.{HaveTerm}
use Rattle.branch_points.proofs.CountedEnds.{term_more, term_room, terms_all, no_term}
use Rattle.branch_points.proofs.ends.count_atom.Goals as goal
use Rattle.branch_points.proofs.ends.count_atom.Goals.{in-Some+in_ok-count_term, in_default}

pub count_term-requires : goal.count_term-requires
count_term-requires c =
    let ts : List Term = c.form_of-form.result.now.terms in
    let t : Term = term_of (c.in-Some.name, c.in-Some.times) in
    term_room (atom_of c.args.atom.now) ts c.loop-place.place t (get nat_eq c.args.table.now) (get nat_eq c.loop-place.table)
    c.constant_part-sorted.ensures.linear.sorted.rising (sym c.in-Some.ensures.value) c.loop-place.invariant (c.requires t.name)

pub loop-place-preserved : goal.loop-place-preserved
loop-place-preserved c =
    let ts : List Term = c.form_of-form.result.now.terms in
    elim c.match-term.branch [
      | in-Some+in_ok-count_term w ↦
          let t : Term = term_of (w.in-Some.name, w.in-Some.times) in
          let sorted = c.constant_part-sorted.ensures.linear.sorted in
          let fits : FitsSigned w128 w.in-Some.times = search rules in
          let term = subst (λ (k : ℤ). HaveTerm (atom_of c.args.atom.now) t.name k (get nat_eq c.loop-place.table) (get nat_eq w.count_term.new.table)) (to_z-of_z w128 w.in-Some.times fits) w.in_ok-count_term.ensures in
          rw w.table-is
          (term_more (atom_of c.args.atom.now) ts c.loop-place.place t (get nat_eq c.args.table.now) (get nat_eq c.loop-place.table) (get nat_eq w.count_term.new.table)
          sorted.rising sorted.nonzero (sym w.in-Some.ensures.value) c.loop-place.invariant term)
      | in_default w ↦ absurd (no_term c.term.result ts c.loop-place.place w.in_default.not-Some c.term.ensures.value (let e = c.places-place-end.ensures in let l = c.loop-place-test.true in omega arith))
    ]

pub returns : goal.returns
returns c =
    terms_all (atom_of c.args.atom.now) c.form_of-form.result.now c.loop-place.place (get nat_eq c.args.table.now) (get nat_eq c.loop-place.table)
    c.form_of-form.ensures (let e = c.places-place-end.ensures in omega arith) c.loop-place.invariant
