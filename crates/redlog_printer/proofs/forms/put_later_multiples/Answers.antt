use Rattle.std.proofs.Common.{rules, ◌≡◌, ◌<◌, ◌≤◌, ◌+◌, ◌++◌, Some, None, slice_get, length, drop, ap, ◌∙◌, subst, arith, length-append, List, ℕ}
use Rattle.std.proofs.lemmas.Option.{slice_get_within}
use Rattle.std.specs.List.{flat_map}
use Rattle.logic_meaning.specs.Form.{Term}
use Rattle.logic_meaning.specs.Text.{later_multiple}
use Rattle.logic_meaning.specs.Writing.{text_limit}
use Rattle.redlog_printer.proofs.Written.{drop_at, drop_none, part_long, part_written, all_written, later_long}
use Rattle.redlog_printer.proofs.forms.put_later_multiples.Goals as goal

pub returns-in_err-put_later_multiple-clause-long : goal.returns-in_err-put_later_multiple-clause-long
returns-in_err-put_later_multiple-clause-long c h =
    let term : Term = record { times = c.in-Some.times; name = c.in-Some.name.number } in
    let here : slice_get c.args.form.now.terms c.loop-name.place ≡ Some term = search rules in
    let long : text_limit < length c.loop-name.out + length (later_multiple c.args.names.now term) = search rules in
    part_long c.args.out.now (flat_map (later_multiple c.args.names.now) (drop 1 c.args.form.now.terms)) c.loop-name.out (later_multiple c.args.names.now term) (flat_map (later_multiple c.args.names.now) (drop (c.loop-name.place + 1) c.args.form.now.terms))
    (subst (λ (ts : List Term). c.loop-name.out ++ flat_map (later_multiple c.args.names.now) ts ≡ c.args.out.now ++ flat_map (later_multiple c.args.names.now) (drop 1 c.args.form.now.terms)) (drop_at c.args.form.now.terms c.loop-name.place term here) c.loop-name.invariant.left)
    text_limit long

step : (place now part new : ℕ) → 1 ≤ part → new ≡ now + part → place ≤ now + 1 → place + 1 ≤ new + 1
step place now part new h e k = omega arith

pub loop-name-smaller : goal.loop-name-smaller
loop-name-smaller c =
    let term : Term = record { times = c.in-Some.times; name = c.in-Some.name.number } in
    let here : slice_get c.args.form.now.terms c.loop-name.place ≡ Some term = search rules in
    let within = slice_get_within c.args.form.now.terms c.loop-name.place term here in
    omega arith

pub loop-name-preserved : goal.loop-name-preserved
loop-name-preserved c =
    let term : Term = record { times = c.in-Some.times; name = c.in-Some.name.number } in
    let here : slice_get c.args.form.now.terms c.loop-name.place ≡ Some term = search rules in
    let wrote : c.put_later_multiple.new.out ≡ c.loop-name.out ++ later_multiple c.args.names.now term = search rules in
    record {
      left = part_written c.args.out.now (flat_map (later_multiple c.args.names.now) (drop 1 c.args.form.now.terms)) c.loop-name.out (later_multiple c.args.names.now term) (flat_map (later_multiple c.args.names.now) (drop (c.loop-name.place + 1) c.args.form.now.terms))
          (subst (λ (ts : List Term). c.loop-name.out ++ flat_map (later_multiple c.args.names.now) ts ≡ c.args.out.now ++ flat_map (later_multiple c.args.names.now) (drop 1 c.args.form.now.terms)) (drop_at c.args.form.now.terms c.loop-name.place term here) c.loop-name.invariant.left)
          c.put_later_multiple.new.out wrote;
      few = (
          let more : 1 ≤ length (later_multiple c.args.names.now term) = later_long c.args.names.now term in
          let grown : length c.put_later_multiple.new.out ≡ length c.loop-name.out + length (later_multiple c.args.names.now term) = ap length wrote ∙ length-append c.loop-name.out (later_multiple c.args.names.now term) in
          step c.loop-name.place (length c.loop-name.out) (length (later_multiple c.args.names.now term)) (length c.put_later_multiple.new.out) more grown c.loop-name.invariant.few
          );
    }

pub returns-clause-wrote : goal.returns-clause-wrote
returns-clause-wrote c =
    let none : slice_get c.args.form.now.terms c.loop-name.place ≡ None = search rules in
    all_written c.args.out.now (flat_map (later_multiple c.args.names.now) (drop 1 c.args.form.now.terms)) c.loop-name.out (flat_map (later_multiple c.args.names.now) (drop c.loop-name.place c.args.form.now.terms)) c.loop-name.invariant.left
    (ap (flat_map (later_multiple c.args.names.now)) (drop_none c.args.form.now.terms c.loop-name.place none))
