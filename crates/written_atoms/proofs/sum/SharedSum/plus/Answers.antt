use Rattle.std.proofs.Common.{sym, ◌∙◌, ap}
use Rattle.std.specs.Prelude.{option_map}
use Rattle.std.proofs.lemmas.Bool.{MatchBool-at_false}
use Rattle.written_atoms.specs.Rational.{rational_of}
use Rattle.written_atoms.proofs.SharedSums.{rule_lowest, rule_shows, rule_misses}
use Rattle.written_atoms.proofs.sum.SharedSum.plus.Goals as goal

pub of-requires : goal.of-requires
of-requires c = record {
  linear = c.in_ok-total.ensures.linear c.in-Some.total c.in-Some.is;
  lowest = rule_lowest c.in_ok-into_form.field-0 c.args.part.now c.in-Some.total (sym c.in_ok-total.ensures.rule ∙ ap (option_map rational_of) c.in-Some.is);
}

pub returns-in-Some : goal.returns-in-Some
returns-in-Some c =
    let a = MatchBool-at_false _ _ c.if-branch.false c.in_ok-add.ensures in
    rule_shows c.args.self c.add.new.self c.in_ok-into_form.field-0 c.args.part.now a c.in_ok-into_form.ensures c.in_ok-of-in-Some.field-0 c.in-Some.total (sym (ap (option_map rational_of) c.in-Some.is) ∙ c.in_ok-total.ensures.rule) c.in_ok-of-in-Some.ensures

pub returns : goal.returns
returns c =
    let a = MatchBool-at_false _ _ c.if-branch.false c.in_ok-add.ensures in
    rule_misses c.args.self c.add.new.self c.in_ok-into_form.field-0 c.args.part.now a c.in_ok-into_form.ensures (sym (ap (option_map rational_of) c.in-None.is) ∙ c.in_ok-total.ensures.rule)
