use Rattle.std.proofs.Common.{◌≡◌, ℕ, ◌<◌, ◌-◌, ◌+◌, List, [], ◌∷◌, Some, None, drop, length, ap, sym, ◌∙◌, rules, arith}
use Rattle.std.specs.Prelude.{slice_get}
use Rattle.std.proofs.lemmas.Option.{slice_get-get_or, get_or_from_slice_get, slice_get_within}
use Rattle.logic_meaning.specs.Formula.{Ex}
use Rattle.logic_meaning.specs.declared.quantifier.Quantifier.TheVariants.{Exists}
use Rattle.written_syntax.specs.CodeTrees.{formula_tree}
use Rattle.written_syntax.proofs.EntryLists.{rest_at}
use Rattle.language_meaning.specs.QuantifiedNames.{quantified_names}
use Rattle.constraint_queries.proofs.PlainFormulas.{over_tree, over_plain}
use Rattle.constraint_queries.proofs.problem.with_quantifiers.Goals as goal

-- there is a name below their count
none_past : (own : List (List ℕ)) (i : ℕ) → i < length own → ¬ (None ≡ slice_get own i)
none_past own i h e = let k = slice_get-get_or own i [] h in absurd (cc)

pub loop-number-preserved-in-Some : goal.loop-number-preserved-in-Some
loop-number-preserved-in-Some c =
    let names : List (List ℕ) = c.args.names.now in
    let n = c.loop-number.number in
    let i = n - 1 in
    let x = c.in-Some.text.now in
    let is : slice_get names i ≡ Some x = search rules in
    let e : i + 1 ≡ n = omega arith in
    let left : drop i names ≡ x ∷ drop n names = rest_at names i x (slice_get_within names i x is) (sym (get_or_from_slice_get names i x x is)) ∙ ap (λ m. x ∷ drop m names) e in
    let before = c.loop-number.invariant in
    let made = c.in_ok-quantified.ensures in
    record {
      tree =
          over_tree (Ex c.of.result) c.in_ok-quantified.quantified c.loop-number.quantified made ∙ (λ j. Ex (c.of.ensures j) (before.tree j))
          ∙ sym (ap (λ xs. quantified_names Exists xs (formula_tree c.args.formula)) left);
      plain = over_plain (Ex c.of.result) c.in_ok-quantified.quantified c.loop-number.quantified made before.plain;
    }

pub loop-number-preserved : goal.loop-number-preserved
loop-number-preserved c =
    let names : List (List ℕ) = c.args.names.now in
    let i = c.loop-number.number - 1 in
    let within : i < length names = omega arith in
    absurd (none_past names i within (search rules))
