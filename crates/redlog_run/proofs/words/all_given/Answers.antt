use Rattle.std.proofs.Common.{◌≡◌, ◌<◌, ◌≤◌, ◌+◌, length, drop, length-drop, arith, subst, sym}
use Rattle.std.proofs.Math.ListN.{drop_of_length-le}
use Rattle.std.proofs.lemmas.List.{drop-drop}
use Rattle.std.specs.Prelude.{◌↔◌, [], List}
use Rattle.std.specs.declared.alloc.Global.{Global}
use Rattle.std.specs.declared.string.String.{String}
use Rattle.program_meaning.specs.declared.options.Options.{Options}
use Rattle.program_meaning.specs.CommandWords.{SpellsAfter, over, no_options}
use Rattle.redlog_run.proofs.Spelling.{nothing_spelled, to_end}
use Rattle.redlog_run.proofs.words.all_given.Goals as goal

pub returns-in_err-next : goal.returns-in_err-next
returns-in_err-next c =
    let words = c.args.words.now in
    let none = subst (λ (ws : List (String Global)). (all : Options) → ¬ SpellsAfter c.words.options ws all) (to_end c.words.from words) c.in_err-next.ensures in
    nothing_spelled (SpellsAfter no_options words) _ c.from_residual.result c.from_residual.ensures (λ all s. none all (c.words.invariant.complete all s))

pub words-preserved : goal.words-preserved
words-preserved c =
    let words = c.args.words.now in
    let from = c.words.from in
    let next = c.in_ok-next.next in
    let step = subst (λ (ws : List (String Global)). (0 < next.words) × (next.words ≤ length ws) × ((all : Options) → SpellsAfter c.words.options ws all ↔ SpellsAfter next.options (drop next.words ws) all)) (to_end from words) c.in_ok-next.ensures in
    let left : drop next.words (drop from words) ≡ drop (from + next.words) words = drop-drop next.words from words in
    let short : next.words ≤ length (drop from words) = step.1 in
    let long = length-drop from words in
    record {
      within = omega (arith, short, long, c.words-test.true);
      sound = λ all s. c.words.invariant.sound all ((step.2 all).1 (subst (λ (ws : List (String Global)). SpellsAfter next.options ws all) (sym left) s));
      complete = λ all s. subst (λ (ws : List (String Global)). SpellsAfter next.options ws all) left ((step.2 all).0 (c.words.invariant.complete all s));
    }

pub returns : goal.returns
returns c =
    let words = c.args.words.now in
    let empty : drop c.words.from words ≡ [] = drop_of_length-le words c.words-test.false in
    c.words.invariant.sound c.words.options (subst (λ (ws : List (String Global)). SpellsAfter c.words.options ws c.words.options) (sym empty) over)
