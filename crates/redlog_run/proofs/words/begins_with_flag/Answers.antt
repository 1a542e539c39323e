use Rattle.std.proofs.Common.{◌≡◌, ◌∙◌, ℕ, true, List, ◌∷◌, drop, sym, ap, nat_eq, eqb-true, eq-eqb}
use Rattle.std.specs.Prelude.{string_bytes}
use Rattle.std.specs.Cmp.Lexicographic.{pointwise, pointwise_decides}
use Rattle.std.specs.declared.alloc.Global.{Global}
use Rattle.std.specs.declared.string.String.{String}
use Rattle.program_meaning.specs.CommandWords.{smt_flag, BeginsFlag}
use Rattle.redlog_run.proofs.words.begins_with_flag.Goals as goal

same_is : (xs ys : List ℕ) → pointwise nat_eq xs ys ≡ true → xs ≡ ys
same_is xs ys = (pointwise_decides (λ m n. (eqb-true m n, eq-eqb m n)) xs ys).0

begins : (words others : List (String Global)) (word : String Global) → words ≡ word ∷ others → string_bytes word ≡ smt_flag → BeginsFlag words (drop 1 words)
begins words others word e w = record { word = word; words_are = e ∙ ap (λ (ws : List (String Global)). word ∷ ws) (ap (drop 1) (sym e)); word_is = w }

pub returns-in-Some-clause-flag : goal.returns-in-Some-clause-flag
returns-in-Some-clause-flag c same =
    begins c.args.words.now c.in-Some.field-0-1.now c.in-Some.word.now c.in-Some.ensures.cases.0
    (sym c.as_str.ensures.value ∙ same_is c.as_str.result.now smt_flag (sym c.eq.ensures ∙ same))
