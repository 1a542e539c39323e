-- What a verdict is told as, and what it leaves.
use Rattle.std.specs.Prelude.{ℕ, List, codes}
use Rattle.engine_answers.specs.declared.verdict.Verdict.{Verdict}
use Rattle.engine_answers.specs.declared.verdict.Verdict.TheVariants as verdict
use Rattle.smtlib_front.specs.declared.kept.Kept.{Kept}
use Rattle.smtlib_front.specs.declared.kept.Kept.TheVariants as kept

-- the line of the verdict
abbrev pub word_of_verdict : Verdict → List ℕ
word_of_verdict verdict.False = codes "unsat"
word_of_verdict (verdict.True vs) = codes "sat"
word_of_verdict verdict.TrueAlone = codes "sat"
word_of_verdict verdict.Unknown = codes "unknown"

-- what it leaves for `get-value`
abbrev pub kept_by : Verdict → Kept
kept_by verdict.False = kept.Nothing
kept_by (verdict.True vs) = kept.Values vs
kept_by verdict.TrueAlone = kept.TooLarge
kept_by verdict.Unknown = kept.Nothing
