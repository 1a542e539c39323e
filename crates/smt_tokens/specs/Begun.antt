-- A command that has begun and has not ended.
use Rattle.std.specs.Prelude.{ℕ, List, [], ◌∷◌, Option, Some, None}
use Rattle.smt_tokens.specs.declared.step.Begun.{Begun}
use Rattle.smt_tokens.specs.declared.step.Begun.TheVariants as begun
use Rattle.smt_language.specs.declared.token.SmtCut.{SmtCut}
use Rattle.smt_language.specs.declared.token.SmtLexeme.{SmtLexeme}
use Rattle.smt_language.specs.Commands.{Closes, Runs, Cuts}

-- after what has begun these tokens follow, and these are the commands, of which the first has begun
pub data GoesOn : ℕ → Begun → List SmtLexeme → List SmtCut → Type 0 where
  outside : {total : ℕ} {ts : List SmtLexeme} {cs : List SmtCut} → Cuts total ts cs → GoesOn total begun.Nothing ts cs
  in_run : {total end : ℕ} {cut : SmtCut} {ts rest : List SmtLexeme} {cs : List SmtCut} → Runs cut.end ts end rest → Cuts total rest cs
      → GoesOn total (begun.Loose cut) ts (record { start = cut.start; end = end } ∷ cs)
  in_group : {total start depth end : ℕ} {ts rest : List SmtLexeme} {cs : List SmtCut} → Closes total depth ts end rest → Cuts total rest cs
      → GoesOn total (begun.Group start depth) ts (record { start = start; end = end } ∷ cs)

-- the list of what there is
abbrev pub listed : Option SmtCut → List SmtCut
listed None = []
listed (Some cut) = cut ∷ []

-- how many parentheses are open inside the one that has begun
abbrev pub open_inside : Begun → ℕ
open_inside begun.Nothing = 0
open_inside (begun.Loose cut) = 0
open_inside (begun.Group start depth) = depth
