-- What is proved of direct answers.
use Rattle.std.specs.Prelude.{ℕ}
use Rattle.logic_meaning.specs.Context.{Fields}
use Rattle.logic_meaning.specs.Every.{Every}
use Rattle.logic_meaning.specs.Answer.{Place}
use Rattle.logic_meaning.specs.Tree.{Tree, Trees}
use Rattle.logic_meaning.specs.NormalForm.{IsNormal}
use Rattle.elimination_theory.specs.Theorems.{IsAnswerTo}
use Rattle.case_theory.specs.Simplified.{HasConstantsWithin}
use Rattle.logic_meaning.specs.Direct.{IsDirect, direct_answer}

-- Of a formula over normal atoms that is direct, this is an answer.
abbrev pub DirectAnswerIsExact : Type 0
DirectAnswerIsExact = (limit : ℕ) (f : Tree) (x : ℕ) (fs : Trees) (s : Place) → Every (IsNormal Fields) f → IsDirect limit f x fs s → IsAnswerTo Fields f (direct_answer x fs s)

-- Its constants are within the limit where those of the formula are, so that it can be simplified.
abbrev pub DirectAnswerIsWithin : Type 0
DirectAnswerIsWithin = (limit : ℕ) (f : Tree) (x : ℕ) (fs : Trees) (s : Place) → Every (IsNormal Fields) f → HasConstantsWithin f → IsDirect limit f x fs s → HasConstantsWithin (direct_answer x fs s)
