-- A reserved symbol of the code, with what it is.
use Rattle.std.specs.Prelude.{ℕ, List}
use Rattle.std.specs.Borrow.{Bor}
use Rattle.smt_language.specs.declared.word.Word.{Word}

-- a reserved symbol of the code with what it is
abbrev pub word_pair : Bor (List ℕ) × Word → List ℕ × Word
word_pair w = (w.0.now, w.1)
