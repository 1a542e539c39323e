-- The order of the words, worked by hand.
use Rattle.std.proofs.Common.{◌≡◌, [], ◌∷◌, ◌++◌, refl}
use Rattle.program_meaning.specs.declared.line.StatementError.TheVariants as error
use Rattle.program_meaning.specs.Words.{order, before}

-- nothing comes before the first word
before_long : before error.Long ≡ []
before_long = refl

-- causes in reading come before the point
before_point : before error.Point
    ≡ error.Long ∷ error.Lexical ∷ error.Nesting ∷ error.Syntax ∷ error.Unbound ∷ error.FormulaAsTerm ∷ error.Nonlinear ∷ error.Division ∷ error.CongruenceContext ∷ error.Context ∷ error.Modulus ∷ error.Depth ∷ []
before_point = refl

-- but for an overflow, which comes before what is counted
before_overflow : before error.Nodes ≡ before error.Quantified ++ error.Quantified ∷ error.Overflow ∷ []
before_overflow = refl

-- no word is left out
before_memory : before error.Memory ≡ order
before_memory = refl
