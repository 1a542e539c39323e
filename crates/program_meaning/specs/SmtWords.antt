-- The words of the refusals, and the order in which their causes are looked for.
use Rattle.std.specs.Prelude.{ℕ, List, [], ◌∷◌, codes}
use Rattle.smt_language.specs.declared.read_error.ReadError.{ReadError}
use Rattle.smt_language.specs.declared.read_error.ReadError.TheVariants as reading
use Rattle.program_meaning.specs.declared.smt_error.SmtError.{SmtError}
use Rattle.program_meaning.specs.declared.smt_error.SmtError.TheVariants as error

-- the word by which the line of a refusal names its cause
abbrev pub word_of : SmtError → List ℕ
word_of error.Lexical = codes "lexical"
word_of error.Nesting = codes "nesting"
word_of error.Syntax = codes "syntax"
word_of error.Mode = codes "mode"
word_of error.Declared = codes "declared"
word_of error.Undeclared = codes "undeclared"
word_of error.Sort = codes "sort"
word_of error.Nodes = codes "nodes"
word_of error.Nonlinear = codes "nonlinear"
word_of error.Division = codes "division"
word_of error.Depth = codes "depth"
word_of error.Overflow = codes "overflow"
word_of error.Text = codes "text"
word_of error.Memory = codes "memory"

-- The order in which the causes of a command that is read are looked for. Want of memory has no place: it may come at any time.
abbrev pub order : List SmtError
order =
    error.Mode
    ∷ error.Declared
    ∷ error.Undeclared
    ∷ error.Sort
    ∷ error.Nodes
    ∷ error.Nonlinear
    ∷ error.Division
    ∷ error.Depth
    ∷ error.Overflow
    ∷ error.Text
    ∷ []

-- the causes that come before this one in the order
abbrev pub before : SmtError → List SmtError
before error.Lexical = []
before error.Nesting = []
before error.Syntax = []
before error.Mode = []
before error.Declared = error.Mode ∷ []
before error.Undeclared = error.Mode ∷ error.Declared ∷ []
before error.Sort = error.Mode ∷ error.Declared ∷ error.Undeclared ∷ []
before error.Nodes = error.Mode ∷ error.Declared ∷ error.Undeclared ∷ error.Sort ∷ []
before error.Nonlinear = error.Mode ∷ error.Declared ∷ error.Undeclared ∷ error.Sort ∷ error.Nodes ∷ []
before error.Division = error.Mode ∷ error.Declared ∷ error.Undeclared ∷ error.Sort ∷ error.Nodes ∷ error.Nonlinear ∷ []
before error.Depth = error.Mode ∷ error.Declared ∷ error.Undeclared ∷ error.Sort ∷ error.Nodes ∷ error.Nonlinear ∷ error.Division ∷ []
before error.Overflow = error.Mode ∷ error.Declared ∷ error.Undeclared ∷ error.Sort ∷ error.Nodes ∷ error.Nonlinear ∷ error.Division ∷ error.Depth ∷ []
before error.Text = error.Mode ∷ error.Declared ∷ error.Undeclared ∷ error.Sort ∷ error.Nodes ∷ error.Nonlinear ∷ error.Division ∷ error.Depth ∷ error.Overflow ∷ []
before error.Memory = order

-- the cause of a command that is not read
abbrev pub of_reading : ReadError → SmtError
of_reading reading.Lexical = error.Lexical
of_reading reading.Nesting = error.Nesting
of_reading reading.Syntax = error.Syntax
of_reading reading.Memory = error.Memory
