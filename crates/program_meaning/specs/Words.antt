-- The words of the refusals, the order in which they are looked for, and the lines of a truth and of a theory.
use Rattle.std.specs.Prelude.{ℕ, List, [], ◌∷◌, Bool, true, false, codes, if◌then◌else◌}
use Rattle.std.specs.Str.{bytes_eq}
use Rattle.logic_meaning.specs.Context.{Context, Fields, Integers}
use Rattle.program_meaning.specs.declared.line.StatementError.{StatementError}
use Rattle.program_meaning.specs.declared.line.StatementError.TheVariants as error

-- the word by which the line of a refusal names its cause
abbrev pub word_of : StatementError → List ℕ
word_of error.Long = codes "long"
word_of error.Lexical = codes "lexical"
word_of error.Nesting = codes "nesting"
word_of error.Syntax = codes "syntax"
word_of error.Unbound = codes "unbound"
word_of error.FormulaAsTerm = codes "formula-as-term"
word_of error.Nonlinear = codes "nonlinear"
word_of error.Division = codes "division"
word_of error.CongruenceContext = codes "congruence-context"
word_of error.Context = codes "context"
word_of error.Modulus = codes "modulus"
word_of error.Depth = codes "depth"
word_of error.Point = codes "point"
word_of error.Unvalued = codes "unvalued"
word_of error.Quantified = codes "quantified"
word_of error.Overflow = codes "overflow"
word_of error.Nodes = codes "nodes"
word_of error.Bindings = codes "bindings"
word_of error.Text = codes "text"
word_of error.Memory = codes "memory"

-- The order in which the causes of a refusal are looked for. Want of memory has no place: it may come at any time.
abbrev pub order : List StatementError
order =
    error.Long
    ∷ error.Lexical
    ∷ error.Nesting
    ∷ error.Syntax
    ∷ error.Unbound
    ∷ error.FormulaAsTerm
    ∷ error.Nonlinear
    ∷ error.Division
    ∷ error.CongruenceContext
    ∷ error.Context
    ∷ error.Modulus
    ∷ error.Depth
    ∷ error.Point
    ∷ error.Unvalued
    ∷ error.Quantified
    ∷ error.Overflow
    ∷ error.Nodes
    ∷ error.Bindings
    ∷ error.Text
    ∷ []

-- the front of the list up to the first of this word
abbrev pub front_to : List ℕ → List StatementError → List StatementError
front_to word [] = []
front_to word (d ∷ ds) = if bytes_eq (word_of d) word then [] else d ∷ front_to word ds

-- the refusals that come before this one in the order
abbrev pub before : StatementError → List StatementError
before e = front_to (word_of e) order

-- the line of a truth
abbrev pub truth_text : Bool → List ℕ
truth_text true = codes "true"
truth_text false = codes "false"

-- the line of a theory
abbrev pub context_text : Context → List ℕ
context_text Fields = codes "ofsf"
context_text Integers = codes "pasf"
