-- What the readers of the parts of a statement promise each other.
use Rattle.language_meaning.specs.declared.token.ReadError.{ReadError}
use Rattle.language_meaning.specs.declared.token.ReadError.TheVariants as cause

-- a reader ends in Syntax where this holds, or for want of memory
abbrev pub Refuses : ReadError → Type 0 → Type 0
Refuses cause.Syntax P = P
Refuses cause.Memory P = Unit {0}
Refuses cause.Long P = ⊥
Refuses cause.Lexical P = ⊥
Refuses cause.Nesting P = ⊥
