-- What the readers of the parts of a command promise each other.
use Rattle.smt_language.specs.declared.read_error.ReadError.{ReadError}
use Rattle.smt_language.specs.declared.read_error.ReadError.TheVariants as cause
use Rattle.smt_reader.specs.declared.refusal.Refusal.{Refusal}
use Rattle.smt_reader.specs.declared.refusal.Refusal.TheVariants as refusal

-- a reader ends in Syntax where this holds, or for want of memory
abbrev pub Refuses : Refusal → Type 0 → Type 0
Refuses refusal.Syntax P = P
Refuses refusal.Memory P = Unit {0}

-- the cause that a refusal is
abbrev pub cause_of : Refusal → ReadError
cause_of refusal.Syntax = cause.Syntax
cause_of refusal.Memory = cause.Memory
