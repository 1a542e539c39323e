use Rattle.std.proofs.Common.{◌≡◌, take}
use Rattle.logic_meaning.specs.Some.{SomeOf}
use Rattle.language_meaning.specs.declared.tree.Literal.TheVariants.{Past}
use Rattle.program_meaning.specs.Certificates.{multipliers_of}
use Rattle.constraint_queries.proofs.check.numbers_of.Given as goal

-- the numbers so far, none of which is past the limit
abbrev pub invariant-loop-literal : goal.invariant-loop-literal
invariant-loop-literal l = record {
  made : l.numbers.items ≡ multipliers_of (take l.literal-index l.literals);
  fits : ¬ (SomeOf (λ m. m ≡ Past) (take l.literal-index l.literals));
}
