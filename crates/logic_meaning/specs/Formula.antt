-- First-order formulas over any atoms A and any names N. A formula as it is written and a resolved formula
-- are both of this form; they differ in their atoms and names alone.

mutual
  -- true, false, an atom, a connective of formulas (Repl f g: g implies f), or a quantifier of a name over a formula
  pub data Formula (A N : Type 0) : Type 0 where
    Yes : Formula A N
    No : Formula A N
    One : A → Formula A N
    Not : Formula A N → Formula A N
    And : Formulas A N → Formula A N
    Or : Formulas A N → Formula A N
    Impl : Formula A N → Formula A N → Formula A N
    Repl : Formula A N → Formula A N → Formula A N
    Equiv : Formula A N → Formula A N → Formula A N
    Ex : N → Formula A N → Formula A N
    All : N → Formula A N → Formula A N

  -- a list of formulas: the members of an and or of an or
  pub data Formulas (A N : Type 0) : Type 0 where
    none : Formulas A N
    also : Formula A N → Formulas A N → Formulas A N
