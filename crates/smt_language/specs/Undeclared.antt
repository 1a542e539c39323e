-- Whether a symbol stands as a term or a formula that is neither declared nor bound.
use Rattle.std.specs.Prelude.{ℕ, List, [], ◌∷◌, Bool, false, not, ◌||◌}
use Rattle.language_meaning.specs.Value.{same_name}
use Rattle.smt_language.specs.declared.names.SortedName.{SortedName}
use Rattle.smt_language.specs.Trees.{ExpressionTree, ExpressionTrees, LocalTrees, True, False, Numeral, Decimal, Named, Apply, Divisible, Quantified, Let, none, also, no_local, also_local}

-- which symbols are declared or bound
abbrev pub Known : Type 0
Known = List ℕ → Bool

-- the symbol is known too
abbrev pub with_known : List ℕ → Known → Known
with_known x known = λ y. same_name x y || known y

-- the names of a quantifier are known too
abbrev pub known_inside : List SortedName → Known → Known
known_inside [] known = known
known_inside (x ∷ xs) known = known_inside xs (with_known x.name known)

-- the names of a let are known too
abbrev pub known_locals : LocalTrees → Known → Known
known_locals no_local known = known
known_locals (also_local x e ls) known = known_locals ls (with_known x known)

abbrev mutual
  -- some symbol of the expression is unknown
  pub has_unknown : Known → ExpressionTree → Bool
  has_unknown known True = false
  has_unknown known False = false
  has_unknown known (Numeral k) = false
  has_unknown known (Decimal k power) = false
  has_unknown known (Named x) = not (known x)
  has_unknown known (Apply o es) = have_unknown known es
  has_unknown known (Divisible k e) = has_unknown known e
  has_unknown known (Quantified q xs e) = has_unknown (known_inside xs known) e
  has_unknown known (Let ls e) = values_have_unknown known ls || has_unknown (known_locals ls known) e

  -- some symbol of the members is unknown
  pub have_unknown : Known → ExpressionTrees → Bool
  have_unknown known none = false
  have_unknown known (also e es) = has_unknown known e || have_unknown known es

  -- some symbol of the values of a let is unknown
  pub values_have_unknown : Known → LocalTrees → Bool
  values_have_unknown known no_local = false
  values_have_unknown known (also_local x e ls) = has_unknown known e || values_have_unknown known ls
