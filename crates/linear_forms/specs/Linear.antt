-- The program's pairs of a name and a coefficient, as terms.
use Rattle.std.specs.Prelude.{◌≡◌, ◌*ℤ◌, ℤ, List, [], ◌∷◌}
use Rattle.logic_meaning.specs.declared.form.VarId.{VarId}
use Rattle.logic_meaning.specs.Form.{Term}

-- the pair as a term
abbrev pub term_of : VarId × ℤ → Term
term_of p = record { times = p.1; name = p.0.number }

-- the pairs as terms
abbrev pub terms_of : List (VarId × ℤ) → List Term
terms_of [] = []
terms_of (p ∷ ps) = term_of p ∷ terms_of ps

-- the second pair has the name of the first, and d times its number is that of the first
pub record IsDivided (d : ℤ) (p q : VarId × ℤ) : Type 0 where
  pub same_name : q.0.number ≡ p.0.number
  pub times : d *ℤ q.1 ≡ p.1
