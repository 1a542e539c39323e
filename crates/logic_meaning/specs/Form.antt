-- Linear forms: whole multiples of names, and a constant.
use Rattle.std.specs.Prelude.{ℕ, ℤ, pos, ◌+ℤ◌, ◌*ℤ◌, List, [], ◌∷◌, ◌++◌, nat_eq, if◌then◌else◌}
use Rattle.logic_meaning.specs.Point.{Point}

-- times * name
pub record Term : Type 0 where
  pub times : ℤ
  pub name : ℕ

-- the sum of the terms and of the constant
pub record Form : Type 0 where
  pub terms : List Term
  pub constant : ℤ

-- the sum of the terms, where each name has the number that at gives it
abbrev pub total : List Term → (ℕ → ℤ) → ℤ
total [] at = pos 0
total (t ∷ ts) at = t.times *ℤ at t.name +ℤ total ts at

-- the value of the form at the point, times the point's denominator
unfoldable pub value : Form → Point ℕ → ℤ
value f p = total f.terms p.at +ℤ f.constant *ℤ pos p.below

-- the sum of the multiples of one name among the terms
abbrev pub multiple : ℕ → List Term → ℤ
multiple x [] = pos 0
multiple x (t ∷ ts) = if nat_eq x t.name then t.times +ℤ multiple x ts else multiple x ts

-- the multiples, in the order of the terms
abbrev pub coefficients : List Term → List ℤ
coefficients [] = []
coefficients (t ∷ ts) = t.times ∷ coefficients ts

-- the terms of all other names
abbrev pub others : ℕ → List Term → List Term
others x [] = []
others x (t ∷ ts) = if nat_eq x t.name then others x ts else t ∷ others x ts

-- each term a times as large
abbrev pub scaled : ℤ → List Term → List Term
scaled a [] = []
scaled a (t ∷ ts) = record { times = a *ℤ t.times; name = t.name } ∷ scaled a ts

-- the coefficient of a name in a form
unfoldable pub coefficient : ℕ → Form → ℤ
coefficient x f = multiple x f.terms

-- the form without the terms of a name
unfoldable pub without : ℕ → Form → Form
without x f = record { terms = others x f.terms; constant = f.constant }

-- a * f
unfoldable pub scale : ℤ → Form → Form
scale a f = record { terms = scaled a f.terms; constant = a *ℤ f.constant }

-- a * f + b * g
unfoldable pub combine : ℤ → Form → ℤ → Form → Form
combine a f b g = record {
  terms = scaled a f.terms ++ scaled b g.terms;
  constant = a *ℤ f.constant +ℤ b *ℤ g.constant;
}

-- f + a
unfoldable pub plus : Form → ℤ → Form
plus f a = record { terms = f.terms; constant = f.constant +ℤ a }
