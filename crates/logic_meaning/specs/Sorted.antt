-- Sorted forms: the names rise and no coefficient is 0. Each form has one sorted form of the same value.
use Rattle.std.specs.Prelude.{◌≡◌, ℕ, ◌<◌, ℤ, pos, negsuc, zero, suc, ◌+ℤ◌, List, [], ◌∷◌, nat_lt, nat_eq, if◌then◌else◌}
use Rattle.logic_meaning.specs.Form.{Form, Term}

-- the names of all terms are above x
abbrev pub AllAbove : ℕ → List Term → Type 0
AllAbove x [] = Unit {0}
AllAbove x (t ∷ ts) = (x < t.name) × AllAbove x ts

-- the names rise, so each stands once
abbrev pub IsRising : List Term → Type 0
IsRising [] = Unit {0}
IsRising (t ∷ ts) = AllAbove t.name ts × IsRising ts

-- no coefficient is 0
abbrev pub AllNonzero : List Term → Type 0
AllNonzero [] = Unit {0}
AllNonzero (t ∷ ts) = (¬ (t.times ≡ pos 0)) × AllNonzero ts

-- the names rise and no coefficient is 0
pub record IsSorted (f : Form) : Type 0 where
  pub rising : IsRising f.terms
  pub nonzero : AllNonzero f.terms

-- a * x and then the terms; without it where a is 0
abbrev pub with_term : ℤ → ℕ → List Term → List Term
with_term (pos zero) x ts = ts
with_term (pos (suc n)) x ts = record { times = pos (suc n); name = x } ∷ ts
with_term (negsuc n) x ts = record { times = negsuc n; name = x } ∷ ts

-- a * x put into terms whose names rise: at its place, or added to the term of x
abbrev pub put_term : ℤ → ℕ → List Term → List Term
put_term a x [] = with_term a x []
put_term a x (t ∷ ts) =
    if nat_lt x t.name then with_term a x (t ∷ ts)
    else if nat_eq x t.name then with_term (a +ℤ t.times) x ts
    else t ∷ put_term a x ts

-- each term put into the rest, from the last on
abbrev pub gathered_terms : List Term → List Term
gathered_terms [] = []
gathered_terms (t ∷ ts) = put_term t.times t.name (gathered_terms ts)

-- the form sorted by name, with the terms of one name added up and the zeros dropped
unfoldable pub gathered : Form → Form
gathered f = record { terms = gathered_terms f.terms; constant = f.constant }
