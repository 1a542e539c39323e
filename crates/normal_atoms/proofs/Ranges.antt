-- What the code's parts need of forms.
use Rattle.std.proofs.Common.{◌≡◌, List, [], ◌∷◌, Some, subst}
use Rattle.std.specs.Prelude.{slice_get}
use Rattle.exact_numbers.specs.Limit.{InLimit}
use Rattle.logic_meaning.specs.Form.{Term}
use Rattle.logic_meaning.specs.Terms.{AllInLimit}

-- the first term's coefficient is within the limit
pub first_within : (ts : List Term) (t : Term) → Some t ≡ slice_get ts 0 → AllInLimit ts → InLimit t.times
first_within [] t e w = absurd (cc)
first_within (s ∷ ts) t e w = let k : s ≡ t = cc in subst (λ (u : Term). InLimit u.times) k w.0
