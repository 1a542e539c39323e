-- The least critical value of a formula, as the program finds it once the point is put in.
use Rattle.std.proofs.Common.{◌≡◌, ℕ, [], ◌∷◌, Option, None, ◌↔◌, subst}
use Rattle.std.specs.Prelude.{option_map}
use Rattle.exact_numbers.specs.declared.fraction.Fraction.{Fraction}
use Rattle.exact_numbers.specs.Frac.{Frac}
use Rattle.exact_numbers.specs.Fraction.{frac_of}
use Rattle.logic_meaning.specs.Context.{Context}
use Rattle.logic_meaning.specs.Point.{Point}
use Rattle.logic_meaning.specs.Some.{Among}
use Rattle.logic_meaning.specs.Tree.{Tree}
use Rattle.logic_meaning.specs.declared.side.Side.{Side}
use Rattle.logic_meaning.specs.Atoms.{atoms_in}
use Rattle.logic_meaning.specs.Calculated.{criticals}
use Rattle.reference_engine.specs.Put.{IsTreePut}
use Rattle.plain_samples.specs.Roots.{least_among, IsNextCritical}
use Rattle.plain_samples.proofs.Leasts.{next_among}

-- the least in the formula with the point put in is the least of the critical values
pub next_found : (c : Context) (side : Side) (x : ℕ) (f g : Tree) (p : Point ℕ) (bound : Option Frac) (w : Option Fraction) → IsTreePut c p (x ∷ []) f g → option_map frac_of w ≡ least_among side x bound None (atoms_in g) →
    IsNextCritical side bound (criticals c x f p) w
next_found c side x f g p bound w h e =
    next_among c side x f p bound w (atoms_in g) h.within (λ a. subst (λ t. Among (atoms_in g) a ↔ Among (atoms_in t) a) h.formula (λ m. m, λ m. m)) e
