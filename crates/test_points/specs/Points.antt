-- What the program's test points mean.
use Rattle.std.specs.Prelude.{◌≡◌, ℕ, ℤ, pos, ◌<ℤ◌, [], unsigned_abs}
use Rattle.exact_numbers.specs.Limit.{InLimit}
use Rattle.logic_meaning.specs.Form.{Form}
use Rattle.logic_meaning.specs.Answer as meaning
use Rattle.linear_forms.specs.Combinations.{IsLinear}
use Rattle.logic_meaning.specs.declared.form.VarId.{VarId}
use Rattle.test_points.specs.declared.points.Place.{Place}
use Rattle.test_points.specs.declared.points.Place.TheVariants.{Exact, AboveBy, BelowBy, MinusInfinity, PlusInfinity, Periodic}
use Rattle.test_points.specs.declared.points.TestPoint.{TestPoint}

-- the place: a form over a number, a number and a period, or an infinity
abbrev pub place_at : Place → Form → ℕ → ℤ → meaning.Place
place_at Exact e d q = meaning.Exact e d
place_at AboveBy e d q = meaning.AboveBy e d
place_at BelowBy e d q = meaning.BelowBy e d
place_at MinusInfinity e d q = meaning.MinusInfinity
place_at PlusInfinity e d q = meaning.PlusInfinity
place_at Periodic e d q = meaning.Periodic e.constant q

-- where the test point puts its name
abbrev pub place_of : TestPoint → meaning.Place
place_of t = place_at t.place t.form (unsigned_abs t.over) t.period

-- the test point as an answer
abbrev pub answer_of : TestPoint → meaning.Answer
answer_of t = record { name = t.name.number; place = place_of t }

-- what does not belong to the place is empty: 0 for a form and a period, 1 for a denominator
abbrev pub IsShaped : Place → Form → ℤ → ℤ → Type 0
IsShaped Exact e d q = q ≡ pos 0
IsShaped AboveBy e d q = q ≡ pos 0
IsShaped BelowBy e d q = q ≡ pos 0
IsShaped MinusInfinity e d q = (e ≡ record { terms = []; constant = pos 0 }) × (d ≡ pos 1) × (q ≡ pos 0)
IsShaped PlusInfinity e d q = (e ≡ record { terms = []; constant = pos 0 }) × (d ≡ pos 1) × (q ≡ pos 0)
IsShaped Periodic e d q = (e.terms ≡ []) × (d ≡ pos 1) × (¬ (q ≡ pos 0))

-- a well-formed test point: of its place's shape, over a positive number, and each number within the limit
pub record IsTestPoint (t : TestPoint) : Type 0 where
  pub shaped : IsShaped t.place t.form t.over t.period
  pub positive : pos 0 <ℤ t.over
  pub linear : IsLinear t.form
  pub over_within : InLimit t.over
  pub period_within : InLimit t.period

-- a well-formed test point of x
pub record IsPointOf (x : VarId) (t : TestPoint) : Type 0 where
  pub well_formed : IsTestPoint t
  pub name : t.name ≡ x
