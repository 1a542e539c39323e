-- Constraints on a point of the ordered fields: a linear form that is to be 0, at most 0, or below 0.
use Rattle.logic_meaning.specs.Form.{Form}

-- what the value of a form is to be
pub data Bound : Type 0 where
  Equal AtMost Below : Bound

-- a linear form, and what its value is to be
pub record Constraint : Type 0 where
  pub form : Form
  pub bound : Bound
