-- Forms with a sign, and sums in which a name cancels.
use Rattle.std.specs.Prelude.{◌≡◌, ℕ, ℤ, pos, negsuc, neg_ℤ, ◌+ℤ◌, ◌*ℤ◌, ◌<ℤ◌, Bool, true, false}
use Rattle.logic_meaning.specs.Form.{Form, coefficient, value, scale}
use Rattle.logic_meaning.specs.Point.{Point}
use Rattle.linear_forms.specs.Combinations.{IsLinear}
use Rattle.field_shadows.specs.declared.signed.Signed.{Signed}

-- the number, with the other sign where it is turned
abbrev pub signed_by : Bool → ℤ → ℤ
signed_by true z = neg_ℤ z
signed_by false z = z

-- the form, with the other sign where it is turned
abbrev pub turned_by : Bool → Form → Form
turned_by true f = scale (negsuc 0) f
turned_by false f = f

-- the form that is meant
abbrev pub form_of_signed : Signed → Form
form_of_signed s = turned_by s.turned s.form.now

-- h is a positive multiple of f and a multiple of g, in which x cancels
pub record IsCancelled (x : ℕ) (f g h : Form) : Type 0 where
  pub times : ℤ
  pub by : ℤ
  pub positive : pos 0 <ℤ times
  pub coefficients : (y : ℕ) → coefficient y h ≡ times *ℤ coefficient y f +ℤ by *ℤ coefficient y g
  pub values : (p : Point ℕ) → value h p ≡ times *ℤ value f p +ℤ by *ℤ value g p
  pub gone : coefficient x h ≡ pos 0
  pub linear : IsLinear h
