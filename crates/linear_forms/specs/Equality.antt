-- When two linear forms are one, and what a form feeds a hash.
use Rattle.std.specs.Prelude.{◌≡◌, Bool, true, ◌&&◌, ◌++◌, nat_eq}
use Rattle.std.proofs.Common.{ap, refl, ◌∙◌}
use Rattle.std.specs.Ordering.{int_eq}
use Rattle.std.specs.Bool.{Decides}
use Rattle.std.specs.Cmp.{first_so, second_so, signed_Decides, unsigned_Decides}
use Rattle.std.specs.Cmp.Lexicographic.{pointwise, pointwise_decides}
use Rattle.std.specs.Hash.{HashWrites, slice, usize, i128}
use Rattle.logic_meaning.specs.Form.{Form, Term}

-- the same name and the same coefficient
abbrev pub term_eq : Term → Term → Bool
term_eq s t = nat_eq s.name t.name && int_eq s.times t.times

-- the same terms and the same constant
abbrev pub form_eq : Form → Form → Bool
form_eq f g = pointwise term_eq f.terms g.terms && int_eq f.constant g.constant

and_so : (a b : Bool) → a ≡ true → b ≡ true → (a && b) ≡ true
and_so true true p q = refl
and_so true b p q = q
and_so a b p q = ap (λ x. x && b) p ∙ q

term_decides : (s t : Term) → Decides (term_eq s t) (s ≡ t)
term_decides s t = (
  λ e.
      let n : s.name ≡ t.name = (unsigned_Decides s.name t.name).0 (first_so (nat_eq s.name t.name) (int_eq s.times t.times) e) in
      let k : s.times ≡ t.times = (signed_Decides s.times t.times).0 (second_so (nat_eq s.name t.name) (int_eq s.times t.times) e) in
      λ i. record { times = k i; name = n i },
  λ e. and_so (nat_eq s.name t.name) (int_eq s.times t.times) ((unsigned_Decides s.name t.name).1 (ap (λ (u : Term). u.name) e)) ((signed_Decides s.times t.times).1 (ap (λ (u : Term). u.times) e)),
)

-- the test decides whether two forms are one
pub form_decides : (f g : Form) → Decides (form_eq f g) (f ≡ g)
form_decides f g =
    let P = pointwise term_eq f.terms g.terms in
    let Q = int_eq f.constant g.constant in (
      λ e.
          let ts : f.terms ≡ g.terms = (pointwise_decides term_decides f.terms g.terms).0 (first_so P Q e) in
          let k : f.constant ≡ g.constant = (signed_Decides f.constant g.constant).0 (second_so P Q e) in
          λ i. record { terms = ts i; constant = k i },
      λ e. and_so P Q ((pointwise_decides term_decides f.terms g.terms).1 (ap (λ (h : Form). h.terms) e)) ((signed_Decides f.constant g.constant).1 (ap (λ (h : Form). h.constant) e)),
    )

-- the name, and then the coefficient
abbrev pub term_writes : Term → HashWrites
term_writes t = usize t.name ++ i128 t.times

-- the terms, and then the constant
abbrev pub form_writes : Form → HashWrites
form_writes f = slice term_writes f.terms ++ i128 f.constant
