-- Each sum that the grammar spells is read.
use Rattle.std.proofs.Common.{◌≡◌, ℕ, ◌<◌, ◌≤◌, Bool, true, false, List, [], ◌∷◌, ◌++◌, sym, refl, ap, ◌∙◌, arith}
use Rattle.std.specs.Prelude.{Some, None}
use Rattle.language_meaning.specs.Trees.{TermTree, Number, Power}
use Rattle.language_meaning.specs.declared.terminal.Terminal.{Terminal}
use Rattle.language_meaning.specs.declared.terminal.Terminal.TheVariants as terminal
use Rattle.language_meaning.specs.declared.terminal.Mark.TheVariants as mark
use Rattle.redlog_reader.specs.Machine.{Reading, Term, Bare, term_of, Frame, Group, Added, Multiplied, Wants, Fresh, Held, Raised, Fails, Moves, strength, takes, signed_term, multiplied, continued, factors, members, pushed, multiplies, adds, operated, held}
use Rattle.language_meaning.specs.Grammar.{product_of, sum_of, SpellsFactor, number, variable, inner_sum, SpellsPower, first_power, raised, SpellsProduct, product, Factors, no_factor, times, quotient, SpellsSum, sum, plus_sum, minus_sum, Members, no_member, plus, minus}
use Rattle.redlog_reader.proofs.Steps.{strength_at, ReadsTerm, moves, is_term, within, put, ends, no_power, level_kept}

-- the list that has been read so far, with its last member held
data HoldsFactors (fs : List Frame) : List TermTree → List Frame → Reading → Type 0 where
  HoldsFactors_alone : {h : Reading} {t : TermTree} → term_of h ≡ Some t → HoldsFactors fs (t ∷ []) fs h
  HoldsFactors_after : {h : Reading} {t : TermTree} {flag : Bool} {ts : List TermTree} → term_of h ≡ Some t → HoldsFactors fs (multiplied flag ts t) (Multiplied flag ts ∷ fs) h

factors_alone : (goal : ℕ) (fs : List Frame) (t : TermTree) → 1 ≤ takes goal fs → factors fs t ≡ (t ∷ [], fs)
factors_alone goal (Multiplied flag ts ∷ fs) t le = absurd (omega (arith, le))
factors_alone goal fs t le = refl

multiplies_more : (goal : ℕ) (next : Bool) {fs gs : List Frame} {h : Reading} {before : List TermTree} → 1 ≤ takes goal fs → HoldsFactors fs before gs h → multiplies goal next gs h ≡ Moves (Multiplied next before ∷ fs) Wants
multiplies_more goal next {fs = fs} le (HoldsFactors_alone {t = t} e) =
    is_term _ (λ t. pushed goal (Multiplied next (factors fs t).0) (factors fs t).1) Fails e
    ∙ ap (λ p. pushed goal (Multiplied next p.0) p.1) (factors_alone goal fs t le) ∙ put goal (Multiplied next (t ∷ [])) fs le
multiplies_more goal next {fs = fs} le (HoldsFactors_after {t = t} {flag = flag} {ts = ts} e) =
    is_term _ (λ t. pushed goal (Multiplied next (multiplied flag ts t)) fs) Fails e ∙ put goal (Multiplied next (multiplied flag ts t)) fs le

multiplies_within : (goal : ℕ) (t : Terminal) {fs gs : List Frame} {h : Reading} {before : List TermTree} → strength t ≡ 1 → 1 ≤ takes goal fs → HoldsFactors fs before gs h → held goal t gs h ≡ operated goal t gs h
multiplies_within goal t {fs = fs} {h = h} s le (HoldsFactors_alone e) = within goal t fs h (omega (arith, s, le))
multiplies_within goal t {fs = fs} {h = h} s le (HoldsFactors_after {flag = flag} {ts = ts} e) =
    ap (continued goal t) (level_kept (strength t) (Multiplied flag ts) fs h (omega (arith, s)))

-- the list that has been read so far, with its last member held
data HoldsMembers (fs : List Frame) : List TermTree → List Frame → Reading → Type 0 where
  HoldsMembers_alone : {h : Reading} {t : TermTree} → term_of h ≡ Some t → HoldsMembers fs (t ∷ []) fs h
  HoldsMembers_after : {h : Reading} {t : TermTree} {flag : Bool} {ts : List TermTree} → term_of h ≡ Some t → HoldsMembers fs (ts ++ signed_term flag t ∷ []) (Added flag ts ∷ fs) h

members_alone : (goal : ℕ) (fs : List Frame) (t : TermTree) → 2 ≤ takes goal fs → members fs t ≡ (t ∷ [], fs)
members_alone goal (Added flag ts ∷ fs) t le = absurd (omega (arith, le))
members_alone goal fs t le = refl

adds_more : (goal : ℕ) (next : Bool) {fs gs : List Frame} {h : Reading} {before : List TermTree} → 2 ≤ takes goal fs → HoldsMembers fs before gs h → adds goal next gs h ≡ Moves (Added next before ∷ fs) Wants
adds_more goal next {fs = fs} le (HoldsMembers_alone {t = t} e) =
    is_term _ (λ t. pushed goal (Added next (members fs t).0) (members fs t).1) Fails e
    ∙ ap (λ p. pushed goal (Added next p.0) p.1) (members_alone goal fs t le) ∙ put goal (Added next (t ∷ [])) fs le
adds_more goal next {fs = fs} le (HoldsMembers_after {t = t} {flag = flag} {ts = ts} e) =
    is_term _ (λ t. pushed goal (Added next (ts ++ signed_term flag t ∷ [])) fs) Fails e ∙ put goal (Added next (ts ++ signed_term flag t ∷ [])) fs le

adds_within : (goal : ℕ) (t : Terminal) {fs gs : List Frame} {h : Reading} {before : List TermTree} → strength t ≡ 2 → 2 ≤ takes goal fs → HoldsMembers fs before gs h → held goal t gs h ≡ operated goal t gs h
adds_within goal t {fs = fs} {h = h} s le (HoldsMembers_alone e) = within goal t fs h (omega (arith, s, le))
adds_within goal t {fs = fs} {h = h} s le (HoldsMembers_after {flag = flag} {ts = ts} e) =
    ap (continued goal t) (level_kept (strength t) (Added flag ts) fs h (omega (arith, s)))

factors_strength : {before : List TermTree} {us rest : List Terminal} {v : TermTree} → Factors before us v rest → 1 < strength_at rest → 0 < strength_at us
factors_strength (no_factor e) less = omega (arith, less)
factors_strength (times p m) less = omega arith
factors_strength (quotient p m) less = omega arith

members_strength : {before : List TermTree} {us rest : List Terminal} {v : TermTree} → Members before us v rest → 2 < strength_at rest → 1 < strength_at us
members_strength (no_member e) less = omega (arith, less)
members_strength (plus p m) less = omega arith
members_strength (minus p m) less = omega arith

mutual
  complete_factor : (goal : ℕ) (fs : List Frame) {ts rest : List Terminal} {t : TermTree} → SpellsFactor ts t rest → ReadsTerm goal ts fs Wants Fresh rest fs t
  complete_factor goal fs (number {n = n}) = record { reading = Term (Number n); is = refl; runs = refl }
  complete_factor goal fs (variable {x = x}) = record { reading = Bare x; is = refl; runs = refl }
  complete_factor goal fs (inner_sum p) =
      let inner = complete_sum goal (Group ∷ fs) p (omega arith) (omega arith) in
      record { reading = inner.reading; is = inner.is; runs = inner.runs }

  complete_power : (goal : ℕ) (fs : List Frame) {ts rest : List Terminal} {t : TermTree} → SpellsPower ts t rest → 0 < strength_at rest → ReadsTerm goal ts fs Wants Held rest fs t
  complete_power goal fs {rest = rest} (first_power p) less =
      let factor = complete_factor goal fs p in
      record { reading = factor.reading; is = factor.is; runs = factor.runs ∙ no_power goal rest fs factor.reading less }
  complete_power goal fs {rest = rest} (raised {t = t} {n = n} p) less =
      let factor = complete_factor goal fs p in
      record {
        reading = Term (Power t n);
        is = refl;
        runs = factor.runs ∙ moves goal (terminal.Mark mark.Power) (terminal.Number n ∷ rest) fs (Fresh factor.reading) (is_term _ (λ s. Moves fs (Raised s)) Fails factor.is);
      }

  complete_product : (goal : ℕ) (fs : List Frame) {ts rest : List Terminal} {t : TermTree} → SpellsProduct ts t rest → 1 ≤ takes goal fs → 1 < strength_at rest → ReadsTerm goal ts fs Wants Held rest fs t
  complete_product goal fs (product p m) le less =
      let first = complete_power goal fs p (factors_strength m less) in
      let more = complete_factors goal fs le m less (HoldsFactors_alone first.is) in
      record { reading = more.reading; is = more.is; runs = first.runs ∙ more.runs }

  complete_factors : (goal : ℕ) (fs : List Frame) → 1 ≤ takes goal fs → {before : List TermTree} {us rest : List Terminal} {t : TermTree} → Factors before us t rest → 1 < strength_at rest
      → {gs : List Frame} {h : Reading} → HoldsFactors fs before gs h → ReadsTerm goal us gs (Held h) Held rest fs t
  complete_factors goal fs le (no_factor is) less {h = h} (HoldsFactors_alone e) = record { reading = h; is = e ∙ ap Some (sym is); runs = refl }
  complete_factors goal fs le {rest = rest} (no_factor is) less {h = h} (HoldsFactors_after {t = t} {flag = flag} {ts = ts} e) = record {
    reading = Term (product_of (multiplied flag ts t));
    is = ap Some (sym is);
    runs = ends goal rest (Multiplied flag ts) fs h (Term (product_of (multiplied flag ts t))) less (is_term _ (λ t. Some (Term (product_of (multiplied flag ts t)))) None e);
  }
  complete_factors goal fs le {before = before} (times {us = us} p m) less {gs = gs} {h = h} holds =
      let next = complete_power goal (Multiplied false before ∷ fs) p (factors_strength m less) in
      let more = complete_factors goal fs le m less (HoldsFactors_after {flag = false} {ts = before} next.is) in
      record {
        reading = more.reading;
        is = more.is;
        runs = moves goal (terminal.Mark mark.Times) us gs (Held h) (multiplies_within goal (terminal.Mark mark.Times) refl le holds ∙ multiplies_more goal false le holds) ∙ next.runs ∙ more.runs;
      }
  complete_factors goal fs le {before = before} (quotient {us = us} p m) less {gs = gs} {h = h} holds =
      let next = complete_power goal (Multiplied true before ∷ fs) p (factors_strength m less) in
      let more = complete_factors goal fs le m less (HoldsFactors_after {flag = true} {ts = before} next.is) in
      record {
        reading = more.reading;
        is = more.is;
        runs = moves goal (terminal.Mark mark.Slash) us gs (Held h) (multiplies_within goal (terminal.Mark mark.Slash) refl le holds ∙ multiplies_more goal true le holds) ∙ next.runs ∙ more.runs;
      }

  pub complete_sum : (goal : ℕ) (fs : List Frame) {ts rest : List Terminal} {t : TermTree} → SpellsSum ts t rest → 2 ≤ takes goal fs → 2 < strength_at rest → ReadsTerm goal ts fs Wants Held rest fs t
  complete_sum goal fs (sum p m) le less =
      let first = complete_product goal fs p (omega (arith, le)) (members_strength m less) in
      let more = complete_members goal fs le m less (HoldsMembers_alone first.is) in
      record { reading = more.reading; is = more.is; runs = first.runs ∙ more.runs }
  complete_sum goal fs (plus_sum {ts = ts} p m) le less =
      let first = complete_product goal (Added false [] ∷ fs) p (omega arith) (members_strength m less) in
      let more = complete_members goal fs le m less (HoldsMembers_after {flag = false} {ts = []} first.is) in
      record { reading = more.reading; is = more.is; runs = moves goal (terminal.Mark mark.Plus) ts fs Wants (put goal (Added false []) fs le) ∙ first.runs ∙ more.runs }
  complete_sum goal fs (minus_sum {ts = ts} p m) le less =
      let first = complete_product goal (Added true [] ∷ fs) p (omega arith) (members_strength m less) in
      let more = complete_members goal fs le m less (HoldsMembers_after {flag = true} {ts = []} first.is) in
      record { reading = more.reading; is = more.is; runs = moves goal (terminal.Mark mark.Minus) ts fs Wants (put goal (Added true []) fs le) ∙ first.runs ∙ more.runs }

  complete_members : (goal : ℕ) (fs : List Frame) → 2 ≤ takes goal fs → {before : List TermTree} {us rest : List Terminal} {t : TermTree} → Members before us t rest → 2 < strength_at rest
      → {gs : List Frame} {h : Reading} → HoldsMembers fs before gs h → ReadsTerm goal us gs (Held h) Held rest fs t
  complete_members goal fs le (no_member is) less {h = h} (HoldsMembers_alone e) = record { reading = h; is = e ∙ ap Some (sym is); runs = refl }
  complete_members goal fs le {rest = rest} (no_member is) less {h = h} (HoldsMembers_after {t = t} {flag = flag} {ts = ts} e) = record {
    reading = Term (sum_of (ts ++ signed_term flag t ∷ []));
    is = ap Some (sym is);
    runs = ends goal rest (Added flag ts) fs h (Term (sum_of (ts ++ signed_term flag t ∷ []))) less (is_term _ (λ t. Some (Term (sum_of (ts ++ signed_term flag t ∷ [])))) None e);
  }
  complete_members goal fs le {before = before} (plus {us = us} p m) less {gs = gs} {h = h} holds =
      let next = complete_product goal (Added false before ∷ fs) p (omega arith) (members_strength m less) in
      let more = complete_members goal fs le m less (HoldsMembers_after {flag = false} {ts = before} next.is) in
      record {
        reading = more.reading;
        is = more.is;
        runs = moves goal (terminal.Mark mark.Plus) us gs (Held h) (adds_within goal (terminal.Mark mark.Plus) refl le holds ∙ adds_more goal false le holds) ∙ next.runs ∙ more.runs;
      }
  complete_members goal fs le {before = before} (minus {us = us} p m) less {gs = gs} {h = h} holds =
      let next = complete_product goal (Added true before ∷ fs) p (omega arith) (members_strength m less) in
      let more = complete_members goal fs le m less (HoldsMembers_after {flag = true} {ts = before} next.is) in
      record {
        reading = more.reading;
        is = more.is;
        runs = moves goal (terminal.Mark mark.Minus) us gs (Held h) (adds_within goal (terminal.Mark mark.Minus) refl le holds ∙ adds_more goal true le holds) ∙ next.runs ∙ more.runs;
      }
