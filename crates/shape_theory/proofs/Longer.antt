-- Simplifying makes no text longer.
use Rattle.std.proofs.Common.{◌≡◌, ℕ, zero, suc, ◌+◌, ◌≤◌, ◌<◌, Bool, true, false, List, [], ◌∷◌, length, arith, sym, subst, ⊎_elim}
use Rattle.std.specs.Prelude.{slice_get, unwrap_or}
use Rattle.std.specs.List.{AllByRecursion}
use Rattle.logic_meaning.specs.Context.{Context}
use Rattle.logic_meaning.specs.Formula.{Formula, Formulas, Yes, No, One, Not, And, Or, Impl, Repl, Equiv, Ex, All, none, also}
use Rattle.logic_meaning.specs.Every.{Every, EveryOf}
use Rattle.logic_meaning.specs.Some.{EachOf}
use Rattle.logic_meaning.specs.Form.{Term}
use Rattle.logic_meaning.specs.Atom.{Atom, Mentions, form_of}
use Rattle.logic_meaning.specs.declared.junction.Junction.{Junction}
use Rattle.logic_meaning.specs.declared.junction.Junction.TheVariants.{Conjunction, Disjunction}
use Rattle.logic_meaning.specs.declared.quantifier.Quantifier.{Quantifier}
use Rattle.logic_meaning.specs.declared.quantifier.Quantifier.TheVariants.{Exists, ForAll}
use Rattle.normal_atoms.specs.Computed.{Into, merged, IsNormalWithin}
use Rattle.normal_atoms.proofs.Computed.{merged_comes}
use Rattle.logic_meaning.specs.Text.{name_at, atom_text}
use Rattle.formula_laws.specs.Within.{AreTermsWithin, IsAtomWithin}
use Rattle.shape_theory.specs.Orderly.{IsOrderly, AreOrderly}
use Rattle.logic_meaning.specs.Measure.{size}
use Rattle.shape_theory.specs.Pass.{constant}
use Rattle.shape_theory.specs.AtomKit.{atom_kit}
use Rattle.shape_theory.specs.Simplifiable.{simplified_under}
use Rattle.shape_theory.proofs.Keeps.{MergesWithin}
use Rattle.shape_theory.proofs.Sizes.{MeasureLaws}
use Rattle.shape_theory.proofs.Simplified.{simplified_smaller}
use Rattle.shape_theory.proofs.TreeLaws.{keeps_shape}
use Rattle.shape_theory.proofs.AtomLaws.{merges_within, names_told}
use Rattle.shape_theory.specs.Texts.{word_length, quantifier_length, text_measure, SimplifyingLengthensNoText}
use Rattle.shape_theory.proofs.Measured.{text_is}
use Rattle.shape_theory.proofs.Widths.{comes_like, atom_long}

module _ {A : Type 0} (P Q R : A → Type 0) (both : (a : A) → P a → Q a → R a) where
  mutual
    pub orderly_both : (f : Formula A ℕ) → IsOrderly P f → Every Q f → IsOrderly R f
    orderly_both Yes h k = tt
    orderly_both No h k = tt
    orderly_both (One a) h k = both a h k
    orderly_both (Not f) h k = absurd h
    orderly_both (And fs) h k = (h.0, all_both fs h.1 k)
    orderly_both (Or fs) h k = (h.0, all_both fs h.1 k)
    orderly_both (Impl f g) h k = absurd h
    orderly_both (Repl f g) h k = absurd h
    orderly_both (Equiv f g) h k = absurd h
    orderly_both (Ex x f) h k = orderly_both f h k
    orderly_both (All x f) h k = orderly_both f h k

    all_both : (fs : Formulas A ℕ) → AreOrderly P fs → EveryOf Q fs → AreOrderly R fs
    all_both none h k = tt
    all_both (also f fs) h k = (orderly_both f h.0 k.0, all_both fs h.1 k.1)

-- a name of the list is not empty
name_long : (names : List (List ℕ)) (x : ℕ) → EachOf (λ name. 0 < length name) names → x < length names → 0 < length (unwrap_or (slice_get names x) [])
name_long [] x h l = absurd (omega arith)
name_long (n ∷ ns) zero h l = h.0
name_long (n ∷ ns) (suc x) h l = name_long ns x h.1 (omega arith)

module _ (names : List (List ℕ)) (long : EachOf (λ name. 0 < length name) names) (c : Context) where
  -- normal within the limit, with names of the list
  pub record IsWritten (a : Atom) : Type 0 where
    pub normal : IsNormalWithin c a
    pub named : IsAtomWithin (length names) a

  terms_long : (ts : List Term) → AreTermsWithin (length names) ts → AllByRecursion (λ (t : Term). 0 < length (name_at names t.name)) ts
  terms_long [] h = tt
  terms_long (t ∷ ts) h = (name_long names t.name long h.0, terms_long ts h.1)

  least_width : (a : Atom) → IsWritten a → 5 ≤ length (atom_text names a)
  least_width a h = atom_long names a h.normal.within (terms_long (form_of a).terms h.named)

  pub record Comes (a b d : Atom) : Type 0 where
    pub named : IsAtomWithin (length names) d
    pub width : length (atom_text names d) ≤ length (atom_text names a) + length (atom_text names b)

  pub comes : (j : Junction) (a b d : Atom) → IsWritten a → IsWritten b → merged c j a b ≡ Into d → Comes a b d
  comes j a b d x y e =
      let u = least_width a x in
      let v = least_width b y in
      ⊎_elim
      (λ k. let l = comes_like names a d k x.normal.within in let w = l.width in record { named = subst (AreTermsWithin (length names)) (sym l.terms) x.named; width = omega arith })
      (λ k. let l = comes_like names b d k y.normal.within in let w = l.width in record { named = subst (AreTermsWithin (length names)) (sym l.terms) y.named; width = omega arith })
      (merged_comes c j a b d x.normal.normal y.normal.normal e)

  written_within : MergesWithin (atom_kit c) IsWritten Mentions
  written_within = record {
    keeps = λ j a b d x y e. record { normal = (merges_within c).keeps j a b d x.normal y.normal e; named = (comes j a b d x y e).named };
    names = λ j a b d x y e. (merges_within c).names j a b d x.normal y.normal e;
  }

  pub constant_width : (b : Bool) (a : Atom) → IsWritten a → size (text_measure names) (constant b) ≤ length (atom_text names a)
  constant_width true a h = let k = least_width a h in omega arith
  constant_width false a h = let k = least_width a h in omega arith

  constant_short : (b : Bool) (j : Junction) → size (text_measure names) (constant b) ≤ 0 + (4 + (word_length j + 4))
  constant_short true j = omega arith
  constant_short false Conjunction = omega arith
  constant_short false Disjunction = omega arith

  around : (q : Quantifier) (x : ℕ) → 2 ≤ quantifier_length names q x
  around Exists x = omega arith
  around ForAll x = omega arith

  text_laws : MeasureLaws (atom_kit c) IsWritten (text_measure names) 4
  text_laws = record {
    low_yes = omega arith;
    low_no = omega arith;
    constant_atom = constant_width;
    constant_list = constant_short;
    into = λ j a b d x y e. let k = (comes j a b d x y e).width in omega arith;
    around = around;
  }

pub no_longer : SimplifyingLengthensNoText
no_longer names long c ks f h k =
    let w = orderly_both (IsNormalWithin c) (IsAtomWithin (length names)) (IsWritten names long c) (λ a x y. record { normal = x; named = y }) f h k in
    let a = text_is names (IsNormalWithin c) f h in
    let b = text_is names (IsNormalWithin c) (simplified_under c ks f) (keeps_shape c ks f h) in
    let l = simplified_smaller (atom_kit c) (IsWritten names long c) Mentions (written_within names long c) (names_told c) (text_measure names) 4 (text_laws names long c) f ks w in
    omega arith
