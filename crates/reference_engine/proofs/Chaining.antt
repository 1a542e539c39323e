-- The branches of the leading chain of quantifiers.
use Rattle.std.proofs.Common.{◌≡◌, ℕ, Bool, true, false, not, List, [], ◌∷◌, refl, sym, ap, ◌∙◌, nat_eq}
use Rattle.std.specs.Prelude.{if◌then◌else◌}
use Rattle.logic_meaning.specs.declared.quantifier.Quantifier.TheVariants.{Exists, ForAll}
use Rattle.logic_meaning.specs.Context.{Context}
use Rattle.logic_meaning.specs.Formula.{Yes, No, One, Not, And, Or, Impl, Repl, Equiv, Ex, All}
use Rattle.logic_meaning.specs.Fold.{fold_list, joined}
use Rattle.logic_meaning.specs.Shape.{is_in, quantified}
use Rattle.logic_meaning.specs.Tree.{Tree, Trees}
use Rattle.logic_meaning.specs.NormalForm.{constant_tree}
use Rattle.logic_meaning.specs.Cases.{Case, case_sign, cases_of, reference_cases}
use Rattle.logic_meaning.specs.Reference.{Branch, normal_tree, alone, together, turned, signed_junction, steps, closed, branches, members}
use Rattle.logic_meaning.specs.Measured.{Outcome, stopped, done, then_of, Counted, ◌>>=◌, pay}
use Rattle.logic_meaning.specs.declared.junction.Junction.TheVariants.{Conjunction, Disjunction}
use Rattle.logic_meaning.specs.declared.junction.Junction.{Junction}
use Rattle.logic_meaning.specs.declared.quantifier.Quantifier.{Quantifier}
use Rattle.reference_engine.specs.Told.{is_ex, seen, all_bare}
use Rattle.logic_meaning.specs.Sizes.{nodes}
use Rattle.reference_engine.specs.declared.branch.Leaf.{Leaf}
use Rattle.reference_engine.specs.Stand.{goes_on, StandFor, TellsOf}
use Rattle.reference_engine.proofs.Standing.{done_of}
use mathlib.Core.Bool.{beq}

-- branches without steps
abbrev bared : Outcome (List Branch × ℕ) → Outcome (List Branch × ℕ)
bared o = then_of (seen o) (λ r. done (all_bare r.0, r.1))

abbrev told_cases : Outcome (List Branch × ℕ) → Outcome (List Case × ℕ)
told_cases o = then_of o (λ r. done (cases_of r.0, r.1))

module _ (c : Context) (limit : ℕ) where
  bare_joined : (j : Junction) (o : Outcome (Trees × ℕ)) → then_of {B = List Branch × ℕ} o (λ r. done (alone (fold_list j r.0), r.1)) ≡ bared (then_of o (λ r. done (alone (fold_list j r.0), r.1)))
  bare_joined j (stopped s) = refl
  bare_joined j (done r) = refl

  bare_left : (sign : Bool) (o : Outcome (List Branch × ℕ)) → then_of {B = List Branch × ℕ} o (λ r. done (alone (turned sign (together r.0)), r.1)) ≡ bared (then_of o (λ r. done (alone (turned sign (together r.0)), r.1)))
  bare_left sign (stopped s) = refl
  bare_left sign (done r) = refl

  bare_closed : (sign : Bool) (x : ℕ) (m : Counted (List Branch)) (cost : ℕ) → closed c limit sign x m cost ≡ bared (closed c limit sign x m cost)
  bare_closed sign x m cost = go (m cost)
    where
      go : (o : Outcome (List Branch × ℕ)) →
          then_of {B = List Branch × ℕ} o (λ r. then_of (steps c limit x r.0 r.1) (λ q. done (alone (turned sign (together q.0)), q.1))) ≡ bared (then_of o (λ r. then_of (steps c limit x r.0 r.1) (λ q. done (alone (turned sign (together q.0)), q.1))))
      go (stopped s) = refl
      go (done r) = bare_left sign (steps c limit x r.0 r.1)

  bare_chain : (names : List ℕ) (sign : Bool) (x : ℕ) (f : Tree) (cost : ℕ) (t : Bool) → not t ≡ false →
      (if t then closed c limit true x (branches c limit (x ∷ []) sign f) else (branches c limit (x ∷ names) sign f >>= steps c limit x)) cost
      ≡ bared ((if t then closed c limit true x (branches c limit (x ∷ []) sign f) else (branches c limit (x ∷ names) sign f >>= steps c limit x)) cost)
  bare_chain names sign x f cost true e = bare_closed true x (branches c limit (x ∷ []) sign f) cost
  bare_chain names sign x f cost false e = cc

  -- what does not begin with a quantifier of the chain is one branch without steps
  pub begun_bare : (names : List ℕ) (sign : Bool) (f : Tree) (cost : ℕ) → goes_on sign names f ≡ false → branches c limit names sign f cost ≡ bared (branches c limit names sign f cost)
  begun_bare names true Yes cost e = refl
  begun_bare names false Yes cost e = refl
  begun_bare names true No cost e = refl
  begun_bare names false No cost e = refl
  begun_bare names true (One a) cost e = refl
  begun_bare names false (One a) cost e = refl
  begun_bare names true (Not f) cost e = refl
  begun_bare names false (Not f) cost e = refl
  begun_bare names true (And fs) cost e = bare_joined (signed_junction true Conjunction) (members c limit true fs cost)
  begun_bare names false (And fs) cost e = bare_joined (signed_junction false Conjunction) (members c limit false fs cost)
  begun_bare names true (Or fs) cost e = bare_joined (signed_junction true Disjunction) (members c limit true fs cost)
  begun_bare names false (Or fs) cost e = bare_joined (signed_junction false Disjunction) (members c limit false fs cost)
  begun_bare names true (Impl f g) cost e = refl
  begun_bare names false (Impl f g) cost e = refl
  begun_bare names true (Repl f g) cost e = refl
  begun_bare names false (Repl f g) cost e = refl
  begun_bare names true (Equiv f g) cost e = refl
  begun_bare names false (Equiv f g) cost e = refl
  begun_bare names true (Ex x f) cost e = bare_chain names true x f cost (is_in nat_eq x names) e
  begun_bare names false (Ex x f) cost e = bare_closed false x (branches c limit (x ∷ []) true f) cost
  begun_bare names true (All x f) cost e = bare_closed false x (branches c limit (x ∷ []) false f) cost
  begun_bare names false (All x f) cost e = bare_chain names false x f cost (is_in nat_eq x names) e

  -- the chain goes on
  pub chain_on : (names : List ℕ) (sign : Bool) (q : Quantifier) (x : ℕ) (f : Tree) (cost : ℕ) → beq (is_ex q) sign ≡ true → is_in nat_eq x names ≡ false →
      branches c limit names sign (quantified q x f) cost ≡ then_of (branches c limit (x ∷ names) sign f cost) (λ r. steps c limit x r.0 r.1)
  chain_on names true Exists x f cost e n = ap (λ t. (if t then closed c limit true x (branches c limit (x ∷ []) true f) else (branches c limit (x ∷ names) true f >>= steps c limit x)) cost) n
  chain_on names false Exists x f cost e n = cc
  chain_on names true ForAll x f cost e n = cc
  chain_on names false ForAll x f cost e n = ap (λ t. (if t then closed c limit true x (branches c limit (x ∷ []) false f) else (branches c limit (x ∷ names) false f >>= steps c limit x)) cost) n

  -- and so from the program's parts
  pub chain_step : (names names2 : List ℕ) (sign : Bool) (q : Quantifier) (x : ℕ) (f g : Tree) (cost : ℕ) → f ≡ quantified q x g → names2 ≡ x ∷ names → beq (is_ex q) sign ≡ true → is_in nat_eq x names ≡ false →
      branches c limit names sign f cost ≡ then_of (branches c limit names2 sign g cost) (λ r. steps c limit x r.0 r.1)
  chain_step names names2 sign q x f g cost e m s n =
      ap (λ h. branches c limit names sign h cost) e ∙ chain_on names sign q x g cost s n ∙ ap (λ ns. then_of (branches c limit ns sign g cost) (λ r. steps c limit x r.0 r.1)) (sym m)

  -- the cases from the leaves
  pub cases_are : (f : Tree) (n : ℕ) (ls : List Leaf) (cost : ℕ) (ks : List Case) → pay limit (nodes (normal_tree f)) 0 ≡ done (tt, n) → TellsOf ls cost (branches c limit [] (case_sign (normal_tree f)) (normal_tree f) n) →
      ((bs : List Branch) → StandFor ls bs → ks ≡ cases_of bs) → reference_cases c limit f ≡ done (ks, cost)
  cases_are f n ls cost ks paid t k =
      let d = done_of ls cost (branches c limit [] (case_sign (normal_tree f)) (normal_tree f) n) t in
      ap (λ o. told_cases (then_of o (λ r. branches c limit [] (case_sign (normal_tree f)) (normal_tree f) r.1))) paid ∙ ap told_cases d.is ∙ ap (λ js. done (js, cost)) (sym (k d.branches d.stand))

-- ---- what the chain goes on with

pub constant_begun : (sign : Bool) (names : List ℕ) (b : Bool) → goes_on sign names (constant_tree b) ≡ false
constant_begun sign names true = refl
constant_begun sign names false = refl

pub joined_begun : (sign : Bool) (names : List ℕ) (j : Junction) (fs : Trees) → goes_on sign names (joined j fs) ≡ false
joined_begun sign names Conjunction fs = refl
joined_begun sign names Disjunction fs = refl

-- the other quantifier, or a name of the chain
pub quantified_begun : (sign : Bool) (names : List ℕ) (q : Quantifier) (x : ℕ) (f : Tree) → (beq (is_ex q) sign ≡ true → is_in nat_eq x names ≡ true) → goes_on sign names (quantified q x f) ≡ false
quantified_begun true names Exists x f h = ap (λ t. not t) (h refl)
quantified_begun false names Exists x f h = refl
quantified_begun true names ForAll x f h = refl
quantified_begun false names ForAll x f h = ap (λ t. not t) (h refl)

pub ruleset begins = (constant_begun, joined_begun)

-- the sign of the cases
pub constant_sign : (b : Bool) → case_sign (constant_tree b) ≡ true
constant_sign true = refl
constant_sign false = refl

pub joined_sign : (j : Junction) (fs : Trees) → case_sign (joined j fs) ≡ true
joined_sign Conjunction fs = refl
joined_sign Disjunction fs = refl

pub quantified_sign : (q : Quantifier) (x : ℕ) (f : Tree) → case_sign (quantified q x f) ≡ is_ex q
quantified_sign Exists x f = refl
quantified_sign ForAll x f = refl

pub ruleset signs = (constant_sign, joined_sign, quantified_sign)
