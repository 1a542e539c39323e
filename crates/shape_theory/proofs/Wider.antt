-- A formula that is Reduced by the functions of atoms is Reduced by what these mean.
use Rattle.std.proofs.Common.{ℕ, Bool, true, false, List, [], ◌∷◌}
use Rattle.std.specs.Prelude.{if◌then◌else◌}
use Rattle.logic_meaning.specs.Formula.{Formula, Formulas, Yes, No, One, Not, And, Or, Impl, Repl, Equiv, Ex, All, none, also}
use Rattle.logic_meaning.specs.Some.{EachOf}
use Rattle.logic_meaning.specs.declared.junction.Junction.{Junction}
use Rattle.logic_meaning.specs.declared.junction.Junction.TheVariants.{Conjunction, Disjunction}
use Rattle.logic_meaning.specs.AtomKit.{without, tells, beside}
use Rattle.logic_meaning.specs.Reduced.{atom_first, atoms_of, under, AreKept, IsUndecided, ReducedInside, MembersReduced, Reduced}
use Rattle.shape_theory.specs.Orderly.{IsOrderly, AreOrderly}

module _ {A : Type 0} (P : A → Type 0) (Keeps More : Junction → A → A → Type 0) (Undecided Open : A → A → Type 0) (opposite : A → A) (contains : A → ℕ → Bool) (Mentions : A → ℕ → Type 0)
    (stays : (a : A) → P a → P (opposite a))
    (keep : (j : Junction) (a b : A) → P a → P b → Keeps j a b → More j a b)
    (undecide : (k a : A) → P k → P a → Undecided k a → Open k a) where
  all_keep : (j : Junction) (a : A) (us : List A) → P a → EachOf P us → EachOf (Keeps j a) us → EachOf (More j a) us
  all_keep j a [] x h k = tt
  all_keep j a (u ∷ us) x h k = (keep j a u x h.0 k.0, all_keep j a us x h.1 k.1)

  are_kept : (j : Junction) (us : List A) → EachOf P us → AreKept Keeps Undecided opposite contains Mentions j us → AreKept More Open opposite contains Mentions j us
  are_kept j [] h k = tt
  are_kept j (u ∷ us) h k = (all_keep j u us h.0 h.1 k.0, are_kept j us h.1 k.1)

  is_open : (ks : List A) (a : A) → EachOf P ks → P a → IsUndecided Keeps Undecided opposite contains Mentions ks a → IsUndecided More Open opposite contains Mentions ks a
  is_open [] a h x k = tt
  is_open (u ∷ us) a h x k = (undecide u a h.0 x k.0, is_open us a h.1 x k.1)

  first_holds : (f : Formula A ℕ) (us : List A) → IsOrderly P f → EachOf P us → EachOf P (atom_first f us)
  first_holds (One a) us h k = (h, k)
  first_holds f us h k = k

  atoms_hold : (fs : Formulas A ℕ) → AreOrderly P fs → EachOf P (atoms_of fs)
  atoms_hold none h = tt
  atoms_hold (also f fs) h = first_holds f (atoms_of fs) h.0 (atoms_hold fs h.1)

  tells_hold : (j : Junction) (a : A) → P a → P (tells opposite j a)
  tells_hold Conjunction a h = h
  tells_hold Disjunction a h = stays a h

  beside_hold : (j : Junction) (us ks : List A) → EachOf P us → EachOf P ks → EachOf P (beside opposite j us ks)
  beside_hold j [] ks h k = k
  beside_hold j (a ∷ us) ks h k = (tells_hold j a h.0, beside_hold j us ks h.1 k)

  without_hold : (x : ℕ) (ks : List A) → EachOf P ks → EachOf P (without contains x ks)
  without_hold x [] h = tt
  without_hold x (k ∷ ks) h = split (contains k x) (without_hold x ks h.1)
    where
      split : (b : Bool) → EachOf P (without contains x ks) → EachOf P (if b then without contains x ks else k ∷ without contains x ks)
      split true i = i
      split false i = (h.0, i)

  under_hold : (f : Formula A ℕ) (ks ls : List A) → EachOf P ks → EachOf P ls → EachOf P (under f ks ls)
  under_hold (One a) ks ls h k = h
  under_hold f ks ls h k = k

  mutual
    wider_inside : (f : Formula A ℕ) (ks : List A) → IsOrderly P f → EachOf P ks → ReducedInside Keeps Undecided opposite contains Mentions f ks → ReducedInside More Open opposite contains Mentions f ks
    wider_inside Yes ks h k r = r
    wider_inside No ks h k r = r
    wider_inside (One a) ks h k r = is_open ks a k h r
    wider_inside (Not f) ks h k r = absurd h
    wider_inside (And fs) ks h k r =
        let i = atoms_hold fs h.1 in
        (r.0, r.1, are_kept Conjunction (atoms_of fs) i r.2, wider_members fs Conjunction ks (beside opposite Conjunction (atoms_of fs) ks) h.1 k (beside_hold Conjunction (atoms_of fs) ks i k) r.3)
    wider_inside (Or fs) ks h k r =
        let i = atoms_hold fs h.1 in
        (r.0, r.1, are_kept Disjunction (atoms_of fs) i r.2, wider_members fs Disjunction ks (beside opposite Disjunction (atoms_of fs) ks) h.1 k (beside_hold Disjunction (atoms_of fs) ks i k) r.3)
    wider_inside (Impl f g) ks h k r = absurd h
    wider_inside (Repl f g) ks h k r = absurd h
    wider_inside (Equiv f g) ks h k r = absurd h
    wider_inside (Ex x f) ks h k r = (r.0, wider_inside f (without contains x ks) h (without_hold x ks k) r.1)
    wider_inside (All x f) ks h k r = (r.0, wider_inside f (without contains x ks) h (without_hold x ks k) r.1)

    wider_members : (fs : Formulas A ℕ) (j : Junction) (ks ls : List A) → AreOrderly P fs → EachOf P ks → EachOf P ls → MembersReduced Keeps Undecided opposite contains Mentions fs j ks ls → MembersReduced More Open opposite contains Mentions fs j ks ls
    wider_members none j ks ls h k l r = tt
    wider_members (also f fs) j ks ls h k l r = (r.0, wider_inside f (under f ks ls) h.0 (under_hold f ks ls k l) r.1, wider_members fs j ks ls h.1 k l r.2)

  pub wider : (f : Formula A ℕ) (ks : List A) → IsOrderly P f → EachOf P ks → Reduced Keeps Undecided opposite contains Mentions f ks → Reduced More Open opposite contains Mentions f ks
  wider Yes ks h k r = tt
  wider No ks h k r = tt
  wider f ks h k r = wider_inside f ks h k r
