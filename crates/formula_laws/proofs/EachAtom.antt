-- What holds of each atom, and of each quantified name.
use Rattle.logic_meaning.specs.Formula.{Formula, Formulas, Yes, No, One, Not, And, Or, Impl, Repl, Equiv, Ex, All, none, also}
use Rattle.logic_meaning.specs.Every.{Every, EveryOf, EveryBound, EveryBoundOf}

module _ {A N : Type 0} (P Q : A → Type 0) (gives : (a : A) → P a → Q a) where
  mutual
    pub every_map : (f : Formula A N) → Every P f → Every Q f
    every_map Yes h = h
    every_map No h = h
    every_map (One a) h = gives a h
    every_map (Not f) h = every_map f h
    every_map (And fs) h = every_map_of fs h
    every_map (Or fs) h = every_map_of fs h
    every_map (Impl f g) h = (every_map f h.0, every_map g h.1)
    every_map (Repl f g) h = (every_map f h.0, every_map g h.1)
    every_map (Equiv f g) h = (every_map f h.0, every_map g h.1)
    every_map (Ex x f) h = every_map f h
    every_map (All x f) h = every_map f h

    pub every_map_of : (fs : Formulas A N) → EveryOf P fs → EveryOf Q fs
    every_map_of none h = h
    every_map_of (also f fs) h = (every_map f h.0, every_map_of fs h.1)

module _ {A N : Type 0} (P : A → Type 0) (all : (a : A) → P a) where
  mutual
    pub every_all : (f : Formula A N) → Every P f
    every_all Yes = tt
    every_all No = tt
    every_all (One a) = all a
    every_all (Not f) = every_all f
    every_all (And fs) = every_all_of fs
    every_all (Or fs) = every_all_of fs
    every_all (Impl f g) = (every_all f, every_all g)
    every_all (Repl f g) = (every_all f, every_all g)
    every_all (Equiv f g) = (every_all f, every_all g)
    every_all (Ex x f) = every_all f
    every_all (All x f) = every_all f

    every_all_of : (fs : Formulas A N) → EveryOf P fs
    every_all_of none = tt
    every_all_of (also f fs) = (every_all f, every_all_of fs)

module _ {A N : Type 0} (K : N → Type 0) (all : (x : N) → K x) where
  mutual
    pub every_bound : (f : Formula A N) → EveryBound K f
    every_bound Yes = tt
    every_bound No = tt
    every_bound (One a) = tt
    every_bound (Not f) = every_bound f
    every_bound (And fs) = every_bound_of fs
    every_bound (Or fs) = every_bound_of fs
    every_bound (Impl f g) = (every_bound f, every_bound g)
    every_bound (Repl f g) = (every_bound f, every_bound g)
    every_bound (Equiv f g) = (every_bound f, every_bound g)
    every_bound (Ex x f) = (all x, every_bound f)
    every_bound (All x f) = (all x, every_bound f)

    pub every_bound_of : (fs : Formulas A N) → EveryBoundOf K fs
    every_bound_of none = tt
    every_bound_of (also f fs) = (every_bound f, every_bound_of fs)

-- What holds eventually, as of all small enough or all large enough numbers: two such facts hold together.
module _ {X : Type 0} (Eventually : (X → Type 0) → Type 0) (whole : Eventually (λ x. Unit {0}))
    (both : (Q R : X → Type 0) → Eventually Q → Eventually R → Eventually (λ x. Q x × R x)) where
  mutual
    pub every_eventually : {A N : Type 0} (C : X → A → Type 0) (f : Formula A N) → Every (λ a. Eventually (λ x. C x a)) f → Eventually (λ x. Every (C x) f)
    every_eventually C Yes h = whole
    every_eventually C No h = whole
    every_eventually C (One a) h = h
    every_eventually C (Not f) h = every_eventually C f h
    every_eventually C (And fs) h = every_of_eventually C fs h
    every_eventually C (Or fs) h = every_of_eventually C fs h
    every_eventually C (Impl f g) h = both (λ x. Every (C x) f) (λ x. Every (C x) g) (every_eventually C f h.0) (every_eventually C g h.1)
    every_eventually C (Repl f g) h = both (λ x. Every (C x) f) (λ x. Every (C x) g) (every_eventually C f h.0) (every_eventually C g h.1)
    every_eventually C (Equiv f g) h = both (λ x. Every (C x) f) (λ x. Every (C x) g) (every_eventually C f h.0) (every_eventually C g h.1)
    every_eventually C (Ex y f) h = every_eventually C f h
    every_eventually C (All y f) h = every_eventually C f h

    every_of_eventually : {A N : Type 0} (C : X → A → Type 0) (fs : Formulas A N) → EveryOf (λ a. Eventually (λ x. C x a)) fs → Eventually (λ x. EveryOf (C x) fs)
    every_of_eventually C none h = whole
    every_of_eventually C (also f fs) h = both (λ x. Every (C x) f) (λ x. EveryOf (C x) fs) (every_eventually C f h.0) (every_of_eventually C fs h.1)

module _ {A N : Type 0} (P Q R : A → Type 0) (gives : (a : A) → P a → Q a → R a) where
  mutual
    -- two facts on each atom give a third
    pub every_both : (f : Formula A N) → Every P f → Every Q f → Every R f
    every_both Yes h k = h
    every_both No h k = h
    every_both (One a) h k = gives a h k
    every_both (Not f) h k = every_both f h k
    every_both (And fs) h k = every_both_of fs h k
    every_both (Or fs) h k = every_both_of fs h k
    every_both (Impl f g) h k = (every_both f h.0 k.0, every_both g h.1 k.1)
    every_both (Repl f g) h k = (every_both f h.0 k.0, every_both g h.1 k.1)
    every_both (Equiv f g) h k = (every_both f h.0 k.0, every_both g h.1 k.1)
    every_both (Ex x f) h k = every_both f h k
    every_both (All x f) h k = every_both f h k

    pub every_both_of : (fs : Formulas A N) → EveryOf P fs → EveryOf Q fs → EveryOf R fs
    every_both_of none h k = h
    every_both_of (also f fs) h k = (every_both f h.0 k.0, every_both_of fs h.1 k.1)
