-- The shape and the atoms of a formula whose atoms are replaced.
use Rattle.std.proofs.Common.{◌≡◌, suc, ◌+◌, ap, ap₂, refl}
use Rattle.logic_meaning.specs.Sizes.{nodes, all_nodes}
use Rattle.logic_meaning.specs.Formula.{Formula, Formulas, Yes, No, One, Not, And, Or, Impl, Repl, Equiv, Ex, All, none, also}
use Rattle.logic_meaning.specs.Every.{Every, EveryOf}
use Rattle.logic_meaning.specs.Plain.{IsPlain, ArePlain}
use Rattle.logic_meaning.specs.Replaced.{replaced, all_replaced}

module _ {A B N M : Type 0} (by : A → Formula B M) (rename : N → M) where
  mutual
    pub plain_stays : (f : Formula A N) → IsPlain f → Every (λ a. IsPlain (by a)) f → IsPlain (replaced by rename f)
    plain_stays Yes s h = s
    plain_stays No s h = s
    plain_stays (One a) s h = h
    plain_stays (Not f) s h = absurd s
    plain_stays (And fs) s h = all_plain_stay fs s h
    plain_stays (Or fs) s h = all_plain_stay fs s h
    plain_stays (Impl f g) s h = absurd s
    plain_stays (Repl f g) s h = absurd s
    plain_stays (Equiv f g) s h = absurd s
    plain_stays (Ex x f) s h = absurd s
    plain_stays (All x f) s h = absurd s

    all_plain_stay : (fs : Formulas A N) → ArePlain fs → EveryOf (λ a. IsPlain (by a)) fs → ArePlain (all_replaced by rename fs)
    all_plain_stay none s h = s
    all_plain_stay (also f fs) s h = (plain_stays f s.0 h.0, all_plain_stay fs s.1 h.1)

  mutual
    pub every_replaced : (P : B → Type 0) (f : Formula A N) → Every (λ a. Every P (by a)) f → Every P (replaced by rename f)
    every_replaced P Yes h = h
    every_replaced P No h = h
    every_replaced P (One a) h = h
    every_replaced P (Not f) h = every_replaced P f h
    every_replaced P (And fs) h = every_replaced_of P fs h
    every_replaced P (Or fs) h = every_replaced_of P fs h
    every_replaced P (Impl f g) h = (every_replaced P f h.0, every_replaced P g h.1)
    every_replaced P (Repl f g) h = (every_replaced P f h.0, every_replaced P g h.1)
    every_replaced P (Equiv f g) h = (every_replaced P f h.0, every_replaced P g h.1)
    every_replaced P (Ex x f) h = every_replaced P f h
    every_replaced P (All x f) h = every_replaced P f h

    every_replaced_of : (P : B → Type 0) (fs : Formulas A N) → EveryOf (λ a. Every P (by a)) fs → EveryOf P (all_replaced by rename fs)
    every_replaced_of P none h = h
    every_replaced_of P (also f fs) h = (every_replaced P f h.0, every_replaced_of P fs h.1)

  mutual
    -- a node for each atom keeps the number of nodes
    pub nodes_replaced : (f : Formula A N) → Every (λ a. nodes (by a) ≡ 1) f → nodes (replaced by rename f) ≡ nodes f
    nodes_replaced Yes h = refl
    nodes_replaced No h = refl
    nodes_replaced (One a) h = h
    nodes_replaced (Not f) h = ap suc (nodes_replaced f h)
    nodes_replaced (And fs) h = ap suc (all_nodes_replaced fs h)
    nodes_replaced (Or fs) h = ap suc (all_nodes_replaced fs h)
    nodes_replaced (Impl f g) h = ap₂ (λ m n. suc (m + n)) (nodes_replaced f h.0) (nodes_replaced g h.1)
    nodes_replaced (Repl f g) h = ap₂ (λ m n. suc (m + n)) (nodes_replaced f h.0) (nodes_replaced g h.1)
    nodes_replaced (Equiv f g) h = ap₂ (λ m n. suc (m + n)) (nodes_replaced f h.0) (nodes_replaced g h.1)
    nodes_replaced (Ex x f) h = ap suc (nodes_replaced f h)
    nodes_replaced (All x f) h = ap suc (nodes_replaced f h)

    all_nodes_replaced : (fs : Formulas A N) → EveryOf (λ a. nodes (by a) ≡ 1) fs → all_nodes (all_replaced by rename fs) ≡ all_nodes fs
    all_nodes_replaced none h = refl
    all_nodes_replaced (also f fs) h = ap₂ (λ m n. m + n) (nodes_replaced f h.0) (all_nodes_replaced fs h.1)
