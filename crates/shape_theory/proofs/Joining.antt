-- The laws of joining by and, and by or.
use Rattle.std.proofs.Common.{inl, inr, ⊎_elim, ◌↔◌}
use Rattle.logic_meaning.specs.declared.junction.Junction.{Junction}
use Rattle.logic_meaning.specs.declared.junction.Junction.TheVariants.{Conjunction, Disjunction}
use Rattle.logic_meaning.specs.Merging.{Joined}
use Rattle.formula_laws.proofs.Iff.{both_ways, turn_round, pair_iff, either_iff}

-- what a list without members is, and a settled list
abbrev pub Nothing : Junction → Type 0
Nothing Conjunction = Unit {0}
Nothing Disjunction = ⊥

abbrev pub Settling : Junction → Type 0
Settling Conjunction = ⊥
Settling Disjunction = Unit {0}

pub same : {P : Type 0} → P ↔ P
same = (λ p. p, λ p. p)

pub along_both : (j : Junction) {P Q R S : Type 0} → P ↔ R → Q ↔ S → Joined j P Q ↔ Joined j R S
along_both Conjunction p q = pair_iff p q
along_both Disjunction p q = either_iff p q

pub along_right : (j : Junction) (P : Type 0) {Q S : Type 0} → Q ↔ S → Joined j P Q ↔ Joined j P S
along_right j P q = along_both j same q

pub along_left : (j : Junction) {P R : Type 0} (Q : Type 0) → P ↔ R → Joined j P Q ↔ Joined j R Q
along_left j Q p = along_both j p same

pub group : (j : Junction) (P Q R : Type 0) → Joined j (Joined j P Q) R ↔ Joined j P (Joined j Q R)
group Conjunction P Q R = (λ t. (t.0.0, (t.0.1, t.1)), λ t. ((t.0, t.1.0), t.1.1))
group Disjunction P Q R = (
  ⊎_elim (⊎_elim (λ p. inl p) (λ q. inr (inl q))) (λ r. inr (inr r)),
  ⊎_elim (λ p. inl (inl p)) (⊎_elim (λ q. inl (inr q)) (λ r. inr r)),
)

pub swap : (j : Junction) (P Q : Type 0) → Joined j P Q ↔ Joined j Q P
swap Conjunction P Q = (λ t. (t.1, t.0), λ t. (t.1, t.0))
swap Disjunction P Q = (⊎_elim (λ p. inr p) (λ q. inl q), ⊎_elim (λ p. inr p) (λ q. inl q))

-- the second of three comes first
pub exchange : (j : Junction) (P Q R : Type 0) → Joined j P (Joined j Q R) ↔ Joined j Q (Joined j P R)
exchange j P Q R = both_ways (turn_round (group j P Q R)) (both_ways (along_left j R (swap j P Q)) (group j Q P R))

pub again : (j : Junction) (P Q : Type 0) → Joined j P Q ↔ Joined j P (Joined j P Q)
again Conjunction P Q = (λ t. (t.0, t), λ t. t.1)
again Disjunction P Q = (λ t. inr t, ⊎_elim (λ p. inl p) (λ t. t))

pub nothing_more : (j : Junction) (P Q : Type 0) → P ↔ Nothing j → Q ↔ Joined j P Q
nothing_more Conjunction P Q e = (λ q. (e.1 tt, q), λ t. t.1)
nothing_more Disjunction P Q e = (λ q. inr q, ⊎_elim (λ p. absurd (e.0 p)) (λ q. q))

pub settled_left : (j : Junction) (P Q : Type 0) → P ↔ Settling j → Settling j ↔ Joined j P Q
settled_left Conjunction P Q e = (λ t. absurd t, λ t. e.0 t.0)
settled_left Disjunction P Q e = (λ t. inl (e.1 tt), λ t. tt)

pub settled_right : (j : Junction) (P Q : Type 0) → Q ↔ Settling j → Settling j ↔ Joined j P Q
settled_right j P Q e = both_ways (settled_left j Q P e) (swap j Q P)
