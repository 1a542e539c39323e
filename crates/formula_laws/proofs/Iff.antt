-- What holds exactly where something else does.
use Rattle.std.proofs.Common.{◌⊎◌, inl, inr, ⊎_elim, ◌↔◌}

pub both_ways : {P Q R : Type 0} → P ↔ Q → Q ↔ R → P ↔ R
both_ways f g = (λ p. g.0 (f.0 p), λ r. f.1 (g.1 r))

pub turn_round : {P Q : Type 0} → P ↔ Q → Q ↔ P
turn_round f = (f.1, f.0)

pub not_iff : {P Q : Type 0} → P ↔ Q → ¬ P ↔ ¬ Q
not_iff e = (λ n y. n (e.1 y), λ n x. n (e.0 x))

pub pair_iff : {P Q R S : Type 0} → P ↔ Q → R ↔ S → (P × R) ↔ (Q × S)
pair_iff i j = (λ t. (i.0 t.0, j.0 t.1), λ t. (i.1 t.0, j.1 t.1))

pub either_iff : {P Q R S : Type 0} → P ↔ Q → R ↔ S → (P ⊎ R) ↔ (Q ⊎ S)
either_iff i j = (⊎_elim (λ t. inl (i.0 t)) (λ t. inr (j.0 t)), ⊎_elim (λ t. inl (i.1 t)) (λ t. inr (j.1 t)))
