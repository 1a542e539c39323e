-- Nodes and atoms as measures.
use Rattle.std.proofs.Common.{◌≡◌, ℕ, Bool, true, false, refl, arith}
use Rattle.logic_meaning.specs.Formula.{Formula, Formulas, Yes, No, One, Not, And, Or, Impl, Repl, Equiv, Ex, All, none, also}
use Rattle.logic_meaning.specs.declared.junction.Junction.{Junction}
use Rattle.logic_meaning.specs.declared.junction.Junction.TheVariants.{Conjunction, Disjunction}
use Rattle.logic_meaning.specs.Sizes.{nodes, all_nodes}
use Rattle.shape_theory.specs.Kit.{Kit}
use Rattle.shape_theory.specs.Pass.{constant}
use Rattle.shape_theory.specs.Orderly.{IsOrderly, AreOrderly}
use Rattle.logic_meaning.specs.Measure.{as_member, size, members_size, more_size, atom_measure}
use Rattle.shape_theory.specs.NodeMeasure.{node_measure}
use Rattle.shape_theory.proofs.Sizes.{MeasureLaws}

module _ {A : Type 0} where
  pub member_nodes : (f : Formula A ℕ) (n : ℕ) → as_member node_measure f n ≡ n
  member_nodes Yes n = refl
  member_nodes No n = refl
  member_nodes (One a) n = refl
  member_nodes (Not f) n = refl
  member_nodes (And fs) n = omega arith
  member_nodes (Or fs) n = omega arith
  member_nodes (Impl f g) n = refl
  member_nodes (Repl f g) n = refl
  member_nodes (Equiv f g) n = refl
  member_nodes (Ex x f) n = refl
  member_nodes (All x f) n = refl

  module _ (P : A → Type 0) where
    mutual
      pub nodes_size : (f : Formula A ℕ) → IsOrderly P f → size node_measure f ≡ nodes f
      nodes_size Yes h = refl
      nodes_size No h = refl
      nodes_size (One a) h = refl
      nodes_size (Not f) h = absurd h
      nodes_size (And fs) h = let i = members_nodes fs Conjunction h.1 in omega arith
      nodes_size (Or fs) h = let i = members_nodes fs Disjunction h.1 in omega arith
      nodes_size (Impl f g) h = absurd h
      nodes_size (Repl f g) h = absurd h
      nodes_size (Equiv f g) h = absurd h
      nodes_size (Ex x f) h = let i = nodes_size f h in omega arith
      nodes_size (All x f) h = let i = nodes_size f h in omega arith

      members_nodes : (fs : Formulas A ℕ) (j : Junction) → AreOrderly P fs → members_size node_measure fs j ≡ all_nodes fs
      members_nodes none j h = refl
      members_nodes (also f fs) j h = let i = nodes_size f h.0 in let k = more_nodes fs j h.1 in let l = member_nodes f (size node_measure f) in omega arith

      more_nodes : (fs : Formulas A ℕ) (j : Junction) → AreOrderly P fs → more_size node_measure fs j ≡ all_nodes fs
      more_nodes none j h = refl
      more_nodes (also f fs) j h = let i = nodes_size f h.0 in let k = more_nodes fs j h.1 in let l = member_nodes f (size node_measure f) in omega arith

  module _ (kit : Kit A) (P : A → Type 0) where
    constant_node : (b : Bool) → size {A = A} node_measure (constant b) ≡ 1
    constant_node true = refl
    constant_node false = refl

    pub node_laws : MeasureLaws kit P node_measure 1
    node_laws = record {
      low_yes = omega arith;
      low_no = omega arith;
      constant_atom = λ b a h. let k = constant_node b in omega arith;
      constant_list = λ b j. let k = constant_node b in omega arith;
      into = λ j a b d h k e. omega arith;
      around = λ q x. omega arith;
    }

    constant_none : (b : Bool) → size {A = A} atom_measure (constant b) ≡ 0
    constant_none true = refl
    constant_none false = refl

    pub atom_laws : MeasureLaws kit P atom_measure 0
    atom_laws = record {
      low_yes = omega arith;
      low_no = omega arith;
      constant_atom = λ b a h. let k = constant_none b in omega arith;
      constant_list = λ b j. let k = constant_none b in omega arith;
      into = λ j a b d h k e. omega arith;
      around = λ q x. omega arith;
    }
