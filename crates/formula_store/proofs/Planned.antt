-- What is planned for the form of a formula makes it, shape by shape.
use Rattle.std.proofs.Common.{◌≡◌, Bool, true, false, not, List, [], ◌∷◌, map, Some, slice_get, refl, sym, ap, ◌∙◌, subst}
use Rattle.std.specs.Prelude.{if◌then◌else◌}
use Rattle.std.specs.List.{AllByRecursion}
use Rattle.logic_meaning.specs.Formula.{Yes, No, One, Not, And, Or, Impl, Repl, Equiv, Ex, All, also}
use Rattle.logic_meaning.specs.declared.junction.Junction.TheVariants.{Conjunction, Disjunction}
use Rattle.logic_meaning.specs.declared.quantifier.Quantifier.TheVariants.{Exists, ForAll}
use Rattle.logic_meaning.specs.TurnedJunction.{turned_junction}
use Rattle.logic_meaning.specs.Plain.{turned_quantifier}
use Rattle.logic_meaning.specs.NegationNormal.{normal_forms, normal_forms_of_not, both}
use Rattle.formula_tree.specs.FromNormalAtoms.{Atom, atom_of, IsWellFormed}
use Rattle.logic_meaning.specs.NormalForm.{negated_normal}
use Rattle.logic_meaning.specs.declared.form.VarId.{VarId}
use Rattle.formula_tree.specs.declared.shape.Shape.{Shape}
use Rattle.formula_tree.specs.declared.shape.Shape.TheVariants as shape
use Rattle.formula_tree.specs.Trees.{members}
use Rattle.formula_tree.specs.Shapes.{tree_over, AllIds}
use Rattle.formula_store.specs.declared.id.FormulaId.{FormulaId}
use Rattle.formula_store.specs.Nodes.{tree, IsId}
use Rattle.formula_store.specs.declared.plan.Plan.{Plan}
use Rattle.formula_store.specs.declared.plan.Plan.TheVariants.{Ready, Make, Cases}
use Rattle.formula_store.specs.Forms.{form, form_at, Table, Known}
use Rattle.formula_store.specs.Plans.{Plans, joined_shape, quantified_shape}

-- the node's shape is s, and its members have their forms in the table
module _ (nodes : List (Shape FormulaId)) (table : Table) (id : FormulaId) (n s : Shape FormulaId) (here : slice_get nodes id.number ≡ Some n) (t : tree nodes id ≡ tree_over (tree nodes) n) (is : n ≡ s) where
  pub arm_known : ((m : Shape FormulaId) → slice_get nodes id.number ≡ Some m → AllIds (Known nodes table) m) → AllIds (Known nodes table) s
  arm_known known = known s (here ∙ ap Some is)

  pub arm_plans : (b : Bool) (plan : Plan) → Plans nodes (form b (tree_over (tree nodes) s)) plan → Plans nodes (form b (tree nodes id)) plan
  arm_plans b plan h = subst (λ f. Plans nodes (form b f) plan) (sym (t ∙ ap (tree_over (tree nodes)) is)) h

  -- a formula that is its own form
  pub arm_same : tree_over (tree nodes) s ≡ form false (tree_over (tree nodes) s) → tree nodes id ≡ form false (tree nodes id)
  arm_same h = subst (λ f. f ≡ form false f) (sym (t ∙ ap (tree_over (tree nodes)) is)) h

module _ (nodes : List (Shape FormulaId)) (table : Table) where
  all_ids : (b : Bool) (ids : List FormulaId) → AllByRecursion (Known nodes table) ids → AllByRecursion (IsId nodes) (map (form_at table b) ids)
  all_ids b [] h = tt
  all_ids b (x ∷ ids) h = ((h.0.made b).is, all_ids b ids h.1)

  forms_of : (ids : List FormulaId) → AllByRecursion (Known nodes table) ids → members (map (tree nodes) (map (form_at table false) ids)) ≡ normal_forms negated_normal (members (map (tree nodes) ids))
  forms_of [] h = refl
  forms_of (x ∷ ids) h = λ i. also ((h.0.made false).same i) (forms_of ids h.1 i)

  forms_of_not : (ids : List FormulaId) → AllByRecursion (Known nodes table) ids → members (map (tree nodes) (map (form_at table true) ids)) ≡ normal_forms_of_not negated_normal (members (map (tree nodes) ids))
  forms_of_not [] h = refl
  forms_of_not (x ∷ ids) h = λ i. also ((h.0.made true).same i) (forms_of_not ids h.1 i)

  pub plans_yes : (b : Bool) → Plans nodes (form b Yes) (Make (if not b then shape.True else shape.False))
  plans_yes false = record { ids = tt; proper = tt; same = refl }
  plans_yes true = record { ids = tt; proper = tt; same = refl }

  pub plans_no : (b : Bool) → Plans nodes (form b No) (Make (if b then shape.True else shape.False))
  plans_no false = record { ids = tt; proper = tt; same = refl }
  plans_no true = record { ids = tt; proper = tt; same = refl }

  pub plans_one : (b : Bool) (a c : Atom) → atom_of c ≡ (if b then negated_normal (atom_of a) else atom_of a) → IsWellFormed c → Plans nodes (form b (One (atom_of a))) (Make (shape.One c))
  plans_one false a c e w = record { ids = tt; proper = w; same = ap One e }
  plans_one true a c e w = record { ids = tt; proper = w; same = ap One e }

  pub plans_and : (b : Bool) (ids : List FormulaId) → AllByRecursion (Known nodes table) ids
      → Plans nodes (form b (And (members (map (tree nodes) ids)))) (Make (joined_shape (turned_junction b Conjunction) (map (form_at table b) ids)))
  plans_and false ids h = record { ids = all_ids false ids h; proper = tt; same = ap And (forms_of ids h) }
  plans_and true ids h = record { ids = all_ids true ids h; proper = tt; same = ap Or (forms_of_not ids h) }

  pub plans_or : (b : Bool) (ids : List FormulaId) → AllByRecursion (Known nodes table) ids
      → Plans nodes (form b (Or (members (map (tree nodes) ids)))) (Make (joined_shape (turned_junction b Disjunction) (map (form_at table b) ids)))
  plans_or false ids h = record { ids = all_ids false ids h; proper = tt; same = ap Or (forms_of ids h) }
  plans_or true ids h = record { ids = all_ids true ids h; proper = tt; same = ap And (forms_of_not ids h) }

  pub plans_not : (b : Bool) (f : FormulaId) → Known nodes table f → Plans nodes (form b (Not (tree nodes f))) (Ready (form_at table (not b) f))
  plans_not false f h = record { ids = (h.made true).is; proper = tt; same = (h.made true).same }
  plans_not true f h = record { ids = (h.made false).is; proper = tt; same = (h.made false).same }

  pub plans_impl : (b : Bool) (f g : FormulaId) → Known nodes table f → Known nodes table g
      → Plans nodes (form b (Impl (tree nodes f) (tree nodes g)))
      (Make (joined_shape (turned_junction b Disjunction) (form_at table (not b) f ∷ form_at table b g ∷ [])))
  plans_impl false f g h k = record { ids = ((h.made true).is, ((k.made false).is, tt)); proper = tt; same = λ i. Or (both ((h.made true).same i) ((k.made false).same i)) }
  plans_impl true f g h k = record { ids = ((h.made false).is, ((k.made true).is, tt)); proper = tt; same = λ i. And (both ((h.made false).same i) ((k.made true).same i)) }

  pub plans_repl : (b : Bool) (f g : FormulaId) → Known nodes table f → Known nodes table g
      → Plans nodes (form b (Repl (tree nodes f) (tree nodes g)))
      (Make (joined_shape (turned_junction b Disjunction) (form_at table b f ∷ form_at table (not b) g ∷ [])))
  plans_repl false f g h k = record { ids = ((h.made false).is, ((k.made true).is, tt)); proper = tt; same = λ i. Or (both ((h.made false).same i) ((k.made true).same i)) }
  plans_repl true f g h k = record { ids = ((h.made true).is, ((k.made false).is, tt)); proper = tt; same = λ i. And (both ((h.made true).same i) ((k.made false).same i)) }

  pub plans_equiv : (b : Bool) (f g : FormulaId) → Known nodes table f → Known nodes table g
      → Plans nodes (form b (Equiv (tree nodes f) (tree nodes g))) (Cases (form_at table false f) (form_at table b g) (form_at table true f) (form_at table (not b) g))
  plans_equiv false f g h k = record {
    ids = ((h.made false).is, (k.made false).is, (h.made true).is, (k.made true).is);
    proper = tt;
    same = λ i. Or (both (And (both ((h.made false).same i) ((k.made false).same i))) (And (both ((h.made true).same i) ((k.made true).same i))));
  }
  plans_equiv true f g h k = record {
    ids = ((h.made false).is, (k.made true).is, (h.made true).is, (k.made false).is);
    proper = tt;
    same = λ i. Or (both (And (both ((h.made false).same i) ((k.made true).same i))) (And (both ((h.made true).same i) ((k.made false).same i))));
  }

  pub plans_ex : (b : Bool) (x : VarId) (f : FormulaId) → Known nodes table f
      → Plans nodes (form b (Ex x.number (tree nodes f))) (Make (quantified_shape (turned_quantifier b Exists) x (form_at table b f)))
  plans_ex false x f h = record { ids = (h.made false).is; proper = tt; same = ap (Ex x.number) (h.made false).same }
  plans_ex true x f h = record { ids = (h.made true).is; proper = tt; same = ap (All x.number) (h.made true).same }

  pub plans_all : (b : Bool) (x : VarId) (f : FormulaId) → Known nodes table f
      → Plans nodes (form b (All x.number (tree nodes f))) (Make (quantified_shape (turned_quantifier b ForAll) x (form_at table b f)))
  plans_all false x f h = record { ids = (h.made false).is; proper = tt; same = ap (All x.number) (h.made false).same }
  plans_all true x f h = record { ids = (h.made true).is; proper = tt; same = ap (Ex x.number) (h.made true).same }

  -- ---- members that are their own forms

  pub and_same : (ids : List FormulaId) → AllByRecursion (Known nodes table) ids → map (form_at table false) ids ≡ ids → And (members (map (tree nodes) ids)) ≡ form false (And (members (map (tree nodes) ids)))
  and_same ids h e = ap (λ (is : List FormulaId). And (members (map (tree nodes) is))) (sym e) ∙ ap And (forms_of ids h)

  pub or_same : (ids : List FormulaId) → AllByRecursion (Known nodes table) ids → map (form_at table false) ids ≡ ids → Or (members (map (tree nodes) ids)) ≡ form false (Or (members (map (tree nodes) ids)))
  or_same ids h e = ap (λ (is : List FormulaId). Or (members (map (tree nodes) is))) (sym e) ∙ ap Or (forms_of ids h)

  pub ex_same : (x : VarId) (f : FormulaId) → Known nodes table f → form_at table false f ≡ f → Ex x.number (tree nodes f) ≡ form false (Ex x.number (tree nodes f))
  ex_same x f h e = ap (Ex x.number) (ap (tree nodes) (sym e) ∙ (h.made false).same)

  pub all_same : (x : VarId) (f : FormulaId) → Known nodes table f → form_at table false f ≡ f → All x.number (tree nodes f) ≡ form false (All x.number (tree nodes f))
  all_same x f h e = ap (All x.number) (ap (tree nodes) (sym e) ∙ (h.made false).same)
