use Rattle.std.proofs.Common.{◌≡◌, ◌∙◌, sym, ap, subst, rules}
use Rattle.std.specs.List.{AllByRecursion}
use Rattle.indexmap.specs.IndexSet.{insert_key}
use Rattle.session_state.specs.Trees.{standing_trees, IsFormed, IsFront}
use Rattle.session_state.proofs.Growing.{eq, inserted, inserted_front, same_front}
use Rattle.session_state.proofs.standing.Standing.put.Goals as goal
use Rattle.session_state.proofs.standing.Standing.put.Goals.{in-Ok, in-Err}

pub returns-clause-grown : goal.returns-clause-grown
returns-clause-grown c =
    elim c.match-insert.branch [
      | in-Ok w ↦ let keys : c.insert.new.self.keys ≡ insert_key eq c.args.self.now c.args.assumption = search rules in
          let all : AllByRecursion IsFormed c.args.self.now = search rules in
          let grown = ap standing_trees keys ∙ inserted c.args.self.now c.args.assumption all c.requires in
          search (rules, grown)
      | in-Err w ↦ search rules
    ]

pub returns-clause-front : goal.returns-clause-front
returns-clause-front c =
    elim c.match-insert.branch [
      | in-Ok w ↦ let keys : c.insert.new.self.keys ≡ insert_key eq c.args.self.now c.args.assumption = search rules in
          subst (IsFront c.args.self.now) (sym keys) (inserted_front c.args.self.now c.args.assumption)
      | in-Err w ↦ let keys : c.insert.new.self.keys ≡ c.args.self.now = search rules in
          subst (IsFront c.args.self.now) (sym keys) (same_front c.args.self.now)
    ]
