use Rattle.std.proofs.Common.{rules, ◌≡◌, ℕ, true, nat_eq, subst}
use Rattle.graph_search.specs.NodeLists.{holds}
use Rattle.graph_search.specs.Searches.{steps_to}
use Rattle.graph_search.specs.Walks.{Reached}
use Rattle.persistence.specs.Searches.{TestsFollowing}
use Rattle.line_uses.specs.PointMaps.{code_of, inside}
use Rattle.line_uses.specs.SearchSteps.{forward_step, picks}
use Rattle.line_uses.proofs.ForwardLemmas.{all_following, forward_below, same_line}
use Rattle.line_uses.proofs.searches.mark_line.Goals as goal

pub mark_reached-requires-clause-below : goal.mark_reached-requires-clause-below
mark_reached-requires-clause-below c = λ x q h. forward_below c.args.tables.now c.args.line c.args.peers.now x q h

pub returns-clause-forward : goal.returns-clause-forward
returns-clause-forward c =
    record {
      size = search rules;
      known = λ maps l is.
          subst (λ (x : ℕ). TestsFollowing (code_of c.args.tables.now) (inside c.args.tables.now 0) x
          (picks c.args.tables.now 0 x c.mark_reached.new.marks.nodes)) (same_line c.args.line l is)
          (all_following c.args.tables.now c.args.line c.args.peers.now c.mark_reached.new.marks.nodes maps c.requires.all
          (subst (λ (x : ℕ). (q : ℕ) → holds nat_eq q c.mark_reached.new.marks.nodes ≡ true
          → Reached (steps_to nat_eq (forward_step c.args.tables.now c.args.peers.now c.args.line)) x q) c.len-start.ensures
          c.in_ok-mark_reached.ensures.found)
          (subst (λ (x : ℕ). (q : ℕ) → Reached (steps_to nat_eq (forward_step c.args.tables.now c.args.peers.now c.args.line)) x q
          → holds nat_eq q c.mark_reached.new.marks.nodes ≡ true) c.len-start.ensures c.in_ok-mark_reached.ensures.all));
    }
