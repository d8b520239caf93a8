use Rattle.std.proofs.Common.{rules, ◌≡◌, ap, sym, ◌∙◌, inl, inr, subst, ℕ, true}
use Rattle.std.specs.Prelude.{cond}
use Rattle.std.specs.BTreeMap.{is_at}
use Rattle.std.specs.BTreeSet as keys
use Rattle.elimination_plans.specs.Plans.{pair_cmp}
use Rattle.node_elimination.specs.Tables.{gain_by}
use Rattle.elimination_plans.proofs.PlanStepLemmas.{ap2}
use Rattle.node_elimination.proofs.GainLemmas.{set_gains}
use Rattle.node_elimination.proofs.tally.Tally.set.Goals as goal
use Rattle.node_elimination.proofs.tally.Tally.set.Goals.{then-remove+in_ok-insert, else-remove}

pub returns-clause-gains : goal.returns-clause-gains
returns-clause-gains c =
    set_gains c.args.self.now c.args.node c.args.sums c.put_at.new.list.items c.in_ok-old.old c.in_ok-new.new
    (c.in_ok-old.ensures ∙ ap2 gain_by c.sums_of.ensures c.leaves_of-leaves.ensures)
    (c.in_ok-new.ensures ∙ ap (gain_by c.args.sums) c.leaves_of-leaves.ensures)
    (search rules) c.remove.result c.remove.new.self c.if-remove.self.gains c.if-remove.self.leaves.items c.remove.ensures.test
    c.remove.ensures.updates.0
    (elim c.if-remove.branch [
      | then-remove+in_ok-insert w ↦ inl (
        w.if-remove.true,
        subst (λ G. (k : ℕ × ℕ)
            → keys.contains pair_cmp G k ≡ cond (is_at (pair_cmp (c.in_ok-new.new, c.args.node)) k) true
            (keys.contains pair_cmp c.remove.new.self k)) (sym (ap (λ t. t.gains) w.self-is)) w.in_ok-insert.ensures.updates.0,
      )
      | else-remove w ↦ inr (w.if-remove.false, ap (λ t. t.gains) w.self-is)
    ])
    (elim c.if-remove.branch [
      | then-remove+in_ok-insert w ↦ ap (λ t. t.leaves.items) w.self-is
      | else-remove w ↦ ap (λ t. t.leaves.items) w.self-is
    ])
