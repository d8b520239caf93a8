use Rattle.std.proofs.Common.{◌∷◌, ◌++◌, ◌∙◌, [], List, ℕ, ap, arith}
use Rattle.block_points.specs.Numbering.{following}
use Rattle.block_points.proofs.LoopLemmas.{following_in}
use Rattle.block_points.proofs.numbering.add_following.Goals as goal

pub loop-at-preserved : goal.loop-at-preserved
loop-at-preserved c = (
  omega (arith, c.loop-at-test.true),
  following_in c.args.first c.args.count c.loop-at.at c.args.after c.loop-at.next c.push.new.self
      (c.args.next.now ++ following c.args.first c.args.count c.args.after) c.loop-at-test.true
      (c.in_ok-push.ensures.ok ∙ ap (λ (row : List ℕ). c.loop-at.next ++ row ∷ []) c.in_ok-row_of_one.ensures) c.loop-at.invariant.1,
)
