use Rattle.std.proofs.Common.{rules, ◌≡◌, ◌<◌, ℕ, List, true, nat_eq, sym, subst, ◌∙◌, length, false, replicate}
use Rattle.graph_search.specs.NodeLists.{holds}
use Rattle.graph_search.specs.Rows.{row_in}
use Rattle.line_uses.specs.PointMaps.{code_of}
use Rattle.line_uses.specs.Scopes.{all_uses}
use Rattle.line_uses.proofs.OrderLemmas.{block_flags, blocks_flagged}
use Rattle.line_uses.proofs.ScopeLemmas.{item_in}
use Rattle.line_uses.proofs.order.flag_uses.Goals as goal

pub loop-block-preserved : goal.loop-block-preserved
loop-block-preserved c =
    let is : c.as_slice.result.now ≡ row_in c.args.blocks.now c.loop-block.block-index =
    c.as_slice.ensures ∙ item_in c.args.blocks.now c.loop-block.block-index c.block-item.result c.block-item.result
    c.loop-block-test.true c.block-item.is in
    record {
      size = c.flag_block.ensures.size ∙ c.loop-block.invariant.size;
      flagged = λ inside.
          let here : (p : ℕ) → holds nat_eq p c.as_slice.result.now ≡ true → p < length c.loop-block.flags.items = λ p h.
          subst (λ (n : ℕ). p < n) (sym c.loop-block.invariant.size)
          (inside c.loop-block.block-index p (subst (λ (xs : List ℕ). holds nat_eq p xs ≡ true) is h)) in
          block_flags (code_of c.args.tables.now) c.loop-block.block-index c.args.blocks.now
          (all_uses (code_of c.args.tables.now) c.args.blocks.now) c.as_slice.result.now (replicate (length c.args.tables.now.home) false)
          c.loop-block.flags.items c.flag_block.new.flags.items c.loop-block-test.true is c.flag_block.ensures.size
          (c.flag_block.ensures.kept here) (c.flag_block.ensures.all here) (c.loop-block.invariant.flagged inside);
    }

pub returns-clause-all : goal.returns-clause-all
returns-clause-all c = λ inside.
    blocks_flagged (code_of c.args.tables.now) c.loop-block.block-index c.args.blocks.now
    (all_uses (code_of c.args.tables.now) c.args.blocks.now) (replicate (length c.args.tables.now.home) false) c.loop-block.flags.items
    (search rules) (c.loop-block.invariant.flagged inside)
