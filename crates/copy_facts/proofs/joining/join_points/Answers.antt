use Rattle.std.proofs.Common.{rules, inl, inr}
use Rattle.std.specs.Prelude.{◌≢◌}
use Rattle.std.proofs.lemmas.Bool.{or_cases}
use Rattle.fact_lattice.specs.Cells.{joined}
use Rattle.copy_facts.specs.Tables.{state_of_point}
use Rattle.copy_facts.proofs.JoinedLemmas.{state_differs_by_register, state_differs_by_word}
use Rattle.copy_facts.proofs.joining.join_points.Goals as goal

pub returns-then-other_words-other_registers-clause-differs : goal.returns-then-other_words-other_registers-clause-differs
returns-then-other_words-other_registers-clause-differs c =
    let cells = c.join_registers-other_registers.ensures.joined in
    let old = c.args.old.now in
    let new = c.args.new.now in
    elim (or_cases c.in_ok-other_words.other_words c.join_registers-other_registers.result c.if-other_words-other_registers.true)
    as (λ _. joined c.args.stack (state_of_point old) (state_of_point new) ≢ state_of_point old) [
      | inl w ↦
          state_differs_by_word c.args.stack old.registers new.registers c.join_registers-other_registers.new.registers old.words.items
          new.words.items c.join_word_lists.new.out.items cells (search rules)
          (c.in_ok-other_words.ensures.differs w)
      | inr r ↦
          state_differs_by_register c.args.stack old.registers new.registers c.join_registers-other_registers.new.registers old.words.items
          new.words.items c.join_word_lists.new.out.items cells (search rules)
          (c.join_registers-other_registers.ensures.differs r)
    ]
