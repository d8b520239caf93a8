use Rattle.std.proofs.Common.{ℕ, ℤ, ap, ◌∙◌, not, filter, int_lt, rules}
use Rattle.std.proofs.lemmas.Fn.{filter_same}
use Rattle.arm_cpu.specs.Registers.{signed_of}
use Rattle.arm_machine.proofs.stepping.drop_marks.Goals as goal

pub returns-then-not-is_empty : goal.returns-then-not-is_empty
returns-then-not-is_empty c =
    filter_same _ (λ (word : ℕ). not (int_lt (signed_of word) c.cast_signed-sp.result)) _ (λ x b f' k. search rules) _ _ c.retain.ensures.filtered
    ∙ ap (λ (sp : ℤ). filter (λ (word : ℕ). not (int_lt (signed_of word) sp)) c.args.kept.now.items) c.cast_signed-sp.ensures
