use Rattle.std.proofs.Common.{ℕ, ap, ◌∙◌, not, filter, eqb, rules}
use Rattle.std.proofs.lemmas.Fn.{filter_same}
use Rattle.arm_machine.proofs.state.unmark.Goals as goal

pub returns-clause-items : goal.returns-clause-items
returns-clause-items c =
    filter_same _ (λ (word : ℕ). not (eqb word c.word_holding-touched.result)) _ (λ x b f' k. search rules) _ _ c.retain.ensures.filtered
    ∙ ap (λ (held : ℕ). filter (λ (word : ℕ). not (eqb word held)) c.args.kept.now.items) c.word_holding-touched.ensures
