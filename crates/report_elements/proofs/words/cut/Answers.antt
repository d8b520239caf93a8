use Rattle.std.proofs.Common.{ℕ, ◌≤◌, length, take, drop, sym, ap, ◌∙◌, subst}
use Rattle.report_elements.proofs.Cutting.{place_within, taken_before, left_from}
use Rattle.report_elements.proofs.words.cut.Goals as goal

pub split_at-requires : goal.split_at-requires
split_at-requires c = subst (λ (n : ℕ). n ≤ length c.args.text.now) (sym c.place-at.ensures) (place_within c.args.mark c.args.text.now)

pub returns-clause-first : goal.returns-clause-first
returns-clause-first c = c.split_at.ensures.front ∙ ap (λ (n : ℕ). take n c.args.text.now) c.place-at.ensures ∙ taken_before c.args.mark c.args.text.now

pub returns-clause-second : goal.returns-clause-second
returns-clause-second c = c.split_at.ensures.back ∙ ap (λ (n : ℕ). drop n c.args.text.now) c.place-at.ensures ∙ left_from c.args.mark c.args.text.now
