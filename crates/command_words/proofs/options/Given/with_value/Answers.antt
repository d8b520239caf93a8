use Rattle.std.proofs.Common.{rules, ◌≡◌, sym, subst, ◌==◌, false}
use Rattle.std.specs.List.{list_any}
use Rattle.arm_machine.specs.Starting.{AreParameters}
use Rattle.arm_machine.specs.declared.start.RegisterValue.{RegisterValue}
use Rattle.command_words.proofs.Parameters.{one_more}
use Rattle.command_words.proofs.options.Given.with_value.Goals as goal

pub returns-clause-given : goal.returns-clause-given
returns-clause-given c =
    let new : list_any (λ (r : RegisterValue). r.register == c.args.value.register) c.args.self.values ≡ false = (search rules) in
    record {
      values = subst AreParameters (sym c.in_ok-push-2.ensures.ok) (one_more c.args.self.values c.args.value c.requires.given.values c.requires.register new);
      stack = c.requires.given.stack;
      steps = c.requires.given.steps;
    }
