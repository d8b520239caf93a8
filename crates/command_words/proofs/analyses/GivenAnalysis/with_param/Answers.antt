use Rattle.std.proofs.Common.{rules, ◌≡◌, sym, subst, ◌==◌, false}
use Rattle.std.specs.List.{list_any}
use Rattle.std.specs.Str.{bytes_eq}
use Rattle.wsym_terms.specs.declared.bounds.ParamRange.{ParamRange}
use Rattle.command_words.specs.Analyses.{AreRanges}
use Rattle.command_words.proofs.Parameters.{one_range_more}
use Rattle.command_words.proofs.analyses.GivenAnalysis.with_param.Goals as goal

pub returns-clause-given : goal.returns-clause-given
returns-clause-given c =
    let param = c.args.param in
    let name : list_any (λ (q : ParamRange). bytes_eq q.name param.name) c.args.self.params ≡ false = (search rules) in
    let register : list_any (λ (q : ParamRange). q.register == param.register) c.args.self.params ≡ false = (search rules) in
    record {
      params = subst AreRanges (sym c.in_ok-push.ensures.ok) (one_range_more c.args.self.params param c.requires.given.params c.requires.range name register);
      stack = c.requires.given.stack;
    }
