use Rattle.std.proofs.Common.{◌∙◌, sym, ap}
use Rattle.control_flow.specs.Instructions.{decoded}
use Rattle.control_flow.proofs.Fetching.{fetched_word}
use Rattle.control_flow.proofs.instructions.fetch.Goals as goal

pub returns-in-Some-decode-clause-exact : goal.returns-in-Some-decode-clause-exact
returns-in-Some-decode-clause-exact c = sym (fetched_word c.args.image.now c.args.address c.in-Some.word (sym c.in-Some.ensures.exact) ∙ ap decoded (sym c.in-Some-decode.ensures.decoded))

pub returns-in-None-decode-clause-exact : goal.returns-in-None-decode-clause-exact
returns-in-None-decode-clause-exact c = sym (fetched_word c.args.image.now c.args.address c.in-Some.word (sym c.in-Some.ensures.exact) ∙ ap decoded (sym c.in-None-decode.ensures.decoded))
