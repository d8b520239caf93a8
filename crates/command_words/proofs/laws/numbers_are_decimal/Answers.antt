use Rattle.command_words.proofs.Spelling.{spelled}
use Rattle.command_words.proofs.laws.numbers_are_decimal.Goals as goal

pub returns : goal.returns
returns c = spelled
