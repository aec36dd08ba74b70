use Rattle.command_words.proofs.Readings.{many_texts}
use Rattle.command_words.proofs.forms.command_in.Goals as goal

pub returns-in_default-2 : goal.returns-in_default-2
returns-in_default-2 c = many_texts c.args.words.now c.in_default.len_at_least
