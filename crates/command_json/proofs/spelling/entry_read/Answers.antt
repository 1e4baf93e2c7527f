use Rattle.std.proofs.Common.{rules}
use Rattle.command_json.proofs.TextLemmas.{none_there}
use Rattle.command_json.proofs.spelling.entry_read.Goals as goal

pub returns-in-None : goal.returns-in-None
returns-in-None c = search (rules, none_there)
