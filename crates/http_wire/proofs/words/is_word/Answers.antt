use Rattle.httparse.specs.Grammar.{trim_ows}
use Rattle.http_wire.proofs.words.is_word.Goals as goal

pub returns : goal.returns
unfolding trim_ows
returns c = rw (← c.trim_front.ensures, ← c.trim_back.ensures) c.is_same.ensures
