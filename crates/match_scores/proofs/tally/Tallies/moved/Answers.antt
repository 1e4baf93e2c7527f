use Rattle.match_scores.specs.declared.sort.Sort.TheVariants.{Spans, Events, Relations}
use Rattle.match_scores.proofs.MarkLemmas.{moved_read}
use Rattle.match_scores.proofs.tally.Tallies.moved.Goals as goal

pub moved-requires-clause-enough : goal.moved-requires-clause-enough
moved-requires-clause-enough c = λ part. c.requires.enough Spans part

pub moved-requires-clause-room : goal.moved-requires-clause-room
moved-requires-clause-room c = λ part. c.requires.room Spans part

pub moved-requires-2-clause-enough : goal.moved-requires-2-clause-enough
moved-requires-2-clause-enough c = λ part. c.requires.enough Events part

pub moved-requires-2-clause-room : goal.moved-requires-2-clause-room
moved-requires-2-clause-room c = λ part. c.requires.room Events part

pub moved-requires-3-clause-enough : goal.moved-requires-3-clause-enough
moved-requires-3-clause-enough c = λ part. c.requires.enough Relations part

pub moved-requires-3-clause-room : goal.moved-requires-3-clause-room
moved-requires-3-clause-room c = λ part. c.requires.room Relations part

pub returns : goal.returns
returns c = moved_read c.args.self c.args.less c.args.more (record { spans = c.moved.result; events = c.moved-2.result; relations = c.moved-3.result }) c.moved.ensures c.moved-2.ensures c.moved-3.ensures
