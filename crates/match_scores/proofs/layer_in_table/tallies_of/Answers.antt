use Rattle.match_scores.proofs.MarkLemmas.{met_first_none, met_read, met_second_none}
use Rattle.match_scores.proofs.layer_in_table.tallies_of.Goals as goal

pub returns-in-Some-Some : goal.returns-in-Some-Some
returns-in-Some-Some c =
    met_read c.args.first.now c.args.second.now c.in-Some-Some.first c.in-Some-Some.second c.in-Some-Some.is-0 c.in-Some-Some.is-1
    (record { spans = c.tally.result; events = c.tally-in-Some-Some.result; relations = c.tally-in-Some-Some-2.result }) c.tally.ensures c.tally-in-Some-Some.ensures c.tally-in-Some-Some-2.ensures

pub returns-in_default : goal.returns-in_default
returns-in_default c = λ sort part. met_second_none sort part c.args.first.now c.args.second.now c.in_default.is-1

pub returns-in_default-2 : goal.returns-in_default-2
returns-in_default-2 c = λ sort part. met_first_none sort part c.args.first.now c.args.second.now c.in_default.is-0
