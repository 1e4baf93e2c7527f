use Rattle.std.proofs.Common.{◌≡◌, true, false, length, nat_lt, rules}
use Rattle.annotation_http.specs.Exchanges.Connections.{holding_of}
use Rattle.annotation_http.proofs.ExchangesProofs.CarriedLemmas.{load_given, long_given}
use Rattle.annotation_http.proofs.exchanges.desk_routes.load.Goals as goal

pub returns-then-body-gt-MOST_FILE : goal.returns-then-body-gt-MOST_FILE
returns-then-body-gt-MOST_FILE c = long_given c.answer.result (holding_of c.args.held.now) c.args.body.now (search rules) c.answer.ensures.answer c.answer.ensures.status

pub returns : goal.returns
returns c = load_given c.load_file.result (holding_of c.args.held.now) c.args.body.now c.load_file.new.desk (search rules) c.load_file.ensures.said c.load_file.ensures.status c.load_file.ensures.left
