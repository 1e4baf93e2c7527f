use Rattle.project_machine.proofs.RequestLemmas.{next_legal, request_makes, tells_request}
use Rattle.project_machine.proofs.laws.changes_tell_their_requests.Goals as goal

pub returns-clause-request : goal.returns-clause-request
returns-clause-request c = tells_request

pub returns-clause-next : goal.returns-clause-next
returns-clause-next c = request_makes

pub returns-clause-goes_on : goal.returns-clause-goes_on
returns-clause-goes_on c = next_legal
