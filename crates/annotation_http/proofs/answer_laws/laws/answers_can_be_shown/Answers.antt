use Rattle.annotation_http.proofs.AnswerLawsProofs.ShownLemmas.{legal_shown, visited_shown}
use Rattle.annotation_http.proofs.answer_laws.laws.answers_can_be_shown.Goals as goal

pub returns-clause-answered : goal.returns-clause-answered
returns-clause-answered c = legal_shown c.unflawed_layers.ensures.unflawed c.well_formed_layers_cohere.ensures c.states_can_be_restored.ensures.kept c.verdicts_are_accepted.ensures.accepted

pub returns-clause-visited : goal.returns-clause-visited
returns-clause-visited c = visited_shown c.unflawed_layers.ensures.unflawed c.well_formed_layers_cohere.ensures c.states_can_be_restored.ensures.kept c.verdicts_are_accepted.ensures.accepted
