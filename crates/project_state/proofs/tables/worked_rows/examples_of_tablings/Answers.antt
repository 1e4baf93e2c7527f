use Rattle.std.proofs.Common.{refl}
use Rattle.char_documents.specs.Tokens.{tokens_of}
use Rattle.label_tracks.specs.Labels.{labels_of}
use Rattle.kappa_alpha.specs.Steps.{standing}
use Rattle.project_state.proofs.tables.worked_rows.examples_of_tablings.Goals as goal

pub returns-clause-a_text : goal.returns-clause-a_text
unfolding tokens_of
returns-clause-a_text c = refl

pub returns-clause-a_takeover : goal.returns-clause-a_takeover
returns-clause-a_takeover c = refl

pub returns-clause-a_commit : goal.returns-clause-a_commit
returns-clause-a_commit c = refl

pub returns-clause-first_labels : goal.returns-clause-first_labels
unfolding labels_of tokens_of standing
returns-clause-first_labels c = refl

pub returns-clause-ignored : goal.returns-clause-ignored
returns-clause-ignored c = refl

pub returns-clause-put_back : goal.returns-clause-put_back
returns-clause-put_back c = refl

pub returns-clause-nothing_to_put_back : goal.returns-clause-nothing_to_put_back
returns-clause-nothing_to_put_back c = refl
