use Rattle.content_keys.proofs.OneLemmas.{one_of_content}
use Rattle.content_keys.proofs.laws.one_annotation_has_a_content.Goals as goal

pub returns : goal.returns
returns c = one_of_content
