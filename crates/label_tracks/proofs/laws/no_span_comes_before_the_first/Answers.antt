use Rattle.std.proofs.Common.{[], None, refl}
use Rattle.label_tracks.specs.Candidates.{candidates}
use Rattle.label_tracks.proofs.FirstLemmas.{first_of}
use Rattle.label_tracks.proofs.laws.no_span_comes_before_the_first.Goals as goal

pub returns : goal.returns
returns c character spans = first_of [] (candidates character spans) None refl
