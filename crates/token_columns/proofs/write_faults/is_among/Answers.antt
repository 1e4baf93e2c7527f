use Rattle.std.proofs.Common.{◌∙◌}
use Rattle.token_columns.proofs.PlaceLemmas.{among}
use Rattle.token_columns.proofs.write_faults.is_among.Goals as goal

pub returns : goal.returns
returns c = c.is_ok.ensures.value ∙ among c.args.places.now c.args.place c.binary_search.result c.requires c.binary_search.ensures.position
