use Rattle.token_columns.proofs.CleanLemmas.{clean}
use Rattle.token_columns.proofs.FitsFacts.{fits_of}
use Rattle.token_columns.proofs.laws.layers_that_fit.Goals as goal

pub returns-clause-fits : goal.returns-clause-fits
returns-clause-fits c = fits_of

pub returns-clause-faultless : goal.returns-clause-faultless
returns-clause-faultless c = clean
