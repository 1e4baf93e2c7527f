use Rattle.std.proofs.Common.{rules}
use Rattle.project_steps.proofs.StepsProofs.ActLemmas.{readmits, readmits_tabled, row_there}
use Rattle.project_steps.proofs.steps.accept.accept_readmit.Goals as goal

pub returns : goal.returns
returns c = record {
  answer = search rules;
  change = search rules;
  made = record {
    acts = readmits c.args.state.now.state c.in_ok-by.by c.in_ok-doc.doc c.rater_of-rater.result c.args.who c.rater_of-rater.ensures;
    tables = readmits_tabled c.args.state.now.state c.in_ok-by.by c.in_ok-doc.doc c.rater_of-rater.result c.args.who c.rater_of-rater.ensures;
    can = tt;
    fits = row_there c.args.state.now.state c.args.name.now c.args.who c.in_ok-doc.doc c.rater_of-rater.result c.requires.there c.requires.whose c.in_ok-doc.ensures c.rater_of-rater.ensures;
  };
}
