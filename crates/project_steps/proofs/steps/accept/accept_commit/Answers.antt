use Rattle.std.proofs.Common.{rules}
use Rattle.project_steps.proofs.StepsProofs.ActLemmas.{can_commit, commits, commits_tabled, row_there}
use Rattle.project_steps.proofs.steps.accept.accept_commit.Goals as goal

pub returns : goal.returns
returns c = record {
  answer = search rules;
  change = search rules;
  made = record {
    acts = search (rules, commits);
    tables = search (rules, commits_tabled);
    can = can_commit c.args.state.now.state c.args.name.now c.args.by.now c.in_ok-doc.doc c.rater_of-rater.result c.revision-revision.result c.in_ok-share.field-0 c.in_ok-doc.ensures c.rater_of-rater.ensures c.revision-revision.ensures (search rules);
    fits = row_there c.args.state.now.state c.args.name.now c.args.by.now c.in_ok-doc.doc c.rater_of-rater.result c.requires.there c.requires.own c.in_ok-doc.ensures c.rater_of-rater.ensures;
  };
}
