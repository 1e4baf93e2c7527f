use Rattle.std.proofs.Common.{subst}
use Rattle.layer_core.specs.Indexes.{KeepsOthers}
use Rattle.layer_core.proofs.IndexLemmas.{namers_again, spans_again}
use Rattle.layer_core.proofs.index.Index.take_in.Goals as goal

pub returns : goal.returns
returns c = record {
  namers = namers_again c.args.layer.now c.args.id c.args.self.now.namers c.take_before.new.pairs c.put_named.new.pairs c.requires.index.namers
      (subst (λ n. KeepsOthers n c.args.self.now.namers c.take_before.new.pairs) c.rank.ensures c.take_before.ensures)
      c.put_named.ensures.kept c.in_ok-put_named.ensures.all;
  spans = λ number _. spans_again c.args.layer.now c.args.id c.args.self.now.spans c.take_in_span.new.spans c.requires.index.spans c.in_ok-take_in_span.ensures number;
}
