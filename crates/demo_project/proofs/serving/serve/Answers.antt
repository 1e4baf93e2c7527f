use Rattle.std.proofs.Common.{ap, sym, ◌∙◌}
use Rattle.project_book.specs.Keeping.{BookValue}
use Rattle.project_journal.specs.declared.memory_keeper.MemoryKeeper.{MemoryKeeper}
use Rattle.demo_project.proofs.SessionLemmas.{serves}
use Rattle.demo_project.proofs.serving.serve.Goals as goal

pub returns : goal.returns
returns g c = record {
  told =
      let now = c.serve_link.new.visitor in
      serves _ _ now.book now.began now.room _ _ _ _ _ _ _ _ c.new-visitor.ensures.book c.new-visitor.ensures.visiting c.new-link.ensures.left c.new-link.ensures.held c.written.ensures
      (ap (λ (b : BookValue MemoryKeeper). b.log) c.into_book.ensures) c.in-End.ensures.badge c.in-End.ensures.session (sym c.says_unable.ensures ∙ c.if-says_unable.false);
}
