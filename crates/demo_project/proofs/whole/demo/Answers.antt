use Rattle.std.proofs.Common.{List, ℕ, ◌∙◌, ap, subst, sym}
use Rattle.project_journal.specs.MemoryKeepers.{fails_of_appends}
use Rattle.demo_project.specs.Requests.{demo_input}
use Rattle.demo_project.specs.Sessions.{HasMessages, ServesAll}
use Rattle.demo_project.specs.Summary.{summary_of}
use Rattle.demo_project.proofs.SessionLemmas.{told_count}
use Rattle.demo_project.proofs.whole.demo.Goals as goal

pub returns : goal.returns
returns g c =
    let book = c.in_ok-book.book in
    let left = c.in_ok-left.left in
    let served = subst (λ (input : List ℕ). ServesAll (fails_of_appends book.keeper) book.log input left.log) c.in_ok-input.ensures c.in_ok-left.ensures.told in
    let has = subst (λ (input : List ℕ). HasMessages input c.in_ok-answers.answers) (c.in_ok-copy.ensures ∙ c.in_ok-input.ensures) c.in_ok-answers.ensures in
    record {
      told = record {
        log = book.log;
        log_now = left.log;
        founded = c.in_ok-book.ensures.founded;
        appends = fails_of_appends book.keeper;
        sure = c.in_ok-book.ensures.sure;
        served = served;
        summed = c.in_ok-lines.ensures ∙ ap (summary_of left.log) (sym (told_count served.told c.bytes_determine_messages.ensures.messages has));
      };
    }
