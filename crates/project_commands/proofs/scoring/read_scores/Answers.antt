use Rattle.std.proofs.Common.{ℕ, ◌≤◌, ◌≡◌, true, List, length, map, sym, ◌∙◌, ap, subst}
use Rattle.match_scores.specs.Standing.{Layers}
use Rattle.project_machine.specs.declared.doc_line.DocLine.{DocLine}
use Rattle.project_machine.specs.History.{after}
use Rattle.project_machine.specs.Machine.{line_of}
use Rattle.project_machine.specs.ProjectState.{Document, is_curator}
use Rattle.project_machine.specs.Requests.{Happened}
use Rattle.project_commands.specs.Scoring.{layers_on}
use Rattle.project_commands.proofs.PostingLemmas.{annotators_counted, of_lines}
use Rattle.project_commands.proofs.scoring.read_scores.Goals as goal

pub post_documents-requires-clause-curates : goal.post_documents-requires-clause-curates
post_documents-requires-clause-curates g c = subst (λ (log : List Happened). is_curator (after log) c.args.caller.now ≡ true) (sym c.in-Ok.ensures.still) c.requires.curates

pub post_documents-requires-clause-listed : goal.post_documents-requires-clause-listed
post_documents-requires-clause-listed g c =
    c.items.ensures ∙ (c.in-Ok.ensures.listed ∙ ap (λ (log : List Happened). map line_of (after log).documents) (sym c.in-Ok.ensures.still))

pub post_documents-requires-clause-raters : goal.post_documents-requires-clause-raters
post_documents-requires-clause-raters g c =
    let kept = c.states_can_be_restored.ensures.kept c.args.project.now.log c.keeps.ensures.legal in
    subst (λ (names : List (List ℕ)). length names ≤ 16) (sym c.requires.named)
    (subst (λ (n : ℕ). n ≤ 16) (sym (annotators_counted (after c.args.project.now.log))) kept.founding.roster.sorts.few_annotators)

pub returns-in-Ok-post_documents-clause-posted : goal.returns-in-Ok-post_documents-clause-posted
returns-in-Ok-post_documents-clause-posted g c =
    let s = after c.args.project.now.log in
    c.in-Ok-post_documents.ensures.posted
    ∙ (ap (λ (log : List Happened). record { raters = length c.args.names.now; documents = map (λ (line : DocLine). layers_on (after log) line.name) c.items.result.now }) c.in-Ok.ensures.still
    ∙ (ap (λ (documents : List Layers). record { raters = length c.args.names.now; documents = documents })
    (of_lines line_of (λ (line : DocLine). layers_on s line.name) c.items.result.now s.documents (c.items.ensures ∙ c.in-Ok.ensures.listed))
    ∙ ap (λ (names : List (List ℕ)). record { raters = length names; documents = map (λ (d : Document). layers_on s d.name) s.documents }) c.requires.named))
