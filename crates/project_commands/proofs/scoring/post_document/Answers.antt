use Rattle.std.proofs.Common.{◌≡◌, ℕ, ◌<◌, List, length, map, [], ◌∷◌, ◌++◌, refl, sym, ◌∙◌, ap, subst, arith, Option, true}
use Rattle.layer_model.specs.Annotations.{Annotations}
use Rattle.match_scores.specs.Standing.{Standing}
use Rattle.project_machine.specs.History.{after}
use Rattle.project_machine.specs.ProjectState.{is_annotator, is_curator, is_there, row_in}
use Rattle.project_machine.specs.Requests.{Happened}
use Rattle.project_commands.specs.Scoring.{committed_in, posted_if}
use Rattle.project_commands.proofs.KeeperLemmas.{call_done, no_call, one_call}
use Rattle.project_commands.proofs.PostingLemmas.{all_laid, annotates, laid_raters, laid_there, next_laid, none_laid}
use Rattle.project_commands.proofs.scoring.post_document.Goals as goal

pub loop-rater-init : goal.loop-rater-init
loop-rater-init g c = record {
  laid = none_laid c.args.scores.now (λ (who : List ℕ). committed_in (row_in (after c.args.project.now.log) c.args.name.now who)) c.args.names.now c.admit.new.self c.requires.raters c.in_ok-doc.ensures.admitted;
  still = refl;
  keeper = no_call g.K.Keeper.faults g.K.Keeper.faultless _;
  certain = λ none. none;
}

pub post_layer-requires-clause-curates : goal.post_layer-requires-clause-curates
post_layer-requires-clause-curates g c = subst (λ (log : List Happened). is_curator (after log) c.args.caller.now ≡ true) (sym c.loop-rater.invariant.still) c.requires.curates

pub post_layer-requires-clause-there : goal.post_layer-requires-clause-there
post_layer-requires-clause-there g c = subst (λ (log : List Happened). is_there (after log) c.args.name.now ≡ true) (sym c.loop-rater.invariant.still) c.requires.there

pub post_layer-requires-clause-annotates : goal.post_layer-requires-clause-annotates
post_layer-requires-clause-annotates g c =
    let last : c.raters-rater-end.result ≡ length c.args.names.now = c.raters-rater-end.ensures ∙ (ap (λ (st : Standing). st.raters) c.in_ok-doc.ensures.admitted ∙ c.requires.raters) in
    let within : c.loop-rater.rater < length c.args.names.now = subst (λ (n : ℕ). c.loop-rater.rater < n) last c.loop-rater-test.true in
    subst (λ (log : List Happened). is_annotator (after log) c.index-names-rater.result ≡ true) (sym c.loop-rater.invariant.still)
    (ap (is_annotator (after c.args.project.now.log)) c.index-names-rater.is ∙ annotates (after c.args.project.now.log) c.args.names.now c.loop-rater.rater c.index-names-rater.result c.requires.named within)

pub post_layer-requires-clause-doc_in : goal.post_layer-requires-clause-doc_in
post_layer-requires-clause-doc_in g c =
    laid_there c.args.scores.now (λ (who : List ℕ). committed_in (row_in (after c.args.project.now.log) c.args.name.now who)) c.args.names.now c.loop-rater.rater c.in_ok-doc.doc c.loop-rater.scores c.in_ok-doc.ensures.number c.loop-rater.invariant.laid

pub post_layer-requires-clause-rater_in : goal.post_layer-requires-clause-rater_in
post_layer-requires-clause-rater_in g c =
    let last : c.raters-rater-end.result ≡ c.args.scores.now.raters = c.raters-rater-end.ensures ∙ ap (λ (st : Standing). st.raters) c.in_ok-doc.ensures.admitted in
    let same : c.loop-rater.scores.raters ≡ c.args.scores.now.raters =
    laid_raters c.args.scores.now (λ (who : List ℕ). committed_in (row_in (after c.args.project.now.log) c.args.name.now who)) c.args.names.now c.loop-rater.rater c.loop-rater.scores c.loop-rater.invariant.laid in
    subst (λ (n : ℕ). c.loop-rater.rater < n) (last ∙ sym same) c.loop-rater-test.true

pub loop-rater-preserved : goal.loop-rater-preserved
loop-rater-preserved g c =
    let last : c.raters-rater-end.result ≡ length c.args.names.now = c.raters-rater-end.ensures ∙ (ap (λ (st : Standing). st.raters) c.in_ok-doc.ensures.admitted ∙ c.requires.raters) in
    let within : c.loop-rater.rater < length c.args.names.now = subst (λ (n : ℕ). c.loop-rater.rater < n) last c.loop-rater-test.true in
    let found : List ℕ → Option Annotations = λ who. committed_in (row_in (after c.args.project.now.log) c.args.name.now who) in
    record {
      laid =
          next_laid c.args.scores.now found c.args.names.now c.loop-rater.rater c.in_ok-doc.doc c.index-names-rater.result c.loop-rater.scores c.post_layer.new.scores within c.in_ok-doc.ensures.number c.loop-rater.invariant.laid
          (c.in_ok-post_layer.ensures.posted
          ∙ (ap (λ (log : List Happened). posted_if c.loop-rater.scores c.in_ok-doc.doc c.loop-rater.rater (committed_in (row_in (after log) c.args.name.now c.index-names-rater.result))) c.loop-rater.invariant.still
          ∙ ap (λ (who : List ℕ). posted_if c.loop-rater.scores c.in_ok-doc.doc c.loop-rater.rater (found who)) c.index-names-rater.is));
      still = c.in_ok-post_layer.ensures.still ∙ c.loop-rater.invariant.still;
      keeper = one_call g.K.Keeper.faults g.K.Keeper.faultless _ _ _ _ c.loop-rater.invariant.keeper (call_done g.K.Keeper.faults g.K.Keeper.faultless _ _ c.in_ok-post_layer.field-0 c.in_ok-post_layer.ensures.keeper);
      certain = λ none. c.in_ok-post_layer.ensures.certain (c.loop-rater.invariant.certain none);
    }

pub returns-clause-posted : goal.returns-clause-posted
returns-clause-posted g c =
    let last : c.raters-rater-end.result ≡ length c.args.names.now = c.raters-rater-end.ensures ∙ (ap (λ (st : Standing). st.raters) c.in_ok-doc.ensures.admitted ∙ c.requires.raters) in
    let over = c.loop-rater-test.false in
    let found : List ℕ → Option Annotations = λ who. committed_in (row_in (after c.args.project.now.log) c.args.name.now who) in
    all_laid c.args.scores.now found c.args.names.now c.loop-rater.rater c.loop-rater.scores (omega (arith, over, last)) c.loop-rater.invariant.laid
    ∙ ap (λ (names : List (List ℕ)). record c.args.scores.now { documents = c.args.scores.now.documents ++ map found names ∷ [] }) c.requires.named
