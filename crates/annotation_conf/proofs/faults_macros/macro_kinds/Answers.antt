use Rattle.std.proofs.Common.{◌≡◌, ◌∙◌, ◌<◌, ◌++◌, ◌∷◌, [], List, ℕ, sym, ap, length, arith, map, take, get_or}
use Rattle.std.proofs.lemmas.List.{length-map, length-take-le}
use Rattle.annotation_conf.specs.declared.file.MacroLine.{MacroLine as MacroLineValue}
use Rattle.conf_model.specs.ConfNames.{File, MacroLine, all_held}
use Rattle.annotation_conf.specs.FileKept.{kept_macro}
use Rattle.annotation_conf.specs.FileShows.{seen_alternative, seen_macro}
use Rattle.annotation_conf.specs.KnownMacros.{kinds_of, kinds_of_macros}
use Rattle.annotation_conf.proofs.FaultMacros.{kinds_more, kinds_of_next, no_macro}
use Rattle.annotation_conf.proofs.faults_macros.macro_kinds.Goals as goal

pub loop-line-preserved : goal.loop-line-preserved
loop-line-preserved c =
    let file : File = c.args.known.now in
    let i : ℕ = c.loop-line.line-index in
    let lines : List MacroLineValue = c.file.result.now.macros.items in
    let within : i < length lines = omega (arith, c.loop-line-test.true, ap length c.deref-line-items.ensures.value) in
    let size : length lines ≡ length file.macros =
    sym (length-map lines seen_macro) ∙ ap length c.file.ensures.shows.macros ∙ length-map file.macros kept_macro in
    let inside : i < length file.macros = omega (arith, size, within) in
    let held : length c.deref.result.now ≡ i =
    ap length c.deref.ensures.value ∙ ap length c.loop-line.invariant ∙ length-map (take i file.macros) (λ (macro : MacroLine). kinds_of file macro.holding)
    ∙ length-take-le i file.macros (omega arith) in
    let one : c.all_held-one.result ≡ kinds_of file (get_or file.macros i no_macro).holding =
    c.all_held-one.ensures
    ∙ ap (λ n. kinds_of file (all_held (take n file.macros) (map seen_alternative c.deref-in-loop-line.result.now))) held
    ∙ ap (λ xs. kinds_of file (all_held (take i file.macros) (map seen_alternative xs))) (c.deref-in-loop-line.ensures.value ∙ ap (λ line. line.alternatives.items) (c.line-item.is ∙ ap (λ xs. get_or xs i c.line-item.result) c.deref-line-items.ensures.value))
    ∙ kinds_of_next file c.file.result.now c.file.ensures i c.line-item.result within in
    c.in_ok-push.ensures.items ∙ ap (λ xs. xs ++ c.all_held-one.result ∷ []) c.loop-line.invariant
    ∙ ap (λ k. kinds_of_macros file (take i file.macros) ++ k ∷ []) one
    ∙ sym (kinds_more file file.macros i no_macro inside)
