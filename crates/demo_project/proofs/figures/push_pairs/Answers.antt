use Rattle.std.proofs.Common.{◌≡◌, ℕ, List, ◌++◌, ◌∙◌, ap, sym, take, get_or, None}
use Rattle.std.specs.Prelude.{string_bytes}
use Rattle.std.specs.List.{flat_map}
use Rattle.std.proofs.lemmas.List.{flat_map_more, take_more, append-nil}
use Rattle.kappa_alpha.specs.declared.figures.PairLine.{PairLine}
use Rattle.demo_project.specs.Summary.{pair_text}
use Rattle.demo_project.proofs.figures.push_pairs.Goals as goal

pub loop-pair-init : goal.loop-pair-init
loop-pair-init c = sym (append-nil _)

pub loop-pair-preserved : goal.loop-pair-preserved
loop-pair-preserved c =
    let of_pair : PairLine → List ℕ = pair_text c.args.names.now in
    let none : PairLine = record { first = 0; second = 0; units = 0; agreed = 0; kappa = None } in
    let before : List ℕ = string_bytes c.args.lines.now in
    let here : PairLine = get_or c.args.pairs.now c.loop-pair.pair-index none in
    c.in_ok-push_pair.ensures
    ∙ ap (λ t. t ++ of_pair here) c.loop-pair.invariant
    ∙ flat_map_more of_pair before (take c.loop-pair.pair-index c.args.pairs.now) here
    ∙ ap (λ xs. before ++ flat_map of_pair xs) (sym (take_more c.args.pairs.now c.loop-pair.pair-index none c.loop-pair-test.true))
