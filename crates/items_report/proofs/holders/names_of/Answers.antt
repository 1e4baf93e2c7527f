use Rattle.std.proofs.Common.{List, ℕ, ◌++◌, ◌∷◌, [], ◌∙◌, ap, sym, map, Some}
use Rattle.std.proofs.lemmas.List.{map-append}
use Rattle.items_report.proofs.HeldRows.{held_more}
use Rattle.items_report.proofs.holders.names_of.Goals as goal
use denote.Ref.{Bor}

pub loop-i-preserved : goal.loop-i-preserved
loop-i-preserved c =
    let now : Bor (List ℕ) → List ℕ = λ name. name.now in
    let name : Bor (List ℕ) = c.text.result in
    ap (map now) c.in_ok-push-in-Some.ensures.items
    ∙ map-append now c.loop-i.names.items (name ∷ [])
    ∙ ap (λ names. names ++ name.now ∷ []) c.loop-i.invariant
    ∙ sym (held_more (λ held. held.0) c.args.snapshot.now c.loop-i.i name.now (ap Some c.text.ensures.value ∙ c.in-Some.ensures))
