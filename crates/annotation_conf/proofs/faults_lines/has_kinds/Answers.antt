use Rattle.std.proofs.Common.{◌≡◌, ◌∙◌, List, ℕ, sym, ap, subst, map, IfOk}
use Rattle.conf_model.specs.ConfFaults.{has_kinds}
use Rattle.annotation_conf.specs.declared.pieces.KeyedPair.{KeyedPair}
use Rattle.annotation_conf.specs.FaultsTold.{kinds_in}
use Rattle.annotation_conf.proofs.FaultLists.{map_twice}
use denote.Ref.{Bor}
use Rattle.annotation_conf.proofs.faults_lines.has_kinds.Goals as goal

pub returns : goal.returns
returns c =
    let P : List (List ℕ) → Type 0 = λ xs. IfOk c.is_only_kinds.result (λ has. has ≡ has_kinds xs) in
    let same : map (λ (pair : Bor KeyedPair). pair.now.value.items) c.deref.result.now ≡ kinds_in c.args.keyed.now =
    ap (map (λ (pair : Bor KeyedPair). pair.now.value.items)) c.deref.ensures.value
    ∙ sym (map_twice (λ (pair : KeyedPair). pair.value.items) (λ (pair : Bor KeyedPair). pair.now) c.in_ok-kinds.kinds.items)
    ∙ ap (map (λ (pair : KeyedPair). pair.value.items)) c.in_ok-kinds.ensures in
    subst P same c.is_only_kinds.ensures
