use Rattle.std.proofs.Common.{◌≡◌, ◌∙◌, ◌<◌, None, sym, ap, subst, List, get_or, length, map, Option, IsSome, Bor, option_and_then}
use Rattle.std.specs.List.Sorted.{IsNonDecreasingBy}
use Rattle.layer_model.specs.Classes.{rank}
use Rattle.content_keys.specs.declared.counterparts.Found.{Found}
use Rattle.content_keys.specs.Counterparts.{counterpart_among}
use Rattle.content_keys.specs.Founds.{pair_of}
use Rattle.content_keys.proofs.SearchLemmas.{ends_elsewhere, ends_here}
use Rattle.content_keys.proofs.counterparts.Counterparts.counterpart.Goals as goal

nothing : (o : Option (Bor Found)) → o ≡ None → IsSome o → ⊥
nothing o e h = let none : IsSome {T = Bor Found} None = subst IsSome e h in cc

pub returns-in-Some : goal.returns-in-Some
returns-in-Some c =
    let xs = c.as_slice.result.now in
    let at = c.end_before-at.result in
    let d = c.in-Some.found.now in
    let same : c.deref.result.now ≡ xs = c.deref.ensures.value ∙ sym c.as_slice.ensures.value in
    let here : d ≡ get_or xs at d = c.in-Some.ensures.lookup.1 ∙ ap (λ (all : List Found). get_or all at d) same in
    let long : at < length xs = subst (λ (all : List Found). at < length all) same c.in-Some.ensures.lookup.3.0 in
    ap (λ (one : Found). one.there) here
    ∙ sym (ap (λ o. option_and_then (λ there. there) o) (ends_here xs c.args.id at c.end_before-at.ensures long d (ap (λ (one : Found). rank one.id) (sym here) ∙ sym c.rank.ensures ∙ c.if-rank-sought.true ∙ c.rank-sought.ensures)))
    ∙ ap (λ (all : List Found). counterpart_among (map pair_of all) c.args.id) c.as_slice.ensures.value ∙ ap (λ all. counterpart_among all c.args.id) c.self.view_is

pub returns-in_default : goal.returns-in_default
returns-in_default c =
    let xs = c.as_slice.result.now in
    let at = c.end_before-at.result in
    let d = c.in-Some.found.now in
    let same : c.deref.result.now ≡ xs = c.deref.ensures.value ∙ sym c.as_slice.ensures.value in
    let here : (e : Found) → d ≡ get_or xs at e = λ e. c.in-Some.ensures.lookup.3.1 e ∙ ap (λ (all : List Found). get_or all at e) same in
    sym (ap (λ o. option_and_then (λ there. there) o) (ends_elsewhere xs c.args.id at (subst (IsNonDecreasingBy (λ (one : Found). rank one.id)) (sym c.as_slice.ensures.value) c.self.invariant) c.end_before-at.ensures (λ l e same. c.if-rank-sought.false (c.rank.ensures ∙ ap (λ (one : Found). rank one.id) (here e) ∙ same ∙ sym c.rank-sought.ensures))))
    ∙ ap (λ (all : List Found). counterpart_among (map pair_of all) c.args.id) c.as_slice.ensures.value ∙ ap (λ all. counterpart_among all c.args.id) c.self.view_is

pub returns-in_default-2 : goal.returns-in_default-2
returns-in_default-2 c =
    let xs = c.as_slice.result.now in
    let at = c.end_before-at.result in
    let same : c.deref.result.now ≡ xs = c.deref.ensures.value ∙ sym c.as_slice.ensures.value in
    sym (ap (λ o. option_and_then (λ there. there) o) (ends_elsewhere xs c.args.id at (subst (IsNonDecreasingBy (λ (one : Found). rank one.id)) (sym c.as_slice.ensures.value) c.self.invariant) c.end_before-at.ensures
    (λ l e is. nothing c.get.result c.in_default.is (c.get.ensures.lookup.2 (subst (λ (all : List Found). at < length all) (sym same) l)))))
    ∙ ap (λ (all : List Found). counterpart_among (map pair_of all) c.args.id) c.as_slice.ensures.value ∙ ap (λ all. counterpart_among all c.args.id) c.self.view_is

pub end_before-at-requires : goal.end_before-at-requires
end_before-at-requires c = subst (IsNonDecreasingBy (λ (one : Found). rank one.id)) (sym c.as_slice.ensures.value) c.self.invariant
