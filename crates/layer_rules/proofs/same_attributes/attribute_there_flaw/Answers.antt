use Rattle.std.proofs.Common.{◌≡◌, ◌++◌, map, [], List, ℕ, sym, ◌∙◌, ap}
use Rattle.std.specs.FinMap as finite
use Rattle.std.specs.Option.{option_map}
use Rattle.std.specs.Ordering.{nat_cmp}
use Rattle.mark_base.specs.declared.ann_id.AnnId.{AnnId}
use Rattle.mark_base.specs.declared.ann_id.Kind.TheVariants as letter
use Rattle.layer_model.specs.declared.rule.Rule.TheVariants.{AttributeThere}
use Rattle.layer_rules.specs.Repeats.{attribute_key, keyed, repeat_after, shown}
use Rattle.layer_rules.proofs.PairLemmas.{flaw_of}
use Rattle.layer_rules.proofs.SameAttributeLemmas.{attribute_found}
use Rattle.layer_rules.proofs.same_attributes.attribute_there_flaw.Goals as goal

pub returns-in-Some : goal.returns-in-Some
returns-in-Some c =
    let a = keyed letter.Attribute attribute_key (finite.entries c.args.layer.now.attributes) in
    let m = keyed letter.Legacy attribute_key (finite.entries c.args.layer.now.legacy) in
    let first : map shown c.push_attributes.new.all.items ≡ a =
    c.in_ok-push_attributes.ensures ∙ ap (λ xs. map shown xs ++ keyed letter.Attribute attribute_key (finite.entries (finite.from_entries {R = nat_cmp} c.attributes.result.now.entries))) c.new-all.ensures.items
    ∙ ap (λ es. keyed letter.Attribute attribute_key (finite.entries es)) c.attributes.ensures in
    let is : c.in_ok-repeat.repeat ≡ repeat_after [] (a ++ m) =
    c.in_ok-repeat.ensures ∙ ap (repeat_after []) (ap (map shown) c.as_slice.ensures.value ∙ c.in_ok-push_attributes-2.ensures
    ∙ ap (λ es. map shown c.push_attributes.new.all.items ++ keyed letter.Legacy attribute_key (finite.entries es)) c.legacy.ensures ∙ ap (λ (xs : List (AnnId × List ℕ)). xs ++ m) first) in
    ap (option_map (flaw_of AttributeThere)) (sym c.in-Some.is ∙ is) ∙ attribute_found c.args.layer.now c.keeps.ensures

pub returns : goal.returns
returns c =
    let a = keyed letter.Attribute attribute_key (finite.entries c.args.layer.now.attributes) in
    let m = keyed letter.Legacy attribute_key (finite.entries c.args.layer.now.legacy) in
    let first : map shown c.push_attributes.new.all.items ≡ a =
    c.in_ok-push_attributes.ensures ∙ ap (λ xs. map shown xs ++ keyed letter.Attribute attribute_key (finite.entries (finite.from_entries {R = nat_cmp} c.attributes.result.now.entries))) c.new-all.ensures.items
    ∙ ap (λ es. keyed letter.Attribute attribute_key (finite.entries es)) c.attributes.ensures in
    let is : c.in_ok-repeat.repeat ≡ repeat_after [] (a ++ m) =
    c.in_ok-repeat.ensures ∙ ap (repeat_after []) (ap (map shown) c.as_slice.ensures.value ∙ c.in_ok-push_attributes-2.ensures
    ∙ ap (λ es. map shown c.push_attributes.new.all.items ++ keyed letter.Legacy attribute_key (finite.entries es)) c.legacy.ensures ∙ ap (λ (xs : List (AnnId × List ℕ)). xs ++ m) first) in
    ap (option_map (flaw_of AttributeThere)) (sym c.in-None.is ∙ is) ∙ attribute_found c.args.layer.now c.keeps.ensures
