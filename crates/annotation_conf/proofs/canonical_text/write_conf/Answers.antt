use Rattle.std.proofs.Common.{◌≡◌, ◌++◌, ◌∙◌, ap, cond, string_bytes, rules, List, ℕ, codes, filter, false, true}
use Rattle.std.specs.List.{flat_map, enumerate_from}
use Rattle.type_hierarchy.specs.declared.type_row.TypeRow.{TypeRow}
use Rattle.conf_model.specs.declared.relation_type.RelationType.{RelationType}
use Rattle.conf_model.specs.declared.attribute_type.AttributeType.{AttributeType}
use Rattle.conf_model.specs.declared.overlap_line.Overlap.{Overlap}
use Rattle.conf_model.specs.ConfText.{type_text, relation_text, overlap_text, attribute_text, conf_text}
use Rattle.annotation_conf.proofs.canonical_text.write_conf.Goals as goal

pub returns-clause-text : goal.returns-clause-text
unfolding conf_text
returns-clause-text c =
    let entities : List TypeRow → List ℕ = (λ rows. flat_map (type_text c.args.conf.now) (filter (λ placed. cond placed.1.event false true) (enumerate_from 0 rows))) in
    let events : List TypeRow → List ℕ = (λ rows. flat_map (type_text c.args.conf.now) (filter (λ placed. placed.1.event) (enumerate_from 0 rows))) in
    let relations : List RelationType → List ℕ = flat_map (relation_text c.args.conf.now) in
    let overlaps : List Overlap → List ℕ = flat_map (overlap_text c.args.conf.now) in
    let attributes : List AttributeType → List ℕ = flat_map (attribute_text c.args.conf.now) in
    let rows : c.rows-rows.result.now ≡ c.args.conf.now.types = c.rows-rows.ensures.value ∙ c.types.ensures in
    let s1 : string_bytes c.in_ok-out.out ≡ codes "[entities]\n" = search rules in
    let s2 : string_bytes c.push_types.new.out ≡ codes "[entities]\n" ++ entities c.args.conf.now.types =
    c.in_ok-push_types.ensures ∙ ap (λ t. t ++ entities c.rows-rows.result.now) s1 ∙ ap (λ r. codes "[entities]\n" ++ entities r) rows in
    let s3 : string_bytes c.push_str.new.self ≡ codes "[entities]\n" ++ entities c.args.conf.now.types ++ codes "[relations]\n" =
    c.in_ok-push_str.ensures.bytes ∙ ap (λ t. t ++ codes "[relations]\n") s2 in
    let s4 : string_bytes c.push_relations.new.out ≡ codes "[entities]\n" ++ entities c.args.conf.now.types ++ codes "[relations]\n" ++ relations c.args.conf.now.relations =
    c.in_ok-push_relations.ensures ∙ ap (λ t. t ++ relations c.relations.result.now) s3
    ∙ ap (λ r. codes "[entities]\n" ++ entities c.args.conf.now.types ++ codes "[relations]\n" ++ relations r) c.relations.ensures in
    let s5 : string_bytes c.push_overlaps.new.out ≡ codes "[entities]\n" ++ entities c.args.conf.now.types ++ codes "[relations]\n" ++ relations c.args.conf.now.relations ++ overlaps c.args.conf.now.overlaps =
    c.in_ok-push_overlaps.ensures ∙ ap (λ t. t ++ overlaps c.overlaps.result.now) s4
    ∙ ap (λ r. codes "[entities]\n" ++ entities c.args.conf.now.types ++ codes "[relations]\n" ++ relations c.args.conf.now.relations ++ overlaps r) c.overlaps.ensures in
    let before : List ℕ = codes "[entities]\n" ++ entities c.args.conf.now.types ++ codes "[relations]\n" ++ relations c.args.conf.now.relations ++ overlaps c.args.conf.now.overlaps in
    let s6 : string_bytes c.push_str-2.new.self ≡ before ++ codes "[events]\n" = c.in_ok-push_str-2.ensures.bytes ∙ ap (λ t. t ++ codes "[events]\n") s5 in
    let s7 : string_bytes c.push_types-2.new.out ≡ before ++ codes "[events]\n" ++ events c.args.conf.now.types =
    c.in_ok-push_types-2.ensures ∙ ap (λ t. t ++ events c.rows-rows.result.now) s6 ∙ ap (λ r. before ++ codes "[events]\n" ++ events r) rows in
    let s8 : string_bytes c.push_str-3.new.self ≡ before ++ codes "[events]\n" ++ events c.args.conf.now.types ++ codes "[attributes]\n" =
    c.in_ok-push_str-3.ensures.bytes ∙ ap (λ t. t ++ codes "[attributes]\n") s7 in
    let s9 : string_bytes c.push_attributes.new.out ≡ before ++ codes "[events]\n" ++ events c.args.conf.now.types ++ codes "[attributes]\n" ++ attributes c.args.conf.now.attributes =
    c.in_ok-push_attributes.ensures ∙ ap (λ t. t ++ attributes c.attributes.result.now) s8
    ∙ ap (λ r. before ++ codes "[events]\n" ++ events c.args.conf.now.types ++ codes "[attributes]\n" ++ attributes r) c.attributes.ensures in
    c.from_string.ensures ∙ s9
