use Rattle.std.proofs.Common.{◌≡◌, sym, ◌∙◌, ap, refl, Some, None}
use Rattle.std.specs.Option.{option_copied, option_map}
use Rattle.layer_model.specs.declared.rule.Rule.TheVariants.{OverlapRefused}
use Rattle.layer_model.specs.LayerIds.{ids_of}
use Rattle.layer_rules.specs.LayerRules.{refused_overlap}
use Rattle.layer_rules.specs.LowestFlaw.{refuses}
use Rattle.layer_rules.proofs.OverlapLemmas.{good_ascending, good_some}
use Rattle.layer_core.specs.MadeLayers.{span_of}
use Rattle.layer_core.proofs.PairedLemmas.{no_overlap, span_got}
use Rattle.layer_core.proofs.NearSpanLemmas.{all_allowed, judges_overlap, pair_by_index}
use Rattle.layer_core.proofs.near.overlap_rule.Goals as goal

pub returns-then-allows_every_overlap : goal.returns-then-allows_every_overlap
returns-then-allows_every_overlap c =
    sym (ap (option_map OverlapRefused)
    (all_allowed c.args.conf.now c.args.layer.now c.requires.good (sym c.allows_every_overlap.ensures ∙ c.if-allows_every_overlap.true) c.args.id (span_of c.args.layer.now c.args.id) refl))

pub first_refused-requires-clause-ascending : goal.first_refused-requires-clause-ascending
first_refused-requires-clause-ascending c =
    let found : Some c.in-Some.span.now ≡ span_of c.args.layer.now c.args.id = sym (ap option_copied c.in-Some.is) ∙ c.span_of.ensures in
    good_ascending c.in-Some.span.now.frags (c.requires.good c.args.id.number c.in-Some.span.now (span_got c.args.layer.now c.args.id.kind c.args.id.number c.in-Some.span.now found)).0

pub first_refused-requires-clause-some : goal.first_refused-requires-clause-some
first_refused-requires-clause-some c =
    let found : Some c.in-Some.span.now ≡ span_of c.args.layer.now c.args.id = sym (ap option_copied c.in-Some.is) ∙ c.span_of.ensures in
    good_some c.in-Some.span.now.frags (c.requires.good c.args.id.number c.in-Some.span.now (span_got c.args.layer.now c.args.id.kind c.args.id.number c.in-Some.span.now found)).0

pub first_refused-requires-clause-short : goal.first_refused-requires-clause-short
first_refused-requires-clause-short c =
    let found : Some c.in-Some.span.now ≡ span_of c.args.layer.now c.args.id = sym (ap option_copied c.in-Some.is) ∙ c.span_of.ensures in
    (c.requires.good c.args.id.number c.in-Some.span.now (span_got c.args.layer.now c.args.id.kind c.args.id.number c.in-Some.span.now found)).1

pub returns-in-Some-first_refused : goal.returns-in-Some-first_refused
returns-in-Some-first_refused c =
    let found : Some c.in-Some.span.now ≡ span_of c.args.layer.now c.args.id = sym (ap option_copied c.in-Some.is) ∙ c.span_of.ensures in
    let good = c.requires.good c.args.id.number c.in-Some.span.now (span_got c.args.layer.now c.args.id.kind c.args.id.number c.in-Some.span.now found) in
    ap (λ id. Some (OverlapRefused id)) c.id_at.ensures
    ∙ sym (ap (option_map OverlapRefused)
    (pair_by_index (refused_overlap c.args.conf.now) c.args.layer.now c.keeps.ensures (λ n overlap. refuses c.args.conf.now c.args.layer.now c.in-Some.span.now.kind n overlap) c.args.id c.args.index.now.spans
    c.in-Some.span.now (Some c.in-Some-first_refused.number) found (judges_overlap c.args.conf.now c.args.layer.now c.requires.good c.in-Some.span.now good.2) c.requires.index.spans c.in-Some-first_refused.ensures))

pub returns-in-None-first_refused : goal.returns-in-None-first_refused
returns-in-None-first_refused c =
    let found : Some c.in-Some.span.now ≡ span_of c.args.layer.now c.args.id = sym (ap option_copied c.in-Some.is) ∙ c.span_of.ensures in
    let good = c.requires.good c.args.id.number c.in-Some.span.now (span_got c.args.layer.now c.args.id.kind c.args.id.number c.in-Some.span.now found) in
    sym (ap (option_map OverlapRefused)
    (pair_by_index (refused_overlap c.args.conf.now) c.args.layer.now c.keeps.ensures (λ n overlap. refuses c.args.conf.now c.args.layer.now c.in-Some.span.now.kind n overlap) c.args.id c.args.index.now.spans
    c.in-Some.span.now None found (judges_overlap c.args.conf.now c.args.layer.now c.requires.good c.in-Some.span.now good.2) c.requires.index.spans c.in-None-first_refused.ensures))

pub returns-in-None : goal.returns-in-None
returns-in-None c =
    sym (ap (option_map OverlapRefused) (no_overlap c.args.conf.now c.args.layer.now c.args.id (ids_of c.args.layer.now) (sym (ap option_copied c.in-None.is) ∙ c.span_of.ensures)))
