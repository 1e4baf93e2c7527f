use Rattle.std.proofs.Common.{◌∙◌, List, ap, length, map, sym, subst}
use Rattle.std.specs.FinMap as finite
use Rattle.std.specs.List.Sorted.{IsNonDecreasingBy}
use Rattle.mark_base.specs.declared.fragments.Frag.{Frag}
use Rattle.label_tracks.specs.Candidates.{first_covering}
use Rattle.label_tracks.specs.Offers.{label_of}
use Rattle.label_tracks.proofs.LabelLemmas.{row_below, row_fits, row_labels, row_tokens}
use Rattle.label_tracks.proofs.TokenOrder.{starts_rise}
use Rattle.label_tracks.proofs.labelling.row_of.Goals as goal

pub first_spans-requires : goal.first_spans-requires
first_spans-requires c = subst (λ (tokens : List Frag). IsNonDecreasingBy (λ (token : Frag). token.start) tokens) (sym c.tokens.ensures) (starts_rise c.args.doc.now)

pub of-requires : goal.of-requires
of-requires c = row_fits c.args.doc.now c.in_ok-labels.labels.items c.char_count-most.ensures.bound (row_tokens c.args.doc.now c.tokens.result.now (λ (token : Frag). first_covering token.start (finite.entries c.args.layer.now.spans)) c.in_ok-found.found.items (label_of c.args.groups.now.groups) c.in_ok-labels.labels.items
    c.tokens.ensures c.in_ok-found.ensures (c.in_ok-labels.ensures ∙ ap (map (label_of c.args.groups.now.groups)) c.as_slice.ensures.value))

pub returns-clause-labels : goal.returns-clause-labels
returns-clause-labels c =
    c.of.ensures
    ∙ row_labels c.args.conf.now.types c.args.groups.now c.args.layer.now c.args.doc.now c.tokens.result.now c.in_ok-found.found.items c.in_ok-labels.labels.items
    c.requires c.tokens.ensures c.in_ok-found.ensures (c.in_ok-labels.ensures ∙ ap (map (label_of c.args.groups.now.groups)) c.as_slice.ensures.value)

pub returns-clause-tokens : goal.returns-clause-tokens
returns-clause-tokens c = ap length c.of.ensures ∙ row_tokens c.args.doc.now c.tokens.result.now (λ (token : Frag). first_covering token.start (finite.entries c.args.layer.now.spans)) c.in_ok-found.found.items (label_of c.args.groups.now.groups) c.in_ok-labels.labels.items
    c.tokens.ensures c.in_ok-found.ensures (c.in_ok-labels.ensures ∙ ap (map (label_of c.args.groups.now.groups)) c.as_slice.ensures.value)

pub returns-clause-below : goal.returns-clause-below
returns-clause-below c =
    row_below c.args.groups.now.groups c.args.groups.now.width c.in_ok-found.found.items c.of.result c.keeps.ensures (c.of.ensures ∙ c.in_ok-labels.ensures ∙ ap (map (label_of c.args.groups.now.groups)) c.as_slice.ensures.value)
