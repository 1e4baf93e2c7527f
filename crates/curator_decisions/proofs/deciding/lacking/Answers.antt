use Rattle.std.proofs.Common.{◌≡◌, ℕ, Bool, cond, List, length, map, Vec, Global, sym, ap, ◌∙◌, option_map}
use Rattle.std.proofs.lemmas.List.{length-map}
use Rattle.std.specs.BTreeMap.{BTreeMap}
use Rattle.unanimous_merge.specs.declared.entry.Entry.{Entry}
use Rattle.unanimous_merge.specs.Items.{Held}
use Rattle.unanimous_merge.specs.Readings.{readings}
use Rattle.unanimous_merge.specs.Rows.{held_at}
use Rattle.curator_decisions.specs.DecisionFaults.{dependent_on, missing_of}
use Rattle.curator_decisions.specs.Naming.{missing_at, named_at}
use Rattle.curator_decisions.proofs.NamingLemmas.{dependent_is, in_at, missing_of_is}
use Rattle.curator_decisions.proofs.deciding.lacking.Goals as goal

pub returns-then-is_in : goal.returns-then-is_in
returns-then-is_in c =
    let snapshot = c.args.snapshot.now in
    let merged = c.args.comparison.now.merged in
    let is = c.requires.compared in
    let decided = c.args.decisions.now in
    let entry = c.args.entry in
    let all = c.args.comparison.now.places.items in
    let flags : List (List Bool) = map (λ row. row.items) merged.marks.items in
    let held : Entry → Held = held_at merged.table in
    let inside = in_at snapshot merged is.merged decided entry c.requires.entry ∙ sym c.is_in.ensures ∙ c.if-is_in.true in
    let named = c.as_slice.ensures.value ∙ c.in_ok-named.ensures ∙ ap (λ (ps : List (BTreeMap ℕ ℕ)). named_at snapshot ps entry) c.as_slice-places.ensures.value in
    ap (option_map held) (c.missing_of.ensures ∙ ap (missing_at flags decided merged.firsts.items) named) ∙ sym (missing_of_is snapshot merged is.merged all is.places decided entry)
    ∙ ap (λ b. cond b (missing_of (readings snapshot) decided (held entry)) (dependent_on (readings snapshot) decided (held entry))) (sym inside)

pub returns : goal.returns
returns c =
    let snapshot = c.args.snapshot.now in
    let merged = c.args.comparison.now.merged in
    let is = c.requires.compared in
    let decided = c.args.decisions.now in
    let entry = c.args.entry in
    let all = c.args.comparison.now.places.items in
    let flags : List (List Bool) = map (λ row. row.items) merged.marks.items in
    let held : Entry → Held = held_at merged.table in
    let inside = in_at snapshot merged is.merged decided entry c.requires.entry ∙ sym c.is_in.ensures ∙ c.if-is_in.false in
    let names = ap (λ (xs : List (Vec ℕ Global)). map (λ of. of.items) xs) c.as_slice-names.ensures.value ∙ is.names in
    ap (option_map held) (c.dependent_on.ensures (named_at snapshot all) names) ∙ sym (dependent_is snapshot merged is.merged all is.places decided entry c.requires.entry)
    ∙ ap (λ b. cond b (missing_of (readings snapshot) decided (held entry)) (dependent_on (readings snapshot) decided (held entry))) (sym inside)

pub dependent_on-requires : goal.dependent_on-requires
dependent_on-requires c =
    let is = c.requires.compared in
    let a : length (map {A = Vec ℕ Global} {B = List ℕ} (λ of. of.items) c.args.comparison.now.names.items) ≡ length c.args.comparison.now.names.items = length-map c.args.comparison.now.names.items (λ of. of.items) in
    let b : length (map (named_at c.args.snapshot.now c.args.comparison.now.places.items) c.args.comparison.now.merged.firsts.items) ≡ length c.args.comparison.now.merged.firsts.items =
    length-map c.args.comparison.now.merged.firsts.items (named_at c.args.snapshot.now c.args.comparison.now.places.items) in
    ap length c.as_slice-names.ensures.value ∙ sym a ∙ ap length is.names ∙ b
