-- A layer that fits has no fault.
use Rattle.std.proofs.Common.{◌≡◌, ℕ, ◌==◌, not, true, false, Bool, List, [], ◌∷◌, ◌++◌, map, Some, None, refl, sym, ◌∙◌, ap, subst, arith, length, find, option_map}
use Rattle.std.specs.Option.{option_or}
use Rattle.std.specs.Ordering.{nat_cmp}
use Rattle.std.specs.FinMap as finite
use Rattle.std.specs.List.{filter, fold, AllByRecursion}
use Rattle.std.proofs.lemmas.Bool.{cond-false, eq-eqb}
use Rattle.mark_base.specs.declared.ann_id.AnnId.{AnnId}
use Rattle.mark_base.specs.declared.ann_id.Kind.{Kind}
use Rattle.mark_base.specs.declared.ann_id.Kind.TheVariants as letter
use Rattle.mark_base.specs.ReadIds.{id_at}
use Rattle.char_documents.specs.Tokens.{tokens_of}
use Rattle.layer_model.specs.declared.span.Span.{Span}
use Rattle.layer_model.specs.Annotations.{Annotations}
use Rattle.layer_model.specs.Coherent.{is_span_letter}
use Rattle.layer_model.specs.LayerIds.{ids_of, ids_of_letter}
use Rattle.token_columns.specs.declared.column_fault.ColumnOut.TheVariants.{OtherThere, Fragmented, Unaligned, Shared, Numbered}
use Rattle.token_columns.specs.declared.run.Placed.{Placed}
use Rattle.token_columns.specs.Labels.{spans_of}
use Rattle.token_columns.specs.Fits.{Fits, is_aligned, only_spans, place_of, shares_lower}
use Rattle.token_columns.specs.WriteFaults.{class_there, earlier, fragmented, is_misnumbered, misnumbered, other_there, out_fault, shared, span_id, unaligned}
use Rattle.token_columns.proofs.OutLemmas.{each}

pub none_from : {X : Type 0} (p : X → Bool) (xs : List X) → AllByRecursion (λ x. p x ≡ false) xs → find p xs ≡ None
none_from p [] all = refl
none_from p (x ∷ xs) all = cond-false (p x) (Some x) (find p xs) all.0 ∙ none_from p xs all.1

pub none_kept : {X : Type 0} (p : X → Bool) (xs : List X) → AllByRecursion (λ x. p x ≡ false) xs → filter p xs ≡ []
none_kept p [] all = refl
none_kept p (x ∷ xs) all = cond-false (p x) (x ∷ filter p xs) (filter p xs) all.0 ∙ none_kept p xs all.1

no_length : {X : Type 0} (xs : List X) → length xs ≡ 0 → xs ≡ []
no_length [] h = refl
no_length (x ∷ xs) h = absurd (omega arith)

no_ids : {V : Type 0} (kind : Kind) (m : finite.FinMap nat_cmp V) → finite.len m ≡ 0 → map (id_at kind) (finite.keys m) ≡ []
no_ids kind m h = ap (λ es. map (id_at kind) (map (λ e. e.0) es)) (no_length (finite.entries m) (sym (finite.len-entries m) ∙ h))

span_ids : (ns : List ℕ) → AllByRecursion (λ (id : AnnId). not (is_span_letter id.kind) ≡ false) (map (id_at letter.Text) ns ++ [])
span_ids [] = tt
span_ids (n ∷ ns) = (refl, span_ids ns)

only_ids : (spans : finite.FinMap nat_cmp Span) → ids_of (only_spans spans) ≡ map (id_at letter.Text) (finite.keys spans) ++ []
only_ids spans =
    let layer : Annotations = only_spans spans in
    let text : List AnnId = map (id_at letter.Text) (finite.keys spans) in
    ap (λ e. text ++ (e ++ (ids_of_letter layer letter.Relation ++ (ids_of_letter layer letter.Attribute ++ (ids_of_letter layer letter.Legacy ++ (ids_of_letter layer letter.Normal ++ (ids_of_letter layer letter.Note ++ [])))))))
    (no_ids letter.Event layer.events (finite.len-empty nat_cmp _))
    ∙ ap (λ r. text ++ (r ++ (ids_of_letter layer letter.Attribute ++ (ids_of_letter layer letter.Legacy ++ (ids_of_letter layer letter.Normal ++ (ids_of_letter layer letter.Note ++ []))))))
    (no_ids letter.Relation layer.relations (finite.len-empty nat_cmp _))
    ∙ ap (λ a. text ++ (a ++ (ids_of_letter layer letter.Legacy ++ (ids_of_letter layer letter.Normal ++ (ids_of_letter layer letter.Note ++ []))))) (no_ids letter.Attribute layer.attributes (finite.len-empty nat_cmp _))
    ∙ ap (λ m. text ++ (m ++ (ids_of_letter layer letter.Normal ++ (ids_of_letter layer letter.Note ++ [])))) (no_ids letter.Legacy layer.legacy (finite.len-empty nat_cmp _))
    ∙ ap (λ n. text ++ (n ++ (ids_of_letter layer letter.Note ++ []))) (no_ids letter.Normal layer.normals (finite.len-empty nat_cmp _))
    ∙ ap (λ k. text ++ (k ++ [])) (no_ids letter.Note layer.notes (finite.len-empty nat_cmp _))

no_other : (layer : Annotations) → layer ≡ only_spans layer.spans → other_there layer ≡ None
no_other layer only =
    ap (option_map OtherThere)
    (none_from (λ (id : AnnId). not (is_span_letter id.kind)) (ids_of layer)
    (subst (AllByRecursion (λ (id : AnnId). not (is_span_letter id.kind) ≡ false)) (sym (ap ids_of only ∙ only_ids layer.spans)) (span_ids (finite.keys layer.spans))))

-- a layer that fits has no fault
pub clean : (text : List ℕ) (layer : Annotations) → Fits text layer → out_fault text layer ≡ None
unfolding out_fault
clean text layer fits =
    let spans : List Placed = spans_of layer in
    let b : class_there layer ≡ None = ap class_there fits.only in
    let c : fragmented spans ≡ None =
    ap (option_map (λ span. Fragmented (span_id span)))
    (none_from (λ (span : Placed). not (span.pieces == 1)) spans (each (λ (span : Placed). span.pieces ≡ 1) (λ span. not (span.pieces == 1) ≡ false) (λ span one. ap not (eq-eqb span.pieces 1 one)) spans fits.whole)) in
    let d : unaligned text spans ≡ None =
    ap (option_map (λ span. Unaligned (span_id span)))
    (none_from (λ (span : Placed). not (is_aligned (tokens_of text) span.run)) spans
    (each (λ (span : Placed). is_aligned (tokens_of text) span.run ≡ true) (λ span. not (is_aligned (tokens_of text) span.run) ≡ false) (λ span is. ap not is) spans fits.aligned)) in
    let e : shared text spans ≡ None = ap (option_map (λ span. Shared (span_id span))) (none_from (shares_lower (tokens_of text) spans) spans fits.apart) in
    let f : misnumbered spans ≡ None =
    ap (λ xs. option_map (λ span. Numbered (span_id span)) (fold earlier None xs))
    (none_kept (is_misnumbered spans) spans
    (each (λ (span : Placed). span.number ≡ place_of spans span) (λ span. is_misnumbered spans span ≡ false) (λ span is. ap not (eq-eqb span.number (place_of spans span) is)) spans fits.numbered)) in
    ap (λ o. option_or o (option_or (class_there layer) (option_or (fragmented spans) (option_or (unaligned text spans) (option_or (shared text spans) (misnumbered spans)))))) (no_other layer fits.only)
    ∙ ap (λ o. option_or o (option_or (fragmented spans) (option_or (unaligned text spans) (option_or (shared text spans) (misnumbered spans))))) b
    ∙ ap (λ o. option_or o (option_or (unaligned text spans) (option_or (shared text spans) (misnumbered spans)))) c
    ∙ ap (λ o. option_or o (option_or (shared text spans) (misnumbered spans))) d ∙ ap (λ o. option_or o (misnumbered spans)) e ∙ f
