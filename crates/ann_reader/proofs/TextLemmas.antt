-- The texts of lines whose spans lie in the text.
use Rattle.std.proofs.Common.{◌≡◌, ℕ, min, ◌<◌, ◌≤◌, Bool, true, false, not, ◌&&◌, ◌==◌, List, [], ◌∷◌, refl, sym, ◌∙◌, ap, Option, Some, None, cond, nat_lt, nat_le, length, map, chars, arith}
use Rattle.std.specs.Prelude.{bytes_eq}
use Rattle.std.specs.Option.{option_and_then}
use Rattle.std.specs.List.{common_prefix_len}
use Rattle.std.proofs.lemmas.Bool.{and_parts, and_from, false≢true, le-leb, ltb-true, ltb-false, leb-true, eqb-true, not-false}
use Rattle.mark_base.specs.declared.ann_id.AnnId.{AnnId}
use Rattle.mark_base.specs.declared.fragments.Frag.{Frag}
use Rattle.char_documents.specs.Texts.{lies_in, all_lie_in, reference_text}
use Rattle.conf_model.specs.Configurations.{Configuration}
use Rattle.overlap_rules.specs.Overlaps.{are_ascending, last_end}
use Rattle.layer_model.specs.declared.mark.Mark.TheVariants as marked
use Rattle.layer_model.specs.declared.span.Span.{Span}
use Rattle.layer_model.specs.declared.flaw.FlawPlace.TheVariants as at
use Rattle.layer_model.specs.declared.rule.Rule.{Rule}
use Rattle.layer_model.specs.declared.rule.Rule.TheVariants.{BadFragments, OutOfText}
use Rattle.layer_model.specs.Annotations.{Annotations}
use Rattle.layer_model.specs.Layers.{mark_at}
use Rattle.layer_rules.specs.MarkRules.{where_so, bad_fragments, out_of_text}
use Rattle.layer_rules.specs.BadTexts.{are_fragments}
use Rattle.layer_rules.specs.WellFormed.{IsWellFormed}
use Rattle.ann_reader.specs.NamesRead.{type_read}
use Rattle.ann_reader.specs.LineForms.{TextForm}
use Rattle.ann_reader.specs.LineMeanings.{mark_of, span_by}
use Rattle.ann_reader.specs.AnnFaults.{as_space, differing, text_differs}
use Rattle.ann_reader.specs.AnnFiles.{HasMark}
use Rattle.ann_reader.proofs.CleanLemmas.{not_some}

-- ---- fragments in order, of which the last ends in the text, lie in the text

first_up : (frag : Frag) (more : List Frag) → are_ascending (frag ∷ more) ≡ true → frag.start < frag.end
first_up frag [] a = ltb-true frag.start frag.end a
first_up frag (next ∷ more) a =
    let abc = and_parts (nat_lt frag.start frag.end && nat_le frag.end next.start) (are_ascending (next ∷ more)) a in
    ltb-true frag.start frag.end (and_parts (nat_lt frag.start frag.end) (nat_le frag.end next.start) abc.0).0

last_up : (frag : Frag) (more : List Frag) → are_ascending (frag ∷ more) ≡ true → frag.end ≤ last_end frag.end more
last_up frag [] a = omega arith
last_up frag (next ∷ more) a =
    let abc = and_parts (nat_lt frag.start frag.end && nat_le frag.end next.start) (are_ascending (next ∷ more)) a in
    let le : frag.end ≤ next.start = leb-true frag.end next.start (and_parts (nat_lt frag.start frag.end) (nat_le frag.end next.start) abc.0).1 in
    let up : next.start < next.end = first_up next more abc.1 in
    let rest : next.end ≤ last_end next.end more = last_up next more abc.1 in
    omega arith

lies : (text : List ℕ) (frag : Frag) → frag.start < frag.end → frag.end ≤ length text → lies_in text frag ≡ true
lies text frag s e =
    let le : frag.start ≤ frag.end = omega arith in
    and_from (nat_le frag.start frag.end) (nat_le frag.end (length text)) (le-leb frag.start frag.end le) (le-leb frag.end (length text) e)

all_lie : (text : List ℕ) (frag : Frag) (more : List Frag) → are_ascending (frag ∷ more) ≡ true → last_end frag.end more ≤ length text → all_lie_in text (frag ∷ more) ≡ true
all_lie text frag [] a e =
    and_from (lies_in text frag) true (lies text frag (first_up frag [] a) e) refl
all_lie text frag (next ∷ more) a e =
    let abc = and_parts (nat_lt frag.start frag.end && nat_le frag.end next.start) (are_ascending (next ∷ more)) a in
    let up : frag.end ≤ last_end next.end more = last_up frag (next ∷ more) a in
    let within : frag.end ≤ length text = omega arith in
    and_from (lies_in text frag) (all_lie_in text (next ∷ more)) (lies text frag (first_up frag (next ∷ more) a) within) (all_lie text next more abc.1 e)

pub unbroken : (b : Bool) (rule : Rule) → where_so b rule ≡ None → b ≡ false
unbroken true rule e = absurd (not_some e)
unbroken false rule e = refl

-- the fragments of a span of a well-formed layer lie in the text
span_lies : (conf : Configuration) (text : List ℕ) (layer : Annotations) (id : AnnId) (span : Span)
    → IsWellFormed conf (length text) layer → mark_at layer id ≡ Some (marked.Span span) → all_lie_in text span.frags ≡ true
span_lies conf text layer id span good held =
    let fragments : not (are_fragments span.frags) ≡ false =
    unbroken _ BadFragments (sym (ap (λ o. option_and_then (λ mark. bad_fragments mark) o) held) ∙ good.fragments (at.Mark id)) in
    let within : nat_lt (length text) (last_end 0 span.frags) ≡ false =
    unbroken _ OutOfText (sym (ap (λ o. option_and_then (λ mark. out_of_text (length text) mark) o) held) ∙ good.in_text (at.Mark id)) in
    let parts = and_parts (nat_lt 0 (length span.frags)) (are_ascending span.frags) (not-false _ fragments) in
    let P : List Frag → Type 0 = λ frags. are_ascending frags ≡ true → last_end 0 frags ≤ length text → all_lie_in text frags ≡ true in
    let cases : P span.frags = elim span.frags as P [ [] ↦ λ _ _. refl | frag ∷ more ↦ λ a e. all_lie text frag more a e ] in
    cases parts.1 (ltb-false (length text) (last_end 0 span.frags) within)

-- ---- a text that does not differ

same_bytes : (xs ys : List ℕ) → bytes_eq xs ys ≡ true → xs ≡ ys
same_bytes [] [] t = refl
same_bytes [] (y ∷ ys) t = absurd (false≢true t)
same_bytes (x ∷ xs) [] t = absurd (false≢true t)
same_bytes (x ∷ xs) (y ∷ ys) t =
    let parts = and_parts (x == y) (bytes_eq xs ys) t in
    let one : x ≡ y = eqb-true x y parts.0 in
    let more : xs ≡ ys = same_bytes xs ys parts.1 in cc

alike : (a b : List ℕ) → differing a b ≡ None → a ≡ b
alike a b e =
    let P : Bool → Type 0 = λ s. bytes_eq a b ≡ s → cond s None (Some (min (common_prefix_len (λ x y. x == y) a b) 4294967295)) ≡ None → a ≡ b in
    let cases : P (bytes_eq a b) = elim (bytes_eq a b) as P [ true ↦ λ t _. same_bytes a b t | false ↦ λ _ q. absurd (not_some q) ] in
    cases refl e

-- the text of a span that the layer has is the reference text
pub text_shown : (conf : Configuration) (text : List ℕ) (layer : Annotations) (first kind : List ℕ) (frags : List Frag) (shown : List ℕ)
    → IsWellFormed conf (length text) layer → HasMark conf layer (TextForm first kind frags shown) → text_differs text (TextForm first kind frags shown) ≡ None
    → map as_space (chars shown) ≡ reference_text text frags
unfolding mark_of
text_shown conf text layer first kind frags shown good has e =
    let P : Option _ → Type 0 = λ o. span_by o frags ≡ Some has.mark → all_lie_in text frags ≡ true in
    let inside : P (type_read conf kind) = elim (type_read conf kind) as P [
      | None ↦ λ q. absurd (not_some (sym q))
      | Some id ↦ λ q. span_lies conf text layer has.id (record { kind = id; frags = frags }) good (has.held ∙ sym q)
    ] in
    alike (map as_space (chars shown)) (reference_text text frags)
    (sym (ap (λ b. cond b (differing (map as_space (chars shown)) (reference_text text frags)) None) (inside has.spelt)) ∙ e)
