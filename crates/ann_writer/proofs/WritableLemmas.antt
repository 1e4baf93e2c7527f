-- A well-formed layer can be written.
use Rattle.std.proofs.Common.{◌≡◌, ℕ, ◌<◌, ◌≤◌, zero, suc, Bool, true, false, not, nat_lt, nat_le, List, [], ◌∷◌, length, Some, None, refl, sym, ◌∙◌, arith, tests, le_refl}
use Rattle.std.proofs.lemmas.Bool.{and_parts, and_from, or_parts}
use Rattle.std.specs.List.{All, AllByRecursion, list_any}
use Rattle.std.specs.FinMap as finite
use Rattle.std.specs.Ordering.{nat_cmp}
use Rattle.mark_base.specs.declared.ann_id.Kind.TheVariants as letter
use Rattle.mark_base.specs.declared.arguments.Arg.{Arg}
use Rattle.mark_base.specs.declared.fragments.Frag.{Frag}
use Rattle.char_documents.specs.Texts.{all_lie_in}
use Rattle.conf_model.specs.Configurations.{Configuration}
use Rattle.conf_model.specs.Lookups.{roles_of}
use Rattle.overlap_rules.specs.Overlaps.{are_ascending, last_end}
use Rattle.layer_model.specs.declared.mark.Mark.TheVariants as marked
use Rattle.layer_model.specs.declared.rule.Rule.{Rule}
use Rattle.layer_model.specs.declared.flaw.FlawPlace.{FlawPlace}
use Rattle.layer_model.specs.declared.flaw.FlawPlace.TheVariants as at
use Rattle.layer_model.specs.Annotations.{Annotations}
use Rattle.layer_model.specs.Layers.{IsLayer}
use Rattle.mark_base.specs.ReadIds.{id_at}
use Rattle.layer_rules.specs.MarkRules.{where_so, bad_fragments, out_of_text, unknown_role}
use Rattle.layer_rules.specs.BadTexts.{are_fragments}
use Rattle.layer_rules.specs.WellFormed.{IsWellFormed, no_class}
use Rattle.layer_rules.proofs.PlaceLemmas.{along, at_entry, entries_found}
use Rattle.ann_writer.specs.Writable.{IsWritable}

-- ---- fragments within a text

below : (a b : ℕ) → nat_lt a b ≡ true → a < b
below a b e = search (arith, tests)

at_most : (a b : ℕ) → nat_le a b ≡ true → a ≤ b
at_most a b e = search (arith, tests)

le_test : (a b : ℕ) → a ≤ b → nat_le a b ≡ true
le_test a b h = search (arith, tests)

opens : (next : Frag) (more : List Frag) → are_ascending (next ∷ more) ≡ true → next.start < next.end
opens next [] h = below next.start next.end h
opens next (third ∷ more) h = below next.start next.end (and_parts _ _ (and_parts _ _ h).0).0

ends_rise : (frag : Frag) (more : List Frag) → are_ascending (frag ∷ more) ≡ true → frag.end ≤ last_end frag.end more
ends_rise frag [] h = le_refl frag.end
ends_rise frag (next ∷ more) h =
    let parts = and_parts _ _ h in
    let behind = at_most frag.end next.start (and_parts _ _ parts.0).1 in
    let longer = opens next more parts.1 in
    let later = ends_rise next more parts.1 in
    omega arith

pub lie_in : (text : List ℕ) (frags : List Frag) → are_ascending frags ≡ true → last_end 0 frags ≤ length text → all_lie_in text frags ≡ true
lie_in text [] h within = refl
lie_in text (frag ∷ []) h within =
    let longer = opens frag [] h in
    and_from _ _ (and_from _ _ (le_test frag.start frag.end (omega arith)) (le_test frag.end (length text) within)) refl
lie_in text (frag ∷ next ∷ more) h within =
    let longer = opens frag (next ∷ more) h in
    let rise = ends_rise frag (next ∷ more) h in
    and_from _ _ (and_from _ _ (le_test frag.start frag.end (omega arith)) (le_test frag.end (length text) (omega arith)))
    (lie_in text (next ∷ more) (and_parts _ _ h).1 within)

-- ---- roles that are declared

not_past : (n role : ℕ) → nat_le n role ≡ false → role < n
not_past n role e = search (arith, tests)

pub roles_within : (n : ℕ) (args : List Arg) → list_any (λ arg. nat_le n arg.role) args ≡ false → All (λ (arg : Arg). arg.role < n) args
roles_within n [] h k d within = absurd (omega arith)
roles_within n (arg ∷ args) h zero d within = not_past n arg.role (or_parts _ _ h).0
roles_within n (arg ∷ args) h (suc k) d within = roles_within n args (or_parts _ _ h).1 k d (omega arith)

-- ---- what a rule that no place breaks says

some_none : {X : Type 0} {x : X} → Some x ≡ None → ⊥
some_none e = cc

not_so : (b : Bool) (rule : Rule) → where_so b rule ≡ None → b ≡ false
not_so true rule e = absurd (some_none e)
not_so false rule e = refl

not_not : (b : Bool) → not b ≡ false → b ≡ true
not_not true e = refl
not_not false e = absurd (let f : true ≡ false = e in cc)

not_below : (a b : ℕ) → nat_lt a b ≡ false → b ≤ a
not_below a b e = search (arith, tests)

pub writable : (conf : Configuration) (text : List ℕ) (layer : Annotations) → IsLayer layer → IsWellFormed conf (length text) layer → IsWritable conf text layer
writable conf text layer kept well = record {
  spans = λ number span is.
      let place : FlawPlace = at.Mark (id_at letter.Text number) in
      let fragments : bad_fragments (marked.Span span) ≡ None =
      sym (at_entry (λ id. bad_fragments) no_class layer letter.Text marked.Span layer.spans (λ k. refl) kept.spans (number, span) is) ∙ well.fragments place in
      let within : out_of_text (length text) (marked.Span span) ≡ None =
      sym (at_entry (λ id. out_of_text (length text)) no_class layer letter.Text marked.Span layer.spans (λ k. refl) kept.spans (number, span) is) ∙ well.in_text place in
      lie_in text span.frags
      (and_parts _ _ (not_not (are_fragments span.frags) (not_so (not (are_fragments span.frags)) _ fragments))).1
      (not_below (length text) (last_end 0 span.frags) (not_so (nat_lt (length text) (last_end 0 span.frags)) _ within));
  events = λ number event is.
      let place : FlawPlace = at.Mark (id_at letter.Event number) in
      let known : unknown_role conf (marked.Event event) ≡ None =
      sym (at_entry (λ id. unknown_role conf) no_class layer letter.Event marked.Event layer.events (λ k. refl) kept.events (number, event) is) ∙ well.roles place in
      roles_within (length (roles_of conf event.kind.n)) event.args (not_so (list_any (λ arg. nat_le (length (roles_of conf event.kind.n)) arg.role) event.args) _ known);
}

-- what holds of all that a map has holds of each of its entries
pub of_entries : {V : Type 0} (P : V → Type 0) (m : finite.FinMap nat_cmp V) → ((n : ℕ) (v : V) → finite.get m n ≡ Some v → P v) → AllByRecursion (λ (e : ℕ × V). P e.1) (finite.entries m)
of_entries P m holds = along (λ e. finite.get m e.0 ≡ Some e.1) (λ e. P e.1) (λ e is. holds e.0 e.1 is) (finite.entries m) (entries_found m)

pub always : {V : Type 0} (P : V → Type 0) (es : List (ℕ × V)) → ((v : V) → P v) → AllByRecursion (λ (e : ℕ × V). P e.1) es
always P [] holds = tt
always P (e ∷ es) holds = (holds e.1, always P es holds)
