-- The documents that the pieces so far tell are within their limits, and their names differ.
use Rattle.std.proofs.Common.{◌≡◌, ◌≢◌, ℕ, ◌+◌, ◌-◌, ◌<◌, ◌≤◌, ◌||◌, Bool, true, false, not, List, [], ◌∷◌, ◌++◌, length, map, sum, get_or, bytes_eq, zero, suc, refl, sym, ◌∙◌, ap, subst, arith, inl, inr, length-append}
use Rattle.std.specs.Prelude.{chars}
use Rattle.std.specs.List.{list_any}
use Rattle.std.proofs.lemmas.Bool.{and_parts, cases_lt, leb-true, ltb-true, or_parts}
use Rattle.std.proofs.lemmas.List.{get_or_append_left, length-set, map-append}
use Rattle.std.proofs.lemmas.List.Sums.{sum_by_push}
use Rattle.std.proofs.lemmas.Slice.Eq.{bytes_eq-Decides}
use Rattle.std.proofs.Math.Seq.{map-set_same}
use Rattle.entry_bytes.specs.declared.entry.Entry.{Entry}
use Rattle.entry_bytes.specs.declared.entry.Entry.TheVariants as entry
use Rattle.unanimous_merge.specs.declared.item.ItemId.{ItemId}
use Rattle.curator_decisions.specs.declared.verdict.Verdict.{Verdict}
use Rattle.project_machine.specs.Legal.{NamesDiffer}
use Rattle.project_machine.specs.ProjectState.{Document, ProjectState, document, is_there, new_document, no_document, with_row}
use Rattle.project_state.specs.Restoring.{CanBeKept}
use Rattle.checkpoint.specs.declared.so_far.Part.{Part}
use Rattle.checkpoint.specs.declared.so_far.Part.TheVariants as part
use Rattle.checkpoint.specs.declared.so_far.SoFar.{SoFar}
use Rattle.checkpoint.specs.Reading.{Begins, closed, closed_by, text_fits, with_text, with_verdicts}
use Rattle.checkpoint.specs.Runs.{IsReadTo, begins, goes_on}
use Rattle.checkpoint.proofs.KindLemmas.{Kinds, by_kind}

-- the documents so far, with those that are wanted, are few, have room, and have names of their own
pub record Keepable (so : SoFar) : Type 0 where
  pub few : length so.state.documents + so.texts ≤ 4096
  pub total : sum (map (λ d. length d.text) so.state.documents) + so.room ≡ 16777216
  pub names : NamesDiffer (map (λ d. d.name) so.state.documents)

-- ---- one more document

false_true : false ≡ true → ⊥
false_true e = cc

pub not_true : (b : Bool) → not b ≡ true → b ≡ false
not_true true e = absurd (false_true e)
not_true false e = refl

any_none : {X : Type 0} (p : X → Bool) (xs : List X) (k : ℕ) (d : X) → list_any p xs ≡ false → k < length xs → p (get_or xs k d) ≡ false
any_none p [] k d e within = absurd (omega arith)
any_none p (x ∷ xs) zero d e within = (or_parts (p x) (list_any p xs) e).0
any_none p (x ∷ xs) (suc k) d e within = any_none p xs k d (or_parts (p x) (list_any p xs) e).1 (omega arith)

any_map : (name : List ℕ) (ds : List Document) → list_any (λ n. bytes_eq n name) (map (λ (d : Document). d.name) ds) ≡ list_any (λ (d : Document). bytes_eq d.name name) ds
any_map name [] = refl
any_map name (d ∷ ds) = ap (λ b. bytes_eq d.name name || b) (any_map name ds)

unlike : (a b : List ℕ) → bytes_eq a b ≡ false → a ≢ b
unlike a b e same = false_true (sym e ∙ (bytes_eq-Decides a b).1 same)

last_is : (names : List (List ℕ)) (name : List ℕ) → get_or (names ++ name ∷ []) (length names) [] ≡ name
last_is [] name = refl
last_is (n ∷ names) name = last_is names name

-- one more name that is not there
differ_push : (names : List (List ℕ)) (name : List ℕ) → NamesDiffer names → list_any (λ n. bytes_eq n name) names ≡ false → NamesDiffer (names ++ name ∷ [])
differ_push names name differ none i j before within =
    let size : length (names ++ name ∷ []) ≡ length names + 1 = omega (arith, length-append names (name ∷ [])) in
    elim (cases_lt j (length names)) as (λ _. get_or (names ++ name ∷ []) i [] ≢ get_or (names ++ name ∷ []) j []) [
      | inl inside ↦ λ same. differ i j before inside (sym (get_or_append_left names (name ∷ []) [] i (omega arith)) ∙ (same ∙ get_or_append_left names (name ∷ []) [] j inside))
      | inr past ↦ λ same.
          let here : length names ≡ j = omega arith in
          unlike (get_or names i []) name (any_none (λ n. bytes_eq n name) names i [] none (omega arith))
          (sym (get_or_append_left names (name ∷ []) [] i (omega arith)) ∙ (same ∙ (ap (λ k. get_or (names ++ name ∷ []) k []) (sym here) ∙ last_is names name)))
    ]

text_keepable : (so : SoFar) (name text : List ℕ) → Keepable so → text_fits so name text ≡ true → Keepable (with_text so name text)
text_keepable so name text h fits =
    let a = and_parts _ _ fits in
    let b = and_parts _ _ a.0 in
    let c = and_parts _ _ b.0 in
    let d = and_parts _ _ c.0 in
    let room : length (chars text) ≤ so.room = leb-true (length (chars text)) so.room a.1 in
    let wanted : 0 < so.texts = ltb-true 0 so.texts d.1 in
    let new : is_there so.state name ≡ false = not_true (is_there so.state name) c.1 in
    let one : Document = new_document so.state name (chars text) in
    let size : length (so.state.documents ++ one ∷ []) ≡ length so.state.documents + 1 = omega (arith, length-append so.state.documents (one ∷ [])) in
    let few : length so.state.documents + so.texts ≤ 4096 = h.few in
    let total : sum (map (λ (x : Document). length x.text) so.state.documents) + so.room ≡ 16777216 = h.total in
    let whole : sum (map (λ (x : Document). length x.text) (so.state.documents ++ one ∷ [])) ≡ sum (map (λ (x : Document). length x.text) so.state.documents) + length (chars text) =
    ap sum (map-append (λ (x : Document). length x.text) so.state.documents (one ∷ [])) ∙ sum_by_push (λ n. n) (map (λ (x : Document). length x.text) so.state.documents) (length (chars text)) in
    record {
      few = omega arith;
      total = omega arith;
      names = subst NamesDiffer (sym (map-append (λ (x : Document). x.name) so.state.documents (one ∷ [])))
          (differ_push (map (λ (x : Document). x.name) so.state.documents) name h.names (any_map name so.state.documents ∙ new));
    }

-- ---- what is open in its place

closed_names : (p : Part) (s : ProjectState) → map (λ (d : Document). d.name) (closed_by p s).documents ≡ map (λ (d : Document). d.name) s.documents
closed_names (part.Row r) s = map-set_same (λ (d : Document). d.name) s.documents r.doc (with_row r.rater r.row (document s r.doc)) no_document refl
closed_names _ s = refl

closed_sizes : (p : Part) (s : ProjectState) → map (λ (d : Document). length d.text) (closed_by p s).documents ≡ map (λ (d : Document). length d.text) s.documents
closed_sizes (part.Row r) s = map-set_same (λ (d : Document). length d.text) s.documents r.doc (with_row r.rater r.row (document s r.doc)) no_document refl
closed_sizes _ s = refl

pub closed_length : (p : Part) (s : ProjectState) → length (closed_by p s).documents ≡ length s.documents
closed_length (part.Row r) s = length-set s.documents r.doc (with_row r.rater r.row (document s r.doc))
closed_length _ s = refl

closed_keepable : (so : SoFar) (shots : ℕ) (p : Part) → Keepable so → Keepable (record { state = closed so; texts = so.texts; room = so.room; shots = shots; part = p })
closed_keepable so shots p h = record {
  few = subst (λ n. n + so.texts ≤ 4096) (sym (closed_length so.part so.state)) h.few;
  total = subst (λ sizes. sum sizes + so.room ≡ 16777216) (sym (closed_sizes so.part so.state)) h.total;
  names = subst NamesDiffer (sym (closed_names so.part so.state)) h.names;
}

same_keepable : (so : SoFar) (p : Part) → Keepable so → Keepable (record so { part = p })
same_keepable so p h = record { few = h.few; total = h.total; names = h.names }

decided_keepable : (so : SoFar) (p q : Part) (verdicts : List (ItemId × Verdict)) → Keepable so → Keepable (record so { state = with_verdicts so.state p verdicts; part = q })
decided_keepable so (part.Shot shot) q verdicts h = record { few = h.few; total = h.total; names = h.names }
decided_keepable so _ q verdicts h = record { few = h.few; total = h.total; names = h.names }

keepable_kinds : (so : SoFar) → Keepable so → Kinds so (λ e now. Keepable now)
keepable_kinds so h = record {
  text = λ name text fits. text_keepable so name text h fits;
  row = λ doc who revision flags fits. closed_keepable so so.shots _ h;
  layer = λ lines layer takes. same_keepable so _ h;
  draft = λ bytes done undone takes. same_keepable so _ h;
  shot = λ doc layers fits. closed_keepable so (so.shots - 1) _ h;
  held = λ who lines layer takes. same_keepable so _ h;
  decided = λ bytes verdicts takes. decided_keepable so so.part part.Shots verdicts h;
  end = λ fits. closed_keepable so so.shots _ h;
}

begun_keepable : (e : Entry) (so : SoFar) → Begins e so → Keepable so
begun_keepable (entry.Restored place level documents snapshots text people) so b =
    let parts = and_parts _ _ b.1.placed in
    let few : documents ≤ 4096 = leb-true documents 4096 (and_parts _ _ parts.0).1 in
    subst Keepable (sym b.2) (record { few = omega arith; total = refl; names = λ i j before within. absurd (omega arith) })
begun_keepable _ so b = absurd b

pub keepable : (entries : List (List ℕ)) (so : SoFar) → IsReadTo entries so → Keepable so
keepable _ _ (begins e so entered b) = begun_keepable e so b
keepable _ _ (goes_on entries so now e read entered reads) = by_kind so (λ e now. Keepable now) (keepable_kinds so (keepable entries so read)) e now reads

-- the documents of what was read can be kept
pub can_be_kept : (entries : List (List ℕ)) (so : SoFar) → IsReadTo entries so → CanBeKept so.state.documents
can_be_kept entries so read =
    let h : Keepable so = keepable entries so read in
    let few : length so.state.documents + so.texts ≤ 4096 = h.few in
    let total : sum (map (λ (d : Document). length d.text) so.state.documents) + so.room ≡ 16777216 = h.total in
    record { few = omega arith; total = omega arith; names = h.names }
