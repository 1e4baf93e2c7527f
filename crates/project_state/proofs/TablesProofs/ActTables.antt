-- What each act on a project does to its tables.
use Rattle.std.proofs.Common.{◌≡◌, ℕ, ◌+◌, ◌<◌, ◌≤◌, ◌&&◌, Bool, true, false, not, List, [], ◌∷◌, length, map, get_or, replicate, slice_get, nat_lt, Option, Some, None, Result, Ok, Err, IfOk, OnOk, Global, zero, suc, refl, sym, ◌∙◌, ap, arith, subst, if◌then◌else◌}
use Rattle.std.specs.Option.{option_map_or}
use Rattle.std.specs.Arc.{arc_value}
use Rattle.std.specs.declared.sync.Arc.{Arc}
use Rattle.std.proofs.lemmas.Bool.{lt-ltb}
use Rattle.std.proofs.lemmas.List.{get_or-map, length-map}
use Rattle.std.proofs.lemmas.List.Elements.{All-get_or}
use Rattle.char_documents.specs.Tokens.{tokens_of}
use Rattle.layer_model.specs.Annotations.{Annotations}
use Rattle.layer_core.specs.declared.command.Command.{Command}
use Rattle.unanimous_merge.specs.declared.item.ItemId.{ItemId}
use Rattle.curator_decisions.specs.declared.verdict.Verdict.{Verdict}
use Rattle.label_tracks.specs.Labels.{labels_of}
use Rattle.kappa_alpha.specs.Standing as tables
use Rattle.project_machine.specs.ProjectState.{Row, Document, ProjectState, Snapshot, annotators, blank_row, no_document, document, row_at}
use Rattle.project_machine.specs.Machine.{is_full}
use Rattle.project_machine.specs.History.{under_hold, with_commit, with_draft, with_finished, with_ignored}
use Rattle.project_machine.specs.Legal.{IsDocumentKept, IsKept}
use Rattle.project_machine.specs.Tables.{labels_in, labelled, standing_of}
use Rattle.project_state.specs.Lending.{found_row}
use Rattle.project_state.specs.declared.act.Act.TheVariants as act
use Rattle.project_state.specs.declared.tables.tabling.TableAct.{TableAct}
use Rattle.project_state.specs.declared.tables.tabling.TableAct.TheVariants as table
use Rattle.project_state.specs.Tables.Tabling.{CanTable, IsTableAct, Posts, labels_given}
use Rattle.project_state.proofs.TablesProofs.SpareLemmas.{has_spare}
use Rattle.project_state.proofs.TablesProofs.TablingLemmas.{document_tabled, freed_tabled, relabelled, unlabelled}

-- ---- a row that is there

pub got_at : {X : Type 0} (xs : List X) (k : ℕ) (d : X) → k < length xs → slice_get xs k ≡ Some (get_or xs k d)
got_at [] k d h = absurd (omega arith)
got_at (x ∷ xs) zero d h = refl
got_at (x ∷ xs) (suc k) d h = got_at xs k d (omega arith)

pub row_found : (s : ProjectState) (doc rater : ℕ) → IsKept s → doc < length s.documents → rater < length (annotators s) → found_row s doc rater ≡ Some (row_at s doc rater)
row_found s doc rater kept doc_in rater_in =
    let one : IsDocumentKept s.conf (annotators s) s.place (document s doc) = All-get_or (IsDocumentKept s.conf (annotators s) s.place) s.documents doc no_document doc_in kept.documents in
    let rows : length (document s doc).rows ≡ length (annotators s) = one.rows_are in
    ap (λ (o : Option Document). option_map_or (λ d. slice_get d.rows rater) o None) (got_at s.documents doc no_document doc_in)
    ∙ got_at (document s doc).rows rater blank_row (omega arith)

-- ---- labels of changed rows

and_false : (b : Bool) → (b && false) ≡ false
and_false true = refl
and_false false = refl

and_true : (b : Bool) → (b && true) ≡ b
and_true true = refl
and_true false = refl

-- the labels of a row of a layer, where it counts
counted : ProjectState → List ℕ → Annotations → Bool → Option (List ℕ)
counted s text layer so = if so then Some (labels_of s.conf.types s.level layer text) else None

commit_labels : (s : ProjectState) (text : List ℕ) (layer : Annotations) (r : Row) → r.ignored ≡ false → labels_in s text (with_commit layer r) ≡ Some (labels_of s.conf.types s.level layer text)
unfolding counted
commit_labels s text layer r free =
    ap (λ (b : Bool). counted s text layer (nat_lt 0 (r.revision + 1) && not b)) free ∙ ap (λ (b : Bool). counted s text layer (b && true)) (lt-ltb 0 (r.revision + 1) (omega arith))

commit_none : (s : ProjectState) (text : List ℕ) (layer : Annotations) (r : Row) → r.ignored ≡ true → labels_in s text (with_commit layer r) ≡ labels_in s text r
unfolding counted
commit_none s text layer r is =
    (ap (λ (b : Bool). counted s text layer (nat_lt 0 (r.revision + 1) && not b)) is ∙ ap (counted s text layer) (and_false (nat_lt 0 (r.revision + 1))))
    ∙ sym (ap (λ (b : Bool). counted s text r.layer (nat_lt 0 r.revision && not b)) is ∙ ap (counted s text r.layer) (and_false (nat_lt 0 r.revision)))

drop_labels : (s : ProjectState) (text : List ℕ) (r : Row) → labels_in s text (with_ignored true r) ≡ None
unfolding counted
drop_labels s text r = ap (counted s text r.layer) (and_false (nat_lt 0 r.revision))

readmit_labels : (s : ProjectState) (text : List ℕ) (r : Row) → 0 < r.revision → labels_in s text (with_ignored false r) ≡ Some (labels_of s.conf.types s.level r.layer text)
unfolding counted
readmit_labels s text r some = ap (λ (b : Bool). counted s text r.layer (b && true)) (lt-ltb 0 r.revision some)

readmit_none : (s : ProjectState) (text : List ℕ) (r : Row) → r.revision ≡ 0 → labels_in s text (with_ignored false r) ≡ labels_in s text r
unfolding counted
readmit_none s text r none =
    ap (λ (n : ℕ). counted s text r.layer (nat_lt 0 n && true)) none ∙ sym (ap (λ (n : ℕ). counted s text r.layer (nat_lt 0 n && not r.ignored)) none)

-- ---- acts that post labels

-- labels that are posted fit the tables
posts_fit : (s : ProjectState) (doc rater spare : ℕ) (layer : Annotations) (t : TableAct) → doc < length s.documents → rater < length (annotators s) → Posts s doc rater layer t → CanTable t (standing_of s spare)
posts_fit s doc rater spare layer t doc_in rater_in posts =
    subst (λ (one : TableAct). CanTable one (standing_of s spare)) (sym posts.is) (
      let size : length (map (labelled s) s.documents) ≡ length s.documents = length-map s.documents (labelled s) in omega arith,
      rater_in,
      posts.long ∙ sym (ap (λ (d : tables.Document). d.tokens) (get_or-map (labelled s) s.documents doc no_document tables.no_document doc_in)),
      posts.below,
    )

pub commit_posts : (s : ProjectState) (doc rater : ℕ) (layer : Arc Annotations Global) (t : TableAct) → doc < length s.documents → rater < length (annotators s) → (row_at s doc rater).ignored ≡ false
    → Posts s doc rater (arc_value layer) t → IsTableAct s (act.Commit doc rater layer) t
commit_posts s doc rater layer t doc_in rater_in free posts = subst (IsTableAct s (act.Commit doc rater layer)) (sym posts.is) (record {
  is = sym (ap (λ (b : Bool). if b then table.Nothing else table.Post doc rater (labels_given s doc (arc_value layer))) free);
  stands = λ spare. relabelled s doc rater (s.place + 1) spare (with_commit (arc_value layer)) (Some (labels_given s doc (arc_value layer))) doc_in (commit_labels s (document s doc).text (arc_value layer) (row_at s doc rater) free);
  fits = λ spare room. subst (λ (one : TableAct). CanTable one (standing_of s spare)) posts.is (posts_fit s doc rater spare (arc_value layer) t doc_in rater_in posts);
})

pub commit_ignored : (s : ProjectState) (doc rater : ℕ) (layer : Arc Annotations Global) → (row_at s doc rater).ignored ≡ true → IsTableAct s (act.Commit doc rater layer) table.Nothing
commit_ignored s doc rater layer is = record {
  is = sym (ap (λ (b : Bool). if b then table.Nothing else table.Post doc rater (labels_given s doc (arc_value layer))) is);
  stands = λ spare. unlabelled s doc rater (s.place + 1) spare (with_commit (arc_value layer)) (commit_none s (document s doc).text (arc_value layer) (row_at s doc rater) is);
  fits = λ spare room. tt;
}

pub readmit_posts : (s : ProjectState) (doc rater : ℕ) (t : TableAct) → doc < length s.documents → rater < length (annotators s) → 0 < (row_at s doc rater).revision
    → Posts s doc rater (row_at s doc rater).layer t → IsTableAct s (act.Ignore doc rater false) t
readmit_posts s doc rater t doc_in rater_in some posts = subst (IsTableAct s (act.Ignore doc rater false)) (sym posts.is) (record {
  is = sym (ap (λ (b : Bool). if b then table.Post doc rater (labels_given s doc (row_at s doc rater).layer) else table.Nothing) (lt-ltb 0 (row_at s doc rater).revision some));
  stands = λ spare. relabelled s doc rater (s.place + 1) spare (with_ignored false) (Some (labels_given s doc (row_at s doc rater).layer)) doc_in (readmit_labels s (document s doc).text (row_at s doc rater) some);
  fits = λ spare room. subst (λ (one : TableAct). CanTable one (standing_of s spare)) posts.is (posts_fit s doc rater spare (row_at s doc rater).layer t doc_in rater_in posts);
})

pub readmit_nothing : (s : ProjectState) (doc rater : ℕ) → (row_at s doc rater).revision ≡ 0 → IsTableAct s (act.Ignore doc rater false) table.Nothing
readmit_nothing s doc rater none = record {
  is = sym (ap (λ (n : ℕ). if nat_lt 0 n then table.Post doc rater (labels_given s doc (row_at s doc rater).layer) else table.Nothing) none);
  stands = λ spare. unlabelled s doc rater (s.place + 1) spare (with_ignored false) (readmit_none s (document s doc).text (row_at s doc rater) none);
  fits = λ spare room. tt;
}

-- ---- the other acts

pub drops : (s : ProjectState) (doc rater : ℕ) → doc < length s.documents → rater < length (annotators s) → IsTableAct s (act.Ignore doc rater true) (table.Drop doc rater)
drops s doc rater doc_in rater_in = record {
  is = refl;
  stands = λ spare. relabelled s doc rater (s.place + 1) spare (with_ignored true) None doc_in (drop_labels s (document s doc).text (row_at s doc rater));
  fits = λ spare room. (let size : length (map (labelled s) s.documents) ≡ length s.documents = length-map s.documents (labelled s) in omega arith, rater_in);
}

pub admits : (s : ProjectState) (added : Document) (tokens : ℕ) → is_full s added.text ≡ false → added.rows ≡ replicate (length (annotators s)) blank_row → tokens ≡ length (tokens_of added.text)
    → IsTableAct s (act.AddDocument added) (table.Admit tokens)
admits s added tokens room blank counted_is =
    let spare_there = has_spare s added.text room in
    let size : length (map (labelled s) s.documents) ≡ length s.documents = length-map s.documents (labelled s) in
    record {
      is = ap (λ (n : ℕ). table.Admit n) counted_is;
      stands = λ spare. document_tabled s (s.place + 1) spare tokens added blank counted_is;
      fits = λ spare room_for. (
        room_for,
        let few : length s.documents < 4096 = spare_there.0 in omega arith,
        subst (λ (n : ℕ). tables.tokens_in (map (labelled s) s.documents) + n ≤ 8390656) (sym counted_is) spare_there.1,
      );
    }

pub holds : (s : ProjectState) (doc rater : ℕ) → IsTableAct s (act.Hold doc rater) table.Nothing
holds s doc rater = record { is = refl; stands = λ spare. unlabelled s doc rater (s.place + 1) spare (under_hold (Some (s.place + 1))) refl; fits = λ spare room. tt }

pub parks : (s : ProjectState) (doc rater : ℕ) (done undone : List Command) → IsTableAct s (act.Park doc rater done undone) table.Nothing
parks s doc rater done undone = record { is = refl; stands = λ spare. unlabelled s doc rater (s.place + 1) spare (with_draft done undone) refl; fits = λ spare room. tt }

pub finishes : (s : ProjectState) (doc rater : ℕ) (finished : Bool) → IsTableAct s (act.Finish doc rater finished) table.Nothing
finishes s doc rater finished = record { is = refl; stands = λ spare. unlabelled s doc rater (s.place + 1) spare (with_finished finished) refl; fits = λ spare room. tt }

pub snaps : (s : ProjectState) (taken : Snapshot) → IsTableAct s (act.Snap taken) table.Nothing
snaps s taken = record { is = refl; stands = λ spare. refl; fits = λ spare room. tt }

pub decides : (s : ProjectState) (number : ℕ) (decisions : List (ItemId × Verdict)) → IsTableAct s (act.Decide number decisions) table.Nothing
decides s number decisions = record { is = refl; stands = λ spare. refl; fits = λ spare room. tt }

pub frees : (s : ProjectState) → IsTableAct s act.FreeAll table.Nothing
frees s = record { is = refl; stands = λ spare. freed_tabled s (s.place + 1) spare; fits = λ spare room. tt }

-- ---- what is read

pub some_row : (a b : Row) → Some a ≡ Some b → a ≡ b
some_row a b e = cc

pub ok_more : {T E : Type 0} (P Q : T → Type 0) (r : Result T E) → ((x : T) → P x → Q x) → IfOk r P → IfOk r Q
ok_more P Q (Ok x) more is = more x is
ok_more P Q (Err e) more is = is

pub ok_then : {T E P Q : Type 0} (r : Result T E) → (P → Q) → OnOk r P → OnOk r Q
ok_then (Ok x) more is = more is
ok_then (Err e) more is = is
