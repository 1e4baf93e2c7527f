-- What is looked up in a project as it is kept.
use Rattle.std.proofs.Common.{◌≡◌, ℕ, ◌<◌, ◌≤◌, ◌+◌, ◌||◌, Bool, true, false, not, cond, List, [], ◌∷◌, length, map, nat_lt, get_or, slice_get, Option, Some, None, set, zero, suc, refl, sym, ◌∙◌, ap, subst, bytes_eq, arith, unwrap_or, is_some, option_map, take, sum}
use Rattle.std.specs.List.{list_any, position_or_len, filter, filter_map, zip, cons_option}
use Rattle.std.proofs.lemmas.List.{length-map, length-set, take_all, set_past, get_or-map}
use Rattle.std.proofs.Math.Seq.{map-set_same}
use Rattle.entry_bytes.specs.declared.person.Person.{Person}
use Rattle.conf_model.specs.Configurations.{Configuration}
use Rattle.layer_model.specs.Annotations.{Annotations, no_marks}
use Rattle.std.specs.Option.{option_map_or}
use Rattle.std.proofs.lemmas.Option.{unwrap_or-slice_get}
use Rattle.std.proofs.lemmas.Slice.Eq.{bytes_eq-Decides}
use Rattle.std.proofs.lemmas.List.Sums.{position_or_len_is}
use Rattle.project_machine.specs.ProjectState.{Row, Document, Snapshot, ProjectState, annotators, finished_row, finished_rows, blank_row, no_document, document, is_there, number_of, row, row_at, row_in, rater_of, with_row}
use Rattle.project_machine.specs.History.{on_row}
use Rattle.project_state.specs.Stored.{IsStored, characters_in, numbered_as}
use Rattle.project_state.specs.LookUps.{number_if, number_by}
use Rattle.project_state.specs.Lending.{found_row}
use Rattle.project_state.proofs.PeopleLemmas.{any_first, first_le}

list_apart : (a b : List ℕ) → Some a ≡ Some b → a ≡ b
list_apart a b e = cc

pub some_apart : (a b : ℕ) → Some a ≡ Some b → a ≡ b
some_apart a b e = cc

none_some : {X : Type 0} (x : X) → None ≡ Some x → ⊥
none_some x e = cc

false_true : false ≡ true → ⊥
false_true e = cc

-- what stands at an index, where something does
pub got : {X : Type 0} (xs : List X) (k : ℕ) (d : X) (x : X) → slice_get xs k ≡ Some x → get_or xs k d ≡ x
got {X = X} xs k d x e = sym (unwrap_or-slice_get xs k d) ∙ ap (λ (o : Option X). unwrap_or o d) e

pub missed : {X : Type 0} (xs : List X) (k : ℕ) (d : X) → slice_get xs k ≡ None → get_or xs k d ≡ d
missed {X = X} xs k d e = sym (unwrap_or-slice_get xs k d) ∙ ap (λ (o : Option X). unwrap_or o d) e

inside : {X : Type 0} (xs : List X) (k : ℕ) (x : X) → slice_get xs k ≡ Some x → k < length xs
inside [] k x e = absurd (none_some x e)
inside (y ∷ xs) zero x e = omega arith
inside (y ∷ xs) (suc k) x e = let h = inside xs k x e in omega arith

-- the one document of a name is the first
alone : (s : ProjectState) (numbers : List (List ℕ × ℕ)) (name : List ℕ) (k : ℕ) → IsStored s numbers → k < length s.documents → bytes_eq (document s k).name name ≡ true → numbered_as numbers name ≡ Some k
alone s numbers name k h within same = subst (λ n. numbered_as numbers n ≡ Some k) ((bytes_eq-Decides (document s k).name name).0 same) (h.numbered k within)

-- a document that its name leads to is the first of its name
pub number_found : (s : ProjectState) (numbers : List (List ℕ × ℕ)) (name : List ℕ) (doc : ℕ) (d : Document) → IsStored s numbers → numbered_as numbers name ≡ Some doc → slice_get s.documents doc ≡ Some d → bytes_eq d.name name ≡ true
    → number_of s name ≡ doc
number_found s numbers name doc d h is there same =
    let within : doc < length s.documents = inside s.documents doc d there in
    position_or_len_is (λ (o : Document). bytes_eq o.name name) s.documents doc no_document (omega arith)
    (λ k before. by (bytes_eq (document s k).name name) k before refl)
    (λ w. ap (λ (o : Document). bytes_eq o.name name) (got s.documents doc no_document d there) ∙ same)
  where
    by : (b : Bool) (k : ℕ) → k < doc → bytes_eq (document s k).name name ≡ b → b ≡ false
    by false k before e = refl
    by true k before e = absurd (let in_it : doc < length s.documents = inside s.documents doc d there in let same_place : k ≡ doc = some_apart k doc (sym (alone s numbers name k h (omega arith) e) ∙ is) in omega arith)

-- where every document is another one, there is none of a name
nowhere : (s : ProjectState) (name : List ℕ) → ((k : ℕ) → k < length s.documents → bytes_eq (document s k).name name ≡ true → ⊥) → number_of s name ≡ length s.documents
nowhere s name none =
    position_or_len_is (λ (o : Document). bytes_eq o.name name) s.documents (length s.documents) no_document (omega arith)
    (λ k before. by (bytes_eq (document s k).name name) k before refl) (λ w. absurd (omega arith))
  where
    by : (b : Bool) (k : ℕ) → k < length s.documents → bytes_eq (document s k).name name ≡ b → b ≡ false
    by false k before e = refl
    by true k before e = absurd (none k before e)

-- a name that stands under no number is that of no document
pub number_unknown : (s : ProjectState) (numbers : List (List ℕ × ℕ)) (name : List ℕ) → IsStored s numbers → numbered_as numbers name ≡ None → number_of s name ≡ length s.documents
number_unknown s numbers name h is = nowhere s name (λ k within same. none_some k (sym is ∙ alone s numbers name k h within same))

-- nor is one whose number is not there
pub number_stale : (s : ProjectState) (numbers : List (List ℕ × ℕ)) (name : List ℕ) (doc : ℕ) → IsStored s numbers → numbered_as numbers name ≡ Some doc → slice_get s.documents doc ≡ None → number_of s name ≡ length s.documents
number_stale s numbers name doc h is there =
    nowhere s name (λ k within same. past s.documents k within (ap (slice_get s.documents) (some_apart k doc (sym (alone s numbers name k h within same) ∙ is)) ∙ there))
  where
    past : (ds : List Document) (k : ℕ) → k < length ds → slice_get ds k ≡ None → ⊥
    past [] k within e = absurd (omega arith)
    past (d ∷ ds) zero within e = none_some d (sym e)
    past (d ∷ ds) (suc k) within e = past ds k (omega arith) e

-- nor one whose number is another document's
pub number_other : (s : ProjectState) (numbers : List (List ℕ × ℕ)) (name : List ℕ) (doc : ℕ) (d : Document) → IsStored s numbers → numbered_as numbers name ≡ Some doc → slice_get s.documents doc ≡ Some d → bytes_eq d.name name ≡ false
    → number_of s name ≡ length s.documents
number_other s numbers name doc d h is there other =
    nowhere s name (λ k within same. false_true (sym other ∙ (ap (λ (o : Document). bytes_eq o.name name) (sym (got s.documents doc no_document d there))
    ∙ (ap (λ j. bytes_eq (document s j).name name) (some_apart doc k (sym is ∙ alone s numbers name k h within same)) ∙ same))))

-- a document of a name is there exactly where its number is one of a document
-- the number that is looked up is the one of the name
pub number_looked_up : (s : ProjectState) (numbers : List (List ℕ × ℕ)) (name : List ℕ) → IsStored s numbers → number_by s numbers name ≡ number_of s name
number_looked_up s numbers name h = by (numbered_as numbers name) refl
  where
    last : (doc : ℕ) (d : Document) → numbered_as numbers name ≡ Some doc → slice_get s.documents doc ≡ Some d → (b : Bool) → bytes_eq d.name name ≡ b → cond b doc (length s.documents) ≡ number_of s name
    last doc d is there true same = sym (number_found s numbers name doc d h is there same)
    last doc d is there false other = sym (number_other s numbers name doc d h is there other)

    inner : (doc : ℕ) → numbered_as numbers name ≡ Some doc → (o : Option Document) → slice_get s.documents doc ≡ o → option_map_or (number_if s name doc) o (length s.documents) ≡ number_of s name
    inner doc is None there = sym (number_stale s numbers name doc h is there)
    inner doc is (Some d) there = last doc d is there (bytes_eq d.name name) refl

    by : (o : Option ℕ) → numbered_as numbers name ≡ o → option_map_or (λ doc. option_map_or (number_if s name doc) (slice_get s.documents doc) (length s.documents)) o (length s.documents) ≡ number_of s name
    by None is = sym (number_unknown s numbers name h is)
    by (Some doc) is = inner doc is (slice_get s.documents doc) refl

pub there_by_number : (s : ProjectState) (name : List ℕ) → nat_lt (number_of s name) (length s.documents) ≡ is_there s name
there_by_number s name = any_first (λ (d : Document). bytes_eq d.name name) s.documents

at_first : {X : Type 0} (p : X → Bool) (xs : List X) → is_some (slice_get xs (position_or_len p xs)) ≡ list_any p xs
at_first p [] = refl
at_first p (x ∷ xs) = by (p x) (at_first p xs)
  where
    by : (b : Bool) → is_some (slice_get xs (position_or_len p xs)) ≡ list_any p xs → is_some (slice_get (x ∷ xs) (cond (not b) (1 + position_or_len p xs) 0)) ≡ (b || list_any p xs)
    by true h = refl
    by false h = let next : 1 + position_or_len p xs ≡ suc (position_or_len p xs) = omega arith in ap (λ n. is_some (slice_get (x ∷ xs) n)) next ∙ h

there_by_document : (s : ProjectState) (name : List ℕ) → is_some (slice_get s.documents (number_of s name)) ≡ is_there s name
there_by_document s name = at_first (λ (d : Document). bytes_eq d.name name) s.documents

-- a document that is found is there, and is the one of the name
pub found_there : (s : ProjectState) (name : List ℕ) (d : Document) → Some d ≡ slice_get s.documents (number_of s name) → true ≡ is_there s name
found_there s name d e = ap (λ (o : Option Document). is_some o) e ∙ there_by_document s name

pub found_here : (s : ProjectState) (name : List ℕ) (d : Document) → Some d ≡ slice_get s.documents (number_of s name) → d ≡ document s (number_of s name)
found_here s name d e = sym (got s.documents (number_of s name) no_document d (sym e))

pub found_nowhere : (s : ProjectState) (name : List ℕ) → None ≡ slice_get s.documents (number_of s name) → false ≡ is_there s name
found_nowhere s name e = ap (λ (o : Option Document). is_some o) e ∙ there_by_document s name

-- ---- rows

pub row_there : (s : ProjectState) (name who : List ℕ) (d : Document) (r : Row) → slice_get s.documents (number_of s name) ≡ Some d → slice_get d.rows (rater_of s who) ≡ Some r → row_in s name who ≡ r
row_there s name who d r there is = ap (λ (o : Document). get_or o.rows (rater_of s who) blank_row) (got s.documents (number_of s name) no_document d there) ∙ got d.rows (rater_of s who) blank_row r is

pub row_missing : (s : ProjectState) (name who : List ℕ) (d : Document) → slice_get s.documents (number_of s name) ≡ Some d → slice_get d.rows (rater_of s who) ≡ None → row_in s name who ≡ blank_row
row_missing s name who d there is = ap (λ (o : Document). get_or o.rows (rater_of s who) blank_row) (got s.documents (number_of s name) no_document d there) ∙ missed d.rows (rater_of s who) blank_row is

pub row_nowhere : (s : ProjectState) (name who : List ℕ) → slice_get s.documents (number_of s name) ≡ None → row_in s name who ≡ blank_row
row_nowhere s name who there = ap (λ (o : Document). get_or o.rows (rater_of s who) blank_row) (missed s.documents (number_of s name) no_document there)

pub row_at_missing : (s : ProjectState) (doc rater : ℕ) → found_row s doc rater ≡ None → row_at s doc rater ≡ blank_row
row_at_missing s doc rater e = by (slice_get s.documents doc) refl e
  where
    by : (o : Option Document) → slice_get s.documents doc ≡ o → option_map_or (λ (d : Document). slice_get d.rows rater) o None ≡ None → row_at s doc rater ≡ blank_row
    by None is e = ap (λ (d : Document). get_or d.rows rater blank_row) (missed s.documents doc no_document is)
    by (Some d) is e = ap (λ (o : Document). get_or o.rows rater blank_row) (got s.documents doc no_document d is) ∙ missed d.rows rater blank_row e

-- ---- snapshots

pub holder_there : (shot : Snapshot) (holder : ℕ) (name : List ℕ) → Some name ≡ option_map (λ (row : List ℕ × Annotations). row.0) (slice_get shot.holders holder) → name ≡ (get_or shot.holders holder ([], no_marks)).0
holder_there shot holder name e = by (slice_get shot.holders holder) refl e
  where
    by : (o : Option (List ℕ × Annotations)) → slice_get shot.holders holder ≡ o → Some name ≡ option_map (λ (row : List ℕ × Annotations). row.0) o → name ≡ (get_or shot.holders holder ([], no_marks)).0
    by None is e = absurd (none_some name (sym e))
    by (Some row) is e = list_apart name row.0 e ∙ ap (λ (row : List ℕ × Annotations). row.0) (sym (got shot.holders holder ([], no_marks) row is))

pub holder_missing : (shot : Snapshot) (holder : ℕ) → None ≡ option_map (λ (row : List ℕ × Annotations). row.0) (slice_get shot.holders holder) → [] ≡ (get_or shot.holders holder ([], no_marks)).0
holder_missing shot holder e = by (slice_get shot.holders holder) refl e
  where
    by : (o : Option (List ℕ × Annotations)) → slice_get shot.holders holder ≡ o → None ≡ option_map (λ (row : List ℕ × Annotations). row.0) o → [] ≡ (get_or shot.holders holder ([], no_marks)).0
    by None is e = ap (λ (row : List ℕ × Annotations). row.0) (sym (missed shot.holders holder ([], no_marks) is))
    by (Some row) is e = absurd (none_some row.0 e)

-- ---- finished rows

-- how many layers of a document are finished
pub finished_counted : (names : List (List ℕ)) (rows : List Row) → length (filter (λ (r : Row). r.finished) (take (length names) rows)) ≡ length (filter_map finished_row (zip names rows))
finished_counted [] rows = refl
finished_counted (name ∷ names) [] = refl
finished_counted (name ∷ names) (r ∷ rows) = by r.finished (finished_counted names rows)
  where
    by : (b : Bool) → length (filter (λ (r : Row). r.finished) (take (length names) rows)) ≡ length (filter_map finished_row (zip names rows))
        → length (cond b (r ∷ filter (λ (r : Row). r.finished) (take (length names) rows)) (filter (λ (r : Row). r.finished) (take (length names) rows)))
        ≡ length (cons_option (cond b (Some (name, r.layer)) None) (filter_map finished_row (zip names rows)))
    by true h = ap suc h
    by false h = h

pub finished_in : (s : ProjectState) (doc : ℕ) (d : Document) (n : ℕ) → d ≡ document s doc → n ≡ length (annotators s) → length (filter (λ (r : Row). r.finished) (take n d.rows)) ≡ length (finished_rows s doc)
finished_in s doc d n e is =
    ap (λ k. length (filter (λ (r : Row). r.finished) (take k d.rows))) is
    ∙ (ap (λ (o : Document). length (filter (λ (r : Row). r.finished) (take (length (annotators s)) o.rows))) e ∙ finished_counted (annotators s) (document s doc).rows)

pub annotators_counted : (s : ProjectState) → length (filter (λ (person : Person). not person.curator) s.people) ≡ length (annotators s)
annotators_counted s = sym (length-map (filter (λ (person : Person). not person.curator) s.people) (λ (person : Person). person.name))

none_finished : (names : List (List ℕ)) → length (filter_map finished_row (zip names [])) ≡ 0
none_finished [] = refl
none_finished (name ∷ names) = refl

-- where there is no document, no layer is finished
pub finished_nowhere : (s : ProjectState) (name : List ℕ) → slice_get s.documents (number_of s name) ≡ None → 0 ≡ length (finished_rows s (number_of s name))
finished_nowhere s name there =
    sym (ap (λ (o : Document). length (filter_map finished_row (zip (annotators s) o.rows))) (missed s.documents (number_of s name) no_document there) ∙ none_finished (annotators s))

all_none : (names : List (List ℕ)) → filter_map finished_row (zip names []) ≡ []
all_none [] = refl
all_none (name ∷ names) = refl

pub none_finished_there : (s : ProjectState) (doc : ℕ) → slice_get s.documents doc ≡ None → finished_rows s doc ≡ []
none_finished_there s doc there = ap (λ (o : Document). filter_map finished_row (zip (annotators s) o.rows)) (missed s.documents doc no_document there) ∙ all_none (annotators s)

-- ---- numbers and texts

-- the number of a name is no more than the count of documents
pub number_few : (s : ProjectState) (numbers : List (List ℕ × ℕ)) (name : List ℕ) → IsStored s numbers → number_of s name ≤ 4096
number_few s numbers name h = let le = first_le (λ (d : Document). bytes_eq d.name name) s.documents in let few = h.few in omega arith

-- where there is no document, there is no text
pub text_missing : (s : ProjectState) (name : List ℕ) → slice_get s.documents (number_of s name) ≡ None → (document s (number_of s name)).text ≡ []
text_missing s name there = ap (λ (o : Document). o.text) (missed s.documents (number_of s name) no_document there)

-- ---- another row

-- where there is no document of a number, nothing is another
pub row_unset : (s : ProjectState) (doc : ℕ) (who : List ℕ) (changed : Row → Row) → length s.documents ≤ doc → s ≡ on_row s doc who changed
row_unset s doc who changed past = sym (ap (λ (all : List Document). record s { documents = all }) (set_past s.documents doc (with_row (rater_of s who) (changed (row s doc who)) (document s doc)) past))

-- all are taken of a list that is no longer
pub all_taken : (n : ℕ) (rows : List Row) → length rows ≤ n → rows ≡ take n rows
all_taken n rows le = sym (take_all n rows le)

-- ---- another document in a place

-- the project stays in order where a document has another row
pub act_keeps : (s : ProjectState) (numbers : List (List ℕ × ℕ)) (total : ℕ) (new : List Document) (doc rater : ℕ) (r : Row)
    → IsStored s numbers × (total ≡ characters_in s) → new ≡ set s.documents doc (with_row rater r (get_or s.documents doc no_document))
    → IsStored (record s { documents = new }) numbers × (total ≡ characters_in (record s { documents = new }))
act_keeps s numbers total new doc rater r h e =
    let changed : Document = with_row rater r (get_or s.documents doc no_document) in
    let set_one : ProjectState = record s { documents = set s.documents doc changed } in
    let size : length (set s.documents doc changed) ≡ length s.documents = length-set s.documents doc changed in
    let names : map (λ (d : Document). d.name) (set s.documents doc changed) ≡ map (λ (d : Document). d.name) s.documents = map-set_same (λ (d : Document). d.name) s.documents doc changed no_document refl in
    let sizes : map (λ (d : Document). length d.text) (set s.documents doc changed) ≡ map (λ (d : Document). length d.text) s.documents = map-set_same (λ (d : Document). length d.text) s.documents doc changed no_document refl in
    let stored : IsStored set_one numbers = record {
      numbered = λ k within.
          let inside_it : k < length s.documents = omega arith in
          let same : (document set_one k).name ≡ (document s k).name =
          sym (get_or-map (λ (d : Document). d.name) (set s.documents doc changed) k no_document [] within)
          ∙ (ap (λ (all : List (List ℕ)). get_or all k []) names ∙ get_or-map (λ (d : Document). d.name) s.documents k no_document [] inside_it) in
          subst (λ n. numbered_as numbers n ≡ Some k) (sym same) (h.0.numbered k inside_it);
      few = let few = h.0.few in omega arith;
      low = subst (λ all. sum all ≤ 16777216) (sym sizes) h.0.low;
    } in
    subst (λ (all : List Document). IsStored (record s { documents = all }) numbers × (total ≡ characters_in (record s { documents = all }))) (sym e)
    (stored, h.1 ∙ sym (ap sum sizes))

-- the same, part by part
pub act_keeps_parts : (conf : Configuration) (level : ℕ) (people : List Person) (place : ℕ) (documents : List Document) (snapshots : List Snapshot) (numbers : List (List ℕ × ℕ)) (total : ℕ) (new : List Document) (doc rater : ℕ) (r : Row)
    → IsStored (record { conf = conf; level = level; people = people; place = place; documents = documents; snapshots = snapshots }) numbers
    × (total ≡ characters_in (record { conf = conf; level = level; people = people; place = place; documents = documents; snapshots = snapshots }))
    → new ≡ set documents doc (with_row rater r (get_or documents doc no_document))
    → IsStored (record { conf = conf; level = level; people = people; place = place; documents = new; snapshots = snapshots }) numbers
    × (total ≡ characters_in (record { conf = conf; level = level; people = people; place = place; documents = new; snapshots = snapshots }))
act_keeps_parts conf level people place documents snapshots numbers total new doc rater r h e =
    act_keeps (record { conf = conf; level = level; people = people; place = place; documents = documents; snapshots = snapshots }) numbers total new doc rater r h e
