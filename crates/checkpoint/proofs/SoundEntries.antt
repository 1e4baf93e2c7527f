-- What is kept of a project makes each of its pieces an entry.
use Rattle.std.proofs.Common.{◌≡◌, ℕ, ◌+◌, ◌*◌, ◌<◌, ◌≤◌, ◌^◌, ◌||◌, Bool, true, false, not, cond, List, [], ◌∷◌, length, map, get_or, take, take_all, bytes_eq, nat_lt, zero, suc, refl, sym, ◌∙◌, ap, subst, arith, IsUtf8, length-append}
use Rattle.std.specs.Prelude.{encode_utf8_all}
use Rattle.std.specs.Cmp.Lexicographic.{slice_cmp}
use Rattle.std.specs.declared.cmp.Ordering.TheVariants.{Less}
use Rattle.std.specs.List.{AllByRecursion, filter, list_any}
use Rattle.std.specs.List.Sorted.{IsStrictlySortedBy}
use Rattle.std.specs.Ordering.{is_eq, nat_cmp}
use Rattle.std.specs.Str.{is_utf8}
use Rattle.std.specs.Str.Lossy.{utf8_valid_len, valid_len_up_to}
use lib.Utf8.{encode, encodes}
use Rattle.std.proofs.lemmas.Bool.{cond_both, false_from_ne_true, ltb-false}
use Rattle.std.proofs.lemmas.List.Elements.{All-from_recursion}
use Rattle.std.proofs.lemmas.List.Sums.{position_or_len_is}
use Rattle.std.proofs.lemmas.Map.Text.{is_eq-slice_cmp}
use Rattle.std.proofs.lemmas.Slice.Eq.{bytes_eq-Decides}
use Rattle.std.proofs.lemmas.Str.{IsUtf8-from_is_utf8, IsUtf8-nil, length-encode, len_utf8_bounds}
use Rattle.conf_model.specs.ConfOf.{Fault, conf_of}
use Rattle.conf_model.specs.ConfText.{conf_text}
use Rattle.conf_model.specs.Configurations.{Configuration}
use Rattle.conf_model.specs.Sound as configuration
use Rattle.entry_bytes.specs.declared.person.Person.{Person}
use Rattle.entry_bytes.specs.Entries.{IsEntry}
use Rattle.entry_bytes.specs.Fields.{flag, IsSlug, IsText}
use Rattle.layer_model.specs.Annotations.{Annotations}
use Rattle.ann_writer.specs.AnnOf.{ann_of}
use Rattle.ann_writer.specs.Writable.{IsOfProgram}
use Rattle.command_bytes.specs.CommandValues.{IsTypedLayer}
use Rattle.project_machine.specs.Entries.{document_piece, first_piece}
use Rattle.project_machine.specs.Legal.{IsDocumentKept, IsKept, IsSound}
use Rattle.project_machine.specs.ProjectState.{Document, ProjectState, annotators, is_annotator, rater_of}
use Rattle.project_machine.proofs.NameLemmas.{filtered_part, part_sorted}
use Rattle.project_state.proofs.EntriesProofs.AgainLemmas.{IsOfText}
use Rattle.project_state.proofs.EntriesProofs.RosterLemmas.{few_people}
use Rattle.std.specs.Prelude.{Result, Ok, Err}
use Rattle.checkpoint.proofs.SamePieces.{ReadBack}
use Rattle.checkpoint.proofs.SameValues.{of_program}

-- the lines of layers of a program are UTF-8
abbrev pub WrittenIsUtf8 : Type 0
WrittenIsUtf8 = (conf : Configuration) (text : List ℕ) (layer : Annotations) → IsOfProgram conf text layer → IsUtf8 (ann_of conf text layer)

-- ---- the text of a configuration is one

valid_le : (bs : List ℕ) (n : ℕ) → valid_len_up_to bs n ≤ n
valid_le bs zero = omega arith
valid_le bs (suc n) = cond_both (is_utf8 (take (suc n) bs)) (suc n) (valid_len_up_to bs n) (λ k. k ≤ suc n) (λ e. omega arith) (λ e. omega (arith, valid_le bs n))

valid_front : (bs : List ℕ) (n : ℕ) → n ≤ valid_len_up_to bs n → IsUtf8 (take n bs)
valid_front bs zero h = IsUtf8-nil
valid_front bs (suc n) h = go (is_utf8 (take (suc n) bs)) refl h
  where
    go : (b : Bool) → is_utf8 (take (suc n) bs) ≡ b → suc n ≤ cond b (suc n) (valid_len_up_to bs n) → IsUtf8 (take (suc n) bs)
    go true e k = IsUtf8-from_is_utf8 (take (suc n) bs) e
    go false e k = absurd (omega (arith, valid_le bs n))

valid_whole : (bs : List ℕ) → nat_lt (utf8_valid_len bs) (length bs) ≡ false → IsUtf8 bs
unfolding utf8_valid_len
valid_whole bs e = subst IsUtf8 (take_all (length bs) bs (omega arith)) (valid_front bs (length bs) (ltb-false (valid_len_up_to bs (length bs)) (length bs) e))

not_faulty : (b : Bool) (f : Fault) (told : Result Configuration Fault) (conf : Configuration) → cond b (Err f) told ≡ Ok conf → b ≡ false
not_faulty true f told conf e = absurd (cc)
not_faulty false f told conf e = refl

conf_is_utf8 : ReadBack → (conf : Configuration) → configuration.IsSound conf → IsUtf8 (conf_text conf)
unfolding conf_of
conf_is_utf8 back conf sound = valid_whole (conf_text conf) (not_faulty (nat_lt (utf8_valid_len (conf_text conf)) (length (conf_text conf))) _ _ conf (back conf sound))

-- ---- the first piece, and documents

pub first_entered : ReadBack → (s : ProjectState) → IsSound s → IsEntry (first_piece s)
first_entered back s sound =
    let k : IsKept s = sound.kept in
    let low : s.place ≤ 2 ^ 62 = sound.low in
    let few : length s.documents ≤ 4096 = k.few in
    let taken : length s.snapshots ≤ s.place = k.taken in
    let short : length (conf_text s.conf) ≤ 4194304 = k.founding.short in
    let place : s.place < 2 ^ 64 = omega arith in
    let documents : length s.documents < 2 ^ 32 = omega arith in
    let snapshots : length s.snapshots < 2 ^ 64 = omega arith in
    let size : length (conf_text s.conf) < 2 ^ 32 = omega arith in (
      place,
      k.founding.in_range,
      documents,
      snapshots,
      record { utf8 = conf_is_utf8 back s.conf k.founding.sound; size = size },
      record { count = few_people s.people k.founding.roster.sorts; names = k.founding.roster.names },
    )

encodes_short : (cs : List ℕ) → length (encodes cs) ≤ 4 * length cs
encodes_short [] = omega arith
encodes_short (c ∷ cs) =
    let rest : length (encodes cs) ≤ 4 * length cs = encodes_short cs in
    let whole = length-append (encode c) (encodes cs) in
    let one = length-encode c in
    let most = (len_utf8_bounds c).1 in
    omega (arith, rest, whole, one, most)

-- a character has at most four bytes
text_short : (text : List ℕ) → length text ≤ 200000 → length (encode_utf8_all text) < 2 ^ 32
text_short text short = let most : length (encode_utf8_all text) ≤ 4 * length text = encodes_short text in omega arith

pub document_entered : (s : ProjectState) (d : Document) → IsDocumentKept s.conf (annotators s) s.place d → IsEntry (document_piece d)
document_entered s d k = (k.name, record { utf8 = k.text.valid; size = text_short d.text k.text.short })

-- the lines of a layer are a text
pub lines_are : WrittenIsUtf8 → (conf : Configuration) (text : List ℕ) (layer : Annotations) → IsOfText conf text → IsTypedLayer layer → length (ann_of conf text layer) ≤ 16777216 → IsText (ann_of conf text layer)
lines_are written conf text layer of typed short = record { utf8 = written conf text layer (of_program conf text layer of typed); size = omega arith }

-- ---- the names of annotators

slugs_kept : (p : Person → Bool) (people : List Person) → AllByRecursion (λ (person : Person). IsSlug person.name) people → AllByRecursion IsSlug (map (λ (person : Person). person.name) (filter p people))
slugs_kept p [] all = tt
slugs_kept p (x ∷ xs) all = by (p x) (slugs_kept p xs all.1)
  where
    by : (b : Bool) → AllByRecursion IsSlug (map (λ (person : Person). person.name) (filter p xs)) → AllByRecursion IsSlug (map (λ (person : Person). person.name) (cond b (x ∷ filter p xs) (filter p xs)))
    by true rest = (all.0, rest)
    by false rest = rest

annotators_are : (s : ProjectState) → IsKept s → AllByRecursion IsSlug (annotators s)
annotators_are s k = slugs_kept (λ (person : Person). not person.curator) s.people k.founding.roster.names

-- the name of the annotator of a place is spelt as one
pub rater_slug : (s : ProjectState) (r : ℕ) → IsKept s → r < length (annotators s) → IsSlug (get_or (annotators s) r [])
rater_slug s r k within = All-from_recursion IsSlug (annotators s) (annotators_are s k) r [] within

true_false : true ≡ false → ⊥
true_false e = cc

or_either : (P : Type 0) (a b : Bool) → (a || b) ≡ true → (a ≡ true → P) → (b ≡ true → P) → P
or_either P true b e here later = here refl
or_either P false b e here later = later e

any_slug : (names : List (List ℕ)) (who : List ℕ) → AllByRecursion IsSlug names → list_any (bytes_eq who) names ≡ true → IsSlug who
any_slug [] who all is = absurd (true_false (sym is))
any_slug (name ∷ names) who all is =
    or_either (IsSlug who) (bytes_eq who name) (list_any (bytes_eq who) names) is (λ same. subst IsSlug (sym ((bytes_eq-Decides who name).0 same)) all.0) (λ later. any_slug names who all.1 later)

-- and so is that of each annotator
pub annotator_slug : (s : ProjectState) (who : List ℕ) → IsKept s → is_annotator s who ≡ true → IsSlug who
annotator_slug s who k is = any_slug (annotators s) who (annotators_are s k) is

-- the names of the annotators strictly ascend
annotators_sorted : (s : ProjectState) → IsKept s → IsStrictlySortedBy (slice_cmp nat_cmp) (annotators s)
annotators_sorted s k = part_sorted (slice_cmp nat_cmp) (annotators s) (map (λ (person : Person). person.name) s.people) (filtered_part (λ (person : Person). person.name) (λ (person : Person). not person.curator) s.people) k.founding.roster.ascending

-- what is above a name is above it at each place
pub below_at : (low : List ℕ) (names : List (List ℕ)) (k : ℕ) → AllByRecursion (λ y. slice_cmp nat_cmp low y ≡ Less) names → k < length names → slice_cmp nat_cmp low (get_or names k []) ≡ Less
below_at low [] k all within = absurd (omega arith)
below_at low (x ∷ names) zero all within = all.0
below_at low (x ∷ names) (suc k) all within = below_at low names k all.1 (omega arith)

sorted_at : (names : List (List ℕ)) (i j : ℕ) → IsStrictlySortedBy (slice_cmp nat_cmp) names → i < j → j < length names → slice_cmp nat_cmp (get_or names i []) (get_or names j []) ≡ Less
unfolding IsStrictlySortedBy
sorted_at [] i j up low within = absurd (omega arith)
sorted_at (x ∷ names) i zero up low within = absurd (omega arith)
sorted_at (x ∷ names) zero (suc j) up low within = below_at x names j up.0 (omega arith)
sorted_at (x ∷ names) (suc i) (suc j) up low within = sorted_at names i j up.1 (omega arith) (omega arith)

not_below : (name : List ℕ) → slice_cmp nat_cmp name name ≡ Less → ⊥
not_below name less = true_false (sym ((bytes_eq-Decides name name).1 refl) ∙ (sym (is_eq-slice_cmp name name) ∙ ap is_eq less))

-- the place of the annotator of a place
pub rater_back : (s : ProjectState) (r : ℕ) → IsKept s → r < length (annotators s) → rater_of s (get_or (annotators s) r []) ≡ r
rater_back s r k within =
    let who : List ℕ = get_or (annotators s) r [] in
    position_or_len_is (bytes_eq who) (annotators s) r [] (omega arith)
    (λ i low. false_from_ne_true (bytes_eq who (get_or (annotators s) i []))
    (λ same. not_below who (subst (λ (name : List ℕ). slice_cmp nat_cmp name who ≡ Less) (sym ((bytes_eq-Decides who (get_or (annotators s) i [])).0 same)) (sorted_at (annotators s) i r (annotators_sorted s k) low within))))
    (λ inside. (bytes_eq-Decides who who).1 refl)

any_there : {X : Type 0} (p : X → Bool) (xs : List X) (k : ℕ) (d : X) → k < length xs → p (get_or xs k d) ≡ true → list_any p xs ≡ true
any_there p [] k d within is = absurd (omega arith)
any_there p (x ∷ xs) zero d within is = first (p x) (list_any p xs) is
  where
    first : (a b : Bool) → a ≡ true → (a || b) ≡ true
    first true b e = refl
    first false b e = absurd (true_false (sym e))
any_there p (x ∷ xs) (suc k) d within is = later (p x) (list_any p xs) (any_there p xs k d (omega arith) is)
  where
    later : (a b : Bool) → b ≡ true → (a || b) ≡ true
    later true b e = refl
    later false b e = e

-- the name of a place is that of an annotator
pub rater_annotates : (s : ProjectState) (r : ℕ) → r < length (annotators s) → is_annotator s (get_or (annotators s) r []) ≡ true
rater_annotates s r within = any_there (bytes_eq (get_or (annotators s) r [])) (annotators s) r [] within ((bytes_eq-Decides (get_or (annotators s) r []) (get_or (annotators s) r [])).1 refl)

-- ---- flags

pub flags_low : (a b : Bool) → flag a + cond b 2 0 < 4
flags_low true true = omega arith
flags_low true false = omega arith
flags_low false true = omega arith
flags_low false false = omega arith
