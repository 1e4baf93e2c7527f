-- The entry of each change that goes on with a history is one that can be read.
use Rattle.std.proofs.Common.{◌≡◌, ◌⊎◌, ℕ, ◌+◌, ◌-◌, ◌<◌, ◌≤◌, ◌^◌, ◌==◌, ◌||◌, Bool, true, false, not, cond, List, [], ◌∷◌, ◌++◌, length, map, bytes_eq, Option, Some, None, refl, sym, ◌∙◌, ap, subst, arith, inl, inr, length-append, IsUtf8}
use Rattle.std.specs.List.{filter, list_any, AllByRecursion}
use Rattle.std.specs.Option.{option_or}
use Rattle.std.proofs.lemmas.Bool.{cases_lt}
use Rattle.std.proofs.lemmas.List.{get_or_past, same_from_push}
use Rattle.std.proofs.lemmas.Slice.Eq.{bytes_eq-Decides}
use Rattle.mark_base.specs.declared.ann_id.AnnId.{AnnId}
use Rattle.mark_base.specs.declared.ann_id.Kind.{Kind}
use Rattle.mark_base.specs.declared.ann_id.Kind.TheVariants as letter
use Rattle.entry_bytes.specs.declared.entry.Entry.TheVariants as entry
use Rattle.entry_bytes.specs.declared.person.Person.{Person}
use Rattle.entry_bytes.specs.Entries.{entry_bytes, IsEntry}
use Rattle.entry_bytes.specs.Fields.{slug_bytes, text_bytes, ArePeople, IsSlug, IsText}
use Rattle.conf_model.specs.ConfText.{conf_text}
use Rattle.conf_model.specs.Configurations.{Configuration}
use Rattle.layer_model.specs.Annotations.{Annotations}
use Rattle.layer_model.specs.Classes.{letter_place}
use Rattle.ann_writer.specs.AnnOf.{ann_of}
use Rattle.ann_writer.specs.Writable.{IsOfProgram}
use Rattle.project_machine.specs.declared.book_refusal.BookRefusal.{BookRefusal}
use Rattle.project_machine.specs.declared.book_refusal.BookRefusal.TheVariants as no
use Rattle.curator_decisions.specs.declared.decision_fault.DecisionFault.TheVariants as fault
use Rattle.project_machine.specs.ProjectState.{Document, Snapshot, ProjectState, document, holder_of, is_annotator, is_curator, is_holder, is_some_out, is_there, no_document, no_snapshot, number_of, snapshot}
use Rattle.project_machine.specs.Requests.{Asked, ReadConf, ListDocs, ReadText, AddText, Checkout, TakeOver, Commit, Park, Finish, ReadLayer, Reopen, Ignore, Readmit, Snap, TakeSnapshot, Decide, Undecide, ReadPairs, ReadAlpha, ReadReport, Happened, TextAdded, CheckedOut, TakenOver, LayerCommitted, LayerParked, LayerFinished, LayerReopened, LayerIgnored, LayerReadmitted, SnapshotTaken, ItemDecided, ItemUndecided, AllFreed}
use Rattle.command_bytes.specs.CommandValues.{IsTypedLayer}
use Rattle.project_machine.specs.RequestValues.{IsAsked, IsDocText}
use Rattle.project_machine.specs.Entries.{encoded_text, entry_of, founding_entry, lines_in}
use Rattle.project_machine.specs.Machine.{curators_only, holds, size_in, step, taken, there}
use Rattle.project_machine.specs.History.{after}
use Rattle.project_machine.specs.Legal.{IsFounding, IsKept, IsLegal, legal_founding, legal_restored, legal_step, legal_freeing}
use Rattle.project_machine.proofs.HistoryLemmas.{IsGranted, granted, length_push}
use Rattle.project_machine.proofs.KeptLemmas.{allowed, annotates, any_within, tests_free, unmet}
use Rattle.project_machine.proofs.LegalLemmas.{none_some, some_same}
use Rattle.project_machine.proofs.RowLemmas.{or_first, or_second}
use Rattle.project_state.proofs.EntriesProofs.RosterLemmas.{few_people}
use Rattle.project_book.proofs.StatePiecesProofs.ConfLemmas.{ReadBack, conf_is_utf8}
use Rattle.project_state.proofs.EntriesProofs.SizeLemmas.{commit_long, text_size}
use Rattle.project_machine.specs.declared.book_refusal.Policy.TheVariants as policy

-- ---- a founding

at_most : (level : ℕ) → level < 256 → (level == 255) ≡ false → level < 255
at_most level low isnt =
    elim (cases_lt level 255) as (λ _. level < 255) [
      | inl less ↦ less
      | inr past ↦ absurd (true_false (sym (ap (λ n. n == 255) (let here : level ≡ 255 = omega arith in here)) ∙ isnt))
    ]
  where
    true_false : true ≡ false → ⊥
    true_false e = cc

founding_by : (text : List ℕ) (people : List Person) (level : ℕ) (b : Bool) → (level == 255) ≡ b → IsText text → ArePeople people → level < 256
    → IsEntry (cond b (entry.Found text people) (entry.FoundAt text people level))
founding_by text people level true is texted peopled low = (texted, peopled)
founding_by text people level false is texted peopled low = (texted, peopled, at_most level low is)

pub founding_is : ReadBack → (conf : Configuration) (level : ℕ) (people : List Person) → IsFounding conf level people → IsEntry (founding_entry (conf_text conf) people level)
founding_is back conf level people is =
    founding_by (conf_text conf) people level (level == 255) refl
    (record { utf8 = conf_is_utf8 back conf is.sound; size = let short : length (conf_text conf) ≤ 4194304 = is.short in omega arith })
    (record { count = few_people people is.roster.sorts; names = is.roster.names }) is.in_range

-- ---- who asks

false_true : false ≡ true → ⊥
false_true e = cc

either_true : (a b : Bool) → (a || b) ≡ true → (a ≡ true) ⊎ (b ≡ true)
either_true true b e = inl refl
either_true false b e = inr e

slug_or : (b : Bool) (x : Person) (rest : List Person) (who : List ℕ) → IsSlug x.name → (list_any (bytes_eq who) (map (λ (p : Person). p.name) rest) ≡ true → IsSlug who)
    → list_any (bytes_eq who) (map (λ (p : Person). p.name) (cond b (x ∷ rest) rest)) ≡ true → IsSlug who
slug_or true x rest who slug more is =
    elim (either_true (bytes_eq who x.name) (list_any (bytes_eq who) (map (λ (p : Person). p.name) rest)) is) as (λ _. IsSlug who) [
      | inl same ↦ subst IsSlug (sym ((bytes_eq-Decides who x.name).0 same)) slug
      | inr later ↦ more later
    ]
slug_or false x rest who slug more is = more is

any_slug : (p : Person → Bool) (people : List Person) (who : List ℕ) → AllByRecursion (λ (person : Person). IsSlug person.name) people → list_any (bytes_eq who) (map (λ (p : Person). p.name) (filter p people)) ≡ true → IsSlug who
any_slug p [] who all is = absurd (false_true is)
any_slug p (x ∷ xs) who all is = slug_or (p x) x (filter p xs) who all.0 (λ later. any_slug p xs who all.1 later) is

annotator_slug : (s : ProjectState) (who : List ℕ) → IsKept s → is_annotator s who ≡ true → IsSlug who
annotator_slug s who k is = any_slug (λ (person : Person). not person.curator) s.people who k.founding.roster.names is

curator_slug : (s : ProjectState) (who : List ℕ) → IsKept s → is_curator s who ≡ true → IsSlug who
curator_slug s who k is = any_slug (λ (person : Person). person.curator) s.people who k.founding.roster.names is

curates : (s : ProjectState) (caller : List ℕ) → curators_only s caller ≡ None → is_curator s caller ≡ true
curates s caller e = unmet (is_curator s caller) (no.NotAllowed policy.Curator) e

-- ---- documents and holders

doc_there : (s : ProjectState) (name : List ℕ) (more : Option BookRefusal) → option_or (there s name) more ≡ None → number_of s name < length s.documents
doc_there s name more e = any_within (λ (d : Document). bytes_eq d.name name) s.documents (unmet (is_there s name) no.NoDocument (or_first (there s name) more e))

doc_low : (s : ProjectState) (name : List ℕ) (more : Option BookRefusal) → IsKept s → option_or (there s name) more ≡ None → number_of s name < 2 ^ 32
doc_low s name more k e =
    let within : number_of s name < length s.documents = doc_there s name more e in
    let few : length s.documents ≤ 4096 = k.few in
    omega arith

few_holders : (s : ProjectState) (number : ℕ) → IsKept s → length (snapshot s number).holders ≤ 16
few_holders s number k =
    elim (cases_lt (number - 1) (length s.snapshots)) as (λ _. length (snapshot s number).holders ≤ 16) [
      | inl within ↦ (k.snapshots (number - 1) no_snapshot within).holders.few
      | inr past ↦ subst (λ (shot : Snapshot). length shot.holders ≤ 16) (sym (get_or_past s.snapshots (number - 1) no_snapshot past)) (omega arith)
    ]

holder_low : (s : ProjectState) (number : ℕ) (who : List ℕ) (more : Option BookRefusal) → IsKept s → option_or (holds (snapshot s number) who) more ≡ None → holder_of (snapshot s number) who < 256
holder_low s number who more k e =
    let within : holder_of (snapshot s number) who < length (snapshot s number).holders =
    any_within (λ (held : List ℕ × Annotations). bytes_eq held.0 who) (snapshot s number).holders (unmet (is_holder (snapshot s number) who) (no.Decision fault.NoItem) (or_first (holds (snapshot s number) who) more e)) in
    let few : length (snapshot s number).holders ≤ 16 = few_holders s number k in
    omega arith

letter_low : (kind : Kind) → letter_place kind < 256
letter_low letter.Text = omega arith
letter_low letter.Event = omega arith
letter_low letter.Relation = omega arith
letter_low letter.Attribute = omega arith
letter_low letter.Legacy = omega arith
letter_low letter.Normal = omega arith
letter_low letter.Note = omega arith

number_low : (id : AnnId) → id.number < 2 ^ 32
number_low id = let low : id.number ≤ 999999999 = id.within in omega arith

-- ---- texts

added_short : (by name text : List ℕ) → length (entry_bytes (entry.AddText by name text)) ≤ 16777216 → length text < 2 ^ 32
unfolding entry_bytes
added_short by name text short =
    let all : length (2 ∷ slug_bytes by ++ slug_bytes name ++ text_bytes text) ≤ 16777216 = short in
    let whole = length-append (2 ∷ slug_bytes by ++ slug_bytes name) (text_bytes text) in
    let size = text_size text in
    omega arith

-- the lines of layers of a program are UTF-8
abbrev pub WrittenIsUtf8 : Type 0
WrittenIsUtf8 = (conf : Configuration) (text : List ℕ) (layer : Annotations) → IsOfProgram conf text layer → IsUtf8 (ann_of conf text layer)

lines_are : WrittenIsUtf8 → (s : ProjectState) (doc : ℕ) (layer : Annotations) → IsKept s → doc < length s.documents → IsTypedLayer layer → length (lines_in s doc layer) ≤ 16777216 → IsText (lines_in s doc layer)
lines_are written s doc layer k within typed short =
    let texted : IsDocText (document s doc).text = (k.documents doc no_document within).text in
    record {
      utf8 = written s.conf (document s doc).text layer (record { sound = k.founding.sound; kept = typed.kept; texts = typed.texts; short = texted.short; valid = texted.valid; characters = texted.characters });
      size = omega arith;
    }

-- ---- the entry of what a step makes happen

pub change_is : WrittenIsUtf8 → (s : ProjectState) (caller : List ℕ) (asked : Asked) (e : Happened) → IsKept s → IsAsked asked → IsGranted s caller asked e → IsEntry (entry_of s e)
change_is written s caller ReadConf e k typed g = absurd (none_some e g.made)
change_is written s caller ListDocs e k typed g = absurd (none_some e g.made)
change_is written s caller (ReadText name) e k typed g = absurd (none_some e g.made)
change_is written s caller (ReadLayer name who) e k typed g = absurd (none_some e g.made)
change_is written s caller (TakeSnapshot number) e k typed g = absurd (none_some e g.made)
change_is written s caller ReadPairs e k typed g = absurd (none_some e g.made)
change_is written s caller ReadAlpha e k typed g = absurd (none_some e g.made)
change_is written s caller (ReadReport report) e k typed g = absurd (none_some e g.made)
change_is written s caller (AddText name text) e k typed g =
    let same : TextAdded caller name text ≡ e = some_same (TextAdded caller name text) e g.made in
    let short : size_in s (TextAdded caller name text) ≤ 16777216 = subst (λ x. size_in s x ≤ 16777216) (sym same) g.short in
    subst (λ x. IsEntry (entry_of s x)) same (curator_slug s caller k (curates s caller (allowed s caller (AddText name text) g.free)), typed.0, record { utf8 = typed.1.valid; size = added_short caller name (encoded_text text) short })
change_is written s caller (Checkout name) e k typed g =
    subst (λ x. IsEntry (entry_of s x)) (some_same (CheckedOut caller (number_of s name)) e g.made)
    (annotator_slug s caller k (annotates s caller (allowed s caller (Checkout name) g.free)), doc_low s name _ k (tests_free s caller (Checkout name) g.free))
change_is written s caller (TakeOver name) e k typed g =
    subst (λ x. IsEntry (entry_of s x)) (some_same (TakenOver caller (number_of s name)) e g.made)
    (annotator_slug s caller k (annotates s caller (allowed s caller (TakeOver name) g.free)), doc_low s name _ k (tests_free s caller (TakeOver name) g.free))
change_is written s caller (Commit name hold layer) e k typed g =
    let happened : Happened = LayerCommitted caller (number_of s name) hold layer in
    let same : happened ≡ e = some_same happened e g.made in
    let short : size_in s happened ≤ 16777216 = subst (λ x. size_in s x ≤ 16777216) (sym same) g.short in
    let free = tests_free s caller (Commit name hold layer) g.free in
    subst (λ x. IsEntry (entry_of s x)) same (
      annotator_slug s caller k (annotates s caller (allowed s caller (Commit name hold layer) g.free)),
      doc_low s name _ k free,
      typed.1,
      lines_are written s (number_of s name) layer k (doc_there s name _ free) typed.2 (commit_long caller (number_of s name) hold (lines_in s (number_of s name) layer) short),
    )
change_is written s caller (Park name hold done undone) e k typed g =
    subst (λ x. IsEntry (entry_of s x)) (some_same (LayerParked caller (number_of s name) hold done undone) e g.made)
    (annotator_slug s caller k (annotates s caller (allowed s caller (Park name hold done undone) g.free)), doc_low s name _ k (tests_free s caller (Park name hold done undone) g.free), typed.1)
change_is written s caller (Finish name) e k typed g =
    subst (λ x. IsEntry (entry_of s x)) (some_same (LayerFinished caller (number_of s name)) e g.made)
    (annotator_slug s caller k (annotates s caller (allowed s caller (Finish name) g.free)), doc_low s name _ k (tests_free s caller (Finish name) g.free))
change_is written s caller (Reopen name who) e k typed g =
    subst (λ x. IsEntry (entry_of s x)) (some_same (LayerReopened caller (number_of s name) who) e g.made)
    (curator_slug s caller k (curates s caller (allowed s caller (Reopen name who) g.free)), doc_low s name _ k (tests_free s caller (Reopen name who) g.free), typed.1)
change_is written s caller (Ignore name who) e k typed g =
    subst (λ x. IsEntry (entry_of s x)) (some_same (LayerIgnored caller (number_of s name) who) e g.made)
    (curator_slug s caller k (curates s caller (allowed s caller (Ignore name who) g.free)), doc_low s name _ k (tests_free s caller (Ignore name who) g.free), typed.1)
change_is written s caller (Readmit name who) e k typed g =
    subst (λ x. IsEntry (entry_of s x)) (some_same (LayerReadmitted caller (number_of s name) who) e g.made)
    (curator_slug s caller k (curates s caller (allowed s caller (Readmit name who) g.free)), doc_low s name _ k (tests_free s caller (Readmit name who) g.free), typed.1)
change_is written s caller (Snap name) e k typed g =
    subst (λ x. IsEntry (entry_of s x)) (some_same (SnapshotTaken caller (number_of s name)) e g.made)
    (curator_slug s caller k (curates s caller (allowed s caller (Snap name) g.free)), doc_low s name _ k (tests_free s caller (Snap name) g.free))
change_is written s caller (Decide number holder id verdict) e k typed g =
    let free = tests_free s caller (Decide number holder id verdict) g.free in
    subst (λ x. IsEntry (entry_of s x)) (some_same (ItemDecided caller number (holder_of (snapshot s number) holder) id verdict) e g.made) (
      curator_slug s caller k (curates s caller (allowed s caller (Decide number holder id verdict) g.free)),
      typed.0,
      holder_low s number holder _ k (or_second (taken s number) _ free),
      letter_low id.kind,
      number_low id,
    )
change_is written s caller (Undecide number holder id) e k typed g =
    let free = tests_free s caller (Undecide number holder id) g.free in
    subst (λ x. IsEntry (entry_of s x)) (some_same (ItemUndecided caller number (holder_of (snapshot s number) holder) id) e g.made) (
      curator_slug s caller k (curates s caller (allowed s caller (Undecide number holder id) g.free)),
      typed.0,
      holder_low s number holder _ k (or_second (taken s number) _ free),
      letter_low id.kind,
      number_low id,
    )

-- ---- the last change of a history

-- a change goes on with a history: a typed request makes it, or it frees layers that are out
pub data Goes (log : List Happened) (e : Happened) : Type 0 where
  by_request : (caller : List ℕ) (asked : Asked) → IsAsked asked → (step (after log) caller asked).change ≡ Some e → Goes log e
  by_freeing : e ≡ AllFreed → is_some_out (after log) ≡ true → Goes log e

one_more : (log : List Happened) (x e : Happened) → 0 < length log → x ∷ [] ≡ log ++ e ∷ [] → ⊥
one_more log x e some same = let size : length (log ++ e ∷ []) ≡ length log + 1 = length_push log e in let one : 1 ≡ length (log ++ e ∷ []) = ap length same in omega arith

goes_by : (whole : List Happened) → IsLegal whole → (log : List Happened) (e : Happened) → 0 < length log → whole ≡ log ++ e ∷ [] → Goes log e
goes_by _ (legal_founding conf level people is) log e some same = absurd (one_more log _ e some same)
goes_by _ (legal_restored state sound) log e some same = absurd (one_more log _ e some same)
goes_by _ (legal_step front caller asked x l typed is) log e some same =
    let parts = same_from_push front log x e same in
    subst (λ l. Goes l e) parts.0 (subst (λ y. Goes front y) parts.1 (by_request caller asked typed is))
goes_by _ (legal_freeing front l is) log e some same =
    let parts = same_from_push front log AllFreed e same in
    subst (λ l. Goes l e) parts.0 (subst (λ y. Goes front y) parts.1 (by_freeing refl is))

pub goes : (log : List Happened) (e : Happened) → 0 < length log → IsLegal (log ++ e ∷ []) → Goes log e
goes log e some legal = goes_by (log ++ e ∷ []) legal log e some refl

-- the entry of the next change of a history can be read
pub next_is : WrittenIsUtf8 → (log : List Happened) (e : Happened) → IsKept (after log) → Goes log e → IsEntry (entry_of (after log) e)
next_is written log e k (by_request caller asked typed is) = change_is written (after log) caller asked e k typed (granted (after log) caller asked e is)
next_is written log e k (by_freeing same is) = subst (λ x. IsEntry (entry_of (after log) x)) (sym same) tt
