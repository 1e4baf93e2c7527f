-- A curator of a project is refused neither the list of documents nor the layer of an annotator on one of them: such a layer is shown, or nothing was committed, or memory ran out.
use Rattle.std.proofs.Common.{◌≡◌, ◌≢◌, ℕ, ◌+◌, ◌<◌, ◌==◌, Bool, true, false, not, ◌||◌, List, [], ◌∷◌, length, map, get_or, find, Option, Some, None, zero, suc, refl, sym, ◌∙◌, ap, subst, arith, cond, bytes_eq}
use Rattle.std.specs.Prelude.{IsSome, fold}
use Rattle.std.specs.List.{filter, list_any}
use Rattle.std.specs.Option.{option_map_or, option_or}
use Rattle.std.proofs.lemmas.Slice.Eq.{bytes_eq-Decides}
use Rattle.entry_bytes.specs.declared.person.Person.{Person}
use Rattle.conf_model.specs.Configurations.{Configuration}
use Rattle.layer_model.specs.Annotations.{Annotations}
use Rattle.project_machine.specs.declared.book_refusal.BookRefusal.{BookRefusal}
use Rattle.project_machine.specs.declared.book_refusal.BookRefusal.TheVariants as no
use Rattle.project_machine.specs.declared.book_refusal.Policy.TheVariants as policy
use Rattle.project_machine.specs.declared.doc_line.DocLine.{DocLine}
use Rattle.project_machine.specs.People.{HasBothSorts, curator_count}
use Rattle.project_machine.specs.ProjectState.{Document, ProjectState, is_annotator, is_curator, is_there, row_in}
use Rattle.project_machine.specs.Requests.{Answered, Asked, Docs, Happened, Layer, ListDocs, ReadLayer, Refused}
use Rattle.project_machine.specs.History.{after}
use Rattle.project_machine.specs.Machine.{first_of, line_of, refusal, reply, step, unless, when}
use Rattle.project_machine.specs.Asking.{IsStep, steps, wants_memory, is_not_kept}
use Rattle.program_inputs.specs.declared.trouble.Trouble.{Trouble}
use Rattle.program_inputs.specs.declared.trouble.Trouble.TheVariants as trouble
use Rattle.project_commands.specs.Commands.Requests.{RefusesTo, refuses, lacks_memory, fails_to_keep, trouble_of}
use Rattle.project_commands.specs.Showing.{first_curator}

-- ---- the first curator

-- the names of the curators among people
abbrev curators_in : List Person → List (List ℕ)
curators_in people = map (λ (person : Person). person.name) (filter (λ (person : Person). person.curator) people)

-- whether the first curator among people and one before them is one of theirs, as that one is a curator or not
abbrev is_one : Bool → Person → List Person → Bool
is_one b person people =
    list_any (bytes_eq (option_map_or (λ (one : Person). one.name) (cond b (Some person) (find (λ (one : Person). one.curator) people)) []))
    (map (λ (one : Person). one.name) (cond b (person ∷ filter (λ (one : Person). one.curator) people) (filter (λ (one : Person). one.curator) people)))

own_name : (person : Person) (people : List Person) → is_one true person people ≡ true
own_name person people =
    ap (λ (b : Bool). b || list_any (bytes_eq person.name) (curators_in people)) ((bytes_eq-Decides person.name person.name).1 refl)

-- the first curator among people is one of them, where some are curators
first_among : (people : List Person) → 0 < curator_count people → list_any (bytes_eq (first_curator people)) (curators_in people) ≡ true
first_among [] some = absurd (omega arith)
first_among (person ∷ people) some = by (λ others. first_among people others) person.curator refl
  where
    by : (0 < curator_count people → list_any (bytes_eq (first_curator people)) (curators_in people) ≡ true) → (b : Bool) → person.curator ≡ b → is_one person.curator person people ≡ true
    by others true is = ap (λ (b : Bool). is_one b person people) is ∙ own_name person people
    by others false is =
        ap (λ (b : Bool). is_one b person people) is ∙ others (subst (λ (b : Bool). 0 < fold (λ (a : ℕ) (one : Person). a + cond one.curator 1 0) (0 + cond b 1 0) people) is some)

-- the first curator of a project is one of its curators
pub curates : (s : ProjectState) (name : List ℕ) → HasBothSorts s.people → name ≡ first_curator s.people → is_curator s name ≡ true
curates s name sorts is = ap (is_curator s) is ∙ first_among s.people sorts.some_curator

-- ---- what a curator is refused

or_true : (b : Bool) → (b || true) ≡ true
or_true true = refl
or_true false = refl

-- a curator is not refused the list of documents
lists : (s : ProjectState) (caller : List ℕ) → is_curator s caller ≡ true → refusal s caller ListDocs ≡ None
lists s caller curator =
    ap (λ (b : Bool). option_or (when (not b) (no.NotAllowed policy.Roster)) (option_or None (first_of [])))
    (ap (λ (b : Bool). is_annotator s caller || b) curator ∙ or_true (is_annotator s caller))

-- what is tested of a layer that is read: the caller is an annotator, or a curator, or the owner; the document is there; the owner is an annotator; nothing was committed
abbrev tested : (a c e t w z : Bool) → Option BookRefusal
tested a c e t w z =
    option_or (when (not (a || c)) (no.NotAllowed policy.Roster))
    (option_or (when (not (c || e)) (no.NotAllowed policy.Own)) (first_of (when (not t) no.NoDocument ∷ when (not w) no.NoLayer ∷ when z no.NoLayer ∷ [])))

tested_last : (a e z : Bool) → tested a true e true true z ≡ when z no.NoLayer
tested_last true e true = refl
tested_last true e false = refl
tested_last false e true = refl
tested_last false e false = refl

-- a curator is refused the layer of an annotator on a document only where nothing was committed
reads : (s : ProjectState) (caller name who : List ℕ) → is_curator s caller ≡ true → is_there s name ≡ true → is_annotator s who ≡ true
    → refusal s caller (ReadLayer name who) ≡ when ((row_in s name who).revision == 0) no.NoLayer
reads s caller name who curator there annotator =
    ap (λ (c : Bool). tested (is_annotator s caller) c (bytes_eq caller who) (is_there s name) (is_annotator s who) ((row_in s name who).revision == 0)) curator
    ∙ (ap (λ (t : Bool). tested (is_annotator s caller) true (bytes_eq caller who) t (is_annotator s who) ((row_in s name who).revision == 0)) there
    ∙ (ap (λ (w : Bool). tested (is_annotator s caller) true (bytes_eq caller who) true w ((row_in s name who).revision == 0)) annotator
    ∙ tested_last (is_annotator s caller) (bytes_eq caller who) ((row_in s name who).revision == 0)))

-- a request that is to make nothing happen makes nothing happen
makes_none : (s : ProjectState) (asked : Asked) (o : Option BookRefusal) (answer : Answered) → (unless s asked o answer None).change ≡ None
makes_none s asked (Some r) answer = refl
makes_none s asked None answer = refl

none_made : {X A : Type 0} (o : Option X) → o ≡ None → IsSome o → A
none_made None is some = cc
none_made (Some x) is some = cc

refused_same : {r other : BookRefusal} {named names : List ℕ} → Refused r named ≡ Refused other names → r ≡ other
refused_same {r} {other} {named} {names} e = cc

-- where a curator is refused the list of documents, memory ran out
pub lists_or_memory : (log : List Happened) (caller : List ℕ) (why : Trouble) → is_curator (after log) caller ≡ true → RefusesTo log caller ListDocs why → why ≡ trouble.Memory
lists_or_memory log caller why curator (refuses r named is why_is) =
    let free = ap (λ (o : Option BookRefusal). (unless (after log) ListDocs o (reply (after log) caller ListDocs) None).answer) (lists (after log) caller curator) in
    absurd (shown _ (sym free ∙ is))
  where
    shown : (lines : List DocLine) → Docs lines ≡ Refused r named → ⊥
    shown lines e = cc
lists_or_memory log caller why curator (lacks_memory is) = is
lists_or_memory log caller why curator (fails_to_keep some is) =
    none_made (step (after log) caller ListDocs).change (makes_none (after log) ListDocs (refusal (after log) caller ListDocs) (reply (after log) caller ListDocs)) some

-- where a curator is refused the layer of an annotator on a document, and something was committed, memory ran out
pub reads_or_memory : (log : List Happened) (caller name who : List ℕ) (r : BookRefusal) (named : List ℕ) (now : List Happened)
    → is_curator (after log) caller ≡ true → is_there (after log) name ≡ true → is_annotator (after log) who ≡ true
    → IsStep log caller (ReadLayer name who) (Refused r named) now → r ≢ no.NoLayer → trouble_of r named ≡ trouble.Memory
reads_or_memory log caller name who r named now curator there annotator (steps is now_is room) other = by ((row_in (after log) name who).revision == 0) refl
  where
    shown : (layer : Annotations) (text : List ℕ) (conf : Configuration) → Refused r named ≡ Layer layer text conf → ⊥
    shown layer text conf e = cc

    told : (b : Bool) → ((row_in (after log) name who).revision == 0) ≡ b
        → Refused r named ≡ (unless (after log) (ReadLayer name who) (when b no.NoLayer) (reply (after log) caller (ReadLayer name who)) None).answer
    told b e =
        is ∙ ap (λ (o : Option BookRefusal). (unless (after log) (ReadLayer name who) o (reply (after log) caller (ReadLayer name who)) None).answer)
        (reads (after log) caller name who curator there annotator ∙ ap (λ (b : Bool). when b no.NoLayer) e)

    by : (b : Bool) → ((row_in (after log) name who).revision == 0) ≡ b → trouble_of r named ≡ trouble.Memory
    by true e = absurd (other (refused_same (told true e)))
    by false e = absurd (shown _ _ _ (told false e))
reads_or_memory log caller name who r named now curator there annotator (wants_memory is now_is) other = ap (λ refusal. trouble_of refusal named) (refused_same is)
reads_or_memory log caller name who r named now curator there annotator (is_not_kept is now_is some room) other =
    none_made (step (after log) caller (ReadLayer name who)).change
    (makes_none (after log) (ReadLayer name who) (refusal (after log) caller (ReadLayer name who)) (reply (after log) caller (ReadLayer name who))) some

-- ---- the documents

there_at : (documents : List Document) (lines : List DocLine) (i : ℕ) (line : DocLine) → lines ≡ map line_of documents → i < length lines → line ≡ get_or lines i line
    → list_any (λ (d : Document). bytes_eq d.name line.name) documents ≡ true
there_at documents lines i line are within is =
    among documents i line (subst (λ (all : List DocLine). i < length all) are within) (is ∙ ap (λ (all : List DocLine). get_or all i line) are)
  where
    or_right : (a b : Bool) → b ≡ true → (a || b) ≡ true
    or_right a b e = ap (λ (c : Bool). a || c) e ∙ or_true a

    among : (documents : List Document) (i : ℕ) (line : DocLine) → i < length (map line_of documents) → line ≡ get_or (map line_of documents) i line → list_any (λ (d : Document). bytes_eq d.name line.name) documents ≡ true
    among [] i line within is = absurd (omega arith)
    among (d ∷ documents) zero line within is =
        ap (λ (b : Bool). b || list_any (λ (one : Document). bytes_eq one.name line.name) documents)
        (ap (λ (one : DocLine). bytes_eq d.name one.name) is ∙ (bytes_eq-Decides d.name d.name).1 refl)
    among (d ∷ documents) (suc i) line within is =
        or_right (bytes_eq d.name line.name) (list_any (λ (one : Document). bytes_eq one.name line.name) documents) (among documents i line (omega arith) is)

-- each of the lines that list the documents names one of them
pub is_listed : (s : ProjectState) (lines : List DocLine) (i : ℕ) (line : DocLine) → lines ≡ map line_of s.documents → i < length lines → line ≡ get_or lines i line → is_there s line.name ≡ true
is_listed s lines i line are within is = there_at s.documents lines i line are within is
