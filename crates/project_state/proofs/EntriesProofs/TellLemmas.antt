-- What is read of an entry is what its change tells.
use Rattle.std.proofs.Common.{◌≡◌, ℕ, ◌+◌, ◌<◌, ◌≤◌, Bool, true, false, cond, List, [], ◌∷◌, ◌++◌, length, nat_lt, Option, Some, None, option_map, if◌then◌else◌, refl, sym, ◌∙◌, ap, subst, arith}
use Rattle.std.specs.Prelude.{encode_utf8_all, MatchOption}
use Rattle.std.specs.Str.{chars}
use Rattle.std.specs.List.{AllByRecursion}
use Rattle.std.specs.Option.{option_and_then}
use Rattle.std.proofs.lemmas.Bool.{le-ltb, ltb-false}
use Rattle.mark_base.specs.declared.ann_id.AnnId.{AnnId}
use Rattle.mark_base.specs.declared.ann_id.Kind.{Kind}
use Rattle.mark_base.specs.declared.ann_id.Kind.TheVariants as letter
use Rattle.mark_base.specs.declared.name.NameFault.{NameFault}
use Rattle.mark_base.specs.Names.{slug_fault}
use Rattle.mark_base.specs.ReadIds.{id_at}
use Rattle.mark_base.proofs.IdLemmas.{id_at-id}
use Rattle.entry_bytes.specs.Fields.{IsSlug}
use Rattle.layer_model.specs.Annotations.{Annotations}
use Rattle.layer_model.specs.Classes.{letter_place}
use Rattle.layer_core.specs.declared.command.Command.{Command}
use Rattle.layer_rules.specs.WellFormed.{IsWellFormed}
use Rattle.curator_decisions.specs.declared.verdict.Verdict.{Verdict}
use Rattle.curator_decisions.specs.declared.verdict.Verdict.TheVariants.{Accept, Reject}
use Rattle.project_machine.specs.declared.book_refusal.BookRefusal.{BookRefusal}
use Rattle.project_machine.specs.AskedFor.{asked_for}
use Rattle.command_bytes.specs.WritableCommands.{CanBeWritten}
use Rattle.command_bytes.specs.CommandReading.{id_of}
use Rattle.project_machine.specs.Entries.{accepts, encoded_text, entry_of}
use Rattle.project_machine.specs.Machine.{Step, bounded, change, refusal, refused, reply, size_in, size_of, step, unless}
use Rattle.project_machine.specs.ProjectState.{ProjectState, document, holder_name, number_of, snapshot}
use Rattle.project_machine.specs.Requests.{Asked, AddText, Checkout, TakeOver, Commit, Park, Finish, Reopen, Ignore, Readmit, Snap, Decide, Undecide, Answered, Happened, Founded, TextAdded, CheckedOut, TakenOver, LayerCommitted, LayerParked, LayerFinished, LayerReopened, LayerIgnored, LayerReadmitted, SnapshotTaken, ItemDecided, ItemUndecided, AllFreed, Restored}
use Rattle.project_machine.specs.RequestValues.{IsDocText}
use Rattle.project_state.specs.declared.entries.asking.Asking.{Asking}
use Rattle.project_state.specs.Entries.Asking.{plain_asking, verdict_of, CanBeNext}
use Rattle.project_state.specs.Entries.Reading.{AsksOf, Reads}
use Rattle.project_state.proofs.EntriesProofs.SizeLemmas.{commit_long, park_long}
use Rattle.project_state.proofs.EntriesProofs.WritableLemmas.{Unflawed, Replayed, commit_free, park_free}

none_some : {X : Type 0} (x : X) → None ≡ Some x → ⊥
none_some x e = cc

-- ---- a step that makes something happen

abbrev Fits : ProjectState → Option Happened → Happened → Type 0
Fits s c e = (c ≡ Some e) × (size_in s e ≤ 16777216)

fits_by : (s : ProjectState) (asked : Asked) (answer : Answered) (h e : Happened) (long : Bool) (r : BookRefusal) → nat_lt 16777216 (size_in s h) ≡ long
    → (if long then refused s asked r else (let granted : Step = record { answer = answer; change = Some h } in granted)).change ≡ Some e → Fits s (Some h) e
fits_by s asked answer h e true r is made = absurd (none_some e made)
fits_by s asked answer h e false r is made =
    let same : h ≡ e = cc in
    (made, subst (λ x. size_in s x ≤ 16777216) same (ltb-false 16777216 (size_in s h) is))

fits : (s : ProjectState) (asked : Asked) (answer : Answered) (c : Option Happened) (e : Happened) → (bounded s asked answer c).change ≡ Some e → Fits s c e
fits s asked answer None e is = absurd (none_some e is)
fits s asked answer (Some h) e is = fits_by s asked answer h e (nat_lt 16777216 (size_in s h)) _ refl is

not_refused : (s : ProjectState) (asked : Asked) (o : Option BookRefusal) (answer : Answered) (c : Option Happened) (e : Happened) → (unless s asked o answer c).change ≡ Some e → (o ≡ None) × Fits s c e
not_refused s asked (Some refusal) answer c e is = absurd (none_some e is)
not_refused s asked None answer c e is = (refl, fits s asked answer c e is)

granted : (s : ProjectState) (caller : List ℕ) (asked : Asked) (e : Happened) → (step s caller asked).change ≡ Some e → (refusal s caller asked ≡ None) × Fits s (change s caller asked) e
granted s caller asked e is = not_refused s asked (refusal s caller asked) (reply s caller asked) (change s caller asked) e is

-- ---- names

some_none : (x : NameFault) → Some x ≡ None → ⊥
some_none x e = cc

-- a slug is not empty
no_slug : (name : List ℕ) → IsSlug name → name ≡ [] → ⊥
unfolding slug_fault chars
no_slug name slug e = some_none _ (subst (λ n. slug_fault n ≡ None) e slug.spelling)

named : (name by : List ℕ) (asked : Asked) (told : Option Asking) → IsSlug name → AsksOf name by asked told → Some (by, asked) ≡ option_map plain_asking told
named name by asked None slug e = absurd (no_slug name slug e)
named name by asked (Some asking) slug e = ap Some (sym e)

-- ---- documents

added : (by name text : List ℕ) (told : Option Asking) → IsDocText text
    → MatchOption told (200000 < length (chars (encode_utf8_all text))) (λ asking. plain_asking asking ≡ (by, AddText name (chars (encode_utf8_all text))))
    → Some (by, AddText name text) ≡ option_map plain_asking told
added by name text None typed long = absurd (let size = ap length typed.characters in let few = typed.short in omega arith)
added by name text (Some asking) typed e = ap (λ t. Some (by, AddText name t)) (sym typed.characters) ∙ ap Some (sym e)

-- ---- items

verdict_again : (verdict : Verdict) → verdict_of (accepts verdict) ≡ verdict
verdict_again Accept = refl
verdict_again Reject = refl

small_id : (kind : Kind) (n : ℕ) → n ≤ 999999999 → cond (nat_lt 999999999 n) None (Some (id_at kind n)) ≡ Some (id_at kind n)
small_id kind n small = ap (λ b. cond b None (Some (id_at kind n))) (le-ltb 999999999 n small)

of_parts : (kind : Kind) (n : ℕ) → n ≤ 999999999 → id_of (letter_place kind, n) ≡ Some (id_at kind n)
of_parts letter.Text n small = small_id letter.Text n small
of_parts letter.Event n small = small_id letter.Event n small
of_parts letter.Relation n small = small_id letter.Relation n small
of_parts letter.Attribute n small = small_id letter.Attribute n small
of_parts letter.Legacy n small = small_id letter.Legacy n small
of_parts letter.Normal n small = small_id letter.Normal n small
of_parts letter.Note n small = small_id letter.Note n small

id_again : (id : AnnId) → id_of (letter_place id.kind, id.number) ≡ Some id
id_again id = of_parts id.kind id.number id.within ∙ ap Some (id_at-id id)

-- ---- layers

commit_number : (by : List ℕ) (m n hold : ℕ) (layer : Annotations) → Some (LayerCommitted by m hold layer) ≡ Some (LayerCommitted by n hold layer) → m ≡ n
commit_number by m n hold layer e = cc

park_number : (by : List ℕ) (m n hold : ℕ) (done undone : List Command) → Some (LayerParked by m hold done undone) ≡ Some (LayerParked by n hold done undone) → m ≡ n
park_number by m n hold done undone e = cc

committed : Unflawed → (s : ProjectState) (by : List ℕ) (doc hold : ℕ) (layer : Annotations) (told : Option Asking) → CanBeNext s (LayerCommitted by doc hold layer)
    → Reads s (entry_of s (LayerCommitted by doc hold layer)) told → asked_for s (LayerCommitted by doc hold layer) ≡ option_map plain_asking told
committed unflawed s by doc hold layer told next reads =
    let name = (document s doc).name in
    let made = granted s by (Commit name hold layer) (LayerCommitted by doc hold layer) next.made in
    let same = commit_number by (number_of s name) doc hold layer made.1.0 in
    let free = commit_free unflawed s by name hold layer made.0 in
    sym (reads layer
    (subst (λ n. n < length s.documents) same free.0)
    next.typed.2
    (subst (λ n. IsWellFormed s.conf (length (document s n).text) layer) same free.1)
    refl
    (commit_long by doc hold _ made.1.1))

parked : Replayed → (s : ProjectState) (by : List ℕ) (doc hold : ℕ) (done undone : List Command) (told : Option Asking) → CanBeNext s (LayerParked by doc hold done undone)
    → Reads s (entry_of s (LayerParked by doc hold done undone)) told → asked_for s (LayerParked by doc hold done undone) ≡ option_map plain_asking told
parked replayed s by doc hold done undone told next reads =
    let name = (document s doc).name in
    let made = granted s by (Park name hold done undone) (LayerParked by doc hold done undone) next.made in
    let same = park_number by (number_of s name) doc hold done undone made.1.0 in
    let free = park_free s by name hold done undone made.0 in
    let both = replayed s.conf (document s (number_of s name)).text _ done undone free.1 in
    let P : ℕ → Type 0 = λ n. AllByRecursion (CanBeWritten s.conf (document s n).text) done × AllByRecursion (CanBeWritten s.conf (document s n).text) undone in
    sym (reads done undone
    (subst (λ n. n < length s.documents) same free.0)
    (next.typed.2, next.typed.3)
    (subst P same both)
    refl
    (park_long by doc hold _ made.1.1))

-- ---- all entries

pub tells : Unflawed → Replayed → (s : ProjectState) (happened : Happened) (told : Option Asking) → CanBeNext s happened → Reads s (entry_of s happened) told → asked_for s happened ≡ option_map plain_asking told
tells unflawed replayed s (Founded conf level people) told next reads = absurd (none_some _ next.made)
tells unflawed replayed s (TextAdded by name text) told next reads = added by name text told next.typed.1 reads
tells unflawed replayed s (CheckedOut by doc) told next reads = named (document s doc).name by _ told next.typed reads
tells unflawed replayed s (TakenOver by doc) told next reads = named (document s doc).name by _ told next.typed reads
tells unflawed replayed s (LayerCommitted by doc hold layer) told next reads = committed unflawed s by doc hold layer told next reads
tells unflawed replayed s (LayerParked by doc hold done undone) told next reads = parked replayed s by doc hold done undone told next reads
tells unflawed replayed s (LayerFinished by doc) told next reads = named (document s doc).name by _ told next.typed reads
tells unflawed replayed s (LayerReopened by doc who) told next reads = named (document s doc).name by _ told next.typed.0 reads
tells unflawed replayed s (LayerIgnored by doc who) told next reads = named (document s doc).name by _ told next.typed.0 reads
tells unflawed replayed s (LayerReadmitted by doc who) told next reads = named (document s doc).name by _ told next.typed.0 reads
tells unflawed replayed s (SnapshotTaken by doc) told next reads = named (document s doc).name by _ told next.typed reads
tells unflawed replayed s (ItemDecided by number holder id verdict) told next reads =
    let name = holder_name (snapshot s number) holder in
    ap (λ v. Some (by, Decide number name id v)) (sym (verdict_again verdict)) ∙ named name by (Decide number name id (verdict_of (accepts verdict))) told next.typed.1 (reads id (id_again id))
tells unflawed replayed s (ItemUndecided by number holder id) told next reads =
    let name = holder_name (snapshot s number) holder in
    named name by (Undecide number name id) told next.typed.1 (reads id (id_again id))
tells unflawed replayed s AllFreed told next reads = ap (option_map plain_asking) (sym reads)
tells unflawed replayed s (Restored place state) told next reads = absurd (none_some _ next.made)
