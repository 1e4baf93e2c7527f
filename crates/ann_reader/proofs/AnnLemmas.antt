-- Lines without a fault are an .ann file of the layer that they say.
use Rattle.std.proofs.Common.{◌≡◌, ℕ, ◌+◌, ◌<◌, ◌≤◌, inl, inr, Bool, true, false, List, [], ◌∷◌, ◌++◌, refl, sym, ◌∙◌, ap, subst, Option, Some, None, cond, nat_lt, slice_index, arith}
use Rattle.std.specs.Prelude.{IsSome, ⊤}
use Rattle.std.specs.Option.{option_map_or, option_map}
use Rattle.std.specs.List.{fold, find, list_any, AllByRecursion}
use Rattle.std.proofs.lemmas.Bool.{or_cases, or_parts, false≢true, lt-ltb, cases_Bool}
use Rattle.std.proofs.lemmas.List.{append_assoc}
use Rattle.std.proofs.lemmas.List.Sums.{fold-append}
use Rattle.mark_base.specs.declared.ann_id.AnnId.{AnnId}
use Rattle.conf_model.specs.Configurations.{Configuration}
use Rattle.layer_model.specs.Annotations.{Annotations, no_marks}
use Rattle.layer_model.specs.Layers.{has, mark_at}
use Rattle.layer_rules.specs.LayerRules.{is_id}
use Rattle.ann_reader.specs.Lines.{Line, is_blank, lines_from}
use Rattle.ann_reader.specs.LineForms.{Form, BadForm, TextForm, EventForm, RelationForm, AttributeForm, ClassForm, NormalForm, NoteForm, form_of}
use Rattle.ann_reader.specs.LineIds.{id_words, own_word, own_id, is_own_misspelt, is_misspelt}
use Rattle.ann_reader.specs.LineMeanings.{said_of}
use Rattle.ann_reader.specs.LineFaults.{is_headed, headed_by, is_twice, line_fault, first_line_fault, count_like}
use Rattle.ann_reader.specs.AnnFaults.{with_line, layer_of}
use Rattle.ann_reader.specs.AnnFiles.{HasMark, is_line_of, is_span_word}
use Rattle.ann_reader.proofs.SaidLemmas.{line_puts, lines_keep, lines_came, none_there}
use Rattle.ann_reader.proofs.CleanLemmas.{Found, Clean, clean, own_found, trigger_fits, marked, said_found, later_none, unmapped}
use Rattle.ann_reader.proofs.FormFacts.{own_head, sorts_fit}

-- ---- the numbers of lines rise

-- each number is at least this one, and above those before it
abbrev pub Rises : ℕ → List Line → Type 0
Rises least [] = ⊤
Rises least (line ∷ lines) = (least ≤ line.number) × Rises (line.number + 1) lines

lower : (a b : ℕ) (lines : List Line) → a ≤ b → Rises b lines → Rises a lines
lower a b [] h r = tt
lower a b (line ∷ lines) h r = (omega (arith, h, r.0), r.1)

pub lines_rise : (n : ℕ) (pieces : List (List ℕ)) → Rises n (lines_from n pieces)
lines_rise n [] = tt
lines_rise n (piece ∷ pieces) =
    elim (is_blank piece) as (λ b. Rises n (cond b (lines_from (n + 1) pieces) (record { number = n; bytes = piece } ∷ lines_from (n + 1) pieces))) [
      | true ↦ lower n (n + 1) (lines_from (n + 1) pieces) (omega arith) (lines_rise (n + 1) pieces)
      | false ↦ (omega arith, lines_rise (n + 1) pieces)
    ]

-- each of some lines has a number below this one
abbrev pub Below : ℕ → List Line → Type 0
Below n lines = AllByRecursion (λ line. line.number < n) lines

pub raise : (a b : ℕ) (lines : List Line) → a ≤ b → Below a lines → Below b lines
raise a b [] h r = tt
raise a b (line ∷ lines) h r = (omega (arith, h, r.0), raise a b lines h r.1)

pub below_push : (n : ℕ) (lines : List Line) (line : Line) → Below n lines → line.number < n → Below n (lines ++ line ∷ [])
below_push n [] line r h = (h, tt)
below_push n (first ∷ lines) line r h = (r.0, below_push n lines line r.1 h)

-- ---- no earlier line has the ID

pub heads : (id : AnnId) (line : Line) → is_line_of id line ≡ true → is_headed id line ≡ true
heads id line h =
    let P : Option AnnId → Type 0 = λ o. own_id (form_of line.bytes) ≡ o → option_map_or (is_id id) o false ≡ true → is_headed id line ≡ true in
    let cases : P (own_id (form_of line.bytes)) = elim (own_id (form_of line.bytes)) as P [
      | None ↦ λ e t. absurd (false≢true t)
      | Some own ↦ λ e t. ap (λ o. option_map_or (is_id id) o false) (own_head line.bytes own e) ∙ t
    ] in cases refl h

found_before : (id : AnnId) (n : ℕ) (before rest : List Line) → Below n before → list_any (is_line_of id) before ≡ true
    → option_map_or (λ first. nat_lt first.number n) (find (is_headed id) (before ++ rest)) false ≡ true
found_before id n [] rest b h = absurd (false≢true h)
found_before id n (line ∷ before) rest b h =
    let G : Bool → Type 0 = λ s. option_map_or (λ first. nat_lt first.number n) (cond s (Some line) (find (is_headed id) (before ++ rest))) false ≡ true in
    elim (is_headed id line) as (λ s. is_headed id line ≡ s → G s) [
      | true ↦ λ _. lt-ltb line.number n b.0
      | false ↦ λ none. elim (or_cases (is_line_of id line) (list_any (is_line_of id) before) h) as (λ _. G false) [
        | inl t ↦ absurd (false≢true (sym none ∙ heads id line t))
        | inr t ↦ found_before id n before rest b.1 t
      ]
    ] refl

-- what each line without a fault keeps
abbrev pub AllClean : Configuration → List Line → List Line → Type 0
AllClean conf all lines = AllByRecursion (λ line. Clean conf all line (form_of line.bytes)) lines

pub all_clean : (conf : Configuration) (all before lines : List Line) → first_line_fault conf all before lines ≡ None → AllClean conf all lines
all_clean conf all before [] e = tt
all_clean conf all before (line ∷ lines) e =
    let parts = later_none (option_map _ (line_fault conf all (count_like (slice_index line.bytes 0) before) line)) (first_line_fault conf all (before ++ line ∷ []) lines) e in (
      clean conf all (count_like (slice_index line.bytes 0) before) line (unmapped _ (line_fault conf all (count_like (slice_index line.bytes 0) before) line) parts.0),
      all_clean conf all (before ++ line ∷ []) lines parts.1,
    )

-- ---- each line has its annotation

-- the layer has what the line spells, the trigger of an event being a span, or the line says something of a class
abbrev pub Holds : Configuration → Annotations → Form → Type 0
Holds conf layer BadForm = ⊥
Holds conf layer (ClassForm kind ids) = IsSome (said_of conf (ClassForm kind ids))
Holds conf layer (EventForm first kind trigger pairs) = HasMark conf layer (EventForm first kind trigger pairs) × (is_span_word trigger ≡ true)
Holds conf layer form = HasMark conf layer form

pub is_new : (conf : Configuration) (all before rest : List Line) (line : Line) (id : AnnId)
    → all ≡ before ++ line ∷ rest → Below line.number before → own_id (form_of line.bytes) ≡ Some id → is_twice all line ≡ false
    → has (layer_of conf before) id ≡ false
is_new conf all before rest line id e below own once =
    elim (cases_Bool (has (layer_of conf before) id)) as (λ _. has (layer_of conf before) id ≡ false) [
      | inr f ↦ f
      | inl t ↦ elim (lines_came conf no_marks before id t) as (λ _. has (layer_of conf before) id ≡ false) [
        | inl u ↦ absurd (none_there id u)
        | inr u ↦
            let twice : is_twice all line ≡ true =
            ap (λ o. option_map_or (λ one. option_map_or (λ first. nat_lt first.number line.number) (headed_by one all) false) o false) own
            ∙ ap (λ lines. option_map_or (λ first. nat_lt first.number line.number) (find (is_headed id) lines) false) e
            ∙ found_before id line.number before (line ∷ rest) below u in
            absurd (false≢true (sym once ∙ twice))
      ]
    ]

pub own_spelt : (conf : Configuration) (all : List Line) (line : Line) (form : Form) → Clean conf all line form → is_own_misspelt form ≡ false
own_spelt conf all line form good = (or_parts (is_own_misspelt form) (list_any is_misspelt (id_words form)) good.spelt).0

held_one : (conf : Configuration) (all before rest : List Line) (line : Line) (word : List ℕ)
    → all ≡ before ++ line ∷ rest → Below line.number before → Clean conf all line (form_of line.bytes) → own_word (form_of line.bytes) ≡ Some word
    → HasMark conf (layer_of conf all) (form_of line.bytes)
held_one conf all before rest line word e below good own =
    let id = own_found (form_of line.bytes) word own (own_spelt conf all line (form_of line.bytes) good) in
    let mark = marked conf all line (form_of line.bytes) word good own in
    let fits = sorts_fit conf line.bytes id.0 mark.0 id.1 mark.1 in
    let new = is_new conf all before rest line id.0 e below id.1 good.once in
    let put = line_puts conf (layer_of conf before) line id.0 mark.0 id.1 mark.1 fits new in
    let whole : layer_of conf all ≡ fold (with_line conf) (with_line conf (layer_of conf before) line) rest =
    ap (layer_of conf) e ∙ fold-append (with_line conf) no_marks before (line ∷ rest) in
    record {
      id = id.0;
      mark = mark.0;
      headed = id.1;
      spelt = mark.1;
      held = ap (λ l. mark_at l id.0) whole ∙ lines_keep conf (with_line conf (layer_of conf before) line) rest id.0.kind id.0.number mark.0 put;
    }

said_some : (conf : Configuration) (kind : List ℕ) (ids : List (List ℕ)) → Found (said_of conf (ClassForm kind ids)) → IsSome (said_of conf (ClassForm kind ids))
said_some conf kind ids there = subst (λ o. IsSome o) (sym there.1) refl

holds_one : (conf : Configuration) (all before rest : List Line) (line : Line)
    → all ≡ before ++ line ∷ rest → Below line.number before → Clean conf all line (form_of line.bytes) → Holds conf (layer_of conf all) (form_of line.bytes)
holds_one conf all before rest line e below good =
    let mine : (word : List ℕ) → own_word (form_of line.bytes) ≡ Some word → HasMark conf (layer_of conf all) (form_of line.bytes) = λ word own. held_one conf all before rest line word e below good own in
    (elim (form_of line.bytes) as (λ form. form_of line.bytes ≡ form → Clean conf all line form → Holds conf (layer_of conf all) form) [
      | BadForm ↦ λ f c. false≢true (sym c.formed)
      | ClassForm kind ids ↦ λ f c. said_some conf kind ids (said_found conf all line kind ids c)
      | TextForm a b c d ↦ λ f _. subst (HasMark conf (layer_of conf all)) f (mine a (ap own_word f))
      | EventForm a b c d ↦ λ f cl. (subst (HasMark conf (layer_of conf all)) f (mine a (ap own_word f)), trigger_fits conf all line a b c d cl)
      | RelationForm a b c d ↦ λ f _. subst (HasMark conf (layer_of conf all)) f (mine a (ap own_word f))
      | AttributeForm a b c d ↦ λ f _. subst (HasMark conf (layer_of conf all)) f (mine a (ap own_word f))
      | NormalForm a b c d x ↦ λ f _. subst (HasMark conf (layer_of conf all)) f (mine a (ap own_word f))
      | NoteForm a b c d ↦ λ f _. subst (HasMark conf (layer_of conf all)) f (mine a (ap own_word f))
    ]) refl good

pub all_hold : (conf : Configuration) (all before lines : List Line) (n : ℕ)
    → all ≡ before ++ lines → Rises n lines → Below n before → AllClean conf all lines → AllByRecursion (λ line. Holds conf (layer_of conf all) (form_of line.bytes)) lines
all_hold conf all before [] n e r b c = tt
all_hold conf all before (line ∷ lines) n e r b c =
    let below = raise n line.number before r.0 b in (
      holds_one conf all before lines line e below c.0,
      all_hold conf all (before ++ line ∷ []) lines (line.number + 1) (e ∙ sym (append_assoc before (line ∷ []) lines)) r.1
          (below_push (line.number + 1) before line (raise line.number (line.number + 1) before (omega arith) below) (omega arith)) c.1,
    )
