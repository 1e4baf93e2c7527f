-- The fault that a line is told is the first of those that it has, in the order of their numbers.
use Rattle.std.proofs.Common.{◌≡◌, ℕ, ◌-◌, ◌≤◌, ◌==◌, ◌⊎◌, inl, inr, Bool, true, false, not, cond, List, [], ◌∷◌, drop, nat_lt, nat_le, bytes_eq, Option, Some, None, refl, sym, ◌∙◌, ap, arith}
use Rattle.std.specs.Option.{option_map_or}
use Rattle.std.specs.List.{find, slice_split}
use Rattle.std.proofs.lemmas.Bool.{eq-eqb, eqb-true, true≢false, and_parts}
use Rattle.mark_base.specs.declared.fragments.Frag.{Frag}
use Rattle.type_hierarchy.specs.TypeTrees.{type_named}
use Rattle.conf_model.specs.Configurations.{Configuration}
use Rattle.layer_rules.specs.MarkRules.{is_barred_type}
use Rattle.token_columns.specs.declared.column_fault.ColumnWhat.{ColumnWhat}
use Rattle.token_columns.specs.declared.column_fault.ColumnWhat.TheVariants.{NotUtf8, BadLine, TooMany, WrongToken, UnknownType, NotForUse, Orphan, TooLong, Full, TooFew}
use Rattle.token_columns.specs.declared.label.Label.{Label}
use Rattle.token_columns.specs.declared.label.LabelForm.{LabelForm}
use Rattle.token_columns.specs.declared.label.LabelForm.TheVariants as form
use Rattle.token_columns.specs.declared.line.Judged.{Judged}
use Rattle.token_columns.specs.declared.line.Judged.TheVariants.{Fault, Read}
use Rattle.token_columns.specs.declared.run.Run.{Run}
use Rattle.token_columns.specs.Columns.{token_text}
use Rattle.token_columns.specs.ReadColumns.{field_at, fields_at, first_differing, form_of, judged, label_at, token_at}
use Rattle.token_columns.specs.LineFaults.{Line, IsLeast, differs_at, fault_number, form_in, has_fault, line_at, name_in, word_in}

-- ---- the faults of a line in the order of their numbers

abbrev place_in : List ℕ → Line → ℕ
place_in text line = option_map_or (λ token. first_differing line.word (token_text text token)) line.token 0

abbrev in_order : List ℕ → Line → List ColumnWhat
in_order text line = BadLine ∷ TooMany ∷ WrongToken (place_in text line) ∷ UnknownType ∷ NotForUse ∷ Orphan ∷ TooLong ∷ Full ∷ []

abbrev first_of : Configuration → List ℕ → Line → Option ColumnWhat
first_of conf text line = find (has_fault conf text line) (in_order text line)

-- the fault that a line is told
abbrev told : Judged → Option ColumnWhat
told (Fault what) = Some what
told (Read label) = None

abbrev line_of : Option Run → ℕ → Option Frag → List ℕ → Option LabelForm → List ℕ → Line
line_of last count token word form_ name = record { last = last; begun = count; token = token; word = word; form = form_; name = name }

-- ---- it is told the first of them

begin_told : (conf : Configuration) (text : List ℕ) (last : Option Run) (count : ℕ) (token : Frag) (word name : List ℕ) → bytes_eq word (token_text text token) ≡ true
    → told (label_at conf last count token form.Begin name) ≡ first_of conf text (line_of last count (Some token) word (Some form.Begin) name)
begin_told conf text last count token word name same =
    let Goal : Type 0 = told (label_at conf last count token form.Begin name) ≡ first_of conf text (line_of last count (Some token) word (Some form.Begin) name) in
    elim (type_named conf.types name) as (λ o. type_named conf.types name ≡ o → Goal) [
      | None ↦ λ e. rw (same, e)
      | Some kind ↦ λ e. elim (is_barred_type conf kind) as (λ b. is_barred_type conf kind ≡ b → Goal) [
        | true ↦ λ f. rw (same, e, f)
        | false ↦ λ f. elim (nat_lt 10000 (token.end - token.start)) as (λ b. nat_lt 10000 (token.end - token.start) ≡ b → Goal) [
          | true ↦ λ g. rw (same, e, f, g)
          | false ↦ λ g. elim (nat_le 10000 count) as (λ b. nat_le 10000 count ≡ b → Goal) [
            | true ↦ λ h. rw (same, e, f, g, h)
            | false ↦ λ h. rw (same, e, f, g, h)
          ] refl
        ] refl
      ] refl
    ] refl

inside_told : (conf : Configuration) (text : List ℕ) (last : Option Run) (count : ℕ) (token : Frag) (word name : List ℕ) → bytes_eq word (token_text text token) ≡ true
    → told (label_at conf last count token form.Inside name) ≡ first_of conf text (line_of last count (Some token) word (Some form.Inside) name)
inside_told conf text None count token word name same =
    let Goal : Type 0 = told (label_at conf None count token form.Inside name) ≡ first_of conf text (line_of None count (Some token) word (Some form.Inside) name) in
    elim (type_named conf.types name) as (λ o. type_named conf.types name ≡ o → Goal) [
      | None ↦ λ e. rw (same, e)
      | Some kind ↦ λ e. elim (is_barred_type conf kind) as (λ b. is_barred_type conf kind ≡ b → Goal) [
        | true ↦ λ f. rw (same, e, f)
        | false ↦ λ f. rw (same, e, f)
      ] refl
    ] refl
inside_told conf text (Some run) count token word name same =
    let Goal : Type 0 = told (label_at conf (Some run) count token form.Inside name) ≡ first_of conf text (line_of (Some run) count (Some token) word (Some form.Inside) name) in
    elim (type_named conf.types name) as (λ o. type_named conf.types name ≡ o → Goal) [
      | None ↦ λ e. rw (same, e)
      | Some kind ↦ λ e. elim (is_barred_type conf kind) as (λ b. is_barred_type conf kind ≡ b → Goal) [
        | true ↦ λ f. rw (same, e, f)
        | false ↦ λ f. elim (run.kind.n == kind.n) as (λ b. (run.kind.n == kind.n) ≡ b → Goal) [
          | false ↦ λ g. rw (same, e, f, g)
          | true ↦ λ g. elim (nat_lt 10000 (token.end - run.start)) as (λ b. nat_lt 10000 (token.end - run.start) ≡ b → Goal) [
            | true ↦ λ h. rw (same, e, f, g, h)
            | false ↦ λ h. rw (same, e, f, g, h)
          ] refl
        ] refl
      ] refl
    ] refl

label_told : (conf : Configuration) (text : List ℕ) (last : Option Run) (count : ℕ) (token : Frag) (word : List ℕ) (form_ : LabelForm) (name : List ℕ) → bytes_eq word (token_text text token) ≡ true
    → told (label_at conf last count token form_ name) ≡ first_of conf text (line_of last count (Some token) word (Some form_) name)
label_told conf text last count token word form.Out name same = rw same
label_told conf text last count token word form.Begin name same = begin_told conf text last count token word name same
label_told conf text last count token word form.Inside name same = inside_told conf text last count token word name same

token_told : (conf : Configuration) (text : List ℕ) (last : Option Run) (count : ℕ) (token : Option Frag) (word : List ℕ) (form_ : LabelForm) (name : List ℕ)
    → told (token_at conf text last count token word form_ name) ≡ first_of conf text (line_of last count token word (Some form_) name)
token_told conf text last count None word form_ name = refl
token_told conf text last count (Some token) word form_ name =
    let Goal : Type 0 = told (token_at conf text last count (Some token) word form_ name) ≡ first_of conf text (line_of last count (Some token) word (Some form_) name) in
    elim (bytes_eq word (token_text text token)) as (λ b. bytes_eq word (token_text text token) ≡ b → Goal) [
      | true ↦ λ e. ap (λ b. told (cond b (label_at conf last count token form_ name) (Fault (WrongToken (first_differing word (token_text text token)))))) e ∙ label_told conf text last count token word form_ name e
      | false ↦ λ e. rw (e, eq-eqb (first_differing word (token_text text token)) (first_differing word (token_text text token)) refl)
    ] refl

field_told : (conf : Configuration) (text : List ℕ) (last : Option Run) (count : ℕ) (token : Option Frag) (word field : List ℕ) (form_ : Option LabelForm)
    → told (field_at conf text last count token word field form_) ≡ first_of conf text (line_of last count token word form_ (drop 2 field))
field_told conf text last count token word field None = refl
field_told conf text last count token word field (Some form_) = token_told conf text last count token word form_ (drop 2 field)

parts_told : (conf : Configuration) (text : List ℕ) (last : Option Run) (count : ℕ) (token : Option Frag) (parts : List (List ℕ))
    → told (fields_at conf text last count token parts) ≡ first_of conf text (line_of last count token (word_in parts) (form_in parts) (name_in parts))
parts_told conf text last count token [] = refl
parts_told conf text last count token (word ∷ []) = refl
parts_told conf text last count token (word ∷ field ∷ []) = field_told conf text last count token word field (form_of field)
parts_told conf text last count token (word ∷ field ∷ third ∷ more) = refl

-- the fault that a line is told is the first of those that it has, in their order
line_told : (conf : Configuration) (text : List ℕ) (last : Option Run) (count : ℕ) (token : Option Frag) (line : List ℕ)
    → told (judged conf text last count token line) ≡ first_of conf text (line_at last count token line)
unfolding judged
line_told conf text last count token line = parts_told conf text last count token (slice_split (λ b. b == 9) line)

-- ---- what is found first in a list whose numbers ascend

abbrev Ascends : ℕ → List ColumnWhat → Type 0
Ascends n [] = Unit {0}
Ascends n (what ∷ more) = (n ≤ fault_number what) × Ascends (fault_number what) more

abbrev Among : ColumnWhat → List ColumnWhat → Type 0
Among other [] = ⊥
Among other (what ∷ more) = (other ≡ what) ⊎ Among other more

least_among : (n : ℕ) (faults : List ColumnWhat) (other : ColumnWhat) → Ascends n faults → Among other faults → n ≤ fault_number other
least_among n [] other up among = absurd among
least_among n (what ∷ more) other up (inl same) = let here : n ≤ fault_number what = up.0 in let e : fault_number other ≡ fault_number what = ap fault_number same in omega arith
least_among n (what ∷ more) other up (inr later) = let here : n ≤ fault_number what = up.0 in let rest : fault_number what ≤ fault_number other = least_among (fault_number what) more other up.1 later in omega arith

found_passes : (test : ColumnWhat → Bool) (faults : List ColumnWhat) (what : ColumnWhat) → find test faults ≡ Some what → test what ≡ true
found_passes test [] what found = cc
found_passes test (first ∷ more) what found =
    elim (test first) as (λ b. test first ≡ b → cond b (Some first) (find test more) ≡ Some what → test what ≡ true) [
      | true ↦ λ e f. let same : first ≡ what = cc in ap test (sym same) ∙ e
      | false ↦ λ e f. found_passes test more what f
    ] refl found

found_least : (test : ColumnWhat → Bool) (n : ℕ) (faults : List ColumnWhat) (what other : ColumnWhat) → Ascends n faults → find test faults ≡ Some what → Among other faults → test other ≡ true
    → fault_number what ≤ fault_number other
found_least test n [] what other up found among holds = absurd among
found_least test n (first ∷ more) what other up found among holds =
    elim (test first) as (λ b. test first ≡ b → cond b (Some first) (find test more) ≡ Some what → fault_number what ≤ fault_number other) [
      | true ↦ λ e f.
          let same : first ≡ what = cc in
          let least : fault_number first ≤ fault_number other = least_among (fault_number first) (first ∷ more) other (omega arith, up.1) among in
          let number : fault_number first ≡ fault_number what = ap fault_number same in omega arith
      | false ↦ λ e f. elim among as (λ _. fault_number what ≤ fault_number other) [
        | inl same ↦ absurd (true≢false (sym holds ∙ ap test same ∙ e))
        | inr later ↦ found_least test (fault_number first) more what other up.1 f later holds
      ]
    ] refl found

none_passes : (test : ColumnWhat → Bool) (faults : List ColumnWhat) (other : ColumnWhat) → find test faults ≡ None → Among other faults → test other ≡ false
none_passes test [] other found among = absurd among
none_passes test (first ∷ more) other found among =
    elim (test first) as (λ b. test first ≡ b → cond b (Some first) (find test more) ≡ None → test other ≡ false) [
      | true ↦ λ e f. let lost : Some first ≡ None = f in cc
      | false ↦ λ e f. elim among as (λ _. test other ≡ false) [
        | inl same ↦ ap test same ∙ e
        | inr later ↦ none_passes test more other f later
      ]
    ] refl found

-- ---- each fault that a line has is among them

ascends : (conf : Configuration) (text : List ℕ) (line : Line) → Ascends 0 (in_order text line)
ascends conf text line = (omega arith, (omega arith, (omega arith, (omega arith, (omega arith, (omega arith, (omega arith, (omega arith, tt))))))))

same_place : (text : List ℕ) (last : Option Run) (count : ℕ) (token : Option Frag) (word : List ℕ) (form_ : Option LabelForm) (name : List ℕ) (place : ℕ)
    → differs_at text (line_of last count token word form_ name) place ≡ true → place ≡ place_in text (line_of last count token word form_ name)
same_place text last count None word form_ name place differs = absurd (true≢false (sym differs))
same_place text last count (Some token) word form_ name place differs =
    sym (eqb-true (first_differing word (token_text text token)) place (and_parts (not (bytes_eq word (token_text text token))) (first_differing word (token_text text token) == place) differs).1)

among_them : (conf : Configuration) (text : List ℕ) (line : Line) (other : ColumnWhat) → has_fault conf text line other ≡ true → Among other (in_order text line)
among_them conf text line NotUtf8 has = absurd (true≢false (sym has))
among_them conf text line BadLine has = inl refl
among_them conf text line TooMany has = inr (inl refl)
among_them conf text line (WrongToken place) has = inr (inr (inl (ap WrongToken (same_place text line.last line.begun line.token line.word line.form line.name place has))))
among_them conf text line UnknownType has = inr (inr (inr (inl refl)))
among_them conf text line NotForUse has = inr (inr (inr (inr (inl refl))))
among_them conf text line Orphan has = inr (inr (inr (inr (inr (inl refl)))))
among_them conf text line TooLong has = inr (inr (inr (inr (inr (inr (inl refl))))))
among_them conf text line Full has = inr (inr (inr (inr (inr (inr (inr (inl refl)))))))
among_them conf text line TooFew has = absurd (true≢false (sym has))

-- ---- what a line is told

pub told_least : (conf : Configuration) (text : List ℕ) (last : Option Run) (count : ℕ) (token : Option Frag) (line : List ℕ) (what : ColumnWhat)
    → judged conf text last count token line ≡ Fault what → IsLeast conf text (line_at last count token line) what
told_least conf text last count token line what fault =
    let here : Line = line_at last count token line in
    let first : first_of conf text here ≡ Some what = sym (line_told conf text last count token line) ∙ ap told fault in
    record {
      has = found_passes (has_fault conf text here) (in_order text here) what first;
      least = λ other has. found_least (has_fault conf text here) 0 (in_order text here) what other (ascends conf text here) first (among_them conf text here other has) has;
    }

pub read_faultless : (conf : Configuration) (text : List ℕ) (last : Option Run) (count : ℕ) (token : Option Frag) (line : List ℕ) (label_ : Label) (other : ColumnWhat)
    → judged conf text last count token line ≡ Read label_ → has_fault conf text (line_at last count token line) other ≡ false
read_faultless conf text last count token line label_ other read =
    let here : Line = line_at last count token line in
    let none : first_of conf text here ≡ None = sym (line_told conf text last count token line) ∙ ap told read in
    elim (has_fault conf text here other) as (λ b. has_fault conf text here other ≡ b → has_fault conf text here other ≡ false) [
      | true ↦ λ e. none_passes (has_fault conf text here) (in_order text here) other none (among_them conf text here other e)
      | false ↦ λ e. e
    ] refl
