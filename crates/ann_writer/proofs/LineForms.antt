-- Each written line has the form that its parts spell.
use Rattle.std.proofs.Common.{◌≡◌, refl, sym, ap, ap₂, ◌∙◌, subst, ℕ, ◌+◌, ◌<◌, ◌≤◌, Bool, true, false, cond, ◌==◌, List, [], ◌∷◌, ◌++◌, length, drop, slice_index, decimal, arith, append-nil, append_assoc, codes, Some, option_map, option_and_then}
use Rattle.std.proofs.lemmas.Bool.{true≢false}
use Rattle.std.specs.Str.{NonePass}
use Rattle.std.specs.List.{AllByRecursion, prefix_len, after_first}
use Rattle.mark_base.specs.declared.ann_id.Kind.{Kind}
use Rattle.mark_base.specs.declared.ann_id.Kind.TheVariants as letter
use Rattle.mark_base.specs.declared.fragments.Frag.{Frag}
use Rattle.mark_base.specs.AnnIds.{spelling_of}
use Rattle.annotation_conf.proofs.WrittenLists.{after_at, before_at, any_at, none-append}
use Rattle.annotation_conf.proofs.WrittenPieces.{first-append}
use Rattle.ann_reader.specs.Lines.{without_return, without_end}
use Rattle.ann_reader.specs.Words.{is_space, behind_word}
use Rattle.ann_reader.specs.LineForms.{Pair, Form, BadForm, TextForm, EventForm, RelationForm, ClassForm, NormalForm, NoteForm, two_form, of_two, three_form, of_three, form_of, form_by, pairs_read, frags_read, has_byte, before_byte, behind_byte, text_with, event_with, relation_by, relation_with, attribute_form, attribute_by, class_by, normal_by, note_by}
use Rattle.ann_writer.specs.Words.{frags_word, pair_word, words_behind, line_of, line_with_text}
use Rattle.ann_writer.proofs.PlainWords.{IsPlain, parts, no_tab, no_space, longer, spelling_plain, decimal_plain}
use Rattle.ann_writer.proofs.FieldWords.{last_words, last-append, words_read, unended, two_read, three_read, none_index, pair_read_back}
use Rattle.ann_writer.proofs.FragWords.{IsShort, ends, ends_plain, spaced, frags_read_back}

-- ---- lines without their line feed

abbrev pub body : List ℕ → List ℕ → List (List ℕ) → List ℕ
body first kind words = first ++ 9 ∷ (kind ++ words_behind words)

abbrev pub body_with_text : List ℕ → List ℕ → List (List ℕ) → List ℕ → List ℕ
body_with_text first kind words text = first ++ 9 ∷ ((kind ++ words_behind words) ++ 9 ∷ text)

fields : (first kind rest : List ℕ) → ((first ++ codes "\t") ++ kind) ++ rest ≡ first ++ 9 ∷ (kind ++ rest)
fields first kind rest = append_assoc (first ++ codes "\t") kind rest ∙ append_assoc first (codes "\t") (kind ++ rest)

pub line_is : (first kind : List ℕ) (words : List (List ℕ)) → line_of first kind words ≡ body first kind words ++ codes "\n"
line_is first kind words = ap (λ l. l ++ codes "\n") (fields first kind (words_behind words))

pub line_with_text_is : (first kind : List ℕ) (words : List (List ℕ)) (text : List ℕ) → line_with_text first kind words text ≡ body_with_text first kind words text ++ codes "\n"
line_with_text_is first kind words text =
    ap (λ l. l ++ codes "\n")
    (ap (λ l. (l ++ codes "\t") ++ text) (fields first kind (words_behind words))
    ∙ append_assoc (first ++ 9 ∷ (kind ++ words_behind words)) (codes "\t") text
    ∙ append_assoc first (9 ∷ (kind ++ words_behind words)) (9 ∷ text))

-- ---- the second field

words_none : (p : ℕ → Bool) → p 32 ≡ false → (kind : List ℕ) (words : List (List ℕ)) → NonePass p kind → AllByRecursion (NonePass p) words → NonePass p (kind ++ words_behind words)
words_none p space kind [] h all = subst (NonePass p) (sym (append-nil kind)) h
words_none p space kind (word ∷ words) h all = none-append p kind (32 ∷ (word ++ words_behind words)) h (space, words_none p space word words all.0 all.1)

plain_none : (words : List (List ℕ)) → AllByRecursion IsPlain words → AllByRecursion (NonePass (λ b. b == 9)) words
plain_none [] all = tt
plain_none (word ∷ words) all = (no_tab word all.0.free, plain_none words all.1)

pub second_none : (kind : List ℕ) (words : List (List ℕ)) → IsPlain kind → AllByRecursion IsPlain words → NonePass (λ b. b == 9) (kind ++ words_behind words)
second_none kind words h all = words_none (λ b. b == 9) refl kind words (no_tab kind h.free) (plain_none words all)

-- nothing is dropped at the end of a line of words
pub body_ends : (first kind : List ℕ) (words : List (List ℕ)) → IsPlain kind → AllByRecursion IsPlain words → without_end (body first kind words) ≡ body first kind words
body_ends first kind words h all =
    let second = kind ++ words_behind words in
    let some : 0 < length second = longer kind (words_behind words) h.some in
    let more : 0 < length (9 ∷ second) = omega arith in
    let long : 0 < length (first ++ 9 ∷ second) = grown first (9 ∷ second) more in
    unended (body first kind words) long
    (ap parts (last-append first (9 ∷ second) more ∙ last-append (9 ∷ []) second some) ∙ last_words kind words h all)
  where
    grown : (xs ys : List ℕ) → 0 < length ys → 0 < length (xs ++ ys)
    grown [] ys some = some
    grown (x ∷ xs) ys some = omega arith

-- a line of two fields, by its form
two_fields : (b : ℕ) (first kind : List ℕ) (words : List (List ℕ)) → NonePass (λ b. b == 9) first → IsPlain kind → AllByRecursion IsPlain words
    → of_two b (body first kind words) ≡ two_form b first (kind ++ words_behind words)
two_fields b first kind words f h all = two_read b first (kind ++ words_behind words) f (second_none kind words h all) (body_ends first kind words h all)

-- a line of three fields, by its form
three_fields : (b : ℕ) (first kind : List ℕ) (words : List (List ℕ)) (text : List ℕ) → NonePass (λ c. c == 9) first → IsPlain kind → AllByRecursion IsPlain words → without_return text ≡ text
    → of_three b (body_with_text first kind words text) ≡ three_form b first (kind ++ words_behind words) text
three_fields b first kind words text f h all kept = three_read b first (kind ++ words_behind words) text f (second_none kind words h all) kept

tab_free : (kind : Kind) (n : ℕ) → n ≤ 999999999 → NonePass (λ b. b == 9) (spelling_of kind n)
tab_free kind n small = no_tab (spelling_of kind n) (spelling_plain kind n small).free

-- ---- T

no_prefix : (xs : List ℕ) → is_space (slice_index xs 0) ≡ false → prefix_len is_space xs ≡ 0
no_prefix [] e = refl
no_prefix (x ∷ xs) e = ap (λ b. cond b (1 + prefix_len is_space xs) 0) e

not_space : (word : List ℕ) → IsPlain word → is_space (slice_index word 0) ≡ false
not_space word h = none_index is_space word 0 (no_space word h.free) h.some

pub text_line : (n : ℕ) (kind : List ℕ) (frag : Frag) (more : List Frag) (text : List ℕ) → n ≤ 999999999 → IsPlain kind → IsShort frag → AllByRecursion IsShort more → without_return text ≡ text
    → form_of (body_with_text (spelling_of letter.Text n) kind (frags_word (frag ∷ more) ∷ []) text) ≡ TextForm (spelling_of letter.Text n) kind (frag ∷ more) text
unfolding form_of
text_line n kind frag more text small h short all kept =
    let first = spelling_of letter.Text n in
    let fields_ = decimal frag.start ∷ ends frag more in
    let plain : AllByRecursion IsPlain fields_ = (let few = short.start in decimal_plain frag.start (omega arith), ends_plain frag more short all) in
    let second : kind ++ words_behind (frags_word (frag ∷ more) ∷ []) ≡ kind ++ words_behind fields_ =
    ap (λ x. kind ++ 32 ∷ x) (append-nil (frags_word (frag ∷ more)) ∙ spaced frag more) in
    let rest = decimal frag.start ++ words_behind (ends frag more) in
    let begins : prefix_len is_space rest ≡ 0 = no_prefix rest (ap is_space (first-append (decimal frag.start) (words_behind (ends frag more)) (plain.0).some) ∙ not_space (decimal frag.start) plain.0) in
    let after : after_first is_space (kind ++ words_behind fields_) ≡ rest = after_at is_space kind 32 rest (no_space kind h.free) refl in
    let whole : behind_word (kind ++ words_behind fields_) ≡ frags_word (frag ∷ more) =
    ap (λ r. drop (prefix_len is_space r) r) after ∙ ap (λ n. drop n rest) begins ∙ sym (spaced frag more) in
    ap (λ s. form_by 84 (first ++ 9 ∷ (s ++ 9 ∷ text))) second
    ∙ three_fields 84 first kind fields_ text (tab_free letter.Text n small) h plain kept
    ∙ ap (λ ws. text_with first ws (frags_read (behind_word (kind ++ words_behind fields_))) text) (words_read kind fields_ h plain)
    ∙ ap (λ w. text_with first (kind ∷ fields_) (frags_read w) text) whole
    ∙ ap (λ o. text_with first (kind ∷ fields_) o text) (frags_read_back frag more short all)

-- ---- E

pub event_line_read : (n : ℕ) (kind trigger : List ℕ) (words : List (List ℕ)) (pairs : List Pair) → n ≤ 999999999 → IsPlain kind → NonePass (λ b. b == 58) kind → IsPlain (pair_word kind trigger)
    → AllByRecursion IsPlain words → pairs_read words ≡ Some pairs
    → form_of (body (spelling_of letter.Event n) (pair_word kind trigger) words) ≡ EventForm (spelling_of letter.Event n) kind trigger pairs
unfolding form_of
event_line_read n kind trigger words pairs small h colon whole all read =
    two_fields 69 (spelling_of letter.Event n) (pair_word kind trigger) words (tab_free letter.Event n small) whole all
    ∙ ap (λ ws. event_with (spelling_of letter.Event n) (pairs_read ws)) (words_read (pair_word kind trigger) words whole all)
    ∙ ap (λ o. event_with (spelling_of letter.Event n) (option_and_then (λ x. option_map (λ xs. x ∷ xs) (pairs_read words)) o)) (pair_read_back kind trigger h.some colon)
    ∙ ap (λ o. event_with (spelling_of letter.Event n) (option_map (λ xs. (let p : Pair = record { role = kind; target = trigger } in p) ∷ xs) o)) read

-- ---- R

pub relation_line_read : (n : ℕ) (kind a x b y : List ℕ) → n ≤ 999999999 → IsPlain kind → 0 < length a → 0 < length b → NonePass (λ c. c == 58) a → NonePass (λ c. c == 58) b
    → IsPlain (pair_word a x) → IsPlain (pair_word b y)
    → form_of (body (spelling_of letter.Relation n) kind (pair_word a x ∷ pair_word b y ∷ [])) ≡ RelationForm (spelling_of letter.Relation n) kind (record { role = a; target = x }) (record { role = b; target = y })
unfolding form_of
relation_line_read n kind a x b y small h some other ha hb first second =
    let words = pair_word a x ∷ pair_word b y ∷ [] in
    two_fields 82 (spelling_of letter.Relation n) kind words (tab_free letter.Relation n small) h (first, (second, tt))
    ∙ ap (relation_by (spelling_of letter.Relation n)) (words_read kind words h (first, (second, tt)))
    ∙ ap (λ o. relation_with (spelling_of letter.Relation n) kind (option_and_then (λ p. option_map (λ ps. p ∷ ps) (pairs_read (pair_word b y ∷ []))) o)) (pair_read_back a x some ha)
    ∙ ap (λ o. relation_with (spelling_of letter.Relation n) kind (option_map (λ ps. (let p : Pair = record { role = a; target = x } in p) ∷ ps) (option_and_then (λ p. option_map (λ ps. p ∷ ps) (Some [])) o))) (pair_read_back b y other hb)

-- ---- A and M

-- a letter of attributes
abbrev pub is_added : Kind → Bool
is_added letter.Attribute = true
is_added letter.Legacy = true
is_added kind = false

-- by the words behind the name
attribute_words_read : (first name : List ℕ) (words : List (List ℕ)) (form : Form) → IsPlain name → AllByRecursion IsPlain words → attribute_by first (name ∷ words) ≡ form
    → attribute_form first (name ++ words_behind words) ≡ form
attribute_words_read first name words form h all is = ap (attribute_by first) (words_read name words h all) ∙ is

pub attribute_line_read : (kind : Kind) (n : ℕ) (name : List ℕ) (words : List (List ℕ)) (form : Form) → is_added kind ≡ true → n ≤ 999999999 → IsPlain name → AllByRecursion IsPlain words
    → attribute_by (spelling_of kind n) (name ∷ words) ≡ form → form_of (body (spelling_of kind n) name words) ≡ form
unfolding form_of
attribute_line_read letter.Attribute n name words form added small h all is =
    two_fields 65 (spelling_of letter.Attribute n) name words (tab_free letter.Attribute n small) h all ∙ attribute_words_read (spelling_of letter.Attribute n) name words form h all is
attribute_line_read letter.Legacy n name words form added small h all is =
    two_fields 77 (spelling_of letter.Legacy n) name words (tab_free letter.Legacy n small) h all ∙ attribute_words_read (spelling_of letter.Legacy n) name words form h all is
attribute_line_read letter.Text n name words form added small h all is = absurd (true≢false (sym added))
attribute_line_read letter.Event n name words form added small h all is = absurd (true≢false (sym added))
attribute_line_read letter.Relation n name words form added small h all is = absurd (true≢false (sym added))
attribute_line_read letter.Normal n name words form added small h all is = absurd (true≢false (sym added))
attribute_line_read letter.Note n name words form added small h all is = absurd (true≢false (sym added))

-- ---- N and #

pub note_line_read : (n : ℕ) (kind target text : List ℕ) → n ≤ 999999999 → IsPlain kind → IsPlain target → without_return text ≡ text
    → form_of (body_with_text (spelling_of letter.Note n) kind (target ∷ []) text) ≡ NoteForm (spelling_of letter.Note n) kind target text
unfolding form_of
note_line_read n kind target text small h k kept =
    three_fields 35 (spelling_of letter.Note n) kind (target ∷ []) text (tab_free letter.Note n small) h (k, tt) kept
    ∙ ap (λ ws. note_by (spelling_of letter.Note n) ws text) (words_read kind (target ∷ []) h (k, tt))

pub reference_plain : IsPlain (codes "Reference")
reference_plain = record { some = omega arith; free = (refl, (refl, (refl, (refl, (refl, (refl, (refl, (refl, (refl, tt))))))))) }

pub normal_line_read : (n : ℕ) (target store entry text : List ℕ) → n ≤ 999999999 → IsPlain target → NonePass (λ b. b == 58) store → IsPlain (pair_word store entry) → without_return text ≡ text
    → form_of (body_with_text (spelling_of letter.Normal n) (codes "Reference") (target ∷ pair_word store entry ∷ []) text) ≡ NormalForm (spelling_of letter.Normal n) target store entry text
unfolding form_of
normal_line_read n target store entry text small k colon h kept =
    let first = spelling_of letter.Normal n in
    let word = store ++ 58 ∷ entry in
    three_fields 78 first (codes "Reference") (target ∷ pair_word store entry ∷ []) text (tab_free letter.Normal n small) reference_plain (k, (h, tt)) kept
    ∙ ap (λ ws. normal_by first ws text) (words_read (codes "Reference") (target ∷ pair_word store entry ∷ []) reference_plain (k, (h, tt)))
    ∙ ap (λ w. cond (has_byte 58 w) (NormalForm first target (before_byte 58 w) (behind_byte 58 w) text) BadForm) (append_assoc store (codes ":") entry)
    ∙ ap (λ b. cond b (NormalForm first target (before_byte 58 word) (behind_byte 58 word) text) BadForm) (any_at (λ b. b == 58) store 58 entry refl)
    ∙ ap₂ (λ s e. NormalForm first target s e text) (before_at (λ b. b == 58) store 58 entry colon refl) (after_at (λ b. b == 58) store 58 entry colon refl)

-- ---- *

pub class_line_read : (kind member : List ℕ) (members : List (List ℕ)) → IsPlain kind → AllByRecursion IsPlain (member ∷ members) → form_of (body (codes "*") kind (member ∷ members)) ≡ ClassForm kind (member ∷ members)
unfolding form_of
class_line_read kind member members h all =
    two_fields 42 (codes "*") kind (member ∷ members) (refl, tt) h all ∙ ap (class_by (codes "*")) (words_read kind (member ∷ members) h all)
