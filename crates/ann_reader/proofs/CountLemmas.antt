-- A layer has as many annotations of a sort as there are lines that are counted as it.
use Rattle.std.proofs.Common.{◌≡◌, ℕ, ◌+◌, ◌≤◌, ◌==◌, Bool, true, false, List, [], ◌∷◌, ◌++◌, refl, sym, ◌∙◌, ap, subst, Option, Some, None, cond, count_by, slice_index, arith}
use Rattle.std.specs.Ordering.{nat_cmp}
use Rattle.std.specs.Cmp.{nat_cmp_total}
use Rattle.std.specs.FinMap as finite
use Rattle.std.specs.FinMap.{len-insert}
use Rattle.std.proofs.lemmas.List.{append_assoc}
use Rattle.std.proofs.lemmas.List.Sums.{fold_push}
use Rattle.mark_base.specs.declared.ann_id.AnnId.{AnnId}
use Rattle.mark_base.specs.declared.ann_id.Kind.{Kind}
use Rattle.mark_base.specs.declared.ann_id.Kind.TheVariants as letter
use Rattle.conf_model.specs.Configurations.{Configuration}
use Rattle.layer_model.specs.declared.mark.Mark.{Mark}
use Rattle.layer_model.specs.declared.mark.Mark.TheVariants as marked
use Rattle.layer_model.specs.Annotations.{Annotations, no_marks}
use Rattle.layer_model.specs.Layers.{has, has_number, is_of_kind, with_marked, with_mark}
use Rattle.layer_rules.specs.LayerRules.{counted_letter}
use Rattle.ann_reader.specs.Lines.{Line}
use Rattle.mark_base.specs.AnnIds.{kind_read}
use Rattle.ann_reader.specs.LineForms.{Form, BadForm, TextForm, EventForm, RelationForm, AttributeForm, ClassForm, NormalForm, NoteForm, form_of}
use Rattle.ann_reader.specs.LineIds.{own_id, own_word}
use Rattle.ann_reader.specs.LineMeanings.{Said, mark_of as mark_said, said_of}
use Rattle.ann_reader.specs.LineFaults.{counted_byte}
use Rattle.ann_reader.specs.AnnFaults.{with_read, with_said, with_line, layer_of}
use Rattle.ann_reader.proofs.AnnLemmas.{AllClean, Below, Rises, is_new, own_spelt, raise, below_push}
use Rattle.ann_reader.proofs.CleanLemmas.{Clean, own_found, marked as mark_found}
use Rattle.ann_reader.proofs.FormFacts.{sorts_fit, letter_at, class_letter}
use Rattle.ann_reader.proofs.LetterLemmas.{counted_alike, class_uncounted}
use Rattle.std.proofs.lemmas.Bool.{false≢true}

-- how many annotations are counted together with those of a letter
abbrev pub many : Annotations → Kind → ℕ
many l letter.Text = finite.len l.spans
many l letter.Event = finite.len l.events
many l letter.Relation = finite.len l.relations
many l letter.Attribute = finite.len l.attributes + finite.len l.legacy
many l letter.Legacy = finite.len l.attributes + finite.len l.legacy
many l letter.Normal = finite.len l.normals
many l letter.Note = finite.len l.notes

-- a line is counted together with those that begin with a byte
abbrev pub is_like : ℕ → Line → Bool
is_like b line = counted_byte (slice_index line.bytes 0) == counted_byte b

-- one or none
abbrev pub one_if : Bool → ℕ
one_if b = cond b 1 0

-- ---- an annotation more

many_counted : (l : Annotations) (kind : Kind) → many l (counted_letter kind) ≡ many l kind
many_counted l letter.Text = refl
many_counted l letter.Event = refl
many_counted l letter.Relation = refl
many_counted l letter.Attribute = refl
many_counted l letter.Legacy = refl
many_counted l letter.Normal = refl
many_counted l letter.Note = refl

many_alike : (l : Annotations) (j k : Kind) → counted_letter j ≡ counted_letter k → many l j ≡ many l k
many_alike l j k e = sym (many_counted l j) ∙ ap (many l) e ∙ many_counted l k

put_len : {X : Type 0} (m : finite.FinMap nat_cmp X) (k : ℕ) (v : X) → finite.contains_key m k ≡ false → finite.len (finite.insert m k v) ≡ finite.len m + 1
put_len m k v new = len-insert nat_cmp_total m k v ∙ ap (λ b. cond b (finite.len m) (finite.len m + 1)) new

one_more : (l : Annotations) (kind : Kind) (n : ℕ) (mark : Mark) → is_of_kind kind mark ≡ true → has_number l kind n ≡ false → many (with_marked l kind n mark) kind ≡ many l kind + 1
one_more l letter.Text n (marked.Span x) fits new = put_len l.spans n x new
one_more l letter.Event n (marked.Event x) fits new = put_len l.events n x new
one_more l letter.Relation n (marked.Relation x) fits new = put_len l.relations n x new
one_more l letter.Attribute n (marked.Attribute x) fits new = let more : finite.len (finite.insert l.attributes n x) ≡ finite.len l.attributes + 1 = put_len l.attributes n x new in omega arith
one_more l letter.Legacy n (marked.Attribute x) fits new = let more : finite.len (finite.insert l.legacy n x) ≡ finite.len l.legacy + 1 = put_len l.legacy n x new in omega arith
one_more l letter.Normal n (marked.Normal x) fits new = put_len l.normals n x new
one_more l letter.Note n (marked.Note x) fits new = put_len l.notes n x new
one_more l kind n mark fits new = absurd (false≢true fits)

no_less : (l : Annotations) (kind : Kind) (n : ℕ) (mark : Mark) (other : Kind) → has_number l kind n ≡ false → many l other ≤ many (with_marked l kind n mark) other
no_less l letter.Text n (marked.Span x) letter.Text new = let more : finite.len (finite.insert l.spans n x) ≡ finite.len l.spans + 1 = put_len l.spans n x new in omega arith
no_less l letter.Text n (marked.Span x) _ new = omega arith
no_less l letter.Event n (marked.Event x) letter.Event new = let more : finite.len (finite.insert l.events n x) ≡ finite.len l.events + 1 = put_len l.events n x new in omega arith
no_less l letter.Event n (marked.Event x) _ new = omega arith
no_less l letter.Relation n (marked.Relation x) letter.Relation new = let more : finite.len (finite.insert l.relations n x) ≡ finite.len l.relations + 1 = put_len l.relations n x new in omega arith
no_less l letter.Relation n (marked.Relation x) _ new = omega arith
no_less l letter.Attribute n (marked.Attribute x) letter.Attribute new = let more : finite.len (finite.insert l.attributes n x) ≡ finite.len l.attributes + 1 = put_len l.attributes n x new in omega arith
no_less l letter.Attribute n (marked.Attribute x) letter.Legacy new = let more : finite.len (finite.insert l.attributes n x) ≡ finite.len l.attributes + 1 = put_len l.attributes n x new in omega arith
no_less l letter.Attribute n (marked.Attribute x) _ new = omega arith
no_less l letter.Legacy n (marked.Attribute x) letter.Attribute new = let more : finite.len (finite.insert l.legacy n x) ≡ finite.len l.legacy + 1 = put_len l.legacy n x new in omega arith
no_less l letter.Legacy n (marked.Attribute x) letter.Legacy new = let more : finite.len (finite.insert l.legacy n x) ≡ finite.len l.legacy + 1 = put_len l.legacy n x new in omega arith
no_less l letter.Legacy n (marked.Attribute x) _ new = omega arith
no_less l letter.Normal n (marked.Normal x) letter.Normal new = let more : finite.len (finite.insert l.normals n x) ≡ finite.len l.normals + 1 = put_len l.normals n x new in omega arith
no_less l letter.Normal n (marked.Normal x) _ new = omega arith
no_less l letter.Note n (marked.Note x) letter.Note new = let more : finite.len (finite.insert l.notes n x) ≡ finite.len l.notes + 1 = put_len l.notes n x new in omega arith
no_less l letter.Note n (marked.Note x) _ new = omega arith
no_less l kind n mark other new = omega arith

-- what is said of a class changes no count
said_many : (l : Annotations) (said : Option Said) (kind : Kind) → many (with_said l said) kind ≡ many l kind
said_many l None kind = refl
said_many l (Some said) letter.Text = refl
said_many l (Some said) letter.Event = refl
said_many l (Some said) letter.Relation = refl
said_many l (Some said) letter.Attribute = refl
said_many l (Some said) letter.Legacy = refl
said_many l (Some said) letter.Normal = refl
said_many l (Some said) letter.Note = refl

-- ---- a line more

-- a line that puts an annotation
put_counts : (conf : Configuration) (l : Annotations) (line : Line) (b : ℕ) (kind : Kind) (id : AnnId) (mark : Mark) → kind_read b ≡ Some kind
    → own_id (form_of line.bytes) ≡ Some id → mark_said conf (form_of line.bytes) ≡ Some mark → is_of_kind id.kind mark ≡ true → has l id ≡ false
    → many l kind + one_if (is_like b line) ≤ many (with_line conf l line) kind
put_counts conf l line b kind id mark read own said fits new = pick (is_like b line) refl
  where
    is : many (with_line conf l line) kind ≡ many (with_mark l id mark) kind
    is =
        said_many (with_read l (own_id (form_of line.bytes)) (mark_said conf (form_of line.bytes))) (said_of conf (form_of line.bytes)) kind
        ∙ ap (λ o. many (with_read l o (mark_said conf (form_of line.bytes))) kind) own ∙ ap (λ m. many (with_read l (Some id) m) kind) said
        ∙ ap (λ t. many (cond t l (with_mark l id mark)) kind) new

    pick : (t : Bool) → is_like b line ≡ t → many l kind + one_if t ≤ many (with_line conf l line) kind
    pick true e =
        let alike : counted_letter id.kind ≡ counted_letter kind = counted_alike (slice_index line.bytes 0) b id.kind kind (letter_at line.bytes id own) read e in
        let before : many l id.kind ≡ many l kind = many_alike l id.kind kind alike in
        let after : many (with_mark l id mark) id.kind ≡ many (with_mark l id mark) kind = many_alike (with_mark l id mark) id.kind kind alike in
        let more : many (with_mark l id mark) id.kind ≡ many l id.kind + 1 = one_more l id.kind id.number mark fits new in
        let whole : many (with_line conf l line) kind ≡ many l kind + 1 = is ∙ sym after ∙ more ∙ ap (λ n. n + 1) before in
        omega arith
    pick false e =
        let kept : many l kind ≤ many (with_mark l id mark) kind = no_less l id.kind id.number mark kind new in
        let whole : many (with_line conf l line) kind ≡ many (with_mark l id mark) kind = is in
        omega arith

-- a line of a class
class_counts : (conf : Configuration) (l : Annotations) (line : Line) (b : ℕ) (kind : Kind) (type_ : List ℕ) (ids : List (List ℕ)) → kind_read b ≡ Some kind
    → form_of line.bytes ≡ ClassForm type_ ids → many l kind + one_if (is_like b line) ≤ many (with_line conf l line) kind
class_counts conf l line b kind type_ ids read e =
    let unlike : one_if (is_like b line) ≡ 0 = ap one_if (class_uncounted (slice_index line.bytes 0) b kind (class_letter line.bytes type_ ids e) read) in
    let whole : many (with_line conf l line) kind ≡ many l kind =
    said_many (with_read l (own_id (form_of line.bytes)) (mark_said conf (form_of line.bytes))) (said_of conf (form_of line.bytes)) kind
    ∙ ap (λ (f : Form). many (with_read l (own_id f) (mark_said conf (form_of line.bytes))) kind) e in
    omega arith

-- a line with an ID of its own
own_counts : (conf : Configuration) (all before rest : List Line) (line : Line) (b : ℕ) (kind : Kind) (word : List ℕ) → kind_read b ≡ Some kind
    → all ≡ before ++ line ∷ rest → Below line.number before → Clean conf all line (form_of line.bytes) → own_word (form_of line.bytes) ≡ Some word
    → many (layer_of conf before) kind + one_if (is_like b line) ≤ many (with_line conf (layer_of conf before) line) kind
own_counts conf all before rest line b kind word read e below good own =
    let id = own_found (form_of line.bytes) word own (own_spelt conf all line (form_of line.bytes) good) in
    let mark = mark_found conf all line (form_of line.bytes) word good own in
    put_counts conf (layer_of conf before) line b kind id.0 mark.0 read id.1 mark.1 (sorts_fit conf line.bytes id.0 mark.0 id.1 mark.1)
    (is_new conf all before rest line id.0 e below id.1 good.once)

line_counts : (conf : Configuration) (all before rest : List Line) (line : Line) (b : ℕ) (kind : Kind) → kind_read b ≡ Some kind
    → all ≡ before ++ line ∷ rest → Below line.number before → Clean conf all line (form_of line.bytes)
    → many (layer_of conf before) kind + one_if (is_like b line) ≤ many (with_line conf (layer_of conf before) line) kind
line_counts conf all before rest line b kind read e below good = pick (form_of line.bytes) refl
  where
    mine : (word : List ℕ) → own_word (form_of line.bytes) ≡ Some word → many (layer_of conf before) kind + one_if (is_like b line) ≤ many (with_line conf (layer_of conf before) line) kind
    mine word own = own_counts conf all before rest line b kind word read e below good own

    pick : (form : Form) → form_of line.bytes ≡ form → many (layer_of conf before) kind + one_if (is_like b line) ≤ many (with_line conf (layer_of conf before) line) kind
    pick BadForm f = absurd (false≢true (sym (subst (λ (g : Form). Clean conf all line g) f good).formed))
    pick (TextForm x kind_ frags shown) f = mine x (ap own_word f)
    pick (EventForm x kind_ trigger pairs) f = mine x (ap own_word f)
    pick (RelationForm x kind_ p q) f = mine x (ap own_word f)
    pick (AttributeForm x kind_ target value) f = mine x (ap own_word f)
    pick (ClassForm kind_ ids) f = class_counts conf (layer_of conf before) line b kind kind_ ids read f
    pick (NormalForm x target store entry shown) f = mine x (ap own_word f)
    pick (NoteForm x kind_ target shown) f = mine x (ap own_word f)

-- ---- all lines

append-nil_ : (xs : List Line) → xs ++ [] ≡ xs
append-nil_ [] = refl
append-nil_ (x ∷ xs) = ap (λ ys. x ∷ ys) (append-nil_ xs)

count_push : (b : ℕ) (lines : List Line) (line : Line) → count_by (is_like b) (lines ++ line ∷ []) ≡ count_by (is_like b) lines + one_if (is_like b line)
count_push b lines line = fold_push (λ a (x : Line). a + one_if (is_like b x)) 0 lines line

all_count : (conf : Configuration) (all before lines : List Line) (n b : ℕ) (kind : Kind) → kind_read b ≡ Some kind → all ≡ before ++ lines → Rises n lines → Below n before
    → AllClean conf all lines → count_by (is_like b) before ≤ many (layer_of conf before) kind → count_by (is_like b) all ≤ many (layer_of conf all) kind
all_count conf all before [] n b kind read e rises below good h =
    subst (λ (lines : List Line). count_by (is_like b) lines ≤ many (layer_of conf lines) kind) (sym (append-nil_ before) ∙ sym e) h
all_count conf all before (line ∷ lines) n b kind read e rises below good h =
    let under = raise n line.number before rises.0 below in
    let step = line_counts conf all before lines line b kind read e under good.0 in
    let whole : layer_of conf (before ++ line ∷ []) ≡ with_line conf (layer_of conf before) line = fold_push (with_line conf) no_marks before line in
    let more : many (layer_of conf (before ++ line ∷ [])) kind ≡ many (with_line conf (layer_of conf before) line) kind = ap (λ l. many l kind) whole in
    let counted : count_by (is_like b) (before ++ line ∷ []) ≡ count_by (is_like b) before + one_if (is_like b line) = count_push b before line in
    all_count conf all (before ++ line ∷ []) lines (line.number + 1) b kind read (e ∙ sym (append_assoc before (line ∷ []) lines)) rises.1
    (below_push (line.number + 1) before line (raise line.number (line.number + 1) before (omega arith) under) (omega arith)) good.1 (omega arith)

-- the lines that are counted as a letter are at most as many as the annotations of that sort that they say
pub lines_count : (conf : Configuration) (lines : List Line) (b : ℕ) (kind : Kind) → kind_read b ≡ Some kind → Rises 1 lines → AllClean conf lines lines
    → count_by (is_like b) lines ≤ many (layer_of conf lines) kind
lines_count conf lines b kind read rises good = all_count conf lines [] lines 1 b kind read refl rises tt good (omega arith)
