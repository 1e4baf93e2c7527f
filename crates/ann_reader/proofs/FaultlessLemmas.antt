-- A file of a layer has no fault.
use Rattle.std.proofs.Common.{◌≡◌, ℕ, ◌≤◌, min, Bool, true, false, ◌==◌, ◌||◌, eq-eqb, List, [], ◌∷◌, ◌++◌, length, map, chars, refl, sym, ◌∙◌, ap, subst, Option, Some, None, cond, count_by, slice_index, arith}
use Rattle.std.specs.Prelude.{bytes_eq}
use Rattle.std.specs.Option.{option_or, option_map}
use Rattle.std.specs.List.{common_prefix_len, list_any, AllByRecursion}
use Rattle.std.proofs.lemmas.Bool.{and_from, or_from}
use Rattle.std.proofs.lemmas.List.{append_assoc}
use Rattle.mark_base.specs.declared.ann_id.AnnId.{AnnId}
use Rattle.mark_base.specs.declared.ann_id.Kind.{Kind}
use Rattle.char_documents.specs.Texts.{all_lie_in, reference_text}
use Rattle.conf_model.specs.Configurations.{Configuration}
use Rattle.layer_model.specs.declared.rule.Rule.{Rule}
use Rattle.layer_model.specs.declared.rule.Rule.TheVariants.{UnknownType, NotForUse, UnknownRole, UnknownValue, BadText}
use Rattle.layer_model.specs.Annotations.{Annotations}
use Rattle.layer_model.specs.Layers.{IsLayer, has}
use Rattle.layer_rules.specs.MarkRules.{where_so}
use Rattle.layer_rules.specs.WellFormed.{least_flaw}
use Rattle.layer_rules.proofs.LawLemmas.{well_formed_is_unflawed}
use Rattle.ann_reader.specs.declared.ann_fault.AnnWhat.TheVariants.{Broken}
use Rattle.ann_reader.specs.Lines.{Line, lines_of}
use Rattle.mark_base.specs.AnnIds.{kind_read}
use Rattle.ann_reader.specs.LineForms.{Form, BadForm, TextForm, EventForm, RelationForm, AttributeForm, ClassForm, NormalForm, NoteForm, form_of}
use Rattle.ann_reader.specs.LineIds.{id_words, has_no_letter, is_misspelt, is_own_misspelt}
use Rattle.ann_reader.specs.LineFaults.{is_formless, is_nameless, is_twice, has_unknown_type, has_barred_type, has_unknown_role, has_unknown_value, has_bad_text, one_too_many, count_like, naming_rule, value_rule, line_rule, line_fault, first_line_fault}
use Rattle.ann_reader.specs.AnnFaults.{as_space, differing, text_differs, text_fault, first_text_fault, layer_of, layer_fault, ann_fault}
use Rattle.ann_reader.specs.AnnFiles.{IsAnn, Spells, is_line_of}
use Rattle.ann_reader.proofs.AnswerLemmas.{text_faulty}
use Rattle.ann_reader.proofs.CountLemmas.{is_like, lines_count, many}
use Rattle.ann_reader.proofs.FileLemmas.{rising}
use Rattle.ann_reader.proofs.KeptLemmas.{AllKeep}
use Rattle.ann_reader.proofs.LineFaultLemmas.{ruled}
use Rattle.ann_reader.proofs.RoomLemmas.{few_annotations, none_too_many}
use Rattle.ann_reader.proofs.RuleLemmas.{Keeps}
use Rattle.ann_reader.proofs.SameLayer.{Cohere, file_keeps, file_cleans, same_layer}
use Rattle.ann_reader.proofs.StandLemmas.{all_lettered, all_spelt, none_absent, none_unfit}

neither : {X : Type 0} (a b : Option X) → a ≡ None → b ≡ None → option_or a b ≡ None
neither a b first second = ap (λ o. option_or o b) first ∙ second

not_so : (b : Bool) (rule : Rule) → b ≡ false → where_so b rule ≡ None
not_so b rule e = ap (λ t. where_so t rule) e

-- ---- lines

-- where each ID of the layer heads a line
abbrev AllHead : Annotations → List Line → Type 0
AllHead layer all = (id : AnnId) → has layer id ≡ true → list_any (is_line_of id) all ≡ true

no_rule : (conf : Configuration) (layer : Annotations) (all : List Line) (before : ℕ) (line : Line) (form : Form) → Keeps conf layer form → AllHead layer all
    → one_too_many before (slice_index line.bytes 0) ≡ None → line_rule conf all before line form ≡ None
no_rule conf layer all before line form keeps heads room =
    let absent = none_absent layer all (id_words form) heads keeps.stand in
    let unfit = none_unfit layer (id_words form) keeps.stand in
    let naming : naming_rule conf all form ≡ None =
    neither _ _ (not_so (has_unknown_type conf form) UnknownType keeps.types) (neither _ _ (not_so (has_barred_type conf form) NotForUse keeps.for_use) (neither _ _ absent (neither _ _ unfit refl))) in
    let valuing : value_rule conf before line form ≡ None =
    neither _ _ (not_so (has_unknown_role conf form) UnknownRole keeps.roles)
    (neither _ _ (not_so (has_unknown_value conf form) UnknownValue keeps.values) (neither _ _ (not_so (has_bad_text form) BadText keeps.texts) (neither _ _ room refl))) in
    neither (naming_rule conf all form) (value_rule conf before line form) naming valuing

no_fault : (conf : Configuration) (layer : Annotations) (all : List Line) (before : ℕ) (line : Line) → Keeps conf layer (form_of line.bytes) → is_twice all line ≡ false → AllHead layer all
    → one_too_many before (slice_index line.bytes 0) ≡ None → line_fault conf all before line ≡ None
no_fault conf layer all before line keeps once heads room =
    let form = form_of line.bytes in
    sym (ruled conf all before line form refl (sym (or_from (is_formless form || is_nameless form) (list_any has_no_letter (id_words form)) keeps.formed (all_lettered layer (id_words form) keeps.stand)))
    (sym (or_from (is_own_misspelt form) (list_any is_misspelt (id_words form)) keeps.own (all_spelt layer (id_words form) keeps.stand))) (sym once) None
    (sym (ap (option_map Broken) (no_rule conf layer all before line form keeps heads room))))

no_line_fault : (conf : Configuration) (layer : Annotations) (all before lines : List Line) → all ≡ before ++ lines → AllKeep conf layer lines → AllByRecursion (λ line. is_twice all line ≡ false) lines → AllHead layer all
    → ((b : ℕ) (kind : Kind) → kind_read b ≡ Some kind → count_by (is_like b) all ≤ 10000) → first_line_fault conf all before lines ≡ None
no_line_fault conf layer all before [] e keep once heads few = refl
no_line_fault conf layer all before (line ∷ lines) e keep once heads few =
    let b = slice_index line.bytes 0 in
    let room = none_too_many all before lines line e (λ kind read. few b kind read) in
    neither _ (first_line_fault conf all (before ++ line ∷ []) lines) (ap (option_map _) (no_fault conf layer all (count_like b before) line keep.0 once.0 heads room))
    (no_line_fault conf layer all (before ++ line ∷ []) lines (e ∙ sym (append_assoc before (line ∷ []) lines)) keep.1 once.1 heads few)

-- ---- texts

same_itself : (xs : List ℕ) → bytes_eq xs xs ≡ true
same_itself [] = refl
same_itself (x ∷ xs) = and_from (x == x) (bytes_eq xs xs) (eq-eqb x x refl) (same_itself xs)

not_differing : (a b : List ℕ) → a ≡ b → differing a b ≡ None
not_differing a b e =
    let same : bytes_eq a b ≡ true = ap (bytes_eq a) (sym e) ∙ same_itself a in
    ap (λ t. cond t None (Some (min (common_prefix_len (λ x y. x == y) a b) 4294967295))) same

shown_well : (conf : Configuration) (text : List ℕ) (layer : Annotations) (form : Form) → Spells conf text layer form → text_differs text form ≡ None
shown_well conf text layer BadForm h = absurd h
shown_well conf text layer (TextForm first kind frags shown) h =
    let none : differing (map as_space (chars shown)) (reference_text text frags) ≡ None = not_differing (map as_space (chars shown)) (reference_text text frags) h.1 in
    elim (all_lie_in text frags) as (λ t. cond t (differing (map as_space (chars shown)) (reference_text text frags)) None ≡ None) [ true ↦ none | false ↦ refl ]
shown_well conf text layer (EventForm a b c d) h = refl
shown_well conf text layer (RelationForm a b c d) h = refl
shown_well conf text layer (AttributeForm a b c d) h = refl
shown_well conf text layer (ClassForm a b) h = refl
shown_well conf text layer (NormalForm a b c d x) h = refl
shown_well conf text layer (NoteForm a b c d) h = refl

no_text_fault : (conf : Configuration) (text : List ℕ) (layer : Annotations) (lines : List Line) → AllByRecursion (λ line. Spells conf text layer (form_of line.bytes)) lines → first_text_fault text lines ≡ None
no_text_fault conf text layer [] h = refl
no_text_fault conf text layer (line ∷ lines) h =
    neither (text_fault text line) (first_text_fault text lines) (ap (option_map _) (shown_well conf text layer (form_of line.bytes) h.0)) (no_text_fault conf text layer lines h.1)

-- ---- the file

-- a file of a layer has no fault
pub faultless : Cohere → (conf : Configuration) (text bytes : List ℕ) (layer : Annotations) → IsLayer layer → IsAnn conf text bytes layer → ann_fault conf text bytes ≡ None
faultless cohere conf text bytes layer is file =
    let lines = lines_of bytes in
    let same : layer ≡ layer_of conf lines = same_layer cohere conf text bytes layer is file in
    let few : (b : ℕ) (kind : Kind) → kind_read b ≡ Some kind → count_by (is_like b) lines ≤ 10000 = λ b kind read.
    let more : count_by (is_like b) lines ≤ many (layer_of conf lines) kind = lines_count conf lines b kind read (rising bytes) (file_cleans cohere conf text bytes layer is file) in
    let equal : many layer kind ≡ many (layer_of conf lines) kind = ap (λ l. many l kind) same in
    let most : many layer kind ≤ 10000 = few_annotations conf (length text) layer is file.well_formed kind in
    omega arith in
    let first : first_line_fault conf lines [] lines ≡ None = no_line_fault conf layer lines [] lines refl (file_keeps cohere conf text bytes layer is file) file.once (λ id h. file.only id h) few in
    let flaw : least_flaw conf (length text) (layer_of conf lines) ≡ None = subst (λ l. least_flaw conf (length text) l ≡ None) same (well_formed_is_unflawed conf (length text) layer file.well_formed) in
    let second : layer_fault conf (length text) lines ≡ None = ap (option_map _) flaw in
    let third : first_text_fault text lines ≡ None = no_text_fault conf text layer lines file.spelt in
    sym (text_faulty conf text bytes file.valid) ∙ neither (first_line_fault conf lines [] lines) (option_or (layer_fault conf (length text) lines) (first_text_fault text lines)) first
    (neither (layer_fault conf (length text) lines) (first_text_fault text lines) second third)
