-- The columns of a layer are lines of columns.
use Rattle.std.proofs.Common.{◌≡◌, ℕ, ◌-◌, ◌==◌, not, false, List, [], ◌∷◌, ◌++◌, map, Option, Some, None, refl, sym, ◌∙◌, ap, subst, length, codes, append_assoc, slice_index, take, IsUtf8, zero, suc}
use Rattle.std.specs.Prelude.{⊤}
use Rattle.std.specs.Option.{option_map_or}
use Rattle.std.specs.List.{flat_map, slice_split, AllByRecursion}
use Rattle.std.specs.Str.{NonePass}
use Rattle.std.specs.Str.Lines.{lines_of_parts, strip_carriage_return}
use Rattle.std.proofs.lemmas.Bool.{cond_both, cond-true, cond-false}
use Rattle.std.proofs.lemmas.Str.{IsUtf8-append}
use Rattle.mark_base.specs.declared.fragments.Frag.{Frag}
use Rattle.mark_base.specs.declared.table_places.TypeId.{TypeId}
use Rattle.type_hierarchy.specs.declared.type_row.TypeRow.{TypeRow}
use Rattle.char_documents.specs.Tokens.{tokens_of}
use Rattle.conf_model.specs.Configurations.{Configuration}
use Rattle.conf_model.specs.ConfText.{type_name_at}
use Rattle.conf_model.specs.Sound.{IsSound}
use Rattle.annotation_conf.proofs.WrittenLists.{none-append, split_at}
use Rattle.layer_model.specs.Annotations.{Annotations}
use Rattle.layer_rules.specs.WellFormed.{IsWellFormed}
use Rattle.ann_writer.proofs.ConfWords.{type_word}
use Rattle.ann_writer.proofs.PlainWords.{IsPlain, no_feed, no_return, parts}
use Rattle.ann_writer.proofs.WrittenBytes.{joined_utf8, plain_utf8}
use Rattle.token_columns.specs.declared.label.Label.TheVariants as label
use Rattle.token_columns.specs.declared.run.Run.{Run}
use Rattle.token_columns.specs.Columns.{column_line, column_lines, columns, label_word, token_text}
use Rattle.token_columns.specs.ColumnFiles.{IsColumns, IsOfProgram, lines_of}
use Rattle.token_columns.specs.Fits.{Fits}
use Rattle.token_columns.specs.Labels.{covering, label_by, label_of, reaches, runs_of}
use Rattle.token_columns.specs.ReadColumns.{is_blank}
use Rattle.token_columns.proofs.AcceptLemmas.{ArePlain, kind_is}
use Rattle.token_columns.proofs.BackLemmas.{Known, known}
use Rattle.token_columns.proofs.JudgedLemmas.{CanUse, RunStands}
use Rattle.token_columns.proofs.PlainLemmas.{not_blank, token_utf8}
use Rattle.token_columns.proofs.ReadFacts.{shown_in}

-- ---- a file of lines

abbrev ended : List ℕ → List ℕ
ended line = line ++ codes "\n"

-- a line without a line feed or a carriage return, that is not blank
pub record IsLine (line : List ℕ) : Type 0 where
  pub feedless : NonePass (λ b. b == 10) line
  pub returnless : NonePass (λ b. b == 13) line
  pub shown : is_blank line ≡ false

split_lines : (ls : List (List ℕ)) → AllByRecursion IsLine ls → slice_split (λ b. b == 10) (flat_map ended ls) ≡ ls ++ [] ∷ []
split_lines [] all = refl
split_lines (line ∷ ls) all =
    ap (slice_split (λ b. b == 10)) (append_assoc line (codes "\n") (flat_map ended ls))
    ∙ split_at (λ b. b == 10) line 10 (flat_map ended ls) (all.0).feedless refl ∙ ap (λ rest. line ∷ rest) (split_lines ls all.1)

none_there : (xs : List ℕ) (i : ℕ) → NonePass (λ b. b == 13) xs → (slice_index xs i == 13) ≡ false
none_there [] i h = refl
none_there (x ∷ xs) zero h = h.0
none_there (x ∷ xs) (suc i) h = none_there xs i h.1

stripped : (line : List ℕ) → IsLine line → strip_carriage_return line ≡ line
stripped line h = cond-false (slice_index line (length line - 1) == 13) (take (length line - 1) line) line (none_there line (length line - 1) h.returnless)

parts_back : (ls : List (List ℕ)) → AllByRecursion IsLine ls → lines_of_parts (ls ++ [] ∷ []) ≡ ls
parts_back [] all = refl
parts_back (line ∷ []) all = ap (λ l. l ∷ []) (stripped line all.0)
parts_back (line ∷ next ∷ ls) all = ap (λ l. l ∷ lines_of_parts (next ∷ (ls ++ [] ∷ []))) (stripped line all.0) ∙ ap (λ rest. line ∷ rest) (parts_back (next ∷ ls) all.1)

all_shown : (ls : List (List ℕ)) → AllByRecursion IsLine ls → shown_in ls ≡ ls
all_shown [] all = refl
all_shown (line ∷ ls) all = cond-true (not (is_blank line)) (line ∷ shown_in ls) (shown_in ls) (ap not (all.0).shown) ∙ ap (λ rest. line ∷ rest) (all_shown ls all.1)

lines_back : (ls : List (List ℕ)) → AllByRecursion IsLine ls → lines_of (flat_map ended ls) ≡ ls
lines_back ls all = ap shown_in (ap lines_of_parts (split_lines ls all) ∙ parts_back ls all) ∙ all_shown ls all

-- ---- the lines of tokens

abbrev KindOf : Configuration → Option Run → Type 0
KindOf conf None = ⊤
KindOf conf (Some run) = CanUse conf run.kind

found_kind : (conf : Configuration) (c : ℕ) (runs : List Run) → AllByRecursion (RunStands conf) runs → KindOf conf (covering runs c)
found_kind conf c [] all = tt
found_kind conf c (run ∷ runs) all = cond_both (reaches c run) (Some run) (covering runs c) (KindOf conf) (λ _. (all.0).0) (λ _. found_kind conf c runs all.1)

word_plain : (conf : Configuration) → IsSound conf → (o : Option Run) (token : Frag) → KindOf conf o → NonePass parts (label_word conf (label_by o token))
word_plain conf sound None token k = (refl, tt)
word_plain conf sound (Some run) token k =
    let name = (kind_is conf run.kind sound k).plain in
    cond_both (run.start == token.start) (label.Begin run.kind) (label.Inside run.kind) (λ l. NonePass parts (label_word conf l)) (λ _. (refl, (refl, name))) (λ _. (refl, (refl, name)))

name_utf8 : (conf : Configuration) → IsSound conf → (kind : TypeId) → CanUse conf kind → IsUtf8 (type_name_at conf kind.n)
name_utf8 conf sound kind can =
    subst IsUtf8 (sym (ap (λ o. option_map_or (λ (r : TypeRow). r.name) o []) can.1)) (type_word conf sound kind.n can.0 can.1).valid

word_utf8 : (conf : Configuration) → IsSound conf → (o : Option Run) (token : Frag) → KindOf conf o → IsUtf8 (label_word conf (label_by o token))
word_utf8 conf sound None token k = plain_utf8 (codes "O") refl
word_utf8 conf sound (Some run) token k =
    let name : IsUtf8 (type_name_at conf run.kind.n) = name_utf8 conf sound run.kind k in
    cond_both (run.start == token.start) (label.Begin run.kind) (label.Inside run.kind) (λ l. IsUtf8 (label_word conf l))
    (λ _. IsUtf8-append (codes "B-") (type_name_at conf run.kind.n) (plain_utf8 (codes "B-") refl) name) (λ _. IsUtf8-append (codes "I-") (type_name_at conf run.kind.n) (plain_utf8 (codes "I-") refl) name)

line_is : (token word : List ℕ) → IsPlain token → NonePass parts word → IsLine (token ++ codes "\t" ++ word)
line_is token word t w = record {
  feedless = none-append (λ b. b == 10) (token ++ codes "\t") word (none-append (λ b. b == 10) token (codes "\t") (no_feed token t.free) (refl, tt)) (no_feed word w);
  returnless = none-append (λ b. b == 13) (token ++ codes "\t") word (none-append (λ b. b == 13) token (codes "\t") (no_return token t.free) (refl, tt)) (no_return word w);
  shown = ap is_blank (append_assoc token (codes "\t") word) ∙ not_blank token (codes "\t" ++ word) t;
}

lines_are : (conf : Configuration) (text : List ℕ) (runs : List Run) (tokens : List Frag) → IsSound conf → AllByRecursion (RunStands conf) runs → ArePlain text tokens → AllByRecursion IsLine (map (column_line conf text runs) tokens)
lines_are conf text runs [] sound all plain = tt
lines_are conf text runs (token ∷ tokens) sound all plain = (
  line_is (token_text text token) (label_word conf (label_of runs token)) plain.0 (word_plain conf sound (covering runs token.start) token (found_kind conf token.start runs all)),
  lines_are conf text runs tokens sound all plain.1,
)

lines_utf8 : (conf : Configuration) (text : List ℕ) (runs : List Run) (tokens : List Frag) → IsSound conf → AllByRecursion (RunStands conf) runs → ((token : Frag) → IsUtf8 (token_text text token))
    → AllByRecursion (λ (line : List ℕ). IsUtf8 (ended line)) (map (column_line conf text runs) tokens)
lines_utf8 conf text runs [] sound all each = tt
lines_utf8 conf text runs (token ∷ tokens) sound all each = (
  IsUtf8-append (column_line conf text runs token) (codes "\n")
      (IsUtf8-append (token_text text token ++ codes "\t") (label_word conf (label_of runs token)) (IsUtf8-append (token_text text token) (codes "\t") (each token) (plain_utf8 (codes "\t") refl))
      (word_utf8 conf sound (covering runs token.start) token (found_kind conf token.start runs all)))
      (plain_utf8 (codes "\n") refl),
  lines_utf8 conf text runs tokens sound all each,
)

-- what was written are columns of the layer
pub written : (conf : Configuration) (text : List ℕ) (layer : Annotations) → IsOfProgram conf text layer → IsWellFormed conf (length text) layer → Fits text layer → IsColumns conf text (columns conf text layer) layer
unfolding columns
written conf text layer own well fits =
    let k : Known conf text layer = known conf text layer own well fits in
    record {
      valid = joined_utf8 ended (column_lines conf text layer) (lines_utf8 conf text (runs_of layer) (tokens_of text) k.sound k.stand (λ token. token_utf8 text token k.scalars));
      shown = lines_back (column_lines conf text layer) (lines_are conf text (runs_of layer) (tokens_of text) k.sound k.stand k.plain);
      fits = fits;
      well_formed = well;
    }
