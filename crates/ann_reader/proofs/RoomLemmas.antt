-- A well-formed layer has at most 10,000 annotations of a sort, so no line brings one too many.
use Rattle.std.proofs.Common.{◌≡◌, ℕ, ◌+◌, ◌<◌, ◌≤◌, inl, inr, zero, suc, min, true, false, eq-eqb, List, [], ◌∷◌, ◌++◌, length, map, refl, sym, ◌∙◌, ap, Option, Some, None, cond, count_by, nat_le, slice_get, slice_index, is_some, option_map, arith}
use Rattle.std.specs.Option.{option_and_then, option_map_or}
use Rattle.std.specs.List.{AllByRecursion}
use Rattle.std.specs.Map.{keys_of}
use Rattle.std.specs.Ordering.{nat_cmp}
use Rattle.std.specs.FinMap as finite
use Rattle.std.specs.FinMap.{len-entries}
use Rattle.std.proofs.lemmas.Bool.{cases_lt, lt-leb, false≢true}
use Rattle.std.proofs.lemmas.List.{length-map, length-append}
use Rattle.std.proofs.lemmas.List.Sums.{sum_by-append}
use Rattle.std.proofs.lemmas.Map.Entries.{length-keys_of}
use Rattle.mark_base.specs.declared.ann_id.AnnId.{AnnId}
use Rattle.mark_base.specs.declared.ann_id.Kind.{Kind}
use Rattle.mark_base.specs.declared.ann_id.Kind.TheVariants as letter
use Rattle.conf_model.specs.Configurations.{Configuration}
use Rattle.layer_model.specs.declared.mark.Mark.{Mark}
use Rattle.layer_model.specs.declared.mark.Mark.TheVariants as marked
use Rattle.layer_model.specs.declared.flaw.FlawPlace.TheVariants as at
use Rattle.layer_model.specs.declared.rule.Rule.{Rule}
use Rattle.layer_model.specs.declared.rule.Rule.TheVariants.{LayerFull}
use Rattle.layer_model.specs.Annotations.{Annotations}
use Rattle.layer_model.specs.Layers.{IsLayer, mark_at, mark_of}
use Rattle.layer_model.specs.Numbers.{NumbersFit}
use Rattle.mark_base.specs.ReadIds.{id_at}
use Rattle.layer_model.specs.LayerIds.{id_place}
use Rattle.layer_rules.specs.LayerRules.{counted_letter, counted_with, is_id, layer_full}
use Rattle.layer_rules.specs.WellFormed.{IsWellFormed}
use Rattle.layer_rules.proofs.PlaceLemmas.{entries_found}
use Rattle.ann_reader.specs.Lines.{Line}
use Rattle.mark_base.specs.AnnIds.{kind_read}
use Rattle.ann_reader.specs.LineFaults.{count_like, one_too_many}
use Rattle.ann_reader.proofs.CountLemmas.{many, is_like, one_if}
use Rattle.ann_reader.proofs.MemberLemmas.{at_index}
use Rattle.ann_reader.proofs.TextLemmas.{unbroken}

-- ---- what is counted is there

-- an ID that is counted with a letter, and whose annotation is there
pub record Counts (layer : Annotations) (kind : Kind) (id : AnnId) : Type 0 where
  pub with : counted_with layer id.kind ≡ counted_with layer kind
  pub mark : Mark
  pub held : mark_at layer id ≡ Some mark

small_is : (n : ℕ) → n ≤ 999999999 → min n 999999999 ≡ n
small_is n h = omega arith

-- those of a letter
letter_counts : {V : Type 0} (layer : Annotations) (kind own : Kind) (wrap : V → Mark) (m : finite.FinMap nat_cmp V) → ((n : ℕ) → mark_of layer own n ≡ option_map wrap (finite.get m n))
    → NumbersFit m → counted_with layer own ≡ counted_with layer kind → (es : List (ℕ × V)) → AllByRecursion (λ e. finite.get m e.0 ≡ Some e.1) es → AllByRecursion (Counts layer kind) (map (id_at own) (keys_of es))
letter_counts layer kind own wrap m same fits with [] all = tt
letter_counts layer kind own wrap m same fits with (e ∷ es) all =
    let small : min e.0 999999999 ≡ e.0 = small_is e.0 (fits e.0 (ap is_some all.0)) in (
      record { with = with; mark = wrap e.1; held = ap (mark_of layer own) small ∙ same e.0 ∙ ap (option_map wrap) all.0 },
      letter_counts layer kind own wrap m same fits with es all.1,
    )

both : {X : Type 0} (P : X → Type 0) (xs ys : List X) → AllByRecursion P xs → AllByRecursion P ys → AllByRecursion P (xs ++ ys)
both P [] ys a b = b
both P (x ∷ xs) ys a b = (a.0, both P xs ys a.1 b)

all_count : (layer : Annotations) → IsLayer layer → (kind : Kind) → AllByRecursion (Counts layer kind) (counted_with layer kind)
all_count layer is letter.Text = letter_counts layer letter.Text letter.Text marked.Span layer.spans (λ n. refl) is.spans refl (finite.entries layer.spans) (entries_found layer.spans)
all_count layer is letter.Event = letter_counts layer letter.Event letter.Event marked.Event layer.events (λ n. refl) is.events refl (finite.entries layer.events) (entries_found layer.events)
all_count layer is letter.Relation = letter_counts layer letter.Relation letter.Relation marked.Relation layer.relations (λ n. refl) is.relations refl (finite.entries layer.relations) (entries_found layer.relations)
all_count layer is letter.Attribute =
    both (Counts layer letter.Attribute) _ _
    (letter_counts layer letter.Attribute letter.Attribute marked.Attribute layer.attributes (λ n. refl) is.attributes refl (finite.entries layer.attributes) (entries_found layer.attributes))
    (letter_counts layer letter.Attribute letter.Legacy marked.Attribute layer.legacy (λ n. refl) is.legacy refl (finite.entries layer.legacy) (entries_found layer.legacy))
all_count layer is letter.Legacy =
    both (Counts layer letter.Legacy) _ _
    (letter_counts layer letter.Legacy letter.Attribute marked.Attribute layer.attributes (λ n. refl) is.attributes refl (finite.entries layer.attributes) (entries_found layer.attributes))
    (letter_counts layer letter.Legacy letter.Legacy marked.Attribute layer.legacy (λ n. refl) is.legacy refl (finite.entries layer.legacy) (entries_found layer.legacy))
all_count layer is letter.Normal = letter_counts layer letter.Normal letter.Normal marked.Normal layer.normals (λ n. refl) is.normals refl (finite.entries layer.normals) (entries_found layer.normals)
all_count layer is letter.Note = letter_counts layer letter.Note letter.Note marked.Note layer.notes (λ n. refl) is.notes refl (finite.entries layer.notes) (entries_found layer.notes)

-- ---- how many are counted

letter_len : {V : Type 0} (kind : Kind) (m : finite.FinMap nat_cmp V) → length (map (id_at kind) (finite.keys m)) ≡ finite.len m
letter_len kind m = length-map (finite.keys m) (id_at kind) ∙ length-keys_of (finite.entries m) ∙ sym (len-entries m)

two_len : (layer : Annotations) → length (counted_with layer letter.Attribute) ≡ finite.len layer.attributes + finite.len layer.legacy
two_len layer =
    let a : length (map (id_at letter.Attribute) (finite.keys layer.attributes)) ≡ finite.len layer.attributes = letter_len letter.Attribute layer.attributes in
    let b : length (map (id_at letter.Legacy) (finite.keys layer.legacy)) ≡ finite.len layer.legacy = letter_len letter.Legacy layer.legacy in
    length-append (map (id_at letter.Attribute) (finite.keys layer.attributes)) (map (id_at letter.Legacy) (finite.keys layer.legacy)) ∙ ap (λ n. n + length (map (id_at letter.Legacy) (finite.keys layer.legacy))) a ∙ ap (λ n. finite.len layer.attributes + n) b

counted_len : (layer : Annotations) (kind : Kind) → length (counted_with layer kind) ≡ many layer kind
counted_len layer letter.Text = letter_len letter.Text layer.spans
counted_len layer letter.Event = letter_len letter.Event layer.events
counted_len layer letter.Relation = letter_len letter.Relation layer.relations
counted_len layer letter.Attribute = two_len layer
counted_len layer letter.Legacy = two_len layer
counted_len layer letter.Normal = letter_len letter.Normal layer.normals
counted_len layer letter.Note = letter_len letter.Note layer.notes

-- ---- at most 10,000

item_at : {X : Type 0} (xs : List X) (i : ℕ) → i < length xs → (x : X) × (slice_get xs i ≡ Some x)
item_at [] i h = absurd (omega arith)
item_at (x ∷ xs) zero h = (x, refl)
item_at (x ∷ xs) (suc i) h = item_at xs i (omega arith)

few_counted : (conf : Configuration) (characters : ℕ) (layer : Annotations) → IsLayer layer → IsWellFormed conf characters layer → (kind : Kind) → length (counted_with layer kind) ≤ 10000
few_counted conf characters layer is good kind =
    elim (cases_lt 10000 (length (counted_with layer kind))) as (λ _. length (counted_with layer kind) ≤ 10000) [
      | inr few ↦ few
      | inl more ↦
          let item = item_at (counted_with layer kind) 10000 more in
          let id : AnnId = item.0 in
          let counts : Counts layer kind id = at_index (Counts layer kind) (counted_with layer kind) 10000 id (all_count layer is kind) item.1 in
          let rule : layer_full layer id counts.mark ≡ None = sym (ap (option_and_then (layer_full layer id)) counts.held) ∙ good.room (at.Mark id) in
          let so : option_map_or (is_id id) (slice_get (counted_with layer id.kind) 10000) false ≡ false = unbroken _ (LayerFull (counted_letter id.kind)) rule in
          let mine : option_map_or (is_id id) (slice_get (counted_with layer id.kind) 10000) false ≡ true =
          ap (λ ids. option_map_or (is_id id) (slice_get ids 10000) false) counts.with ∙ ap (λ o. option_map_or (is_id id) o false) item.1 ∙ eq-eqb (id_place id) (id_place id) refl in
          absurd (false≢true (sym so ∙ mine))
    ]

-- a well-formed layer has at most 10,000 annotations of a sort
pub few_annotations : (conf : Configuration) (characters : ℕ) (layer : Annotations) → IsLayer layer → IsWellFormed conf characters layer → (kind : Kind) → many layer kind ≤ 10000
few_annotations conf characters layer is good kind =
    let same : length (counted_with layer kind) ≡ many layer kind = counted_len layer kind in
    let few : length (counted_with layer kind) ≤ 10000 = few_counted conf characters layer is good kind in
    omega arith

-- ---- a line

-- fewer than 10,000 lines before a line are counted together with it, where all lines that are so counted are at most 10,000
few_before : (all before rest : List Line) (line : Line) → all ≡ before ++ line ∷ rest → count_by (is_like (slice_index line.bytes 0)) all ≤ 10000 → count_like (slice_index line.bytes 0) before < 10000
few_before all before rest line e few =
    let b = slice_index line.bytes 0 in
    let one : is_like b line ≡ true = eq-eqb _ _ refl in
    let parts : count_by (is_like b) (before ++ line ∷ rest) ≡ count_by (is_like b) before + count_by (is_like b) (line ∷ rest) = sum_by-append (λ x. one_if (is_like b x)) before (line ∷ rest) in
    let later : count_by (is_like b) ((line ∷ []) ++ rest) ≡ count_by (is_like b) (line ∷ []) + count_by (is_like b) rest = sum_by-append (λ x. one_if (is_like b x)) (line ∷ []) rest in
    let mine : count_by (is_like b) (line ∷ []) ≡ 1 = ap (λ t. 0 + one_if t) one in
    let whole : count_by (is_like b) all ≡ count_by (is_like b) (before ++ line ∷ rest) = ap (λ (lines : List Line). count_by (is_like b) lines) e in
    omega arith

-- no line brings one too many
pub none_too_many : (all before rest : List Line) (line : Line) → all ≡ before ++ line ∷ rest
    → ((kind : Kind) → kind_read (slice_index line.bytes 0) ≡ Some kind → count_by (is_like (slice_index line.bytes 0)) all ≤ 10000)
    → one_too_many (count_like (slice_index line.bytes 0) before) (slice_index line.bytes 0) ≡ None
none_too_many all before rest line e few = pick (kind_read (slice_index line.bytes 0)) refl
  where
    pick : (o : Option Kind) → kind_read (slice_index line.bytes 0) ≡ o → one_too_many (count_like (slice_index line.bytes 0) before) (slice_index line.bytes 0) ≡ None
    pick None read =
        ap (λ o. cond (nat_le 10000 (count_like (slice_index line.bytes 0) before)) (option_map (λ kind. LayerFull (counted_letter kind)) o) None) read
        ∙ elim (nat_le 10000 (count_like (slice_index line.bytes 0) before)) as (λ t. cond t (let none : Option Rule = None in none) None ≡ None) [ true ↦ refl | false ↦ refl ]
    pick (Some kind) read =
        ap (λ t. cond t (option_map (λ kind. LayerFull (counted_letter kind)) (kind_read (slice_index line.bytes 0))) None)
        (lt-leb 10000 (count_like (slice_index line.bytes 0) before) (few_before all before rest line e (few kind read)))
