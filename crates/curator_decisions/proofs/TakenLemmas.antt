-- The annotation of an item by the names of its holder's layer.
use Rattle.std.proofs.Common.{◌≡◌, ℕ, zero, suc, ◌<◌, List, [], ◌∷◌, length, get_or, refl, sym, ap, ◌∙◌, arith, Option, Some, None, option_map, option_and_then, Result, Ok, Err}
use Rattle.std.specs.List.{slice_get}
use Rattle.std.specs.Result.{IfOk}
use Rattle.std.specs.BTreeMap.{BTreeMap}
use Rattle.std.proofs.lemmas.Option.{same_Some}
use Rattle.mark_base.specs.declared.ann_id.AnnId.{AnnId}
use Rattle.mark_base.specs.declared.failed.Memory.{Memory}
use Rattle.layer_model.specs.declared.mark.Mark.{Mark}
use Rattle.layer_model.specs.Annotations.{Annotations}
use Rattle.layer_model.specs.Layers.{mark_at}
use Rattle.curator_decisions.specs.declared.numbering.NumberedEntry.{NumberedEntry}
use Rattle.curator_decisions.specs.Curated.{renamed}
use Rattle.curator_decisions.specs.Placing.{rename_by, taken_at}

pub got : {X : Type 0} (xs : List X) (i : ℕ) (x : X) → i < length xs → x ≡ get_or xs i x → slice_get xs i ≡ Some x
got [] i x h e = absurd (omega arith)
got (y ∷ ys) zero x h e = ap Some (sym e)
got (y ∷ ys) (suc i) x h e = got ys i x (omega arith) e

abbrev pub taken_by : NumberedEntry → BTreeMap ℕ (Option AnnId) → Annotations → Option (AnnId × Mark)
taken_by one of layer = option_map (λ mark. (one.id, renamed (rename_by of) mark)) (mark_at layer one.entry.item.id)

pub taken_is : (snapshot : List (List ℕ × Annotations)) (all : List (BTreeMap ℕ (Option AnnId))) (one : NumberedEntry) (layer : Annotations) (of : BTreeMap ℕ (Option AnnId)) → Some layer ≡ option_map (λ (r : List ℕ × Annotations). r.1) (slice_get snapshot one.entry.item.holder)
    → slice_get all one.entry.item.holder ≡ Some of → taken_at snapshot all one ≡ taken_by one of layer
taken_is snapshot all one layer of there found =
    ap (λ o. option_and_then (λ (row : List ℕ × Annotations). option_and_then (λ n. taken_by one n row.1) o) (slice_get snapshot one.entry.item.holder)) found ∙ by (slice_get snapshot one.entry.item.holder) there
  where
    by : (o : Option (List ℕ × Annotations)) → Some layer ≡ option_map (λ (r : List ℕ × Annotations). r.1) o → option_and_then (λ (row : List ℕ × Annotations). taken_by one of row.1) o ≡ taken_by one of layer
    by None e = cc
    by (Some r) e = ap (taken_by one of) (sym (same_Some _ _ e))

pub if_mapped : (one : NumberedEntry) (of : BTreeMap ℕ (Option AnnId)) (layer : Annotations) (r : Result (Option Mark) Memory) → IfOk r (λ mark. mark ≡ option_map (renamed (rename_by of)) (mark_at layer one.entry.item.id)) → {y : Option (AnnId × Mark)} → y ≡ taken_by one of layer
    → IfOk r (λ mark. option_map {U = AnnId × Mark} (λ m. (one.id, m)) mark ≡ y)
if_mapped one of layer (Ok mark) is e = ap (option_map {U = AnnId × Mark} (λ m. (one.id, m))) is ∙ by (mark_at layer one.entry.item.id) ∙ sym e
  where
    by : (o : Option Mark) → option_map {U = AnnId × Mark} (λ m. (one.id, m)) (option_map (renamed (rename_by of)) o) ≡ option_map (λ mark. (one.id, renamed (rename_by of) mark)) o
    by None = refl
    by (Some m) = refl
if_mapped one of layer (Err f) is e = tt
