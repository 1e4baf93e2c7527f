-- A layer is loaded from its own lines alone.
use Rattle.std.proofs.Common.{◌≡◌, ℕ, Bool, true, false, cond, ltb, ◌<◌, ◌≤◌, List, length, Option, Some, None, refl, sym, ap, subst, ◌∙◌, arith}
use Rattle.std.specs.Prelude.{option_map, is_none, ◌&&◌, bytes_eq, IsUtf8}
use Rattle.entry_bytes.specs.Fields.{text_bytes, IsText}
use Rattle.entry_bytes.specs.Reading.{text_at}
use Rattle.entry_bytes.proofs.Exact.{and_then_some, map_some, cond_some, Takes, Taking, Again}
use Rattle.entry_bytes.proofs.FieldLaws.{text_takes, text_again}
use Rattle.conf_model.specs.Configurations.{Configuration}
use Rattle.layer_model.specs.Annotations.{Annotations}
use Rattle.ann_reader.specs.Lines.{lines_of}
use Rattle.ann_reader.specs.AnnFaults.{ann_fault, layer_of}
use Rattle.ann_writer.specs.AnnOf.{ann_of}
use Rattle.command_bytes.specs.WritableCommands.{IsReadAgain}
use Rattle.command_bytes.specs.CommandReading.{read_as, layer_in}
use Rattle.std.proofs.lemmas.Slice.Eq.{bytes_eq-Decides}
use Rattle.std.proofs.lemmas.Bool.{lt-ltb, le-ltb}
use Rattle.ann_reader.specs.LineFaults.{Fault}

both_true : (b c : Bool) → (b && c) ≡ true → (b ≡ true) × (c ≡ true)
both_true true true e = (refl, refl)
both_true true false e = absurd cc
both_true false c e = absurd cc

guard_some : {A : Type 0} (b : Bool) (o : Option A) (y : A) → cond b None o ≡ Some y → (b ≡ false) × (o ≡ Some y)
guard_some true o y e = absurd cc
guard_some false o y e = (refl, e)

-- the lines of a layer that was read are its own
own_lines : (conf : Configuration) (text lines : List ℕ) (layer : Annotations) → layer_in conf text lines ≡ Some layer → ann_of conf text layer ≡ lines
unfolding layer_in
own_lines conf text lines layer e =
    let said = layer_of conf (lines_of lines) in
    let g = guard_some (ltb 16777216 (length lines)) _ layer e in
    let s = cond_some (is_none (ann_fault conf text lines) && bytes_eq (ann_of conf text said) lines) said layer g.1 in
    let b = both_true (is_none (ann_fault conf text lines)) (bytes_eq (ann_of conf text said) lines) s.0 in
    subst (λ (l : Annotations). ann_of conf text l ≡ lines) s.1 ((bytes_eq-Decides _ _).0 b.1)

pub load_takes : (conf : Configuration) (text : List ℕ) → Taking (λ layer. text_bytes (ann_of conf text layer)) (IsReadAgain conf text) (read_as (layer_in conf text) text_at)
load_takes conf text = record {
  takes = λ bytes layer rest fits e.
      let x = and_then_some (λ (x : List ℕ × List ℕ). option_map (λ (value : Annotations). (value, x.1)) (layer_in conf text x.0)) (text_at bytes) (layer, rest) e in
      let y = map_some (λ (value : Annotations). (value, x.0.1)) (layer_in conf text x.0.0) (layer, rest) x.2 in
      let t = text_takes.takes bytes x.0.0 x.0.1 fits x.1 in
      let same : ann_of conf text y.0 ≡ x.0.0 = own_lines conf text x.0.0 y.0 y.1 in
      let spelt : Takes bytes (text_bytes (ann_of conf text y.0)) x.0.1 = subst (λ (l : List ℕ). Takes bytes (text_bytes l) x.0.1) (sym same) t.0 in
      let is : IsReadAgain conf text y.0 = record { lines = subst IsText (sym same) t.1; again = ap (layer_in conf text) same ∙ y.1 } in
      subst (λ (z : Annotations × List ℕ). Takes bytes (text_bytes (ann_of conf text z.0)) z.1 × IsReadAgain conf text z.0) y.2 (spelt, is);
}

pub load_again : (conf : Configuration) (text : List ℕ) → Again (λ layer. text_bytes (ann_of conf text layer)) (IsReadAgain conf text) (read_as (layer_in conf text) text_at)
load_again conf text = record {
  again = λ layer rest fits. rw (text_again.again (ann_of conf text layer) rest fits.lines, fits.again) refl;
}

-- ---- which layer lines are read as

pub too_long : (conf : Configuration) (text lines : List ℕ) → 16777216 < length lines → layer_in conf text lines ≡ None
unfolding layer_in
too_long conf text lines long = rw (lt-ltb 16777216 (length lines) long) refl

pub faulty : (conf : Configuration) (text lines : List ℕ) (fault : Fault) → ann_fault conf text lines ≡ Some fault → layer_in conf text lines ≡ None
unfolding layer_in
faulty conf text lines fault e = rw e (either (ltb 16777216 (length lines)))
  where
    either : (b : Bool) → cond b (let n : Option Annotations = None in n) None ≡ None
    either true = refl
    either false = refl

said_in : (conf : Configuration) (text lines : List ℕ) (layer : Annotations) (b : Bool) → length lines ≤ 16777216 → ann_fault conf text lines ≡ None → layer ≡ layer_of conf (lines_of lines) → bytes_eq (ann_of conf text layer) lines ≡ b
    → layer_in conf text lines ≡ cond b (Some layer) None
unfolding layer_in
said_in conf text lines layer b few clean said same =
    let same' : bytes_eq (ann_of conf text (layer_of conf (lines_of lines))) lines ≡ b = subst (λ (l : Annotations). bytes_eq (ann_of conf text l) lines ≡ b) said same in
    rw (le-ltb 16777216 (length lines) few, clean, same', said) refl

pub is_in : (conf : Configuration) (text lines : List ℕ) (layer : Annotations) → length lines ≤ 16777216 → ann_fault conf text lines ≡ None → layer ≡ layer_of conf (lines_of lines) → ann_of conf text layer ≡ lines → layer_in conf text lines ≡ Some layer
is_in conf text lines layer few clean said same = said_in conf text lines layer true few clean said ((bytes_eq-Decides _ _).1 same)

pub isnt_in : (conf : Configuration) (text lines : List ℕ) (layer : Annotations) → length lines ≤ 16777216 → ann_fault conf text lines ≡ None → layer ≡ layer_of conf (lines_of lines) → (ann_of conf text layer ≡ lines → ⊥) → layer_in conf text lines ≡ None
isnt_in conf text lines layer few clean said other =
    said_in conf text lines layer false few clean said (by_test (bytes_eq (ann_of conf text layer) lines) (λ yes. other ((bytes_eq-Decides _ _).0 yes)))
  where
    by_test : (b : Bool) → (b ≡ true → ⊥) → b ≡ false
    by_test true isnt = absurd (isnt refl)
    by_test false isnt = refl

-- a layer whose lines are a file of it without a fault is read again
pub read_again : (conf : Configuration) (text : List ℕ) (layer : Annotations) → IsUtf8 (ann_of conf text layer) → length (ann_of conf text layer) ≤ 16777216 → ann_fault conf text (ann_of conf text layer) ≡ None
    → layer ≡ layer_of conf (lines_of (ann_of conf text layer)) → IsReadAgain conf text layer
read_again conf text layer utf8 few clean said =
    record { lines = record { utf8 = utf8; size = omega (arith, few) }; again = is_in conf text (ann_of conf text layer) layer few clean said refl }
