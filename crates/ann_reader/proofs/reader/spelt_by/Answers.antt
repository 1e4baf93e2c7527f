use Rattle.std.proofs.Common.{◌≡◌, ◌<◌, ◌≤◌, ◌+◌, ◌++◌, [], ◌∷◌, ℕ, sym, ◌∙◌, ap, subst, length, arith, map, take, drop, get_or, List, Option, Some, slice_index, nat_cmp, ◌==◌}
use Rattle.std.specs.Prelude.{unwrap_or}
use Rattle.std.specs.Option.{option_map, option_or}
use Rattle.std.specs.List.{fold}
use Rattle.std.specs.BTreeMap.{BTreeMap, get, is_at, Updates}
use Rattle.std.specs.Map.{lookup}
use Rattle.std.proofs.lemmas.List.{length-map}
use Rattle.std.proofs.lemmas.List.Sums.{count_by-le-length}
use Rattle.layer_model.specs.Annotations.{Annotations}
use Rattle.ann_reader.specs.declared.line.Line.{Line as LineValue}
use Rattle.ann_reader.specs.Lines.{Line}
use Rattle.ann_reader.specs.LineShows.{seen_line}
use Rattle.ann_reader.specs.FormShows.{NamesSome}
use Rattle.ann_reader.specs.FaultShows.{seen_fault}
use Rattle.ann_reader.specs.LineForms.{form_of}
use Rattle.ann_reader.specs.LineFaults.{Fault, first_line_fault, counted_byte, count_like}
use Rattle.ann_reader.specs.AnnFaults.{with_form, with_line, layer_of, first_text_fault, text_fault}
use Rattle.ann_reader.specs.LineCounts.{CountsLines}
use Rattle.ann_reader.proofs.FormFacts.{names_some}
use Rattle.ann_reader.proofs.ClassLemmas.{form_len}
use Rattle.ann_reader.proofs.StepLemmas.{taken, left_over, none_left, counts_more, front_few}
use Rattle.ann_reader.proofs.PassLemmas.{fault_here, fault_later, or_later, or_none}
use Rattle.ann_reader.proofs.reader.spelt_by.Goals as goal

-- the line of no bytes, for an index that is past the end
abbrev nowhere : LineValue
nowhere = record { number = 0; text = record { ref_ptr = (0, 0); now = [] } }

pub loop-line-init : goal.loop-line-init
loop-line-init c =
    let same : map seen_line c.lines-line-items.result.now ≡ c.args.known.now = c.lines-line-items.ensures in
    let len : length c.lines-line-items.result.now ≡ length c.args.known.now = sym (length-map c.lines-line-items.result.now seen_line) ∙ ap length same in
    record {
      few = omega (arith, len, c.requires);
      counted = λ b. ap (λ es. unwrap_or (lookup (is_at (nat_cmp b)) es) 0) c.new-counts.ensures.empty;
      told = ap (first_line_fault c.args.conf.now c.args.known.now []) same;
      classes = subst (λ (l : Annotations). length l.classes ≤ 0) (sym c.new-layer.ensures) (omega arith);
      layer = ap (λ l. fold (with_line c.args.conf.now) l (map seen_line c.lines-line-items.result.now)) c.new-layer.ensures ∙ ap (layer_of c.args.conf.now) same;
      texts = ap (first_text_fault c.args.doc.now) same;
    }

pub count_line-requires : goal.count_line-requires
count_line-requires c =
    let few : length c.lines-line-items.result.now ≤ 16777217 = c.loop-line.invariant.few in
    let front : List Line = map seen_line (take c.loop-line.line-index c.lines-line-items.result.now) in
    let counted : unwrap_or (get nat_cmp c.loop-line.counts (counted_byte c.first_byte-byte.result)) 0 ≡ count_like c.first_byte-byte.result front =
    c.loop-line.invariant.counted (counted_byte c.first_byte-byte.result) in
    let bound : count_like c.first_byte-byte.result front ≤ length front = count_by-le-length (λ (line : Line). counted_byte (slice_index line.bytes 0) == counted_byte c.first_byte-byte.result) front in
    let short : length front ≤ length c.lines-line-items.result.now = front_few seen_line c.lines-line-items.result.now c.loop-line.line-index in
    omega (arith, few, counted, bound, short)

pub add_line-requires-clause-few : goal.add_line-requires-clause-few
add_line-requires-clause-few c =
    let few : length c.lines-line-items.result.now ≤ 16777217 = c.loop-line.invariant.few in
    let classes : length c.loop-line.layer.classes ≤ c.loop-line.line-index = c.loop-line.invariant.classes in
    let below : c.loop-line.line-index < length c.lines-line-items.result.now = c.loop-line-test.true in
    omega (arith, few, classes, below)

pub add_line-requires-clause-some : goal.add_line-requires-clause-some
add_line-requires-clause-some c = subst NamesSome (sym c.in_ok-form.ensures) (names_some _)

pub returns-in-Some : goal.returns-in-Some
returns-in-Some c =
    let i : ℕ = c.loop-line.line-index in
    let all : List LineValue = c.lines-line-items.result.now in
    let below : i < length c.lines-line-items.result.now = c.loop-line-test.true in
    let byte : c.first_byte-byte.result ≡ slice_index (get_or all i nowhere).text.now 0 = c.first_byte-byte.ensures ∙ ap (λ bs. slice_index bs 0) c.as_bytes.ensures.value in
    let count : c.count_of-before.result ≡ count_like (slice_index (get_or all i nowhere).text.now 0) (map seen_line (take i all)) =
    c.count_of-before.ensures ∙ c.loop-line.invariant.counted (counted_byte c.first_byte-byte.result) ∙ ap (λ b. count_like b (map seen_line (take i all))) byte in
    let told : Some (record { line = (get_or all i nowhere).number; what = c.in-Some.what }) ≡ first_line_fault c.args.conf.now c.args.known.now [] c.args.known.now =
    fault_here c.args.conf.now c.args.known.now (map seen_line (take i all)) (seen_line (get_or all i nowhere)) (map seen_line (drop (i + 1) all)) c.count_of-before.result c.in-Some.what
    count (sym c.in-Some.is ∙ c.in_ok-what.ensures)
    ∙ sym (ap (λ ls. first_line_fault c.args.conf.now c.args.known.now (map seen_line (take i all)) ls) (left_over seen_line all i nowhere below)) ∙ c.loop-line.invariant.told in
    record { layer = tt; texts = tt; clean = tt; fault = sym told }

pub loop-line-preserved : goal.loop-line-preserved
loop-line-preserved c =
    let i : ℕ = c.loop-line.line-index in
    let all : List LineValue = c.lines-line-items.result.now in
    let line : Line = seen_line (get_or all i nowhere) in
    let front : List Line = map seen_line (take i all) in
    let rest : List Line = map seen_line (drop (i + 1) all) in
    let below : i < length c.lines-line-items.result.now = c.loop-line-test.true in
    let more : map seen_line (take (i + 1) all) ≡ front ++ (line ∷ []) = taken seen_line all i nowhere below in
    let left : map seen_line (drop i all) ≡ line ∷ rest = left_over seen_line all i nowhere below in
    let byte : c.first_byte-byte.result ≡ slice_index (get_or all i nowhere).text.now 0 = c.first_byte-byte.ensures ∙ ap (λ bs. slice_index bs 0) c.as_bytes.ensures.value in
    let count : c.count_of-before.result ≡ count_like (slice_index (get_or all i nowhere).text.now 0) front =
    c.count_of-before.ensures ∙ c.loop-line.invariant.counted (counted_byte c.first_byte-byte.result) ∙ ap (λ b. count_like b front) byte in
    let counts : BTreeMap ℕ ℕ = c.loop-line.counts in
    let next : BTreeMap ℕ ℕ = c.count_line.new.counts in
    let updated : Updates nat_cmp counts next (counted_byte (slice_index (get_or all i nowhere).text.now 0)) (Some (unwrap_or (get nat_cmp counts (counted_byte (slice_index (get_or all i nowhere).text.now 0))) 0 + 1)) =
    subst (λ b. Updates nat_cmp counts next (counted_byte b) (Some (unwrap_or (get nat_cmp counts (counted_byte b)) 0 + 1))) byte c.in_ok-count_line.ensures in
    let new : c.add_line.new.layer ≡ with_line c.args.conf.now c.loop-line.layer line = c.in_ok-add_line.ensures ∙ ap (with_form c.args.conf.now c.loop-line.layer) c.in_ok-form.ensures in
    let one : length (with_line c.args.conf.now c.loop-line.layer line).classes ≤ length c.loop-line.layer.classes + 1 = form_len c.args.conf.now c.loop-line.layer (form_of (get_or all i nowhere).text.now) in
    let few : length c.loop-line.layer.classes ≤ i = c.loop-line.invariant.classes in
    let earlier : Option Fault = option_map seen_fault c.loop-line.text_fault in
    record {
      few = c.loop-line.invariant.few;
      counted = subst (λ ls. CountsLines ls next) (sym more) (counts_more front line counts next c.loop-line.invariant.counted updated);
      told = ap (λ ls. first_line_fault c.args.conf.now c.args.known.now ls rest) more
          ∙ fault_later c.args.conf.now c.args.known.now front line rest c.count_of-before.result count (sym c.in_default.is ∙ c.in_ok-what.ensures)
          ∙ sym (ap (λ ls. first_line_fault c.args.conf.now c.args.known.now front ls) left) ∙ c.loop-line.invariant.told;
      classes = subst (λ (l : Annotations). length l.classes ≤ i + 1) (sym new) (omega (arith, one, few));
      layer = ap (λ l. fold (with_line c.args.conf.now) l rest) new
          ∙ sym (ap (λ ls. fold (with_line c.args.conf.now) c.loop-line.layer ls) left) ∙ c.loop-line.invariant.layer;
      texts = ap (λ o. option_or o (first_text_fault c.args.doc.now rest)) c.in_ok-text_fault.ensures
          ∙ or_later earlier (text_fault c.args.doc.now line) (first_text_fault c.args.doc.now rest)
          ∙ sym (ap (λ ls. option_or earlier (first_text_fault c.args.doc.now ls)) left) ∙ c.loop-line.invariant.texts;
    }

pub returns : goal.returns
returns c =
    let none : map seen_line (drop c.loop-line.line-index c.lines-line-items.result.now) ≡ [] = none_left seen_line c.lines-line-items.result.now c.loop-line.line-index c.loop-line-test.false in
    record {
      layer = sym (ap (λ ls. fold (with_line c.args.conf.now) c.loop-line.layer ls) none) ∙ c.loop-line.invariant.layer;
      texts = sym (or_none (option_map seen_fault c.loop-line.text_fault)) ∙ sym (ap (λ ls. option_or (option_map seen_fault c.loop-line.text_fault) (first_text_fault c.args.doc.now ls)) none) ∙ c.loop-line.invariant.texts;
      clean = sym (sym (ap (λ ls. first_line_fault c.args.conf.now c.args.known.now (map seen_line (take c.loop-line.line-index c.lines-line-items.result.now)) ls) none) ∙ c.loop-line.invariant.told);
      fault = tt;
    }
