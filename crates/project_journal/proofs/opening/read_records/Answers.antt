use Rattle.std.proofs.Common.{◌≡◌, ℕ, ◌+◌, ◌<◌, ◌≤◌, List, [], ◌∷◌, ◌++◌, length, take, drop, inr, refl, sym, ◌∙◌, ap, subst, arith, Some, None}
use Rattle.std.proofs.lemmas.List.{take_rest}
use Rattle.project_journal.specs.JournalFile.{whole_record, bytes_of}
use Rattle.project_journal.specs.RecordLaws.{AreEntries, are-push}
use Rattle.project_journal.specs.Settled.{IsFront}
use Rattle.project_journal.proofs.Headers.{front_of_header}
use Rattle.project_journal.proofs.Parsing.{grows, damaged}
use Rattle.project_journal.proofs.opening.read_records.Goals as goal

pub records-init : goal.records-init
records-init c = record {
  front = subst (λ (l : List (List ℕ)). IsFront (take 16 c.args.bytes.now) l) (sym c.new-entries.ensures.items) (front_of_header c.args.bytes.now c.requires.long c.requires.journal c.requires.known);
  within = omega (arith, c.requires.long);
  are = subst AreEntries (sym c.new-entries.ensures.items) tt;
}

pub returns-in_default-clause-err : goal.returns-in_default-clause-err
returns-in_default-clause-err c =
    let v = c.records.invariant in
    let bytes = c.args.bytes.now in
    let es = c.records.entries.items in
    let broken : whole_record (drop (c.records.gate + 1) bytes) ≡ None = ap whole_record (sym (take_rest bytes (c.records.gate + 1))) ∙ c.in_default.ensures.none in
    let count : c.len.result ≡ length es = let k = c.records.entries.ok in omega (arith, c.len.ensures, k) in
    inr (c.len.result + 1, refl, damaged bytes c.records.gate es v.front v.within c.records-test.true v.are broken ∙ ap (λ (n : ℕ). Some (n + 1)) (sym count))

pub records-preserved : goal.records-preserved
records-preserved c =
    let v = c.records.invariant in
    let bytes = c.args.bytes.now in
    let gate = c.records.gate in
    let n = c.in-Some.size in
    let es = c.records.entries.items in
    let e = c.in_ok-entry.entry in
    let rest = take_rest bytes (gate + 1) in
    let h = subst (λ (l : List ℕ). (1 ≤ n) × (n ≤ 16777216) × (n + 4 < length l) × (bytes_of n ≡ take 4 l)) rest c.in-Some.ensures.some in
    let exact : e ≡ take n (drop (gate + 5) bytes) = c.in_ok-entry.ensures ∙ ap (λ (k : ℕ). take k (drop (gate + 5) bytes)) (omega arith) in
    let grown = grows bytes gate n es e v.front v.within c.records-test.true h.0 h.1 h.2 h.3 exact in
    let pushed : c.push.new.self.items ≡ es ++ e ∷ [] = c.in_ok-push.ensures.items in
    record {
      front = subst (λ (l : List (List ℕ)). IsFront (take (gate + (n + 5)) bytes) l) (sym pushed) grown.front;
      within = grown.within;
      are = subst AreEntries (sym pushed) (are-push es e v.are grown.entry);
    }
