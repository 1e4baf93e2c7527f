-- One record more, and a record that is damaged.
use Rattle.std.proofs.Common.{◌≡◌, ℕ, zero, suc, ◌+◌, ◌<◌, ◌≤◌, List, [], ◌∷◌, ◌++◌, length, take, drop, get_or, sym, ◌∙◌, ap, subst, arith, length-append, length-drop, Option, Some, None, option_map, true}
use Rattle.std.proofs.lemmas.List.{length-take-le, drop_more, drop-drop}
use Rattle.std.proofs.Math.Seq.{take-add}
use Rattle.project_journal.specs.JournalFile.{record_of, bytes_of, records, whole_record, damage_on, damage}
use Rattle.project_journal.specs.Keeper.{IsEntry}
use Rattle.project_journal.specs.RecordLaws.{AreEntries, front-push, first_is, some_left, few, behind_header, next_damage}
use Rattle.project_journal.specs.Settled.{IsFront}
use Rattle.project_journal.specs.SettledLaws.{at_gate}

-- the front of a file with one record more
pub record Grown (file : List ℕ) (gate n : ℕ) (es : List (List ℕ)) (e : List ℕ) : Type 0 where
  pub entry : IsEntry e
  pub front : IsFront (take (gate + (n + 5)) file) (es ++ e ∷ [])
  pub within : gate + (n + 5) < length file

pub grows : (file : List ℕ) (gate n : ℕ) (es : List (List ℕ)) (e : List ℕ) → IsFront (take gate file) es → gate < length file → get_or file gate 0 ≡ 1
    → 1 ≤ n → n ≤ 16777216 → n + 4 < length (drop (gate + 1) file) → bytes_of n ≡ take 4 (drop (gate + 1) file) → e ≡ take n (drop (gate + 5) file) → Grown file gate n es e
grows file gate n es e front within one some most fits low e_is =
    let r = drop (gate + 1) file in
    let left = length-drop (gate + 1) file in
    let size : length e ≡ n = ap length e_is ∙ length-take-le n (drop (gate + 5) file) (omega (arith, length-drop (gate + 5) file, left)) in
    let split : take (gate + (n + 5)) file ≡ take gate file ++ take (n + 5) (drop gate file) = take-add gate (n + 5) file in
    let at : drop gate file ≡ 1 ∷ r = drop_more file gate 0 within ∙ ap (λ (v : ℕ). v ∷ r) one in
    let five : n + 5 ≡ suc (4 + n) = omega arith in
    let back : take (4 + n) r ≡ take 4 r ++ take n (drop 4 r) = take-add 4 n r in
    let there : drop 4 r ≡ drop (gate + 5) file = drop-drop 4 (gate + 1) file ∙ ap (λ (k : ℕ). drop k file) (omega arith) in
    let behind : take (n + 5) (drop gate file) ≡ 1 ∷ record_of e =
    (λ i. take (five i) (at i))
    ∙ ap (λ (l : List ℕ). 1 ∷ l) (back ∙ (λ i. sym low i ++ take n (there i)) ∙ (λ i. bytes_of (sym size i) ++ sym e_is i)) in
    let whole : take (gate + (n + 5)) file ≡ take gate file ++ 1 ∷ record_of e = split ∙ ap (λ (l : List ℕ). take gate file ++ l) behind in
    record {
      entry = record { some = omega (arith, size); most = omega (arith, size) };
      front = subst (λ (l : List ℕ). IsFront l (es ++ e ∷ [])) (sym whole) (front-push (take gate file) es e front);
      within = omega (arith, left);
    }

-- a record behind an open gate that is not whole
pub damage_on_broken : (more : ℕ) (es : List (List ℕ)) (rest : List ℕ) → length es < more → AreEntries es → whole_record rest ≡ None → damage_on more (records es ++ 1 ∷ rest) ≡ Some (length es + 1)
damage_on_broken zero es rest few are broken = absurd (omega arith)
damage_on_broken (suc more) [] rest few are broken = ap (next_damage more true) broken ∙ ap (λ (n : ℕ). Some n) (omega arith)
damage_on_broken (suc more) (e ∷ es) rest few are broken =
    ap (next_damage more true) (first_is e es (1 ∷ rest) are.0 (some_left es 1 rest))
    ∙ ap (λ (o : Option ℕ). option_map (λ k. k + 1) o) (damage_on_broken more es rest (omega arith) are.1 broken) ∙ ap (λ (n : ℕ). Some n) (omega arith)

pub damaged : (file : List ℕ) (gate : ℕ) (es : List (List ℕ)) → IsFront (take gate file) es → gate < length file → get_or file gate 0 ≡ 1 → AreEntries es → whole_record (drop (gate + 1) file) ≡ None
    → damage file ≡ Some (length es + 1)
damaged file gate es front within one are broken =
    let r = drop (gate + 1) file in
    let before = take gate file in
    let is : file ≡ before ++ 1 ∷ r = at_gate gate file within ∙ (λ i. before ++ one i ∷ r) in
    let all = before ++ 1 ∷ r in
    ap damage is ∙ ap (λ (l : List ℕ). damage_on (length all) l) (behind_header before es (1 ∷ r) front)
    ∙ damage_on_broken (length all) es r (omega (arith, few before es [] front, length-append before [], length-append before (1 ∷ r))) are broken
