-- What a write into memory leaves.
use Rattle.std.proofs.Common.{◌≡◌, ℕ, ◌+◌, ◌-◌, ◌≤◌, min, List, ◌++◌, length, take, drop, replicate, append_assoc, refl, sym, ◌∙◌, ap, arith, length-append, length-drop, inl, inr}
use Rattle.std.proofs.lemmas.List.{append-nil, take_at, drop_at, length-take-le, take-take, drop_all, take-append-le, nil_from_length, take_min, length-replicate, replicate-append-replicate}
use Rattle.std.proofs.lemmas.Bool.{cases_lt}
use Rattle.project_journal.specs.Disk.{written, Torn}
use Rattle.project_journal.specs.MemoryDisks.{overwritten}

pub parts : (mid piece : List ℕ) (at : ℕ) → at + length piece ≤ length mid → (take at (written mid at piece) ≡ take at mid) × (drop (at + length piece) (written mid at piece) ≡ drop (at + length piece) mid) × (length (written mid at piece) ≡ length mid)
parts mid piece at fits =
    let size = length-take-le at mid (omega arith) in
    let long : length (take at mid ++ piece) ≡ at + length piece = omega (arith, length-append (take at mid) piece, size) in (
      take-append-le at (take at mid ++ piece) (drop (at + length piece) mid) (omega (arith, long)) ∙ take_at (take at mid) piece at size,
      drop_at (take at mid ++ piece) (drop (at + length piece) mid) (at + length piece) long,
      omega (arith, length-append (take at mid ++ piece) (drop (at + length piece) mid), long, length-drop (at + length piece) mid),
    )

behind : (old zeros : List ℕ) (end : ℕ) → length zeros ≤ end - length old → drop end (old ++ zeros) ≡ drop end old
behind old zeros end few = elim (cases_lt (length old) end) [
  | inl more ↦ drop_all end (old ++ zeros) (omega (arith, length-append old zeros)) ∙ sym (drop_all end old (omega arith))
  | inr less ↦ ap (λ (l : List ℕ). drop end l) (ap (λ (z : List ℕ). old ++ z) (nil_from_length zeros (omega arith)) ∙ append-nil old)
]

front_of : (old gap more : List ℕ) (at : ℕ) → at ≤ length old + length gap → take at (old ++ (gap ++ more)) ≡ take at (old ++ gap)
front_of old gap more at within = ap (λ (l : List ℕ). take at l) (sym (append_assoc old gap more)) ∙ take-append-le at (old ++ gap) more (omega (arith, length-append old gap))

abbrev nulls : ℕ → List ℕ
nulls n = replicate n 0

nulls_size : (n : ℕ) → length (nulls n) ≡ n
nulls_size n = length-replicate n 0

zeros_of : (m n : ℕ) → m ≤ n → nulls m ++ nulls (n - m) ≡ nulls n
zeros_of m n le = replicate-append-replicate m (n - m) 0 ∙ ap nulls (omega arith)

-- zeros behind the piece's own place are written over
pub overwritten_of : (old piece : List ℕ) (at : ℕ) → written (old ++ replicate (at + length piece - length old) 0) at piece ≡ overwritten at piece old
overwritten_of old piece at = (λ i. front i ++ piece ++ rest i)
  where
    front : take at (old ++ nulls (at + length piece - length old)) ≡ take at (old ++ nulls (at - length old))
    front =
        ap (λ (z : List ℕ). take at (old ++ z)) (sym (zeros_of (at - length old) (at + length piece - length old) (omega arith)))
        ∙ front_of old (nulls (at - length old)) (nulls (at + length piece - length old - (at - length old))) at (omega (arith, nulls_size (at - length old)))

    rest : drop (at + length piece) (old ++ nulls (at + length piece - length old)) ≡ drop (at + length piece) (old ++ nulls (at - length old))
    rest =
        behind old (nulls (at + length piece - length old)) (at + length piece) (omega (arith, nulls_size (at + length piece - length old)))
        ∙ sym (behind old (nulls (at - length old)) (at + length piece) (omega (arith, nulls_size (at - length old))))

pub torn_of : (old zeros piece : List ℕ) (at : ℕ) → length zeros ≡ at + length piece - length old → Torn at (length piece) old (written (old ++ zeros) at piece)
torn_of old zeros piece at count =
    let mid = old ++ zeros in
    let both = length-append old zeros in
    let p = parts mid piece at (omega arith) in
    let m = min at (length old) in
    let new = written mid at piece in
    record {
      before =
          sym (take-take m at new (omega arith)) ∙ ap (λ (l : List ℕ). take m l) p.0 ∙ take-take m at mid (omega arith) ∙ take-append-le m old zeros (omega arith) ∙ front old at;
      after = p.1 ∙ behind old zeros (at + length piece) (omega (arith, count));
      no_shorter = omega (arith, p.2);
      no_longer = omega (arith, p.2);
    }
  where
    front : (old : List ℕ) (at : ℕ) → take (min at (length old)) old ≡ take at old
    front old at = take_min at old

pub written_of : (old zeros piece : List ℕ) (at : ℕ) → length zeros ≡ at + length piece - length old → at ≤ length old → written (old ++ zeros) at piece ≡ written old at piece
written_of old zeros piece at count le = (λ i. take-append-le at old zeros le i ++ piece ++ behind old zeros (at + length piece) (omega (arith, count)) i)

pub gap_of : (old zeros piece : List ℕ) (at : ℕ) → length zeros ≡ at + length piece - length old → length old ≤ at
    → (g : List ℕ) × (written (old ++ zeros) at piece ≡ g ++ piece) × (length g ≡ at) × (take (length old) g ≡ old)
gap_of old zeros piece at count le =
    let mid = old ++ zeros in
    let both = length-append old zeros in (
      take at mid,
      ap (λ (l : List ℕ). take at mid ++ piece ++ l) (drop_all (at + length piece) mid (omega arith)) ∙ append-nil (take at mid ++ piece),
      length-take-le at mid (omega arith),
      take-take (length old) at mid le ∙ take_at old zeros (length old) refl,
    )
