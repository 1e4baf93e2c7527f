-- What a write leaves of the bytes around it.
use Rattle.std.proofs.Common.{◌≡◌, ℕ, ◌+◌, ◌<◌, ◌≤◌, min, suc, List, [], ◌∷◌, length, take, refl, sym, ◌∙◌, ap, arith, append_assoc, slice_set}
use Rattle.std.proofs.lemmas.List.{take-take, set_split}
use Rattle.project_journal.specs.Disk.{written, Torn, Reaches}
use Rattle.project_journal.specs.Settled.{Turned, KeepsFront, Longer}

-- one byte is written within
pub torn_gate : (gate : ℕ) (old new : List ℕ) → gate < length old → Torn gate 1 old new → Turned gate old new
torn_gate gate old new within torn = record {
  before = let m : min gate (length old) ≡ gate = omega arith in ap (λ n. take n new) (sym m) ∙ torn.before;
  after = torn.after;
  size = omega (arith, torn.no_shorter, torn.no_longer);
}

pub turned_longer : (gate : ℕ) (old new : List ℕ) → gate < length old → Turned gate old new → gate < length new
turned_longer gate old new within turned = omega (arith, turned.size)

pub turned_twice : (gate : ℕ) (a b c : List ℕ) → Turned gate a b → Turned gate b c → Turned gate a c
turned_twice gate a b c first second = record {
  before = second.before ∙ first.before;
  after = second.after ∙ first.after;
  size = second.size ∙ first.size;
}

pub turned_none : (gate : ℕ) (a : List ℕ) → Turned gate a a
turned_none gate a = record { before = refl; after = refl; size = refl }

-- what is written behind the front
pub torn_front : (n at size : ℕ) (old new : List ℕ) → n ≤ at → n ≤ length old → Torn at size old new → KeepsFront n old new
torn_front n at size old new le within torn = record {
  front =
      let m = min at (length old) in
      let low : n ≤ m = omega arith in
      sym (take-take n m new low) ∙ ap (λ (l : List ℕ). take n l) torn.before ∙ take-take n at old le;
  no_shorter = torn.no_shorter;
}

pub keeps_twice : (n : ℕ) (a b c : List ℕ) → KeepsFront n a b → KeepsFront n b c → KeepsFront n a c
keeps_twice n a b c first second = record { front = second.front ∙ first.front; no_shorter = omega (arith, first.no_shorter, second.no_shorter) }

pub keeps_none : (n : ℕ) (a : List ℕ) → KeepsFront n a a
keeps_none n a = record { front = refl; no_shorter = omega arith }

-- steps of a run from the images before it
pub turn_keeps : (gate : ℕ) (old : List ℕ → Type 0) → Longer gate old → (d c : List ℕ) → Reaches (Turned gate) old d → Torn gate 1 d c → Reaches (Turned gate) old c
turn_keeps gate old longer d c from torn =
    (from.0, from.1, turned_twice gate from.0 d c from.2 (torn_gate gate d c (turned_longer gate from.0 d (longer from.0 from.1) from.2) torn))

pub front_keeps : (gate at size : ℕ) (old : List ℕ → Type 0) → Longer gate old → gate + 1 ≤ at → (d c : List ℕ) → Reaches (KeepsFront (gate + 1)) old d → Torn at size d c → Reaches (KeepsFront (gate + 1)) old c
front_keeps gate at size old longer le d c from torn =
    let long = longer from.0 from.1 in
    (from.0, from.1, keeps_twice (gate + 1) from.0 d c from.2 (torn_front (gate + 1) at size d c le (omega (arith, long, from.2.no_shorter)) torn))

pub written_byte : (gate value : ℕ) (file : List ℕ) → gate < length file → written file gate (value ∷ []) ≡ slice_set file gate value
written_byte gate value file within = let e : gate + 1 ≡ suc gate = omega arith in rw (set_split, e, append_assoc) refl
