-- Verdicts that were written are read back.
use Rattle.std.proofs.Common.{◌≡◌, ℕ, ◌+◌, ◌<◌, ◌≤◌, ◌^◌, ◌==◌, Bool, true, false, cond, List, [], ◌∷◌, ◌++◌, length, get_or, slice_get, take, drop, Option, Some, None, refl, sym, ◌∙◌, ap, subst, arith, append_assoc, append-nil, length-append}
use Rattle.std.specs.Global.{Vec}
use Rattle.std.specs.Int.{w32, from_le_bytes}
use Rattle.std.specs.List.{flat_map}
use Rattle.std.proofs.lemmas.Bool.{eqb-true, le-ltb}
use Rattle.std.proofs.lemmas.List.{drop_at, flat_map_more, nil_from_length, take_at, take_more}
use Rattle.std.proofs.lemmas.Option.{get_or_from_slice_get, slice_get_within}
use Rattle.std.proofs.lemmas.Nat.{from_le_bytes-to_le_bytes_4}
use Rattle.mark_base.specs.declared.ann_id.AnnId.{AnnId}
use Rattle.mark_base.specs.declared.ann_id.Kind.{Kind}
use Rattle.mark_base.specs.declared.ann_id.Kind.TheVariants as letter
use Rattle.mark_base.specs.ReadIds.{id_at}
use Rattle.mark_base.proofs.IdLemmas.{id_at-id}
use Rattle.entry_bytes.specs.Fields.{flag, u32_bytes}
use Rattle.layer_model.specs.Classes.{letter_place}
use Rattle.unanimous_merge.specs.declared.item.ItemId.{ItemId}
use Rattle.curator_decisions.specs.declared.verdict.Verdict.{Verdict}
use Rattle.command_bytes.specs.CommandBytes.{list_bytes}
use Rattle.command_bytes.specs.CommandReading.{id_of}
use Rattle.project_machine.specs.Entries.{accepts, verdict_bytes}
use Rattle.checkpoint.specs.VerdictReading.{ReadsPairs}

none_some : {X : Type 0} (x : X) → None ≡ Some x → ⊥
none_some x e = cc

some_same : {X : Type 0} (x y : X) → Some x ≡ Some y → x ≡ y
some_same x y e = cc

four : (n : ℕ) → length (u32_bytes n) ≡ 4
unfolding u32_bytes
four n = refl

-- ---- one verdict

of_parts : (kind : Kind) (n : ℕ) → n ≤ 999999999 → id_of (letter_place kind, n) ≡ Some (id_at kind n)
of_parts letter.Text n small = ap (λ b. cond b None (Some (id_at letter.Text n))) (le-ltb 999999999 n small)
of_parts letter.Event n small = ap (λ b. cond b None (Some (id_at letter.Event n))) (le-ltb 999999999 n small)
of_parts letter.Relation n small = ap (λ b. cond b None (Some (id_at letter.Relation n))) (le-ltb 999999999 n small)
of_parts letter.Attribute n small = ap (λ b. cond b None (Some (id_at letter.Attribute n))) (le-ltb 999999999 n small)
of_parts letter.Legacy n small = ap (λ b. cond b None (Some (id_at letter.Legacy n))) (le-ltb 999999999 n small)
of_parts letter.Normal n small = ap (λ b. cond b None (Some (id_at letter.Normal n))) (le-ltb 999999999 n small)
of_parts letter.Note n small = ap (λ b. cond b None (Some (id_at letter.Note n))) (le-ltb 999999999 n small)

id_again : (id : AnnId) → id_of (letter_place id.kind, id.number) ≡ Some id
id_again id = of_parts id.kind id.number id.within ∙ ap Some (id_at-id id)

-- the seven bytes of a verdict by their meaning
pub record AreFields (holder place number accept : ℕ) (pair : ItemId × Verdict) : Type 0 where
  pub holder_is : holder ≡ pair.0.holder
  pub id_is : id_of (place, number) ≡ Some pair.0.id
  pub verdict_is : accept ≡ flag (accepts pair.1)

-- the number that bytes have behind the first two
abbrev pub number_in : List ℕ → ℕ
number_in bytes = from_le_bytes w32 (get_or bytes 2 0 ∷ get_or bytes 3 0 ∷ get_or bytes 4 0 ∷ get_or bytes 5 0 ∷ [])

number_is : (bytes : List ℕ) (pair : ItemId × Verdict) → bytes ≡ verdict_bytes pair → number_in bytes ≡ pair.0.id.number
unfolding u32_bytes
number_is bytes pair e =
    let few : pair.0.id.number ≤ 999999999 = pair.0.id.within in
    ap number_in e ∙ from_le_bytes-to_le_bytes_4 pair.0.id.number (omega arith)

last_is : (bytes : List ℕ) (pair : ItemId × Verdict) → bytes ≡ verdict_bytes pair → get_or bytes 6 0 ≡ flag (accepts pair.1)
unfolding u32_bytes
last_is bytes pair e = ap (λ (b : List ℕ). get_or b 6 0) e

pub fields_of : (bytes : List ℕ) (pair : ItemId × Verdict) → bytes ≡ verdict_bytes pair → AreFields (get_or bytes 0 0) (get_or bytes 1 0) (number_in bytes) (get_or bytes 6 0) pair
fields_of bytes pair e = record {
  holder_is = ap (λ (b : List ℕ). get_or b 0 0) e;
  id_is =
      ap (λ (p : ℕ). id_of (p, number_in bytes)) (ap (λ (b : List ℕ). get_or b 1 0) e) ∙ (ap (λ (k : ℕ). id_of (letter_place pair.0.id.kind, k)) (number_is bytes pair e) ∙ id_again pair.0.id);
  verdict_is = last_is bytes pair e;
}

-- what is made of an ID and a verdict that were read
pub pair_is : (holder place number accept : ℕ) (pair : ItemId × Verdict) (id : AnnId) (verdict : Verdict) → AreFields holder place number accept pair → Some id ≡ id_of (place, number) → ((v : Verdict) → accept ≡ flag (accepts v) → Some verdict ≡ Some v)
    → ◌≡◌ {A = Option (ItemId × Verdict)} (Some (record { holder = holder; id = id }, verdict)) (Some pair)
pair_is holder place number accept pair id verdict are read told =
    let same : id ≡ pair.0.id = some_same id pair.0.id (read ∙ are.id_is) in
    let one : verdict ≡ pair.1 = some_same verdict pair.1 (told pair.1 are.verdict_is) in
    ap (λ (h : ℕ). let o : Option (ItemId × Verdict) = Some (record { holder = h; id = id }, verdict) in o) are.holder_is
    ∙ (ap (λ (i : AnnId). let o : Option (ItemId × Verdict) = Some (record { holder = pair.0.holder; id = i }, verdict) in o) same
    ∙ ap (λ (v : Verdict). let o : Option (ItemId × Verdict) = Some (record { holder = pair.0.holder; id = pair.0.id }, v) in o) one)

pub no_id : (holder place number accept : ℕ) (pair : ItemId × Verdict) → AreFields holder place number accept pair → None ≡ id_of (place, number) → ⊥
no_id holder place number accept pair are read = none_some pair.0.id (read ∙ are.id_is)

-- ---- verdicts one behind another

pub seven : (pair : ItemId × Verdict) → length (verdict_bytes pair) ≡ 7
seven pair =
    let number : length (u32_bytes pair.0.id.number) ≡ 4 = four pair.0.id.number in
    let whole = length-append (u32_bytes pair.0.id.number) (flag (accepts pair.1) ∷ []) in
    omega arith

-- so far these verdicts were read, and the rest are those of the others
abbrev pub AreReadSo : List ℕ → List (ItemId × Verdict) → List ℕ → Type 0
AreReadSo bytes pairs rest = (verdicts : List (ItemId × Verdict)) → bytes ≡ flat_map verdict_bytes verdicts → (others : List (ItemId × Verdict)) × (verdicts ≡ pairs ++ others) × (rest ≡ flat_map verdict_bytes others)

pub some_bytes : (rest : List ℕ) → false ≡ (length rest == 0) → 0 < length rest
some_bytes [] e = absurd (unlike e)
  where
    unlike : false ≡ true → ⊥
    unlike e = cc
some_bytes (x ∷ xs) e = omega arith

pub no_bytes : (rest : List ℕ) → true ≡ (length rest == 0) → rest ≡ []
no_bytes rest e = nil_from_length rest (eqb-true (length rest) 0 (sym e))

-- the first of some verdicts, where there are bytes
record IsNext (rest : List ℕ) (others : List (ItemId × Verdict)) : Type 0 where
  first : ItemId × Verdict
  later : List (ItemId × Verdict)
  is : others ≡ first ∷ later
  many : 7 ≤ length rest
  here : take 7 rest ≡ verdict_bytes first
  behind : drop 7 rest ≡ flat_map verdict_bytes later

next_of : (rest : List ℕ) (others : List (ItemId × Verdict)) → 0 < length rest → rest ≡ flat_map verdict_bytes others → IsNext rest others
next_of rest [] some e = absurd (let none : length rest ≡ 0 = ap length e in omega arith)
next_of rest (v ∷ vs) some e =
    let size : length rest ≡ length (verdict_bytes v ++ flat_map verdict_bytes vs) = ap length e in
    let both = length-append (verdict_bytes v) (flat_map verdict_bytes vs) in
    let one : length (verdict_bytes v) ≡ 7 = seven v in
    record {
      first = v;
      later = vs;
      is = refl;
      many = omega (arith, size, both, one);
      here = ap (take 7) e ∙ take_at (verdict_bytes v) (flat_map verdict_bytes vs) 7 one;
      behind = ap (drop 7) e ∙ drop_at (verdict_bytes v) (flat_map verdict_bytes vs) 7 one;
    }

-- fewer than seven bytes are those of no verdicts
pub too_few : (bytes rest : List ℕ) (pairs : List (ItemId × Verdict)) → AreReadSo bytes pairs rest → 0 < length rest → length rest < 7 → ReadsPairs bytes None
too_few bytes rest pairs so some few verdicts e =
    let other = so verdicts e in
    let next : IsNext rest other.0 = next_of rest other.0 some other.2 in
    let many : 7 ≤ length rest = next.many in
    omega (arith, many)

-- and so are seven that say none
pub unread : (bytes rest one : List ℕ) (pairs : List (ItemId × Verdict)) → AreReadSo bytes pairs rest → 0 < length rest → one ≡ take 7 rest → ((pair : ItemId × Verdict) → one ≡ verdict_bytes pair → ◌≡◌ {A = Option (ItemId × Verdict)} None (Some pair)) → ReadsPairs bytes None
unread bytes rest one pairs so some is told verdicts e =
    let other = so verdicts e in
    let next : IsNext rest other.0 = next_of rest other.0 some other.2 in
    none_some next.first (told next.first (is ∙ next.here))

pub one_read : (bytes rest one more : List ℕ) (pairs new : List (ItemId × Verdict)) (pair : ItemId × Verdict) → AreReadSo bytes pairs rest → 0 < length rest → one ≡ take 7 rest → more ≡ drop 7 rest → ((p : ItemId × Verdict) → one ≡ verdict_bytes p → ◌≡◌ {A = Option (ItemId × Verdict)} (Some pair) (Some p))
    → new ≡ pairs ++ pair ∷ [] → AreReadSo bytes new more
one_read bytes rest one more pairs new pair so some is behind told pushed verdicts e =
    let other = so verdicts e in
    let next : IsNext rest other.0 = next_of rest other.0 some other.2 in
    let same : pair ≡ next.first = some_same pair next.first (told next.first (is ∙ next.here)) in
    let whole : verdicts ≡ new ++ next.later =
    other.1 ∙ (ap (λ (os : List (ItemId × Verdict)). pairs ++ os) next.is
    ∙ (ap (λ (p : ItemId × Verdict). pairs ++ (p ∷ next.later)) (sym same)
    ∙ (sym (append_assoc pairs (pair ∷ []) next.later) ∙ ap (λ (ps : List (ItemId × Verdict)). ps ++ next.later) (sym pushed)))) in
    (next.later, whole, behind ∙ next.behind)

no_others : (others : List (ItemId × Verdict)) → [] ≡ flat_map verdict_bytes others → others ≡ []
no_others [] e = refl
no_others (v ∷ vs) e = absurd (unlike v (flat_map verdict_bytes vs) e)
  where
    unlike : (pair : ItemId × Verdict) (rest : List ℕ) → [] ≡ verdict_bytes pair ++ rest → ⊥
    unlike pair rest e = cc

pub all_read : (bytes rest : List ℕ) (pairs : List (ItemId × Verdict)) (verdicts : List (ItemId × Verdict)) → AreReadSo bytes pairs rest → rest ≡ [] → bytes ≡ flat_map verdict_bytes verdicts → pairs ≡ verdicts
all_read bytes rest pairs verdicts so none e =
    let other = so verdicts e in
    let last : other.0 ≡ [] = no_others other.0 (sym none ∙ other.2) in
    sym (other.1 ∙ (ap (λ (os : List (ItemId × Verdict)). pairs ++ os) last ∙ append-nil pairs))

-- ---- the number before them

-- four bytes stand before verdicts
pub four_before : (bytes : List ℕ) (verdicts : List (ItemId × Verdict)) → bytes ≡ list_bytes verdict_bytes verdicts → 4 ≤ length bytes
four_before bytes verdicts e =
    let whole = length-append (u32_bytes (length verdicts)) (flat_map verdict_bytes verdicts) in
    let front : length (u32_bytes (length verdicts)) ≡ 4 = four (length verdicts) in
    let size : length bytes ≡ length (u32_bytes (length verdicts) ++ flat_map verdict_bytes verdicts) = ap length e in
    omega (arith, whole, front, size)

-- and they behind these
pub pairs_behind : (bytes rest : List ℕ) (verdicts : List (ItemId × Verdict)) → rest ≡ drop 4 bytes → bytes ≡ list_bytes verdict_bytes verdicts → rest ≡ flat_map verdict_bytes verdicts
pairs_behind bytes rest verdicts behind e = behind ∙ (ap (drop 4) e ∙ drop_at (u32_bytes (length verdicts)) (flat_map verdict_bytes verdicts) 4 (four (length verdicts)))

-- ---- what is written

-- the bytes of one more
pub flat_next : {X : Type 0} (each : X → List ℕ) (xs : List X) (k : ℕ) (x : X) → slice_get xs k ≡ Some x → flat_map each (take (k + 1) xs) ≡ flat_map each (take k xs) ++ each x
flat_next each xs k x is =
    ap (λ ys. flat_map each ys) (take_more xs k x (slice_get_within xs k x is) ∙ ap (λ y. take k xs ++ y ∷ []) (get_or_from_slice_get xs k x x is)) ∙ sym (flat_map_more each [] (take k xs) x)
