-- The ID of a letter and a number, where the number is small enough.
use Rattle.std.proofs.Common.{◌≡◌, ℕ, ◌≤◌, true, false, cond, ltb, Option, Some, None, IsSome, IfSome, ◌↔◌, refl, ap}
use Rattle.std.proofs.lemmas.Bool.{lt-ltb, le-ltb, cases_lt, false≢true}
use Rattle.mark_base.specs.declared.ann_id.AnnId.{AnnId}
use Rattle.mark_base.specs.declared.ann_id.Kind.{Kind}
use Rattle.mark_base.specs.ReadIds.{id_at}
use Rattle.mark_base.proofs.IdLemmas.{id_of_parts}
use Rattle.std.proofs.Common.{inl, inr}

pub made_id : (kind : Kind) (n : ℕ) (o : Option AnnId) → (IsSome o ↔ (n ≤ 999999999)) → IfSome o (λ id. (id.kind ≡ kind) × (id.number ≡ n)) → o ≡ cond (ltb 999999999 n) None (Some (id_at kind n))
made_id kind n (Some id) within parts =
    let small : n ≤ 999999999 = within.0 refl in
    rw (le-ltb 999999999 n small) (ap Some (id_of_parts id kind n parts.0 parts.1))
made_id kind n None within parts =
    elim (cases_lt 999999999 n) [
      | inl lt ↦ rw (lt-ltb 999999999 n lt) refl
      | inr le ↦ absurd (false≢true (within.1 le))
    ]
