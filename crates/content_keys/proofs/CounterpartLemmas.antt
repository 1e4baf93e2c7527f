-- Moves between the tables of two layers find counterparts.
use Rattle.std.proofs.Common.{◌≡◌, ◌≢◌, ℕ, zero, suc, ◌+◌, ◌<◌, take, is_some, subst, eqb, inl, inr, true, false, cond, List, [], ◌∷◌, ◌++◌, map, length, get_or, set, get_or-set_same, get_or-set_other, refl, sym, ap, ◌∙◌, arith, Option, Some, None, All, option_and_then}
use Rattle.std.specs.Option.{option_or}
use Rattle.std.proofs.lemmas.List.{take_more}
use Rattle.std.proofs.lemmas.Bool.Decides.{eqb_tells}
use Rattle.mark_base.specs.declared.ann_id.AnnId.{AnnId}
use Rattle.layer_model.specs.Classes.{rank}
use Rattle.content_keys.specs.declared.placed_layer.Placed.{Placed}
use Rattle.content_keys.specs.Nodes.{Node}
use Rattle.content_keys.specs.Tables.{IsPlace, IsTable, values}
use Rattle.content_keys.specs.Carrying.{AreMoves, move_at}
use Rattle.content_keys.specs.Counterparts.{behind, counterpart_among, counterpart_in, counterparts_in, first_with}
use Rattle.content_keys.specs.Founds.{first_at, found_at}
use Rattle.content_keys.specs.Places.{contents_at}
use Rattle.content_keys.proofs.EnterLemmas.{no_node}
use Rattle.content_keys.proofs.TableLemmas.{one_value, read}
use Rattle.content_keys.proofs.MoveLemmas.{length_values}

-- two tests that pass together are one
same_test : (a b c d : ℕ) → (a ≡ b → c ≡ d) → (c ≡ d → a ≡ b) → eqb a b ≡ eqb c d
same_test a b c d there back =
    elim (eqb_tells a b) [
      | inl p ↦ elim (eqb_tells c d) [
        | inl q ↦ p.0 ∙ sym q.0
        | inr q ↦ absurd (q.1 (there p.1))
      ]
      | inr p ↦ elim (eqb_tells c d) [
        | inl q ↦ absurd (p.1 (back q.1))
        | inr q ↦ p.0 ∙ sym q.0
      ]
    ]

module _ (table : List (Node ℕ)) (is : IsTable table) where
  -- the first annotation at a place is the first with its content
  pub first_found : (v j : ℕ) → j < length table → read (values table) j ≡ v → (others : List Placed) → All (λ p. p.place < length table) others → first_at others j ≡ first_with (contents_at (values table) others) v
  first_found v j h e [] within = refl
  first_found v j h e (p ∷ ps) within =
      let here : p.place < length table = within 0 p (omega arith) in
      let test : eqb p.place j ≡ eqb (read (values table) p.place) v =
      same_test p.place j (read (values table) p.place) v (λ s. ap (read (values table)) s ∙ e) (λ s. one_value table is no_node p.place j here h (s ∙ sym e)) in
      (λ i. cond (test i) (Some p.id) (first_at ps j))
      ∙ ap (cond (eqb (read (values table) p.place) v) (Some p.id)) (first_found v j h e ps (λ k d l. within (suc k) d (omega arith)))

  -- a content that the table lacks is that of none
  pub first_lost : (v : ℕ) → ((j : ℕ) → j < length (values table) → read (values table) j ≢ v) → (others : List Placed) → All (λ p. p.place < length table) others → None ≡ first_with (contents_at (values table) others) v
  first_lost v none [] within = refl
  first_lost v none (p ∷ ps) within =
      let here : p.place < length table = within 0 p (omega arith) in
      let long : length (values table) ≡ length table = length_values table in
      elim (eqb_tells (read (values table) p.place) v) [
        | inl q ↦ absurd (none p.place (omega arith) q.1)
        | inr q ↦ first_lost v none ps (λ k d l. within (suc k) d (omega arith)) ∙ (λ i. cond (sym q.0 i) (Some p.id) (first_with (contents_at (values table) ps) v))
      ]

-- the counterpart of an ID is that of its content
pub counterpart_is : (ours others : List (AnnId × ℕ)) (id : AnnId) → counterpart_among (counterparts_in ours others) id ≡ counterpart_in ours others id
counterpart_is [] others id = refl
counterpart_is (entry ∷ entries) others id =
    elim (eqb (rank entry.0) (rank id)) as (λ b. option_and_then (λ there. there) (cond b (Some (first_with others entry.1)) (behind id (counterparts_in entries others)))
    ≡ option_and_then (first_with others) (cond b (Some entry.1) (behind id entries))) [
      | true ↦ refl
      | false ↦ counterpart_is entries others id
    ]

-- what the moves find is the counterpart of each
module _ (A B : List (Node ℕ)) (b : IsTable B) (ms : List (Option ℕ)) (long : length ms ≡ length A) (right : AreMoves A B ms) (others : List Placed) (within : All (λ p. p.place < length B) others) where
  found_one : (p : Placed) → p.place < length A → option_and_then (first_at others) (move_at ms p.place) ≡ first_with (contents_at (values B) others) (read (values A) p.place)
  found_one p h =
      elim (move_at ms p.place) as (λ o. IsPlace (values B) (read (values A) p.place) o → option_and_then (first_at others) o ≡ first_with (contents_at (values B) others) (read (values A) p.place)) [
        | None ↦ λ none. first_lost B b (read (values A) p.place) none others within
        | Some j ↦ λ there.
            let all : length (values B) ≡ length B = length_values B in
            let less : j < length (values B) = there.0 in
            first_found B b (read (values A) p.place) j (omega arith) there.1 others within
      ] (right p.place (omega arith))

  pub found_all : (placed : List Placed) → All (λ p. p.place < length A) placed → map (found_at ms others) placed ≡ counterparts_in (contents_at (values A) placed) (contents_at (values B) others)
  found_all [] all = refl
  found_all (p ∷ ps) all =
      let here : p.place < length A = all 0 p (omega arith) in
      λ i. (p.id, found_one p here i) ∷ found_all ps (λ k d l. all (suc k) d (omega arith)) i

-- ---- the first annotation at each place, as a list

first_push : (ps : List Placed) (p : Placed) (place : ℕ) → first_at (ps ++ p ∷ []) place ≡ option_or (first_at ps place) (cond (eqb p.place place) (Some p.id) None)
first_push [] p place = refl
first_push (q ∷ qs) p place =
    elim (eqb q.place place) as (λ b. cond b (Some q.id) (first_at (qs ++ p ∷ []) place) ≡ option_or (cond b (Some q.id) (first_at qs place)) (cond (eqb p.place place) (Some p.id) None)) [
      | true ↦ refl
      | false ↦ first_push qs p place
    ]

or_none : {X : Type 0} (o : Option X) → option_or o None ≡ o
or_none None = refl
or_none (Some x) = refl

module _ (ps : List Placed) (p : Placed) (firsts : List (Option AnnId)) (so_far : (q : ℕ) → get_or firsts q None ≡ first_at ps q) where
  other : (q : ℕ) → (p.place ≡ q → ⊥) → get_or firsts q None ≡ first_at (ps ++ p ∷ []) q
  other q n = elim (eqb_tells p.place q) [
    | inl e ↦ absurd (n e.1)
    | inr e ↦ so_far q ∙ sym (first_push ps p q ∙ ap (λ b. option_or (first_at ps q) (cond b (Some p.id) None)) e.0 ∙ or_none (first_at ps q))
  ]

  -- a place that had none has this one
  pub first_put : p.place < length firsts → get_or firsts p.place None ≡ None → (q : ℕ) → get_or (set firsts p.place (Some p.id)) q None ≡ first_at (ps ++ p ∷ []) q
  first_put h none q =
      elim (eqb_tells p.place q) [
        | inl e ↦
            let free : first_at ps q ≡ None = ap (first_at ps) (sym e.1) ∙ sym (so_far p.place) ∙ none in
            ap (λ k. get_or (set firsts p.place (Some p.id)) k None) (sym e.1) ∙ get_or-set_same firsts p.place (Some p.id) None h
            ∙ sym (first_push ps p q ∙ (λ i. option_or (free i) (cond (e.0 i) (Some p.id) None)))
        | inr e ↦ get_or-set_other firsts p.place q (Some p.id) None (λ s. e.1 (sym s)) ∙ other q e.1
      ]

  -- a place that had one keeps it
  pub first_kept : (x : AnnId) → get_or firsts p.place None ≡ Some x → (q : ℕ) → get_or firsts q None ≡ first_at (ps ++ p ∷ []) q
  first_kept x some q =
      elim (eqb_tells p.place q) [
        | inl e ↦
            let here : first_at ps q ≡ Some x = ap (first_at ps) (sym e.1) ∙ sym (so_far p.place) ∙ some in
            so_far q ∙ here ∙ sym (first_push ps p q ∙ ap (λ o. option_or o (cond (eqb p.place q) (Some p.id) None)) here)
        | inr e ↦ other q e.1
      ]

any_default : {X : Type 0} (xs : List X) (i : ℕ) (d e : X) → i < length xs → get_or xs i d ≡ get_or xs i e
any_default [] i d e h = absurd (omega arith)
any_default (x ∷ xs) zero d e h = refl
any_default (x ∷ xs) (suc i) d e h = any_default xs i d e (omega arith)

is_free : {X : Type 0} (o : Option X) → is_some o ≡ false → o ≡ None
is_free None e = refl
is_free (Some x) e = cc

is_taken : {X : Type 0} (o : Option X) → is_some o ≡ true → (x : X) × (o ≡ Some x)
is_taken None e = cc
is_taken (Some x) e = (x, refl)

-- one annotation more
module _ (placed : List Placed) (i : ℕ) (p : Placed) (h : i < length placed) (at : p ≡ get_or placed i p) (count : ℕ) (within : All (λ q. q.place < count) placed)
    (firsts : List (Option AnnId)) (long : length firsts ≡ count) (so_far : (q : ℕ) → get_or firsts q None ≡ first_at (take i placed) q) (here : Option AnnId) (is : here ≡ get_or firsts p.place here) where
  more : take i placed ++ p ∷ [] ≡ take (i + 1) placed
  more = sym (take_more placed i p h ∙ ap (λ q. take i placed ++ q ∷ []) (sym at))

  small : p.place < length firsts
  small = let l : p.place < count = subst (λ q. q.place < count) (sym at) (within i p h) in omega arith

  pub first_more : is_some here ≡ false → (q : ℕ) → get_or (set firsts p.place (Some p.id)) q None ≡ first_at (take (i + 1) placed) q
  first_more e q =
      let none : get_or firsts p.place None ≡ None = any_default firsts p.place None here small ∙ sym is ∙ is_free here e in
      first_put (take i placed) p firsts so_far small none q ∙ ap (λ ps. first_at ps q) more

  pub first_same : is_some here ≡ true → (q : ℕ) → get_or firsts q None ≡ first_at (take (i + 1) placed) q
  first_same e q =
      let some : (x : AnnId) × (here ≡ Some x) = is_taken here e in
      first_kept (take i placed) p firsts so_far some.0 (any_default firsts p.place None here small ∙ sym is ∙ some.1) q ∙ ap (λ ps. first_at ps q) more
