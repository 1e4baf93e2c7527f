-- Places of one table carried over to another.
use Rattle.std.proofs.Common.{◌≡◌, ◌≢◌, ℕ, ◌+◌, ◌<◌, ◌≤◌, ◌⊎◌, List, [], map, length, get_or, sym, ap, ◌∙◌, subst, arith, inl, inr, Some, None}
use Rattle.content_keys.specs.Numbers.{paired, sorted}
use Rattle.content_keys.specs.Nodes.{Node, number}
use Rattle.content_keys.specs.Tables.{values, link_rank}
pub use Rattle.content_keys.specs.Tables.{IsPlace}
pub use Rattle.content_keys.specs.Carrying.{IsCarried}
use Rattle.content_keys.proofs.NumberLemmas.{paired_second}
use Rattle.content_keys.proofs.BagLemmas.{IsIn, IsIn-map, map-IsIn, map_same, map_map, found}
use Rattle.content_keys.proofs.NodeLemmas.{AreAlike, alike, number_alike, Names}
use Rattle.content_keys.proofs.TableLemmas.{read, IsTable, value_at, one_value, same_node, length-values_from}

pub carried_number : {I : Type 0} (f : I → ℕ) (v : I → ℕ) (w : ℕ → ℕ) (s : Node I) (u : Node ℕ) → IsCarried f s u → ((x : I) → Names x s → v x ≡ w (f x)) → number w u ≡ number v s
carried_number f v w s u c h = number_alike w v u s record {
  own = c.own;
  named = ap (map w) c.named ∙ map_map w f s.named ∙ sym (map_same v (λ x. w (f x)) s.named (λ x k. h x (inl k)));
  bag = c.bag (λ p. paired p.0 (w p.1)) ∙ sym (ap sorted (map_same (λ p. paired p.0 (v p.1)) (λ p. paired p.0 (w (f p.1))) s.bag (λ p k. ap (paired p.0) (h p.1 (inr (p.0, k))))));
}

pub carried_from : {I : Type 0} (f : I → ℕ) (s : Node I) (u : Node ℕ) → IsCarried f s u → (y : ℕ) → Names y u → (x : I) × (Names x s × (y ≡ f x))
carried_from {I} f s u c y n = elim n [
  | inl k ↦ let r : (x : I) × (IsIn x s.named × (y ≡ f x)) = map-IsIn f y s.named (subst (IsIn y) c.named k) in (r.0, (inl r.1.0, r.1.1))
  | inr k ↦
      let code : ℕ × ℕ → ℕ = λ p. paired p.0 p.1 in
      let r : (p : ℕ × I) × (IsIn p s.bag × (paired k.0 y ≡ paired p.0 (f p.1))) =
      found code link_rank (λ p. paired p.0 (f p.1)) (λ p. p.0) u.bag s.bag (c.bag code) (k.0, y) k.1 in
      (r.0.1, (inr (r.0.0, r.1.0), paired_second k.0 y r.0.0 (f r.0.1) r.1.1))
]

pub length_values : (ss : List (Node ℕ)) → length (values ss) ≡ length ss
length_values ss = let l : length (values ss) ≡ 0 + length ss = length-values_from [] ss in omega arith

module _ (A B : List (Node ℕ)) (a : IsTable A) (b : IsTable B) (d : Node ℕ) (i : ℕ) (h : i < length A) where
  abbrev v : ℕ → ℕ
  v = read (values A)

  abbrev w : ℕ → ℕ
  w = read (values B)

  abbrev s : Node ℕ
  s = get_or A i d

  -- where each place that s names was carried over, and the result stands in B
  pub placed : (f : ℕ → ℕ) (u : Node ℕ) → IsCarried f s u → ((x : ℕ) → Names x s → IsPlace (values B) (v x) (Some (f x)))
      → (j : ℕ) → j < length B → get_or B j d ≡ u → IsPlace (values B) (v i) (Some j)
  placed f u c right j lt is =
      let l : length (values B) ≡ length B = length_values B in
      let n : number w u ≡ number v s = carried_number f v w s u c (λ x k. sym (right x k).1) in
      (omega arith, value_at B b j d lt ∙ ap (number w) is ∙ n ∙ sym (value_at A a i d h))

  -- and does not stand in B
  pub unplaced : (f : ℕ → ℕ) (u : Node ℕ) → IsCarried f s u → ((x : ℕ) → Names x s → IsPlace (values B) (v x) (Some (f x)))
      → ((j : ℕ) → j < length B → get_or B j d ≢ u) → IsPlace (values B) (v i) None
  unplaced f u c right none j lt e =
      let l : length (values B) ≡ length B = length_values B in
      let m : length B ≤ 4294967296 = b.short in
      let k : j < length B = omega arith in
      let n : number w u ≡ number v s = carried_number f v w s u c (λ x q. sym (right x q).1) in
      let al : AreAlike w w (get_or B j d) u = alike w w (get_or B j d) u (sym (value_at B b j d k) ∙ e ∙ value_at A a i d h ∙ sym n) in
      let in' : (x : ℕ) → Names x (get_or B j d) ⊎ Names x u → x < length B =
      λ x q. elim q [
        | inl p ↦ let z : x < j = b.below j x d k p in omega arith
        | inr p ↦
            let r : (y : ℕ) × (Names y s × (x ≡ f y)) = carried_from f s u c x p in
            let z : f r.0 < length (values B) = (right r.0 r.1.0).0 in
            let y : x ≡ f r.0 = r.1.1 in
            omega arith
      ] in
      none j k (same_node w (get_or B j d) u
      (λ x y hx hy. one_value B b d x y (in' x hx) (in' y hy))
      (λ x hx. let z : x < length B = in' x hx in omega arith)
      (b.rising j d k) c.rising al)

  -- where a place that s names is nowhere in B, neither is s
  pub lost : (x : ℕ) → Names x s → IsPlace (values B) (v x) None → IsPlace (values B) (v i) None
  lost x n none j lt e =
      let l : length (values B) ≡ length B = length_values B in
      let k : j < length B = omega arith in
      let u : Node ℕ = get_or B j d in
      let al : AreAlike v w s u = alike v w s u (sym (value_at A a i d h) ∙ sym e ∙ value_at B b j d k) in
      elim n [
        | inl p ↦
            let r : (y : ℕ) × (IsIn y u.named × (v x ≡ w y)) = map-IsIn w (v x) u.named (subst (IsIn (v x)) al.named (IsIn-map v x s.named p)) in
            let z : r.0 < j = b.below j r.0 d k (inl r.1.0) in
            none r.0 (omega arith) (sym r.1.1)
        | inr p ↦
            let r : (q : ℕ × ℕ) × (IsIn q u.bag × (paired p.0 (v x) ≡ paired q.0 (w q.1))) =
            found (λ q. paired q.0 (v q.1)) link_rank (λ q. paired q.0 (w q.1)) link_rank s.bag u.bag al.bag (p.0, x) p.1 in
            let z : r.0.1 < j = b.below j r.0.1 d k (inr (r.0.0, r.1.0)) in
            none r.0.1 (omega arith) (sym (paired_second p.0 (v x) r.0.0 (w r.0.1) r.1.1))
      ]
