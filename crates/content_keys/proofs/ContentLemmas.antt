-- Contents do not depend on the depth to which they are followed.
use Rattle.std.proofs.Common.{◌≡◌, ℕ, zero, suc, ◌≤◌, refl, sym, ap, ◌∙◌, subst, arith, inl, inr, Option, Some, None, MatchOption}
use Rattle.std.proofs.lemmas.Option.{same_Some}
use Rattle.content_keys.specs.Numbers.{paired}
use Rattle.content_keys.specs.Nodes.{IsIn, Names, Node, number}
use Rattle.content_keys.specs.Contents.{content_at, content, IsBuilt}
use Rattle.content_keys.proofs.NumberLemmas.{paired_second}
use Rattle.content_keys.proofs.BagLemmas.{map-IsIn, IsIn-map, found}
use Rattle.content_keys.proofs.NodeLemmas.{AreAlike, alike, number_same}

module _ {I : Type 0} (node : I → Option (Node I)) where
  pub content_step : (f : ℕ) (x : I) (s : Node I) → node x ≡ Some s → content node (suc f) x ≡ number (content node f) s
  unfolding content
  content_step f x s e = ap (content_at (content node f)) e

  -- what a built annotation is made of
  pub record Parts (f : ℕ) (x : I) : Type 0 where
    pub made : Node I
    pub is : node x ≡ Some made
    pub rest : (y : I) → Names y made → IsBuilt node f y

  pub parts : (f : ℕ) (x : I) → IsBuilt node (suc f) x → Parts f x
  parts f x b =
      elim (node x) as (λ o. node x ≡ o → MatchOption o ⊥ (λ s. (y : I) → Names y s → IsBuilt node f y) → Parts f x) [
        | None ↦ λ e h. absurd h
        | Some s ↦ λ e h. record { made = s; is = e; rest = h }
      ] refl b

  pub built_from : (f : ℕ) (x : I) (s : Node I) → node x ≡ Some s → ((y : I) → Names y s → IsBuilt node f y) → IsBuilt node (suc f) x
  built_from f x s e h = let P : Option (Node I) → Type 0 = λ o. MatchOption o ⊥ (λ s. (y : I) → Names y s → IsBuilt node f y) in subst P (sym e) h

  pub content_stable : (f g : ℕ) (x : I) → IsBuilt node f x → f ≤ g → content node f x ≡ content node g x
  content_stable zero g x b h = absurd b
  content_stable (suc f) zero x b h = absurd (omega arith)
  content_stable (suc f) (suc g) x b h =
      let p : Parts f x = parts f x b in
      content_step f x p.made p.is
      ∙ number_same (content node f) (content node g) p.made (λ y n. content_stable f g y (p.rest y n) (omega arith))
      ∙ sym (content_step g x p.made p.is)

  pub built_more : (f : ℕ) (x : I) → IsBuilt node f x → IsBuilt node (suc f) x
  built_more zero x b = absurd b
  built_more (suc f) x b = let p : Parts f x = parts f x b in built_from (suc f) x p.made p.is (λ y n. built_more f y (p.rest y n))

  -- a content is that of its parts, at one depth
  pub content_of_parts : (f g : ℕ) (x : I) (s : Node I) → IsBuilt node (suc f) x → suc f ≤ g → node x ≡ Some s → content node g x ≡ number (content node g) s
  content_of_parts f g x s b h e =
      let p : Parts f x = parts f x b in
      let q : p.made ≡ s = same_Some _ _ (sym p.is ∙ e) in
      sym (content_stable (suc f) g x b h) ∙ content_step f x p.made p.is
      ∙ number_same (content node f) (content node g) p.made (λ y n. content_stable f g y (p.rest y n) (omega arith))
      ∙ ap (number (content node g)) q

-- what one of two contents of one number names, the other names too, by its number
pub record Twin {I J : Type 0} (v : I → ℕ) (w : J → ℕ) (t : Node J) (x : I) : Type 0 where
  pub other : J
  pub named : Names other t
  pub same : v x ≡ w other

pub twin : {I J : Type 0} (v : I → ℕ) (w : J → ℕ) (s : Node I) (t : Node J) → number v s ≡ number w t → (x : I) → Names x s → Twin v w t x
twin {I} {J} v w s t e x n =
    let a : AreAlike v w s t = alike v w s t e in
    elim n [
      | inl k ↦ let r : (y : J) × (IsIn y t.named × (v x ≡ w y)) = map-IsIn w (v x) t.named (subst (IsIn (v x)) a.named (IsIn-map v x s.named k)) in
          record { other = r.0; named = inl r.1.0; same = r.1.1 }
      | inr k ↦
          let r : (q : ℕ × J) × (IsIn q t.bag × (paired k.0 (v x) ≡ paired q.0 (w q.1))) =
          found (λ q. paired q.0 (v q.1)) (λ q. q.0) (λ q. paired q.0 (w q.1)) (λ q. q.0) s.bag t.bag a.bag (k.0, x) k.1 in
          record { other = r.0.1; named = inr (r.0.0, r.1.0); same = paired_second k.0 (v x) r.0.0 (w r.0.1) r.1.1 }
    ]
