-- The content of an annotation: what it is made of, with the contents of what it names in place of their names.
use Rattle.std.specs.Prelude.{ℕ, suc, zero, Option, Some, None, MatchOption}
use Rattle.content_keys.specs.Nodes.{Node, Names, number}

-- the number of a node; 0 where there is none
abbrev pub content_at : {I : Type 0} → (I → ℕ) → Option (Node I) → ℕ
content_at v None = 0
content_at v (Some s) = number v s

-- the content of what stands under a name, followed to a depth
unfoldable pub content : {I : Type 0} → (I → Option (Node I)) → ℕ → I → ℕ
content node zero x = 0
content node (suc f) x = content_at (content node f) (node x)

-- it is there, and so is what it names, and what that names, in fewer steps than the depth
abbrev pub IsBuilt : {I : Type 0} → (I → Option (Node I)) → ℕ → I → Type 0
IsBuilt node zero x = ⊥
IsBuilt {I} node (suc f) x = MatchOption (node x) ⊥ (λ s. (y : I) → Names y s → IsBuilt node f y)
