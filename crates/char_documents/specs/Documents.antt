-- What a document keeps beside its text (private calls only).
use Rattle.std.specs.Prelude.{◌≡◌, ℕ, ◌≤◌, List, length, chars}
use Rattle.mark_base.specs.declared.fragments.Frag.{Frag}
use Rattle.char_documents.specs.Checkpoints.{IsMarked}
use Rattle.char_documents.specs.Tokens.{tokens_of}

-- the count of its characters, which is at most 200,000, its checkpoints and its tokens
pub record IsDocument (text : List ℕ) (count : ℕ) (marks : List ℕ) (tokens : List Frag) : Type 0 where
  pub counted : count ≡ length (chars text)
  pub short : count ≤ 200000
  pub marked : IsMarked text marks
  pub split : tokens ≡ tokens_of (chars text)
