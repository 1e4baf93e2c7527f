-- The texts of the documents.
use Rattle.std.specs.Prelude.{ℕ, ◌+◌, ◌*◌, ◌%◌, List, [], ◌∷◌, ◌++◌, codes}
use Rattle.demo_project.specs.Joined.{joined}

-- a letter of a word, by its place in it
abbrev pub letter : (number doc word place : ℕ) → ℕ
letter number doc word place = 97 + (number + 7 * doc + 3 * word + 5 * place) % 26

-- a word of four letters, and the space behind it
abbrev pub word_of : (number doc word : ℕ) → List ℕ
word_of number doc word = joined (λ place. letter number doc word place ∷ []) 4 ++ codes " "

-- the text of a document: 400 words
abbrev pub text_of : (number doc : ℕ) → List ℕ
text_of number doc = joined (word_of number doc) 400
