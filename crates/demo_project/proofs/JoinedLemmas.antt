-- Lists for numbers in turn, one more at a time, and the bytes of messages behind those of others.
use Rattle.std.proofs.Common.{◌≡◌, ℕ, zero, suc, ◌+◌, List, [], ◌∷◌, ◌++◌, refl, ap, sym, ◌∙◌, append_assoc, arith, zero-add, length}
use Rattle.std.specs.Prelude.{codes, decimal}
use Rattle.std.specs.List.{flat_map, range_with_len}
use Rattle.std.proofs.lemmas.List.{append-nil}
use Rattle.std.proofs.lemmas.List.Concat.{flat_map-append}
use Rattle.demo_project.specs.Joined.{joined}
use Rattle.http_wire.specs.Answers.{field_line}
use Rattle.demo_project.specs.Requests.{Sent, bytes_of, message_bytes, message_line}

-- one more number at the end of a range
range_more : (a n j : ℕ) → a + n ≡ j → range_with_len a (suc n) ≡ range_with_len a n ++ j ∷ []
range_more a zero j is = ap (λ k. k ∷ []) (omega (arith, is))
range_more a (suc n) j is = ap (λ rest. a ∷ rest) (range_more (a + 1) n j (omega (arith, is)))

-- no number
pub joined_none : {X : Type 0} (f : ℕ → List X) → joined f 0 ≡ []
unfolding joined
joined_none f = refl

-- one number more
pub joined_more : {X : Type 0} (f : ℕ → List X) (n : ℕ) → joined f (n + 1) ≡ joined f n ++ f n
unfolding joined
joined_more f n =
    let more : n + 1 ≡ suc n = omega arith in
    ap (λ k. flat_map f (range_with_len 0 k)) more ∙ ap (flat_map f) (range_more 0 n n (zero-add n)) ∙ flat_map-append f (range_with_len 0 n) (n ∷ []) ∙ ap (λ last. flat_map f (range_with_len 0 n) ++ last) (append-nil (f n))

-- a list that grows by one number's part
pub grown : {X : Type 0} (f : ℕ → List X) (n : ℕ) (before now next : List X) → now ≡ before ++ joined f n → next ≡ now ++ f n → next ≡ before ++ joined f (n + 1)
grown f n before now next is more =
    more ∙ ap (λ xs. xs ++ f n) is ∙ append_assoc before (joined f n) (f n) ∙ ap (λ xs. before ++ xs) (sym (joined_more f n))

-- the bytes of no message
pub bytes_of_none : bytes_of [] ≡ []
unfolding bytes_of
bytes_of_none = refl

-- the bytes of one message
pub bytes_of_one : (m : Sent) → bytes_of (m ∷ []) ≡ message_bytes m
unfolding bytes_of
bytes_of_one m = append-nil (message_bytes m)

-- the bytes of messages behind others
pub bytes_of_both : (ms ns : List Sent) → bytes_of (ms ++ ns) ≡ bytes_of ms ++ bytes_of ns
unfolding bytes_of
bytes_of_both ms ns = flat_map-append message_bytes ms ns

-- bytes that grow by those of more messages
pub sent_on : (ms ns : List Sent) (before now next : List ℕ) → now ≡ before ++ bytes_of ms → next ≡ now ++ bytes_of ns → next ≡ before ++ bytes_of (ms ++ ns)
sent_on ms ns before now next is more =
    more ∙ ap (λ bs. bs ++ bytes_of ns) is ∙ append_assoc before (bytes_of ms) (bytes_of ns) ∙ ap (λ bs. before ++ bs) (sym (bytes_of_both ms ns))

-- bytes that grow by those of one number's messages
pub sent_more : (f : ℕ → List Sent) (n : ℕ) (before now next : List ℕ) → now ≡ before ++ bytes_of (joined f n) → next ≡ now ++ bytes_of (f n) → next ≡ before ++ bytes_of (joined f (n + 1))
sent_more f n before now next is more =
    sent_on (joined f n) (f n) before now next is more ∙ ap (λ ms. before ++ bytes_of ms) (sym (joined_more f n))

-- bytes to which no message was added yet
pub sent_none : (f : ℕ → List Sent) (before : List ℕ) → before ≡ before ++ bytes_of (joined f 0)
sent_none f before = sym (ap (λ ms. before ++ bytes_of ms) (joined_none f) ∙ ap (λ bs. before ++ bs) bytes_of_none ∙ append-nil before)

-- bytes to which nothing was added yet
pub grown_none : {X : Type 0} (f : ℕ → List X) (before : List X) → before ≡ before ++ joined f 0
grown_none f before = sym (ap (λ xs. before ++ xs) (joined_none f) ∙ append-nil before)

-- the same of a list that began empty
pub grown_bare : {X : Type 0} (f : ℕ → List X) (n : ℕ) (now next : List X) → now ≡ joined f n → next ≡ now ++ f n → next ≡ joined f (n + 1)
grown_bare f n now next is more = more ∙ ap (λ xs. xs ++ f n) is ∙ sym (joined_more f n)

-- a message that is built part by part
pub message_built : (m : Sent) (before a b c d e : List ℕ) → a ≡ before ++ message_line m.method m.path → b ≡ a ++ field_line (codes "Caller") m.caller
    → c ≡ b ++ field_line (codes "Content-Length") (decimal (length m.body)) → d ≡ c ++ codes "\r\n" → e ≡ d ++ m.body → e ≡ before ++ bytes_of (m ∷ [])
unfolding message_bytes
message_built m before a b c d e line caller size end body =
    let caller_line : List ℕ = field_line (codes "Caller") m.caller in
    let size_line : List ℕ = field_line (codes "Content-Length") (decimal (length m.body)) in
    let flat : ((((before ++ message_line m.method m.path) ++ caller_line) ++ size_line) ++ codes "\r\n") ++ m.body ≡ before ++ message_bytes m = simp append_assoc in
    body ∙ ap (λ x. x ++ m.body) (end ∙ ap (λ x. x ++ codes "\r\n") (size ∙ ap (λ x. x ++ size_line) (caller ∙ ap (λ x. x ++ caller_line) line)))
    ∙ flat ∙ sym (ap (λ bs. before ++ bs) (bytes_of_one m))
