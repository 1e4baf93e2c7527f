-- The tokens of a text rise, end within it, and hold no white space.
use Rattle.std.proofs.Common.{◌≡◌, ℕ, ◌+◌, ◌-◌, ◌<◌, ◌≤◌, ◌==◌, false, List, [], ◌∷◌, length, take, drop, sym, ap, subst, arith, suc}
use Rattle.std.specs.Char.{is_whitespace}
use Rattle.std.specs.List.{AllByRecursion}
use Rattle.std.specs.Str.{NonePass}
use Rattle.std.proofs.lemmas.Bool.{cond_both, eqb-true}
use Rattle.mark_base.specs.declared.fragments.Frag.{Frag}
use Rattle.char_documents.specs.Texts.{covered}
use Rattle.char_documents.specs.Tokens.{join_run, tokens_from, tokens_of}
use Rattle.token_columns.proofs.RunLemmas.{Rising}

pub rising_lower : (a b : ℕ) (ts : List Frag) → a ≤ b → Rising b ts → Rising a ts
rising_lower a b [] h r = tt
rising_lower a b (t ∷ ts) h r = (omega (arith, h, r.0), r.1, r.2)

joined : (place : ℕ) (ts : List Frag) → Rising (place + 1) ts → Rising place (join_run place (place + 1) ts)
joined place [] r = (omega arith, omega arith, tt)
joined place (t ∷ ts) r =
    cond_both (t.start == place + 1) (record { start = place; end = t.end } ∷ ts) (record { start = place; end = place + 1 } ∷ t ∷ ts) (Rising place)
    (λ _. (omega arith, omega (arith, r.0, r.1), r.2)) (λ _. (omega arith, omega arith, r))

rising_from : (place : ℕ) (cs : List ℕ) → Rising place (tokens_from place cs)
rising_from place [] = tt
rising_from place (c ∷ cs) =
    cond_both (is_whitespace c) (tokens_from (place + 1) cs) (join_run place (place + 1) (tokens_from (place + 1) cs)) (Rising place)
    (λ _. rising_lower place (place + 1) (tokens_from (place + 1) cs) (omega arith) (rising_from (place + 1) cs))
    (λ _. joined place (tokens_from (place + 1) cs) (rising_from (place + 1) cs))

pub tokens_rising : (text : List ℕ) → Rising 0 (tokens_of text)
unfolding tokens_of
tokens_rising text = rising_from 0 text

-- ---- ends

abbrev pub EndBy : ℕ → List Frag → Type 0
EndBy most ts = AllByRecursion (λ token. token.end ≤ most) ts

joined_end : (most place : ℕ) (ts : List Frag) → place + 1 ≤ most → EndBy most ts → EndBy most (join_run place (place + 1) ts)
joined_end most place [] h e = (h, tt)
joined_end most place (t ∷ ts) h e =
    cond_both (t.start == place + 1) (record { start = place; end = t.end } ∷ ts) (record { start = place; end = place + 1 } ∷ t ∷ ts) (EndBy most)
    (λ _. e) (λ _. (h, e))

ends_from : (most place : ℕ) (cs : List ℕ) → place + length cs ≤ most → EndBy most (tokens_from place cs)
ends_from most place [] h = tt
ends_from most place (c ∷ cs) h =
    let rest : EndBy most (tokens_from (place + 1) cs) = ends_from most (place + 1) cs (omega arith) in
    cond_both (is_whitespace c) (tokens_from (place + 1) cs) (join_run place (place + 1) (tokens_from (place + 1) cs)) (EndBy most)
    (λ _. rest) (λ _. joined_end most place (tokens_from (place + 1) cs) (omega arith) rest)

pub tokens_end : (text : List ℕ) → EndBy (length text) (tokens_of text)
unfolding tokens_of
tokens_end text = ends_from (length text) 0 text (omega arith)

-- ---- characters

-- what each token holds of the characters, of which the first stands at this place
abbrev pub HoldNone : ℕ → List ℕ → List Frag → Type 0
HoldNone place cs ts = AllByRecursion (λ token. NonePass is_whitespace (take (token.end - token.start) (drop (token.start - place) cs))) ts

-- the characters of a token that starts behind the first are those of the rest
held_behind : (place start end c : ℕ) (cs : List ℕ) → place + 1 ≤ start → take (end - start) (drop (start - place) (c ∷ cs)) ≡ take (end - start) (drop (start - (place + 1)) cs)
held_behind place start end c cs h =
    let one : start - place ≡ suc (start - (place + 1)) = omega arith in
    ap (λ n. take (end - start) (drop n (c ∷ cs))) one

single : (place c : ℕ) (cs : List ℕ) → is_whitespace c ≡ false → NonePass is_whitespace (take (place + 1 - place) (drop (place - place) (c ∷ cs)))
single place c cs other =
    let one : place + 1 - place ≡ 1 = omega arith in
    let none : place - place ≡ 0 = omega arith in
    subst (λ n. NonePass is_whitespace (take n (drop (place - place) (c ∷ cs)))) (sym one)
    (subst (λ n. NonePass is_whitespace (take 1 (drop n (c ∷ cs)))) (sym none) (other, tt))

longer : (place c : ℕ) (cs : List ℕ) (t : Frag) → is_whitespace c ≡ false → t.start < t.end → t.start ≡ place + 1
    → NonePass is_whitespace (take (t.end - t.start) (drop (t.start - (place + 1)) cs)) → NonePass is_whitespace (take (t.end - place) (drop (place - place) (c ∷ cs)))
longer place c cs t other some same h =
    let count : t.end - place ≡ suc (t.end - t.start) = omega arith in
    let none : place - place ≡ 0 = omega arith in
    let from : t.start - (place + 1) ≡ 0 = omega arith in
    subst (λ n. NonePass is_whitespace (take n (drop (place - place) (c ∷ cs)))) (sym count)
    (subst (λ n. NonePass is_whitespace (take (suc (t.end - t.start)) (drop n (c ∷ cs)))) (sym none)
    (other, subst (λ n. NonePass is_whitespace (take (t.end - t.start) (drop n cs))) from h))

hold_more : (place c : ℕ) (cs : List ℕ) (ts : List Frag) → Rising (place + 1) ts → HoldNone (place + 1) cs ts → HoldNone place (c ∷ cs) ts
hold_more place c cs [] r h = tt
hold_more place c cs (t ∷ ts) r h =
    (subst (NonePass is_whitespace) (sym (held_behind place t.start t.end c cs r.0)) h.0, hold_more place c cs ts (rising_lower (place + 1) t.end ts (omega (arith, r.0, r.1)) r.2) h.1)

joined_hold : (place c : ℕ) (cs : List ℕ) (ts : List Frag) → is_whitespace c ≡ false → Rising (place + 1) ts → HoldNone (place + 1) cs ts → HoldNone place (c ∷ cs) (join_run place (place + 1) ts)
joined_hold place c cs [] other r h = (single place c cs other, tt)
joined_hold place c cs (t ∷ ts) other r h =
    cond_both (t.start == place + 1) (record { start = place; end = t.end } ∷ ts) (record { start = place; end = place + 1 } ∷ t ∷ ts) (HoldNone place (c ∷ cs))
    (λ same. (longer place c cs t other r.1 (eqb-true t.start (place + 1) same) h.0, hold_more place c cs ts (rising_lower (place + 1) t.end ts (omega (arith, r.0, r.1)) r.2) h.1))
    (λ _. (single place c cs other, hold_more place c cs (t ∷ ts) r h))

hold_from : (place : ℕ) (cs : List ℕ) → HoldNone place cs (tokens_from place cs)
hold_from place [] = tt
hold_from place (c ∷ cs) =
    let rest : HoldNone (place + 1) cs (tokens_from (place + 1) cs) = hold_from (place + 1) cs in
    cond_both (is_whitespace c) (tokens_from (place + 1) cs) (join_run place (place + 1) (tokens_from (place + 1) cs)) (HoldNone place (c ∷ cs))
    (λ _. hold_more place c cs (tokens_from (place + 1) cs) (rising_from (place + 1) cs) rest)
    (λ other. joined_hold place c cs (tokens_from (place + 1) cs) other (rising_from (place + 1) cs) rest)

hold_here : (text : List ℕ) (ts : List Frag) → HoldNone 0 text ts → AllByRecursion (λ token. NonePass is_whitespace (covered text token)) ts
hold_here text [] h = tt
hold_here text (t ∷ ts) h =
    let from : t.start - 0 ≡ t.start = omega arith in
    (subst (λ n. NonePass is_whitespace (take (t.end - t.start) (drop n text))) from h.0, hold_here text ts h.1)

-- no white space stands in a token
pub tokens_hold : (text : List ℕ) → AllByRecursion (λ token. NonePass is_whitespace (covered text token)) (tokens_of text)
unfolding tokens_of
tokens_hold text = hold_here text (tokens_from 0 text) (hold_from 0 text)
