-- The state behind one more change, what a step that makes something happen has passed, the places of a history, and its fronts.
use Rattle.std.proofs.Common.{◌≡◌, ℕ, ◌+◌, ◌-◌, ◌<◌, ◌≤◌, ◌^◌, Bool, true, false, List, [], ◌∷◌, ◌++◌, length, take, nat_lt, Option, Some, None, zero, suc, refl, sym, ◌∙◌, ap, subst, arith, length-append, inl, inr, if◌then◌else◌}
use Rattle.std.proofs.lemmas.List.{take-append-le}
use Rattle.std.proofs.lemmas.Bool.{cases_lt, ltb-false}
use Rattle.project_machine.specs.declared.book_refusal.BookRefusal.{BookRefusal}
use Rattle.project_machine.specs.ProjectState.{ProjectState}
use Rattle.project_machine.specs.Requests.{Asked, ReadConf, ListDocs, ReadText, AddText, Checkout, TakeOver, Commit, Park, Finish, ReadLayer, Reopen, Ignore, Readmit, Snap, TakeSnapshot, Decide, Undecide, ReadPairs, ReadAlpha, ReadReport, Answered, Happened, AllFreed}
use Rattle.project_machine.specs.Machine.{Step, step, refusal, refused, reply, change, unless, bounded, size_in}
use Rattle.project_machine.specs.History.{after, after_places, numbered_from, begin, effect, last, place_behind, unfounded, upto}
use Rattle.project_machine.specs.Legal.{HasRoom, IsLegal, legal_founding, legal_restored, legal_step, legal_freeing}

after_more_from : (s : ProjectState) (before : ℕ) (log : List Happened) (e : Happened) → s.place ≡ before
    → after_places s (numbered_from before (log ++ e ∷ [])) ≡ effect (place_behind e (after_places s (numbered_from before log)).place) e (after_places s (numbered_from before log))
after_more_from s before [] e same = ap (λ n. effect (place_behind e n) e s) (sym same)
after_more_from s before (x ∷ xs) e same = after_more_from (effect (place_behind x before) x s) (place_behind x before) xs e refl

-- the state behind one more change
pub after_more : (log : List Happened) (e : Happened) → after (log ++ e ∷ []) ≡ effect (place_behind e (after log).place) e (after log)
after_more log e = after_more_from unfounded 0 log e refl

none_some : (x : Happened) → None ≡ Some x → ⊥
none_some x e = cc

-- what a change whose length is tested tells
abbrev Fits : ProjectState → Option Happened → Happened → Type 0
Fits s c e = (c ≡ Some e) × (size_in s e ≤ 16777216)

fits_by : (s : ProjectState) (asked : Asked) (answer : Answered) (h e : Happened) (long : Bool) (r : BookRefusal) → nat_lt 16777216 (size_in s h) ≡ long
    → (if long then refused s asked r else (let granted : Step = record { answer = answer; change = Some h } in granted)).change ≡ Some e → Fits s (Some h) e
fits_by s asked answer h e true r is made = absurd (none_some e made)
fits_by s asked answer h e false r is made =
    let same : h ≡ e = cc in
    (made, subst (λ x. size_in s x ≤ 16777216) same (ltb-false 16777216 (size_in s h) is))

fits : (s : ProjectState) (asked : Asked) (answer : Answered) (c : Option Happened) (e : Happened) → (bounded s asked answer c).change ≡ Some e → Fits s c e
fits s asked answer None e is = absurd (none_some e is)
fits s asked answer (Some h) e is = fits_by s asked answer h e (nat_lt 16777216 (size_in s h)) _ refl is

not_refused : (s : ProjectState) (asked : Asked) (o : Option BookRefusal) (answer : Answered) (c : Option Happened) (e : Happened) → (unless s asked o answer c).change ≡ Some e → (o ≡ None) × Fits s c e
not_refused s asked (Some refusal) answer c e is = absurd (none_some e is)
not_refused s asked None answer c e is = (refl, fits s asked answer c e is)

-- a step that makes something happen is not refused, makes happen what the request asks for, and its entry is short enough
pub record IsGranted (s : ProjectState) (caller : List ℕ) (asked : Asked) (e : Happened) : Type 0 where
  pub free : refusal s caller asked ≡ None
  pub made : change s caller asked ≡ Some e
  pub short : size_in s e ≤ 16777216

pub granted : (s : ProjectState) (caller : List ℕ) (asked : Asked) (e : Happened) → (step s caller asked).change ≡ Some e → IsGranted s caller asked e
granted s caller asked e is =
    let told : (refusal s caller asked ≡ None) × Fits s (change s caller asked) e = not_refused s asked (refusal s caller asked) (reply s caller asked) (change s caller asked) e is in
    record { free = told.0; made = told.1.0; short = told.1.1 }

next : Option Happened → ℕ → ℕ
next None n = n + 1
next (Some e) n = place_behind e n

change_next : (s : ProjectState) (caller : List ℕ) (asked : Asked) (n : ℕ) → next (change s caller asked) n ≡ n + 1
unfolding next
change_next s caller ReadConf n = refl
change_next s caller ListDocs n = refl
change_next s caller (ReadText name) n = refl
change_next s caller (AddText name text) n = refl
change_next s caller (Checkout name) n = refl
change_next s caller (TakeOver name) n = refl
change_next s caller (Commit name hold layer) n = refl
change_next s caller (Park name hold done undone) n = refl
change_next s caller (Finish name) n = refl
change_next s caller (ReadLayer name who) n = refl
change_next s caller (Reopen name who) n = refl
change_next s caller (Ignore name who) n = refl
change_next s caller (Readmit name who) n = refl
change_next s caller (Snap name) n = refl
change_next s caller (TakeSnapshot number) n = refl
change_next s caller (Decide number holder id verdict) n = refl
change_next s caller (Undecide number holder id) n = refl
change_next s caller ReadPairs n = refl
change_next s caller ReadAlpha n = refl
change_next s caller (ReadReport report) n = refl

-- what a step makes happen stands at the next place
pub step_next : (s : ProjectState) (caller : List ℕ) (asked : Asked) (e : Happened) (n : ℕ) → (step s caller asked).change ≡ Some e → place_behind e n ≡ n + 1
unfolding next
step_next s caller asked e n is =
    ap (λ c. next c n) (sym (granted s caller asked e is).made) ∙ change_next s caller asked n

begin_push : (log : List Happened) (e : Happened) → 0 < length log → begin (log ++ e ∷ []) ≡ begin log
begin_push [] e h = absurd (omega arith)
begin_push (x ∷ log) e h = refl

pub length_push : (log : List Happened) (e : Happened) → length (log ++ e ∷ []) ≡ length log + 1
length_push log e = omega (arith, length-append log (e ∷ []))

last_push : (log : List Happened) (e : Happened) → 0 < length log → last (log ++ e ∷ []) ≡ last log + 1
last_push log e h =
    let first : begin (log ++ e ∷ []) ≡ begin log = begin_push log e h in
    let more : length (log ++ e ∷ []) ≡ length log + 1 = length_push log e in
    omega arith

pub legal_some : (log : List Happened) → IsLegal log → 0 < length log
legal_some _ (legal_founding conf level people is) = omega arith
legal_some _ (legal_restored state sound) = omega arith
legal_some _ (legal_step log caller asked e l typed is) = let more : length (log ++ e ∷ []) ≡ length log + 1 = length_push log e in omega arith
legal_some _ (legal_freeing log l is) = let more : length (log ++ AllFreed ∷ []) ≡ length log + 1 = length_push log AllFreed in omega arith

-- the state behind a history stands at its last place
pub place_last : (log : List Happened) → IsLegal log → (after log).place ≡ last log
place_last _ (legal_founding conf level people is) = refl
place_last _ (legal_restored state sound) = let low : 0 < state.place = sound.placed in omega arith
place_last _ (legal_step log caller asked e l typed is) =
    ap (λ (s : ProjectState). s.place) (after_more log e) ∙ step_next (after log) caller asked e (after log).place is
    ∙ ap (λ n. n + 1) (place_last log l) ∙ sym (last_push log e (legal_some log l))
place_last _ (legal_freeing log l is) =
    ap (λ (s : ProjectState). s.place) (after_more log AllFreed) ∙ ap (λ n. n + 1) (place_last log l) ∙ sym (last_push log AllFreed (legal_some log l))

take_one : (n : ℕ) (e : Happened) → 0 < n → take n (e ∷ []) ≡ e ∷ []
take_one zero e h = absurd (omega arith)
take_one (suc zero) e h = refl
take_one (suc (suc n)) e h = refl

take_all : (n : ℕ) (log : List Happened) → length log ≤ n → take n log ≡ log
take_all zero [] h = refl
take_all (suc n) [] h = refl
take_all zero (e ∷ log) h = absurd (omega arith)
take_all (suc n) (e ∷ log) h = ap (λ rest. e ∷ rest) (take_all n log (omega arith))

front_more : (n : ℕ) (log : List Happened) (e : Happened) → IsLegal (log ++ e ∷ []) → (0 < n → IsLegal (take n log)) → 0 < n → IsLegal (take n (log ++ e ∷ []))
front_more n log e whole front h =
    elim (cases_lt (length log) n) as (λ _. IsLegal (take n (log ++ e ∷ []))) [
      | inl past ↦ subst IsLegal (sym (take_all n (log ++ e ∷ []) (let more : length (log ++ e ∷ []) ≡ length log + 1 = length_push log e in omega arith))) whole
      | inr within ↦ subst IsLegal (sym (take-append-le n log (e ∷ []) within)) (front h)
    ]

-- each front of a history that is not empty is one
pub front_legal : (n : ℕ) (log : List Happened) → IsLegal log → 0 < n → IsLegal (take n log)
front_legal n _ (legal_founding conf level people is) h = subst IsLegal (sym (take_one n _ h)) (legal_founding conf level people is)
front_legal n _ (legal_restored state sound) h = subst IsLegal (sym (take_one n _ h)) (legal_restored state sound)
front_legal n _ (legal_step log caller asked e l typed is) h = front_more n log e (legal_step log caller asked e l typed is) (λ some. front_legal n log l some) h
front_legal n _ (legal_freeing log l is) h = front_more n log AllFreed (legal_freeing log l is) (λ some. front_legal n log l some) h

-- ---- places of a longer history, and of a front

pub begin_more : (log more : List Happened) → 0 < length log → begin (log ++ more) ≡ begin log
begin_more [] more h = absurd (omega arith)
begin_more (x ∷ log) more h = refl

-- up to its last place a longer history is the one that it goes on from
pub upto_last : (log more : List Happened) → 0 < length log → upto (last log) (log ++ more) ≡ log
upto_last log more h =
    let size : last log - begin (log ++ more) ≡ length log = (let same : begin (log ++ more) ≡ begin log = begin_more log more h in omega arith) in
    ap (λ n. take n (log ++ more)) size ∙ (take-append-le (length log) log more (omega arith) ∙ take_all (length log) log (omega arith))

length_take : (n : ℕ) (log : List Happened) → n ≤ length log → length (take n log) ≡ n
length_take zero log h = refl
length_take (suc n) [] h = absurd (omega arith)
length_take (suc n) (x ∷ log) h = (let less : length (take n log) ≡ n = length_take n log (omega arith) in omega arith)

begin_take : (n : ℕ) (log : List Happened) → 0 < n → begin (take n log) ≡ begin log
begin_take zero log h = absurd (omega arith)
begin_take (suc n) [] h = refl
begin_take (suc n) (x ∷ log) h = refl

-- up to a place a history ends there
pub last_upto : (log : List Happened) (place : ℕ) → begin log < place → place ≤ last log → last (upto place log) ≡ place
last_upto log place low high =
    let first : begin (upto place log) ≡ begin log = begin_take (place - begin log) log (omega arith) in
    let size : length (upto place log) ≡ place - begin log = length_take (place - begin log) log (omega arith) in
    omega arith

-- a history begins below the greatest place that a restored state can have
begin_low : (log : List Happened) → IsLegal log → begin log < 2 ^ 62
begin_low _ (legal_founding conf level people is) = omega arith
begin_low _ (legal_restored state sound) = let some : 0 < state.place = sound.placed in let low : state.place ≤ 2 ^ 62 = sound.low in omega arith
begin_low _ (legal_step log caller asked e l typed is) = subst (λ n. n < 2 ^ 62) (sym (begin_more log (e ∷ []) (legal_some log l))) (begin_low log l)
begin_low _ (legal_freeing log l is) = subst (λ n. n < 2 ^ 62) (sym (begin_more log (AllFreed ∷ []) (legal_some log l))) (begin_low log l)

-- every place of a history that has room is one of 63 bits
pub last_low : (log : List Happened) → IsLegal log → HasRoom log → last log < 2 ^ 63
last_low log l room =
    let first : begin log < 2 ^ 62 = begin_low log l in
    let size : length log ≤ 2 ^ 62 = room in
    omega arith
