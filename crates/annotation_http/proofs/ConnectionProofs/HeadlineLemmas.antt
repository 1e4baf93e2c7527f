-- Where the answers of a step come from: a rule, an entry that is too long, or the reply to the request.
use Rattle.std.proofs.Common.{◌≡◌, ◌⊎◌, ℕ, ◌<◌, Bool, true, false, List, Option, Some, None, nat_lt, refl, sym, ◌∙◌, ap, subst, inl, inr, if◌then◌else◌}
use Rattle.std.proofs.lemmas.Bool.{cases_lt, le-ltb, lt-ltb}
use Rattle.kappa_alpha.specs.declared.figures.AlphaLine.{AlphaLine}
use Rattle.kappa_alpha.specs.declared.figures.PairLine.{PairLine}
use Rattle.project_machine.specs.declared.book_refusal.BookRefusal.{BookRefusal}
use Rattle.project_machine.specs.declared.book_refusal.BookRefusal.TheVariants as no
use Rattle.project_machine.specs.Legal.{LayersObey}
use Rattle.project_machine.specs.Machine.{Step, change, of_text, refusal, refused, reply, size_in, step, unless}
use Rattle.project_machine.specs.ProjectState.{ProjectState, annotators}
use Rattle.project_machine.specs.Requests.{Asked, ReadConf, ListDocs, ReadText, AddText, Checkout, TakeOver, Commit, Park, Finish, ReadLayer, Reopen, Ignore, Readmit, Snap, TakeSnapshot, Decide, Undecide, ReadPairs, ReadAlpha, ReadReport, Answered, Pairs, Alpha, Refused, Happened}
use Rattle.project_machine.specs.Tables.{all_line, pair_lines}
use Rattle.annotation_http.specs.Connection.Headline.{IsRuled, IsTooLong, IsTrustworthy}

-- an answer is a refusal that has its rule, or the reply
data Came (s : ProjectState) (caller : List ℕ) (asked : Asked) (told : Answered) : Type 0 where
  is_refused : (r : BookRefusal) → told ≡ Refused r (of_text s asked r) → (refusal s caller asked ≡ Some r) ⊎ IsTooLong s caller asked r → Came s caller asked told
  is_replied : told ≡ reply s caller asked → Came s caller asked told

bounded_came : (s : ProjectState) (caller : List ℕ) (asked : Asked) (e : Happened) (told : Answered) → refusal s caller asked ≡ None
    → (if nat_lt 16777216 (size_in s e) then refused s asked (no.EntryTooLong (size_in s e)) else record { answer = reply s caller asked; change = Some e }).answer ≡ told → Came s caller asked told
bounded_came s caller asked e told allowed is =
    let chosen : Bool → Step = λ long. if long then refused s asked (no.EntryTooLong (size_in s e)) else record { answer = reply s caller asked; change = Some e } in
    elim (cases_lt 16777216 (size_in s e)) [
      | inl lt ↦ is_refused (no.EntryTooLong (size_in s e)) (sym is ∙ ap (λ (b : Bool). (chosen b).answer) (lt-ltb 16777216 (size_in s e) lt)) (inr (record { allowed = allowed; happened = e; size = refl; long = lt }))
      | inr le ↦ is_replied (sym is ∙ ap (λ (b : Bool). (chosen b).answer) (le-ltb 16777216 (size_in s e) le))
    ]

unless_came : (s : ProjectState) (caller : List ℕ) (asked : Asked) (o : Option BookRefusal) (c : Option Happened) (told : Answered) → refusal s caller asked ≡ o
    → (unless s asked o (reply s caller asked) c).answer ≡ told → Came s caller asked told
unless_came s caller asked (Some r) c told by is = is_refused r (sym is) (inl by)
unless_came s caller asked None None told by is = is_replied (sym is)
unless_came s caller asked None (Some e) told by is = bounded_came s caller asked e told by is

step_came : (s : ProjectState) (caller : List ℕ) (asked : Asked) (told : Answered) → (step s caller asked).answer ≡ told → Came s caller asked told
step_came s caller asked told is = unless_came s caller asked (refusal s caller asked) (change s caller asked) told refl is

-- ---- no reply is a refusal, and only the two requests for tables are replied to with one

reply_refuses : (s : ProjectState) (caller : List ℕ) (asked : Asked) (told : BookRefusal) (named : List ℕ) → Refused told named ≡ reply s caller asked → ⊥
reply_refuses s caller ReadConf told named is = cc
reply_refuses s caller ListDocs told named is = cc
reply_refuses s caller (ReadText name) told named is = cc
reply_refuses s caller (AddText name text) told named is = cc
reply_refuses s caller (Checkout name) told named is = cc
reply_refuses s caller (TakeOver name) told named is = cc
reply_refuses s caller (Commit name hold layer) told named is = cc
reply_refuses s caller (Park name hold done undone) told named is = cc
reply_refuses s caller (Finish name) told named is = cc
reply_refuses s caller (ReadLayer name who) told named is = cc
reply_refuses s caller (Reopen name who) told named is = cc
reply_refuses s caller (Ignore name who) told named is = cc
reply_refuses s caller (Readmit name who) told named is = cc
reply_refuses s caller (Snap name) told named is = cc
reply_refuses s caller (TakeSnapshot number) told named is = cc
reply_refuses s caller (Decide number holder id verdict) told named is = cc
reply_refuses s caller (Undecide number holder id) told named is = cc
reply_refuses s caller ReadPairs told named is = cc
reply_refuses s caller ReadAlpha told named is = cc
reply_refuses s caller (ReadReport report) told named is = cc

reply_pairs : (s : ProjectState) (caller : List ℕ) (asked : Asked) (names : List (List ℕ)) (lines : List PairLine) → Pairs names lines ≡ reply s caller asked → (names ≡ annotators s) × (lines ≡ pair_lines s)
reply_pairs s caller ReadConf names lines is = absurd cc
reply_pairs s caller ListDocs names lines is = absurd cc
reply_pairs s caller (ReadText name) names lines is = absurd cc
reply_pairs s caller (AddText name text) names lines is = absurd cc
reply_pairs s caller (Checkout name) names lines is = absurd cc
reply_pairs s caller (TakeOver name) names lines is = absurd cc
reply_pairs s caller (Commit name hold layer) names lines is = absurd cc
reply_pairs s caller (Park name hold done undone) names lines is = absurd cc
reply_pairs s caller (Finish name) names lines is = absurd cc
reply_pairs s caller (ReadLayer name who) names lines is = absurd cc
reply_pairs s caller (Reopen name who) names lines is = absurd cc
reply_pairs s caller (Ignore name who) names lines is = absurd cc
reply_pairs s caller (Readmit name who) names lines is = absurd cc
reply_pairs s caller (Snap name) names lines is = absurd cc
reply_pairs s caller (TakeSnapshot number) names lines is = absurd cc
reply_pairs s caller (Decide number holder id verdict) names lines is = absurd cc
reply_pairs s caller (Undecide number holder id) names lines is = absurd cc
reply_pairs s caller ReadPairs names lines is = (let f : Pairs names lines ≡ Pairs (annotators s) (pair_lines s) = is in (cc, cc))
reply_pairs s caller ReadAlpha names lines is = absurd cc
reply_pairs s caller (ReadReport report) names lines is = absurd cc

reply_alpha : (s : ProjectState) (caller : List ℕ) (asked : Asked) (line : AlphaLine) → Alpha line ≡ reply s caller asked → line ≡ all_line s
reply_alpha s caller ReadConf line is = absurd cc
reply_alpha s caller ListDocs line is = absurd cc
reply_alpha s caller (ReadText name) line is = absurd cc
reply_alpha s caller (AddText name text) line is = absurd cc
reply_alpha s caller (Checkout name) line is = absurd cc
reply_alpha s caller (TakeOver name) line is = absurd cc
reply_alpha s caller (Commit name hold layer) line is = absurd cc
reply_alpha s caller (Park name hold done undone) line is = absurd cc
reply_alpha s caller (Finish name) line is = absurd cc
reply_alpha s caller (ReadLayer name who) line is = absurd cc
reply_alpha s caller (Reopen name who) line is = absurd cc
reply_alpha s caller (Ignore name who) line is = absurd cc
reply_alpha s caller (Readmit name who) line is = absurd cc
reply_alpha s caller (Snap name) line is = absurd cc
reply_alpha s caller (TakeSnapshot number) line is = absurd cc
reply_alpha s caller (Decide number holder id verdict) line is = absurd cc
reply_alpha s caller (Undecide number holder id) line is = absurd cc
reply_alpha s caller ReadPairs line is = absurd cc
reply_alpha s caller ReadAlpha line is = (let f : Alpha line ≡ Alpha (all_line s) = is in cc)
reply_alpha s caller (ReadReport report) line is = absurd cc

-- ---- what stands at a place

pairs_counted : (s : ProjectState) (caller : List ℕ) (asked : Asked) (names : List (List ℕ)) (lines : List PairLine) → Came s caller asked (Pairs names lines) → (names ≡ annotators s) × (lines ≡ pair_lines s)
pairs_counted s caller asked names lines (is_refused r is why) = absurd (let f : Pairs names lines ≡ Refused r (of_text s asked r) = is in cc)
pairs_counted s caller asked names lines (is_replied is) = reply_pairs s caller asked names lines is

alpha_counted : (s : ProjectState) (caller : List ℕ) (asked : Asked) (line : AlphaLine) → Came s caller asked (Alpha line) → line ≡ all_line s
alpha_counted s caller asked line (is_refused r is why) = absurd (let f : Alpha line ≡ Refused r (of_text s asked r) = is in cc)
alpha_counted s caller asked line (is_replied is) = reply_alpha s caller asked line is

ruled : (s : ProjectState) (caller : List ℕ) (asked : Asked) (told : BookRefusal) (named : List ℕ) → Came s caller asked (Refused told named) → IsRuled s caller asked told named
ruled s caller asked told named (is_refused r is why) =
    let same : r ≡ told = (let f : Refused told named ≡ Refused r (of_text s asked r) = is in cc) in
    let names : named ≡ of_text s asked r = (let f : Refused told named ≡ Refused r (of_text s asked r) = is in cc) in
    subst (λ (x : BookRefusal). IsRuled s caller asked x named) same (record { rule = why; names = names })
ruled s caller asked told named (is_replied is) = absurd (reply_refuses s caller asked told named is)

pub trustworthy : (s : ProjectState) → LayersObey s → IsTrustworthy s
trustworthy s obey = record {
  layers_obey = obey;
  tables = record {
    pairs = λ caller asked names lines is. pairs_counted s caller asked names lines (step_came s caller asked (Pairs names lines) is);
    alpha = λ caller asked line is. alpha_counted s caller asked line (step_came s caller asked (Alpha line) is);
  };
  refusals = λ caller asked told named is. ruled s caller asked told named (step_came s caller asked (Refused told named) is);
}
