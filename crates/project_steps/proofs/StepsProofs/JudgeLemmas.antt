-- What the parts of a judgement make of a step.
use Rattle.std.proofs.Common.{◌≡◌, ℕ, ◌+◌, ◌<◌, ◌≤◌, ◌||◌, Bool, true, false, not, List, [], ◌∷◌, length, nat_lt, Option, Some, None, IfSome, option_map, refl, sym, ◌∙◌, ap, subst, arith, if◌then◌else◌}
use Rattle.std.specs.Prelude.{Result, Ok, Err, IfOk}
use Rattle.std.specs.Option.{option_or}
use Rattle.std.proofs.lemmas.Bool.{le-ltb, lt-ltb}
use Rattle.entry_bytes.specs.Entries.{entry_bytes}
use Rattle.project_machine.specs.declared.book_refusal.BookRefusal.{BookRefusal}
use Rattle.project_machine.specs.declared.book_refusal.BookRefusal.TheVariants as no
use Rattle.project_machine.specs.declared.book_refusal.Policy.TheVariants as policy
use Rattle.project_machine.specs.ProjectState.{ProjectState, is_annotator, is_curator}
use Rattle.project_machine.specs.Requests.{Asked, Answered, Refused, Happened}
use Rattle.project_machine.specs.Entries.{entry_of}
use Rattle.project_machine.specs.Machine.{Step, bounded, change, first_of, of_text, policies, refusal, refused, reply, size_in, step, tests, unless, when}
use Rattle.project_machine.specs.History.{effect}
use Rattle.project_state.specs.declared.act.Act.{Act}
use Rattle.project_state.specs.Acting.{CanAct, FitsRows, performed}
use Rattle.project_state.specs.Values.{answer_of, happened_of}
use Rattle.project_state.specs.Tables.Tabling.{tabling_by, tabling_of}
use Rattle.project_steps.specs.declared.steps.judging.Judged.{Judged}
use Rattle.project_steps.specs.declared.steps.judging.Kept.{Kept}
use Rattle.project_steps.specs.declared.steps.accepted.Accepted.{Accepted}
use Rattle.project_steps.specs.declared.steps.accepted.Made.{Made}
use Rattle.project_steps.specs.Steps.Accepting.{Accepts, IsMade, made_happen}
use Rattle.project_state.specs.Entries.Writing.{CanBeEntered}
use Rattle.project_steps.specs.Steps.Judging.{CanBeMade, IsEntered, IsJudged, IsKeptChange, IsRefused, decided_number, kept_happens}

none_some : {X : Type 0} (x : X) → None ≡ Some x → ⊥
none_some x e = cc

some_happened : (a b : Happened) → Some a ≡ Some b → a ≡ b
some_happened a b e = cc

-- who is refused, and what is refused
pub caller_refused : (s : ProjectState) (caller : List ℕ) (asked : Asked) (r : BookRefusal)
    → Some r ≡ option_or (when (not (is_annotator s caller || is_curator s caller)) (no.NotAllowed policy.Roster)) (policies s caller asked) → refusal s caller asked ≡ Some r
caller_refused s caller asked r e = by (when (not (is_annotator s caller || is_curator s caller)) (no.NotAllowed policy.Roster)) (policies s caller asked) (first_of (tests s caller asked)) (sym e)
  where
    by : (a b c : Option BookRefusal) → option_or a b ≡ Some r → option_or a (option_or b c) ≡ Some r
    by None None c is = absurd (none_some r is)
    by None (Some x) c is = is
    by (Some x) b c is = is

pub caller_free : (s : ProjectState) (caller : List ℕ) (asked : Asked)
    → None ≡ option_or (when (not (is_annotator s caller || is_curator s caller)) (no.NotAllowed policy.Roster)) (policies s caller asked)
    → (policies s caller asked ≡ None) × (refusal s caller asked ≡ first_of (tests s caller asked))
caller_free s caller asked e = by (when (not (is_annotator s caller || is_curator s caller)) (no.NotAllowed policy.Roster)) (policies s caller asked) (first_of (tests s caller asked)) (sym e)
  where
    by : (a b c : Option BookRefusal) → option_or a b ≡ None → (b ≡ None) × (option_or a (option_or b c) ≡ c)
    by None None c is = (refl, refl)
    by None (Some x) c is = absurd (none_some x (sym is))
    by (Some x) b c is = absurd (none_some x (sym is))

-- a refusal is the step
pub judged_refused : (s : ProjectState) (caller : List ℕ) (asked : Asked) (r : BookRefusal) (judged : Judged) → refusal s caller asked ≡ Some r → IsRefused s (decided_number asked) r judged → IsJudged s caller asked judged
judged_refused s caller asked r judged is told =
    let stepped : step s caller asked ≡ refused s asked r = ap (λ (o : Option BookRefusal). unless s asked o (reply s caller asked) (change s caller asked)) is in
    record {
      answer = told.answer asked refl ∙ ap (λ (t : Step). t.answer) (sym stepped);
      change = ap (λ (o : Option Kept). option_map kept_happens o) told.none ∙ ap (λ (t : Step). t.change) (sym stepped);
      kept = subst (λ (o : Option Kept). IfSome o (IsKeptChange s)) (sym told.none) tt;
    }

-- an acceptance that makes nothing happen is the step
pub judged_read : (s : ProjectState) (caller : List ℕ) (asked : Asked) (accepted : Accepted) (judged : Judged) → refusal s caller asked ≡ None → Accepts s caller asked accepted → accepted.made ≡ None
    → judged.reply ≡ accepted.reply → judged.kept ≡ None → IsJudged s caller asked judged
judged_read s caller asked accepted judged free is nothing same none =
    let none_changed : change s caller asked ≡ None = sym is.change ∙ ap (λ (o : Option Made). option_map made_happen o) nothing in
    let answered : answer_of judged.reply ≡ reply s caller asked = ap answer_of same ∙ is.answer in
    let stepped = ap (λ (o : Option BookRefusal). unless s asked o (reply s caller asked) (change s caller asked)) free ∙ ap (λ (o : Option Happened). bounded s asked (reply s caller asked) o) none_changed in
    record {
      answer = answered ∙ ap (λ (t : Step). t.answer) (sym stepped);
      change = ap (λ (o : Option Kept). option_map kept_happens o) none ∙ ap (λ (t : Step). t.change) (sym stepped);
      kept = subst (λ (o : Option Kept). IfSome o (IsKeptChange s)) (sym none) tt;
    }

bounded_long : (s : ProjectState) (asked : Asked) (answer : Answered) (h : Happened) → 16777216 < size_in s h → bounded s asked answer (Some h) ≡ refused s asked (no.EntryTooLong (size_in s h))
bounded_long s asked answer h long =
    ap (λ (b : Bool). if b then refused s asked (no.EntryTooLong (size_in s h)) else (let granted : Step = record { answer = answer; change = Some h } in granted)) (lt-ltb 16777216 (size_in s h) long)

bounded_short : (s : ProjectState) (asked : Asked) (answer : Answered) (h : Happened) → size_in s h ≤ 16777216 → (bounded s asked answer (Some h)).answer ≡ answer × (bounded s asked answer (Some h)).change ≡ Some h
bounded_short s asked answer h short =
    let is = ap (λ (b : Bool). if b then refused s asked (no.EntryTooLong (size_in s h)) else (let granted : Step = record { answer = answer; change = Some h } in granted)) (le-ltb 16777216 (size_in s h) short) in
    (ap (λ (t : Step). t.answer) is, ap (λ (t : Step). t.change) is)

-- an acceptance that makes something happen is the step where its entry is short enough, and else a refusal is
granted_step : (s : ProjectState) (caller : List ℕ) (asked : Asked) (accepted : Accepted) (made : Made) → refusal s caller asked ≡ None → Accepts s caller asked accepted → accepted.made ≡ Some made
    → step s caller asked ≡ bounded s asked (reply s caller asked) (Some (made_happen made))
granted_step s caller asked accepted made free is same =
    ap (λ (o : Option BookRefusal). unless s asked o (reply s caller asked) (change s caller asked)) free
    ∙ ap (λ (o : Option Happened). bounded s asked (reply s caller asked) o) (sym is.change ∙ ap (λ (o : Option Made). option_map made_happen o) same)

pub judged_long : (s : ProjectState) (caller : List ℕ) (asked : Asked) (accepted : Accepted) (made : Made) (judged : Judged) (bytes : ℕ) → refusal s caller asked ≡ None → Accepts s caller asked accepted → accepted.made ≡ Some made
    → bytes ≡ size_in s (made_happen made) → 16777216 < bytes → IsRefused s (decided_number asked) (no.EntryTooLong bytes) judged → IsJudged s caller asked judged
judged_long s caller asked accepted made judged bytes free is same size long told =
    let stepped : step s caller asked ≡ refused s asked (no.EntryTooLong bytes) =
    granted_step s caller asked accepted made free is same ∙ (bounded_long s asked (reply s caller asked) (made_happen made) (subst (λ (n : ℕ). 16777216 < n) size long)
    ∙ ap (λ (n : ℕ). refused s asked (no.EntryTooLong n)) (sym size)) in
    record {
      answer = told.answer asked refl ∙ ap (λ (t : Step). t.answer) (sym stepped);
      change = ap (λ (o : Option Kept). option_map kept_happens o) told.none ∙ ap (λ (t : Step). t.change) (sym stepped);
      kept = subst (λ (o : Option Kept). IfSome o (IsKeptChange s)) (sym told.none) tt;
    }

pub judged_made : (s : ProjectState) (caller : List ℕ) (asked : Asked) (accepted : Accepted) (made : Made) (judged : Judged) (kept : Kept) → refusal s caller asked ≡ None → Accepts s caller asked accepted → accepted.made ≡ Some made
    → judged.reply ≡ accepted.reply → judged.kept ≡ Some kept → kept.change ≡ made.change → kept.act ≡ made.act → kept.entry ≡ entry_bytes (entry_of s (made_happen made)) → length kept.entry ≤ 16777216 → IsJudged s caller asked judged
judged_made s caller asked accepted made judged kept free is same reply_is kept_is change_is act_is entry_is short =
    let made_is : IsMade s made = subst (λ (o : Option Made). IfSome o (IsMade s)) same is.made in
    let happens : kept_happens kept ≡ made_happen made = ap (λ c. happened_of c) change_is in
    let small : size_in s (made_happen made) ≤ 16777216 = subst (λ (bytes : List ℕ). length bytes ≤ 16777216) entry_is short in
    let stepped : step s caller asked ≡ bounded s asked (reply s caller asked) (Some (made_happen made)) = granted_step s caller asked accepted made free is same in
    let told = bounded_short s asked (reply s caller asked) (made_happen made) small in
    let one : IsKeptChange s kept = record {
      entry = entry_is ∙ ap (λ (h : Happened). entry_bytes (entry_of s h)) (sym happens);
      short = short;
      acts = ap (λ (done : Act). performed done s) act_is ∙ (made_is.acts ∙ ap (λ (h : Happened). effect (s.place + 1) h s) (sym happens));
      tables = ap (λ (done : Act). tabling_by s done) act_is ∙ (made_is.tables ∙ ap (λ (h : Happened). tabling_of s h) (sym happens));
      can = subst (λ (done : Act). CanAct done s) (sym act_is) made_is.can;
      fits = subst (λ (done : Act). FitsRows done s) (sym act_is) made_is.fits;
    } in
    record {
      answer = ap answer_of reply_is ∙ (is.answer ∙ (sym told.0 ∙ ap (λ (t : Step). t.answer) (sym stepped)));
      change = ap (λ (o : Option Kept). option_map kept_happens o) kept_is ∙ (ap (λ (h : Happened). Some h) happens ∙ (sym told.1 ∙ ap (λ (t : Step). t.change) (sym stepped)));
      kept = subst (λ (o : Option Kept). IfSome o (IsKeptChange s)) (sym kept_is) one;
    }

-- ---- the whole

-- a refusal that is told is the step
pub refusal_judges : {E : Type 0} (s : ProjectState) (caller : List ℕ) (asked : Asked) (decided : Option ℕ) (r : BookRefusal) (result : Result Judged E) → refusal s caller asked ≡ Some r → decided_number asked ≡ decided → IfOk result (IsRefused s decided r)
    → IfOk result (IsJudged s caller asked)
refusal_judges s caller asked decided r (Ok judged) is d told = judged_refused s caller asked r judged is (subst (λ (o : Option ℕ). IsRefused s o r judged) (sym d) told)
refusal_judges s caller asked decided r (Err fault) is d told = tt

-- what is entered is the step
pub acceptance_judges : {E : Type 0} (s : ProjectState) (caller : List ℕ) (asked : Asked) (decided : Option ℕ) (accepted : Accepted) (result : Result Judged E) → refusal s caller asked ≡ None → decided_number asked ≡ decided → Accepts s caller asked accepted
    → IfOk result (IsEntered s decided accepted) → IfOk result (IsJudged s caller asked)
acceptance_judges s caller asked decided accepted (Ok judged) free d is entered = entered caller asked d free is
acceptance_judges s caller asked decided accepted (Err fault) free d is entered = tt

-- what is accepted can be made
pub can_be_made : (s : ProjectState) (caller : List ℕ) (asked : Asked) (accepted : Accepted)
    → ((t : ProjectState) (who : List ℕ) (wish : Asked) (happened : Happened) → refusal t who wish ≡ None → change t who wish ≡ Some happened → CanBeEntered t happened) → refusal s caller asked ≡ None → Accepts s caller asked accepted → CanBeMade s accepted
can_be_made s caller asked accepted law free is = by accepted.made is.change
  where
    by : (o : Option Made) → option_map made_happen o ≡ change s caller asked → IfSome o (λ (made : Made). CanBeEntered s (made_happen made))
    by None e = tt
    by (Some made) e = law s caller asked (made_happen made) free (sym e)
