-- What a project answers can be shown.
use Rattle.std.proofs.Common.{◌≡◌, ℕ, zero, suc, ◌+◌, ◌-◌, ◌<◌, ◌≤◌, ◌==◌, ◌||◌, Bool, true, false, cond, List, [], ◌∷◌, ◌++◌, length, nat_lt, Option, Some, None, IfSome, refl, sym, ◌∙◌, subst, arith, length-append}
use Rattle.std.specs.List.{All, flat_map, range_with_len}
use Rattle.std.specs.Option.{option_to_list}
use Rattle.std.proofs.lemmas.Bool.{ltb-false, or_parts}
use Rattle.std.proofs.lemmas.List.{take-append-le, take_all}
use Rattle.std.proofs.lemmas.List.Elements.{All-append, All-cons, All-head, All-map, All-nil, All-tail}
use Rattle.conf_model.specs.Configurations.{Configuration}
use Rattle.layer_model.specs.Annotations.{Annotations}
use Rattle.layer_model.specs.Coherent.{IsCoherent}
use Rattle.layer_model.specs.Layers.{IsLayer}
use Rattle.layer_model.specs.declared.rule.Rule.{Rule}
use Rattle.layer_rules.specs.WellFormed.{IsWellFormed}
use Rattle.unanimous_merge.specs.Readings.{Reading, readings}
use Rattle.curator_decisions.specs.declared.decision_fault.DecisionFault.TheVariants.{Broken}
use Rattle.curator_decisions.specs.Curated.{curated}
use Rattle.curator_decisions.specs.DecisionFaults.{first_broken, item_fault, layer_fault, missing, needed}
use Rattle.kappa_alpha.specs.Figures.{Writable}
use Rattle.agreement_report.specs.Report.{IsShown}
use Rattle.project_machine.specs.declared.book_refusal.BookRefusal.{BookRefusal}
use Rattle.project_machine.specs.declared.book_refusal.BookRefusal.TheVariants as no
use Rattle.project_machine.specs.ProjectState.{ProjectState, Snapshot, annotators, no_snapshot, number_of, snapshot, text_of}
use Rattle.project_machine.specs.Requests.{Asked, ReadConf, ListDocs, ReadText, AddText, Checkout, TakeOver, Commit, Park, Finish, ReadLayer, Reopen, Ignore, Readmit, Snap, TakeSnapshot, Decide, Undecide, ReadPairs, ReadAlpha, ReadReport, Answered, Happened}
use Rattle.project_machine.specs.Machine.{Step, bounded, change, refusal, refused, reply, size_in, step, taken, unless, view_of}
use Rattle.project_machine.specs.Tables.{all_line, line_of_two, lines_of_one, pair_lines, standing_of}
use Rattle.project_machine.specs.History.{after}
use Rattle.project_machine.specs.Legal.{AreAccepted, IsAccepted, IsKept, IsLegal, IsSnapshotKept}
use Rattle.project_machine.specs.Asking.{IsStep, Visited, Visiting, is_not_kept, step_at, steps, wants_memory}
use Rattle.project_machine.proofs.HistoryLemmas.{front_legal, legal_some}
use Rattle.project_machine.proofs.KeptLemmas.{row_kept, tests_free, when_none}
use Rattle.project_machine.proofs.LegalLemmas.{names_annotator}
use Rattle.project_machine.proofs.RowLemmas.{Flawless, map_none, or_first, or_second, rule_obeys}
use Rattle.http_answers.specs.Answers.Answers.{CanBeShown, CanBeViewed}
use Rattle.annotation_http.proofs.AnswerLawsProofs.FigureLemmas.{alpha_can, kappa_can}
use Rattle.annotation_http.proofs.AnswerLawsProofs.FitLemmas.{standing_fits}

-- well-formed layers of a program cohere
abbrev pub Coherent : Type 0
Coherent = (conf : Configuration) (characters : ℕ) (layer : Annotations) → IsLayer layer → IsWellFormed conf characters layer → IsCoherent layer

-- ---- figures

in_range : (P : ℕ → Type 0) (first count : ℕ) → ((i : ℕ) → first ≤ i → i < first + count → P i) → All P (range_with_len first count)
in_range P first zero each = All-nil P
in_range P first (suc count) each =
    All-cons P first (range_with_len (first + 1) count) (each first (omega arith) (omega arith)) (in_range P (first + 1) count (λ i low high. each i (omega arith) (omega arith)))

all_flat : {X Y : Type 0} (P : Y → Type 0) (f : X → List Y) (xs : List X) → All (λ x. All P (f x)) xs → All P (flat_map f xs)
all_flat P f [] each = All-nil P
all_flat P f (x ∷ xs) each = All-append P (f x) (flat_map f xs) (All-head (λ y. All P (f y)) x xs each) (all_flat P f xs (All-tail (λ y. All P (f y)) x xs each))

line_shown : (s : ProjectState) (first second : ℕ) → IsKept s → first < length (annotators s) → second < length (annotators s) → IsShown (length (annotators s)) (line_of_two s first second)
line_shown s first second k first_in second_in = record { first_in = first_in; second_in = second_in; writable = kappa_can (standing_of s 0) first second (standing_fits s k) first_in second_in }

pub pairs_shown : (s : ProjectState) → IsKept s → All (IsShown (length (annotators s))) (pair_lines s)
pairs_shown s k =
    all_flat (IsShown (length (annotators s))) (lines_of_one s) (range_with_len 0 (length (annotators s)))
    (in_range (λ first. All (IsShown (length (annotators s))) (lines_of_one s first)) 0 (length (annotators s))
    (λ first low within. All-map (IsShown (length (annotators s))) (line_of_two s first) (range_with_len (first + 1) (length (annotators s) - first - 1))
    (in_range (λ second. IsShown (length (annotators s)) (line_of_two s first second)) (first + 1) (length (annotators s) - first - 1)
    (λ second behind inside. line_shown s first second k (omega arith) (omega arith)))))

pub alpha_shown : (s : ProjectState) → IsKept s → IfSome (all_line s).alpha (λ f. Writable f)
alpha_shown s k = alpha_can (standing_of s 0) (standing_fits s k)

-- ---- a layer

layer_shown : (s : ProjectState) (caller name who : List ℕ) → Flawless → IsKept s → refusal s caller (ReadLayer name who) ≡ None → CanBeShown (reply s caller (ReadLayer name who))
layer_shown s caller name who flawless k free =
    (row_kept s (number_of s name) who flawless k (names_annotator s name who _ (tests_free s caller (ReadLayer name who) free))).layer.obeys.well_formed

-- ---- a snapshot

curated_shown : (s : ProjectState) (shot : Snapshot) → Flawless → IsAccepted s shot → IsWellFormed s.conf (length (text_of s shot)) (curated (readings shot.holders) shot.verdicts)
curated_shown s shot flawless accepted =
    let layers : List Reading = readings shot.holders in
    let broken : first_broken s.conf (length (text_of s shot)) (curated layers shot.verdicts) ≡ None =
    map_none (λ (rule : Rule). Broken rule) (first_broken s.conf (length (text_of s shot)) (curated layers shot.verdicts))
    (or_second (needed (missing layers shot.verdicts)) (layer_fault s.conf (length (text_of s shot)) layers shot.verdicts) (or_second (item_fault layers shot.verdicts) _ accepted)) in
    (rule_obeys s.conf (length (text_of s shot)) (curated layers shot.verdicts) flawless broken).well_formed

view_shown : (s : ProjectState) (shot : Snapshot) → Flawless → Coherent → IsSnapshotKept s shot → IsAccepted s shot → CanBeViewed (view_of s shot)
view_shown s shot flawless cohere k accepted = record {
  listed = record {
    coherent = λ i held inside. cohere s.conf (length (text_of s shot)) _ (k.layers i held inside).typed.kept (k.layers i held inside).obeys.well_formed;
    layers = λ i held inside. (k.layers i held inside).obeys.well_formed;
  };
  curated = curated_shown s shot flawless accepted;
}

some_number : (n : ℕ) → (n == 0) ≡ false → 0 < n
some_number n e = grind (arith, e)

snapshot_shown : (s : ProjectState) (caller : List ℕ) (number : ℕ) → Flawless → Coherent → IsKept s → AreAccepted s → refusal s caller (TakeSnapshot number) ≡ None → CanBeShown (reply s caller (TakeSnapshot number))
snapshot_shown s caller number flawless cohere k are free =
    let parts : ((number == 0) ≡ false) × (nat_lt (length s.snapshots) number ≡ false) =
    or_parts _ _ (when_none (number == 0 || nat_lt (length s.snapshots) number) no.NoSnapshot (or_first (taken s number) None (tests_free s caller (TakeSnapshot number) free))) in
    let some : 0 < number = some_number number parts.0 in
    let most : number ≤ length s.snapshots = ltb-false (length s.snapshots) number parts.1 in
    view_shown s (snapshot s number) flawless cohere (k.snapshots (number - 1) no_snapshot (omega arith)) (are (number - 1) no_snapshot (omega arith))

-- ---- each request

reply_shown : (s : ProjectState) (caller : List ℕ) (asked : Asked) → Flawless → Coherent → IsKept s → AreAccepted s → refusal s caller asked ≡ None → CanBeShown (reply s caller asked)
reply_shown s caller ReadConf flawless cohere k are free = tt
reply_shown s caller ListDocs flawless cohere k are free = tt
reply_shown s caller (ReadText name) flawless cohere k are free = tt
reply_shown s caller (AddText name text) flawless cohere k are free = tt
reply_shown s caller (Checkout name) flawless cohere k are free = tt
reply_shown s caller (TakeOver name) flawless cohere k are free = tt
reply_shown s caller (Commit name hold layer) flawless cohere k are free = tt
reply_shown s caller (Park name hold done undone) flawless cohere k are free = tt
reply_shown s caller (Finish name) flawless cohere k are free = tt
reply_shown s caller (ReadLayer name who) flawless cohere k are free = layer_shown s caller name who flawless k free
reply_shown s caller (Reopen name who) flawless cohere k are free = tt
reply_shown s caller (Ignore name who) flawless cohere k are free = tt
reply_shown s caller (Readmit name who) flawless cohere k are free = tt
reply_shown s caller (Snap name) flawless cohere k are free = tt
reply_shown s caller (TakeSnapshot number) flawless cohere k are free = snapshot_shown s caller number flawless cohere k are free
reply_shown s caller (Decide number holder id verdict) flawless cohere k are free = tt
reply_shown s caller (Undecide number holder id) flawless cohere k are free = tt
reply_shown s caller ReadPairs flawless cohere k are free = pairs_shown s k
reply_shown s caller ReadAlpha flawless cohere k are free = alpha_shown s k
reply_shown s caller (ReadReport report) flawless cohere k are free = tt

-- a change whose entry is too long is refused
long_or_shown : (long : Bool) (s : ProjectState) (asked : Asked) (told : BookRefusal) (granted : Step) → CanBeShown granted.answer → CanBeShown (cond long (refused s asked told) granted).answer
long_or_shown true s asked told granted is = tt
long_or_shown false s asked told granted is = is

bounded_shown : (s : ProjectState) (asked : Asked) (answer : Answered) (made : Option Happened) → CanBeShown answer → CanBeShown (bounded s asked answer made).answer
bounded_shown s asked answer None is = is
bounded_shown s asked answer (Some made) is = long_or_shown (nat_lt 16777216 (size_in s made)) s asked (no.EntryTooLong (size_in s made)) (record { answer = answer; change = Some made }) is

unless_shown : (s : ProjectState) (asked : Asked) (told : Option BookRefusal) (answer : Answered) (made : Option Happened) → (told ≡ None → CanBeShown answer) → CanBeShown (unless s asked told answer made).answer
unless_shown s asked (Some told) answer made is = tt
unless_shown s asked None answer made is = bounded_shown s asked answer made (is refl)

step_shown : (s : ProjectState) (caller : List ℕ) (asked : Asked) → Flawless → Coherent → IsKept s → AreAccepted s → CanBeShown (step s caller asked).answer
step_shown s caller asked flawless cohere k are =
    unless_shown s asked (refusal s caller asked) (reply s caller asked) (change s caller asked) (λ free. reply_shown s caller asked flawless cohere k are free)

-- ---- histories

-- what goes on from a history is legal only where the history is
before_legal : (log more now : List Happened) → 0 < length log → now ≡ log ++ more → IsLegal now → IsLegal log
before_legal log more now some is legal =
    subst IsLegal (take-append-le (length log) log more (omega arith) ∙ take_all (length log) log (omega arith)) (front_legal (length log) (log ++ more) (subst IsLegal is legal) some)

module _ (flawless : Flawless) (cohere : Coherent) (kept : (log : List Happened) → IsLegal log → IsKept (after log)) (accepted : (log : List Happened) → IsLegal log → AreAccepted (after log)) where
  pub legal_shown : (log : List Happened) (caller : List ℕ) (asked : Asked) → IsLegal log → CanBeShown (step (after log) caller asked).answer
  legal_shown log caller asked legal = step_shown (after log) caller asked flawless cohere (kept log legal) (accepted log legal)

  stepped_shown : (log now : List Happened) (caller : List ℕ) (asked : Asked) (answer : Answered) → 0 < length log → IsLegal now → IsStep log caller asked answer now → CanBeShown answer
  stepped_shown log now caller asked answer some legal (steps told grown room) =
      subst CanBeShown (sym told) (legal_shown log caller asked (before_legal log (option_to_list (step_at log caller asked).change) now some grown legal))
  stepped_shown log now caller asked answer some legal (wants_memory told same) = subst CanBeShown (sym told) tt
  stepped_shown log now caller asked answer some legal (is_not_kept told same made room) = subst CanBeShown (sym told) tt

  pub visited_shown : (old new : Visiting) (caller : List ℕ) (asked : Asked) (answer : Answered) → IsLegal old.seen → Visited old new caller asked answer → CanBeShown answer
  visited_shown old new caller asked answer legal visited =
      let some : 0 < length old.seen = legal_some old.seen legal in
      let size : length (old.seen ++ visited.replied.others) ≡ length old.seen + length visited.replied.others = length-append old.seen visited.replied.others in
      stepped_shown (old.seen ++ visited.replied.others) new.seen caller asked answer (omega arith) (visited.legal legal) visited.replied.stepped
