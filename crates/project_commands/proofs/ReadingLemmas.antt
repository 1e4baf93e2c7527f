-- What the answer to a request for a layer tells of the committed layer, and that such a request changes nothing.
use Rattle.std.proofs.Common.{◌≡◌, ℕ, ◌==◌, Bool, true, false, not, ◌||◌, List, [], ◌∷◌, ◌++◌, if◌then◌else◌, Option, Some, None, refl, sym, ◌∙◌, ap, subst, append-nil}
use Rattle.std.specs.Option.{option_or, option_to_list}
use Rattle.conf_model.specs.Configurations.{Configuration}
use Rattle.layer_model.specs.Annotations.{Annotations}
use Rattle.project_machine.specs.declared.book_refusal.BookRefusal.{BookRefusal}
use Rattle.project_machine.specs.declared.book_refusal.BookRefusal.TheVariants as no
use Rattle.project_machine.specs.declared.book_refusal.Policy.TheVariants as policy
use Rattle.project_machine.specs.ProjectState.{ProjectState, is_annotator, is_curator, row_in}
use Rattle.project_machine.specs.Requests.{Asked, ListDocs, ReadLayer, Answered, Layer, Refused, Happened}
use Rattle.project_machine.specs.Machine.{has_layer, policies, refusal, reply, step, there, unless, when}
use Rattle.project_machine.specs.History.{after}
use Rattle.project_machine.specs.Asking.{IsStep, steps, wants_memory, is_not_kept, step_at}
use Rattle.project_commands.specs.Scoring.{committed_in}

-- ---- requests that change nothing

unless_still : (s : ProjectState) (asked : Asked) (o : Option BookRefusal) (answer : Answered) → (unless s asked o answer None).change ≡ None
unless_still s asked None answer = refl
unless_still s asked (Some r) answer = refl

still : (log now : List Happened) (caller : List ℕ) (asked : Asked) (answer : Answered) → (step_at log caller asked).change ≡ None → IsStep log caller asked answer now → now ≡ log
still log now caller asked answer none (steps is now_is room) = now_is ∙ (ap (λ o. log ++ option_to_list o) none ∙ append-nil log)
still log now caller asked answer none (wants_memory is now_is) = now_is
still log now caller asked answer none (is_not_kept is now_is some room) = now_is

-- a request for a layer leaves the history as it was
pub layer_still : (log now : List Happened) (caller name who : List ℕ) (answer : Answered) → IsStep log caller (ReadLayer name who) answer now → now ≡ log
layer_still log now caller name who answer stepped =
    still log now caller (ReadLayer name who) answer (unless_still (after log) (ReadLayer name who) (refusal (after log) caller (ReadLayer name who)) (reply (after log) caller (ReadLayer name who))) stepped

-- a request for the list of documents that is granted leaves the history as it was
pub list_still : (log now : List Happened) (caller : List ℕ) → now ≡ log ++ option_to_list (step_at log caller ListDocs).change → now ≡ log
list_still log now caller is =
    is ∙ (ap (λ o. log ++ option_to_list o) (unless_still (after log) ListDocs (refusal (after log) caller ListDocs) (reply (after log) caller ListDocs)) ∙ append-nil log)

-- ---- a layer that is shown

or_first : (a b : Option BookRefusal) → option_or a b ≡ None → a ≡ None
or_first None b is = refl
or_first (Some r) b is = is

or_second : (a b : Option BookRefusal) → option_or a b ≡ None → b ≡ None
or_second None b is = is
or_second (Some r) b is = cc

-- the last test is passed behind four others
behind : (a b c d e : Option BookRefusal) → option_or a (option_or b (option_or c (option_or d e))) ≡ None → e ≡ None
behind a b c d e is = or_second d e (or_second c (option_or d e) (or_second b (option_or c (option_or d e)) (or_second a (option_or b (option_or c (option_or d e))) is)))

when_none : (b : Bool) (r : BookRefusal) → when b r ≡ None → b ≡ false
when_none false r is = refl
when_none true r is = cc

shown_free : (s : ProjectState) (asked : Asked) (o : Option BookRefusal) (answer : Answered) (layer : Annotations) (text : List ℕ) (conf : Configuration) → (unless s asked o answer None).answer ≡ Layer layer text conf → o ≡ None
shown_free s asked None answer layer text conf is = refl
shown_free s asked (Some r) answer layer text conf is = cc

layer_same : (one other : Annotations) (text text_other : List ℕ) (conf conf_other : Configuration) → Layer one text conf ≡ Layer other text_other conf_other → one ≡ other
layer_same one other text text_other conf conf_other is = cc

shows : (s : ProjectState) (caller name who : List ℕ) (layer : Annotations) (text : List ℕ) (conf : Configuration) → (step s caller (ReadLayer name who)).answer ≡ Layer layer text conf → Some layer ≡ committed_in (row_in s name who)
shows s caller name who layer text conf is =
    let free : refusal s caller (ReadLayer name who) ≡ None = shown_free s (ReadLayer name who) (refusal s caller (ReadLayer name who)) (reply s caller (ReadLayer name who)) layer text conf is in
    let some : ((row_in s name who).revision == 0) ≡ false = when_none _ no.NoLayer (or_first (when ((row_in s name who).revision == 0) no.NoLayer) None
    (behind (when (not (is_annotator s caller || is_curator s caller)) (no.NotAllowed policy.Roster)) (policies s caller (ReadLayer name who)) (there s name) (has_layer s who) _ free)) in
    let granted : (step s caller (ReadLayer name who)).answer ≡ reply s caller (ReadLayer name who) = ap (λ (o : Option BookRefusal). (unless s (ReadLayer name who) o (reply s caller (ReadLayer name who)) None).answer) free in
    ap Some (sym (layer_same _ _ _ _ _ _ (sym granted ∙ is))) ∙ sym (ap (λ (b : Bool). if b then None else Some (row_in s name who).layer) some)

answered : (log now : List Happened) (caller : List ℕ) (asked : Asked) (layer : Annotations) (text : List ℕ) (conf : Configuration) → IsStep log caller asked (Layer layer text conf) now → (step_at log caller asked).answer ≡ Layer layer text conf
answered log now caller asked layer text conf (steps is now_is room) = sym is
answered log now caller asked layer text conf (wants_memory is now_is) = cc
answered log now caller asked layer text conf (is_not_kept is now_is some room) = cc

-- a layer that is shown is the committed one
pub layer_shown : (log now : List Happened) (caller name who : List ℕ) (layer : Annotations) (text : List ℕ) (conf : Configuration) → IsStep log caller (ReadLayer name who) (Layer layer text conf) now
    → Some layer ≡ committed_in (row_in (after log) name who)
layer_shown log now caller name who layer text conf stepped = shows (after log) caller name who layer text conf (answered log now caller (ReadLayer name who) layer text conf stepped)

-- ---- that there is no layer

refused_with : (s : ProjectState) (asked : Asked) (o : Option BookRefusal) (layer : Annotations) (text : List ℕ) (conf : Configuration) (r : BookRefusal) (named : List ℕ)
    → (unless s asked o (Layer layer text conf) None).answer ≡ Refused r named → o ≡ Some r
refused_with s asked None layer text conf r named is = cc
refused_with s asked (Some other) layer text conf r named is = let same : other ≡ r = cc in ap Some same

some_same : (one other : BookRefusal) → ◌≡◌ {A = Option BookRefusal} (Some one) (Some other) → one ≡ other
some_same one other is = cc

-- a test that gives another refusal was not met
past : (b : Bool) (r other : BookRefusal) (more : Option BookRefusal) → (r ≡ other → ⊥) → option_or (when b r) more ≡ Some other → more ≡ Some other
past true r other more differ is = absurd (differ (some_same r other is))
past false r other more differ is = is

none_some : {A : Type 0} (r : BookRefusal) → ◌≡◌ {A = Option BookRefusal} None (Some r) → A
none_some {A} r is = cc

by_test : (b : Bool) (layer : Annotations) → option_or (when b no.NoLayer) None ≡ Some no.NoLayer → None ≡ (if b then None else Some layer)
by_test true layer is = refl
by_test false layer is = none_some no.NoLayer is

lacks : (s : ProjectState) (caller name who named : List ℕ) → is_annotator s who ≡ true → (step s caller (ReadLayer name who)).answer ≡ Refused no.NoLayer named → None ≡ committed_in (row_in s name who)
lacks s caller name who named annotates is =
    let refused : refusal s caller (ReadLayer name who) ≡ Some no.NoLayer = refused_with s (ReadLayer name who) (refusal s caller (ReadLayer name who)) _ _ _ no.NoLayer named is in
    let tested = past _ no.NoDocument no.NoLayer _ (λ e. cc) (past _ (no.NotAllowed policy.Own) no.NoLayer _ (λ e. cc) (past _ (no.NotAllowed policy.Roster) no.NoLayer _ (λ e. cc) refused)) in
    by_test ((row_in s name who).revision == 0) (row_in s name who).layer
    (subst (λ (b : Bool). option_or (when (not b) no.NoLayer) (option_or (when ((row_in s name who).revision == 0) no.NoLayer) None) ≡ Some no.NoLayer) annotates tested)

refused_so : (log now : List Happened) (caller : List ℕ) (asked : Asked) (named : List ℕ) → IsStep log caller asked (Refused no.NoLayer named) now → (step_at log caller asked).answer ≡ Refused no.NoLayer named
refused_so log now caller asked named (steps is now_is room) = sym is
refused_so log now caller asked named (wants_memory is now_is) = cc
refused_so log now caller asked named (is_not_kept is now_is some room) = cc

-- an annotator of whom there is no layer has committed nothing
pub layer_lacking : (log now : List Happened) (caller name who named : List ℕ) → is_annotator (after log) who ≡ true → IsStep log caller (ReadLayer name who) (Refused no.NoLayer named) now
    → None ≡ committed_in (row_in (after log) name who)
layer_lacking log now caller name who named annotates stepped = lacks (after log) caller name who named annotates (refused_so log now caller (ReadLayer name who) named stepped)
