-- Ways back: one more behind a command that is carried out, and the last one taken.
use Rattle.std.proofs.Common.{◌≡◌, ℕ, ◌+◌, ◌-◌, ◌<◌, suc, List, [], ◌∷◌, ◌++◌, length, get_or, take, drop, Result, Ok, Err, refl, sym, ◌∙◌, ap, subst, arith}
use Rattle.std.specs.Prelude.{IfOk, is_ok, unwrap_or}
use Rattle.std.specs.Result.{result_ok}
use Rattle.std.proofs.lemmas.Bool.{false≢true}
use Rattle.std.proofs.lemmas.List.{append-nil, append_assoc, take_rest}
use Rattle.conf_model.specs.Configurations.{Configuration}
use Rattle.layer_model.specs.declared.rule.Rule.{Rule}
use Rattle.layer_model.specs.Annotations.{Annotations}
use Rattle.layer_core.specs.declared.command.Command.{Command}
use Rattle.layer_core.specs.declared.back.Back.{Back}
use Rattle.layer_core.specs.Backs.{IsWayBack}
use Rattle.layer_core.specs.Commands.{Applied, apply}
use Rattle.layer_undo.specs.Replays.{Outcome, next, replay_from}
use Rattle.layer_undo.specs.Trails.{IsTrail}
use Rattle.layer_undo.proofs.ReplayLemmas.{replay_on}

-- a command behind which commands come to a layer was carried out
abbrev pub WentOn : Result Applied Rule → (Annotations → Outcome) → Annotations → Type 0
WentOn applied rest made = (a : Applied) × (applied ≡ Ok a) × (rest a.layer ≡ Ok made)

went_on : (at : ℕ) (applied : Result Applied Rule) (rest : Annotations → Outcome) (made : Annotations) → next at applied rest ≡ Ok made → WentOn applied rest made
went_on at (Ok a) rest made e = (a, refl, e)
went_on at (Err rule) rest made e = absurd (false≢true (ap is_ok e))

if_ok : (P : Applied → Type 0) (applied : Result Applied Rule) (a : Applied) → applied ≡ Ok a → IfOk applied P → P a
if_ok P applied a e h = subst (λ r. IfOk r P) e h

with_ok : (P : Applied → Type 0) (applied : Result Applied Rule) (a : Applied) → applied ≡ Ok a → P a → IfOk applied P
with_ok P applied a e h = subst (λ r. IfOk r P) (sym e) h

same_ok : (a b : Annotations) → Path Outcome (Ok a) (Ok b) → a ≡ b
same_ok a b e = ap (λ o. unwrap_or (result_ok o) a) e

-- a trail has a way back for each command
pub as_long : (conf : Configuration) (characters at : ℕ) (layer made : Annotations) (commands : List Command) (backs : List Back)
    → replay_from conf characters at layer commands ≡ Ok made → IsTrail conf characters layer commands backs → length backs ≡ length commands
as_long conf characters at layer made [] [] e trail = refl
as_long conf characters at layer made [] (back ∷ backs) e trail = absurd trail
as_long conf characters at layer made (command ∷ commands) [] e trail = absurd trail
as_long conf characters at layer made (command ∷ commands) (back ∷ backs) e trail =
    let went = went_on at (apply conf characters layer command) (λ l. replay_from conf characters (at + 1) l commands) made e in
    let both = if_ok (λ a. IsWayBack back a.layer layer × IsTrail conf characters a.layer commands backs) (apply conf characters layer command) went.0 went.1 trail in
    ap suc (as_long conf characters (at + 1) went.0.layer made commands backs went.2 both.1)

-- two trails one behind the other
pub trail-append : (conf : Configuration) (characters at : ℕ) (layer now : Annotations) (commands later : List Command) (backs more : List Back)
    → replay_from conf characters at layer commands ≡ Ok now → IsTrail conf characters layer commands backs → IsTrail conf characters now later more
    → IsTrail conf characters layer (commands ++ later) (backs ++ more)
trail-append conf characters at layer now [] later [] more e trail next_one = subst (λ l. IsTrail conf characters l later more) (sym (same_ok layer now e)) next_one
trail-append conf characters at layer now [] later (b ∷ backs) more e trail next_one = absurd trail
trail-append conf characters at layer now (c ∷ commands) later [] more e trail next_one = absurd trail
trail-append conf characters at layer now (c ∷ commands) later (b ∷ backs) more e trail next_one =
    let went = went_on at (apply conf characters layer c) (λ l. replay_from conf characters (at + 1) l commands) now e in
    let both = if_ok (λ x. IsWayBack b x.layer layer × IsTrail conf characters x.layer commands backs) (apply conf characters layer c) went.0 went.1 trail in
    with_ok (λ x. IsWayBack b x.layer layer × IsTrail conf characters x.layer (commands ++ later) (backs ++ more)) (apply conf characters layer c) went.0 went.1
    (both.0, trail-append conf characters (at + 1) went.0.layer now commands later backs more went.2 both.1 next_one)

-- the trail of one command
pub trail_of : (conf : Configuration) (characters : ℕ) (layer : Annotations) (command : Command) (back : Back) (a : Applied) → apply conf characters layer command ≡ Ok a → IsWayBack back a.layer layer
    → IsTrail conf characters layer (command ∷ []) (back ∷ [])
trail_of conf characters layer command back a e way =
    with_ok (λ b. IsWayBack back b.layer layer × IsTrail conf characters b.layer [] []) (apply conf characters layer command) a e (way, tt)

-- one command more, with its way back
pub trail_on : (conf : Configuration) (characters at : ℕ) (layer now : Annotations) (commands : List Command) (backs : List Back) (command : Command) (back : Back) (a : Applied)
    → replay_from conf characters at layer commands ≡ Ok now → IsTrail conf characters layer commands backs → apply conf characters now command ≡ Ok a → IsWayBack back a.layer now
    → IsTrail conf characters layer (commands ++ command ∷ []) (backs ++ back ∷ [])
trail_on conf characters at layer now commands backs command back a e trail more way =
    trail-append conf characters at layer now commands (command ∷ []) backs (back ∷ []) e trail (trail_of conf characters now command back a more way)

-- a list that is not empty is its first and the others
pub front_is : {X : Type 0} (xs : List X) (x : X) → 0 < length xs → x ≡ get_or xs 0 x → xs ≡ x ∷ take (length xs - 1) (drop 1 xs)
front_is [] x some is = absurd (omega arith)
front_is (y ∷ ys) x some is = ap (λ z. z ∷ ys) (sym is) ∙ ap (λ zs. x ∷ zs) (sym (take_rest (y ∷ ys) 1))

pub none_is : {X : Type 0} (xs : List X) → length xs < 1 → xs ≡ []
none_is [] few = refl
none_is (x ∷ xs) few = absurd (omega arith)

-- behind one command more, those that are left make what they made with it
pub same_step : (conf given : Configuration) (text shown : List ℕ) (at : ℕ) (layer now : Annotations) (command : Command) (left rest : List Command) (all : Outcome)
    → given ≡ conf → shown ≡ text → left ≡ command ∷ rest → replay_from given (length shown) at layer (command ∷ []) ≡ Ok now
    → replay_from conf (length text) at layer left ≡ all → replay_from conf (length text) (at + 1) now rest ≡ all
same_step conf given text shown at layer now command left rest all same_conf same_text is e so_far =
    let here : replay_from conf (length text) at layer (command ∷ []) ≡ Ok now =
    subst (λ t. replay_from conf (length t) at layer (command ∷ []) ≡ Ok now) same_text (subst (λ c. replay_from c (length shown) at layer (command ∷ []) ≡ Ok now) same_conf e) in
    sym (replay_on conf (length text) at layer now (command ∷ []) rest here) ∙ ap (replay_from conf (length text) at layer) (sym is) ∙ so_far

-- what is so of trails of the commands that are left, with the ways back so far in front, is so behind one command more
pub trail_step : (P : List Back → Type 0) (conf given : Configuration) (text shown : List ℕ) (at : ℕ) (layer now : Annotations) (command : Command) (left rest : List Command) (back : Back) (backs longer : List Back)
    → given ≡ conf → shown ≡ text → left ≡ command ∷ rest → longer ≡ backs ++ back ∷ []
    → replay_from conf (length text) at layer (command ∷ []) ≡ Ok now → IsTrail conf (length text) layer (command ∷ []) (back ∷ [])
    → ((more : List Back) → IsTrail conf (length text) layer left more → P (backs ++ more))
    → (more : List Back) → IsTrail given (length shown) now rest more → P (longer ++ more)
trail_step P conf given text shown at layer now command left rest back backs longer same_conf same_text is on e one so_far more trail =
    let here : IsTrail conf (length text) now rest more =
    subst (λ t. IsTrail conf (length t) now rest more) same_text (subst (λ c. IsTrail c (length shown) now rest more) same_conf trail) in
    let all : IsTrail conf (length text) layer (command ∷ rest) (back ∷ more) = trail-append conf (length text) at layer now (command ∷ []) rest (back ∷ []) more e one here in
    subst P (sym (ap (λ bs. bs ++ more) on ∙ append_assoc backs (back ∷ []) more))
    (so_far (back ∷ more) (subst (λ cs. IsTrail conf (length text) layer cs (back ∷ more)) (sym is) all))

-- where no command is left, the ways back so far are a trail of all
pub trail_whole : (P : List Back → Type 0) (conf : Configuration) (characters : ℕ) (layer : Annotations) (left : List Command) (backs : List Back) → left ≡ []
    → ((more : List Back) → IsTrail conf characters layer left more → P (backs ++ more)) → P backs
trail_whole P conf characters layer left backs none so_far =
    subst P (append-nil backs) (so_far [] (subst (λ cs. IsTrail conf characters layer cs []) (sym none) tt))

-- the layer before the last command, to which its way back leads, and the trail to it
pub record Before (conf : Configuration) (characters at : ℕ) (layer made : Annotations) (commands : List Command) (backs : List Back) (back : Back) : Type 0 where
  pub earlier : Annotations
  pub replayed : replay_from conf characters at layer commands ≡ Ok earlier
  pub way : IsWayBack back made earlier
  pub trail : IsTrail conf characters layer commands backs

none_left : (conf : Configuration) (characters : ℕ) (layer : Annotations) (backs : List Back) (back : Back) → IsTrail conf characters layer [] (backs ++ back ∷ []) → ⊥
none_left conf characters layer [] back trail = trail
none_left conf characters layer (b ∷ backs) back trail = trail

no_backs : (conf : Configuration) (characters : ℕ) (layer : Annotations) (commands : List Command) (command : Command) → IsTrail conf characters layer (commands ++ command ∷ []) [] → ⊥
no_backs conf characters layer [] command trail = trail
no_backs conf characters layer (c ∷ commands) command trail = trail

pub trail_back : (conf : Configuration) (characters at : ℕ) (layer made : Annotations) (commands : List Command) (backs : List Back) (command : Command) (back : Back)
    → replay_from conf characters at layer (commands ++ command ∷ []) ≡ Ok made → IsTrail conf characters layer (commands ++ command ∷ []) (backs ++ back ∷ [])
    → Before conf characters at layer made commands backs back
trail_back conf characters at layer made [] [] command back e trail =
    let went = went_on at (apply conf characters layer command) (λ l. Ok l) made e in
    let both = if_ok (λ a. IsWayBack back a.layer layer × IsTrail conf characters a.layer [] []) (apply conf characters layer command) went.0 went.1 trail in
    record { earlier = layer; replayed = refl; way = subst (λ l. IsWayBack back l layer) (same_ok went.0.layer made went.2) both.0; trail = tt }
trail_back conf characters at layer made [] (b ∷ backs) command back e trail =
    let went = went_on at (apply conf characters layer command) (λ l. Ok l) made e in
    let both = if_ok (λ a. IsWayBack b a.layer layer × IsTrail conf characters a.layer [] (backs ++ back ∷ [])) (apply conf characters layer command) went.0 went.1 trail in
    absurd (none_left conf characters went.0.layer backs back both.1)
trail_back conf characters at layer made (c ∷ commands) [] command back e trail =
    let went = went_on at (apply conf characters layer c) (λ l. replay_from conf characters (at + 1) l (commands ++ command ∷ [])) made e in
    let both = if_ok (λ a. IsWayBack back a.layer layer × IsTrail conf characters a.layer (commands ++ command ∷ []) []) (apply conf characters layer c) went.0 went.1 trail in
    absurd (no_backs conf characters went.0.layer commands command both.1)
trail_back conf characters at layer made (c ∷ commands) (b ∷ backs) command back e trail =
    let went = went_on at (apply conf characters layer c) (λ l. replay_from conf characters (at + 1) l (commands ++ command ∷ [])) made e in
    let both = if_ok (λ a. IsWayBack b a.layer layer × IsTrail conf characters a.layer (commands ++ command ∷ []) (backs ++ back ∷ [])) (apply conf characters layer c) went.0 went.1 trail in
    let before = trail_back conf characters (at + 1) went.0.layer made commands backs command back went.2 both.1 in
    record {
      earlier = before.earlier;
      replayed = ap (λ r. next at r (λ l. replay_from conf characters (at + 1) l commands)) went.1 ∙ before.replayed;
      way = before.way;
      trail = with_ok (λ a. IsWayBack b a.layer layer × IsTrail conf characters a.layer commands backs) (apply conf characters layer c) went.0 went.1 (both.0, before.trail);
    }
