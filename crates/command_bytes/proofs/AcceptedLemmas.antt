-- Scripts that are not refused from a layer can be written: each layer that they load is well-formed.
use Rattle.std.proofs.Common.{◌≡◌, ℕ, ◌+◌, Bool, true, false, cond, ltb, List, [], ◌∷◌, ◌++◌, length, reverse, Option, Some, None, refl, sym, subst}
use Rattle.std.specs.Prelude.{Result, Ok, Err, option_map}
use Rattle.std.specs.Result.{result_err}
use Rattle.std.specs.List.{AllByRecursion}
use Rattle.std.proofs.lemmas.List.{reverse-append}
use Rattle.std.proofs.lemmas.Option.{none-some}
use Rattle.conf_model.specs.Configurations.{Configuration}
use Rattle.layer_model.specs.Annotations.{Annotations}
use Rattle.layer_model.specs.declared.rule.Rule.{Rule}
use Rattle.layer_core.specs.declared.command.Command.{Command}
use Rattle.layer_core.specs.declared.command.Command.TheVariants as ask
use Rattle.layer_core.specs.Commands.{Applied, apply, answer_of, lower_rule, draft_rule}
use Rattle.layer_core.specs.OwnRules.{own_rule}
use Rattle.layer_core.specs.MadeLayers.{with_less}
use Rattle.layer_rules.specs.WellFormed.{IsWellFormed, least_flaw}
use Rattle.layer_undo.specs.Replays.{next, replay_from, first_refusal}
use Rattle.command_bytes.specs.WritableCommands.{CanBeWritten}

-- ---- lists

each_split : {X : Type 0} (P : X → Type 0) (xs ys : List X) → AllByRecursion P (xs ++ ys) → AllByRecursion P xs × AllByRecursion P ys
each_split P [] ys h = (tt, h)
each_split P (x ∷ xs) ys h = let rest = each_split P xs ys h.1 in ((h.0, rest.0), rest.1)

each_turned : {X : Type 0} (P : X → Type 0) (xs : List X) → AllByRecursion P (reverse xs) → AllByRecursion P xs
each_turned P [] h = tt
each_turned {X = X} P (x ∷ xs) h =
    let parts = each_split P (reverse xs) (x ∷ []) (subst (λ (l : List X). AllByRecursion P l) (reverse-append (x ∷ []) xs) h) in
    (parts.1.0, each_turned P xs parts.0)

-- ---- a command that is carried out

answered : (broken : Option Rule) (outcome applied : Applied) → answer_of broken outcome ≡ Ok applied → broken ≡ None
answered None outcome applied e = refl
answered (Some rule) outcome applied e = absurd cc

never : (t : Bool) (a b : Rule) → cond t (Some b) (Some a) ≡ None → ⊥
never true a b e = none-some b (sym e)
never false a b e = none-some a (sym e)

lower_none : (a b : Option Rule) → lower_rule a b ≡ None → b ≡ None
lower_none None b e = e
lower_none (Some a) None e = refl
lower_none (Some a) (Some b) e = absurd (never _ a b e)

map_none : {A B : Type 0} (f : A → B) (o : Option A) → option_map f o ≡ None → o ≡ None
map_none f None e = refl
map_none f (Some x) e = absurd cc

-- a layer without a flaw is well-formed
abbrev pub Unflawed : Type 0
Unflawed = (conf : Configuration) (characters : ℕ) (layer : Annotations) → least_flaw conf characters layer ≡ None → IsWellFormed conf characters layer

can_apply : Unflawed → (conf : Configuration) (text : List ℕ) (layer : Annotations) (c : Command) (applied : Applied) → apply conf (length text) layer c ≡ Ok applied → CanBeWritten conf text c
unfolding apply
can_apply law conf text layer (ask.Load loaded) applied e =
    let unbroken = answered _ _ applied e in
    let drafted : draft_rule conf (length text) (with_less loaded) ≡ None = lower_none (own_rule conf (length text) layer (ask.Load loaded)) (draft_rule conf (length text) (with_less loaded)) unbroken in
    law conf (length text) loaded (map_none _ (least_flaw conf (length text) loaded) drafted)
can_apply law conf text layer (ask.AddSpan kind frags) applied e = tt
can_apply law conf text layer (ask.RetypeSpan id kind) applied e = tt
can_apply law conf text layer (ask.MoveSpan id frags) applied e = tt
can_apply law conf text layer (ask.AddEvent kind trigger args) applied e = tt
can_apply law conf text layer (ask.AddArg id arg) applied e = tt
can_apply law conf text layer (ask.RemoveArg id arg) applied e = tt
can_apply law conf text layer (ask.AddRelation kind first second) applied e = tt
can_apply law conf text layer (ask.SetAttribute kind target value) applied e = tt
can_apply law conf text layer (ask.ClearAttribute id) applied e = tt
can_apply law conf text layer (ask.Equate kind members) applied e = tt
can_apply law conf text layer (ask.Unequate kind id) applied e = tt
can_apply law conf text layer (ask.SetNote target kind note) applied e = tt
can_apply law conf text layer (ask.SetReference target store entry shown) applied e = tt
can_apply law conf text layer (ask.Delete id) applied e = tt
can_apply law conf text layer (ask.Purge id) applied e = tt

-- ---- commands that are carried out in turn

abbrev Written : Configuration → List ℕ → List Command → Type 0
Written conf text commands = AllByRecursion (CanBeWritten conf text) commands

first_applied : Unflawed → (conf : Configuration) (text : List ℕ) (at : ℕ) (layer : Annotations) (c : Command) (cs : List Command) (r : Result Applied Rule) → apply conf (length text) layer c ≡ r
    → ((made : Annotations) → result_err (replay_from conf (length text) (at + 1) made cs) ≡ None → Written conf text cs)
    → result_err (next at r (λ made. replay_from conf (length text) (at + 1) made cs)) ≡ None → Written conf text (c ∷ cs)
first_applied law conf text at layer c cs (Ok applied) is rest e = (can_apply law conf text layer c applied is, rest applied.layer e)
first_applied law conf text at layer c cs (Err rule) is rest e = absurd (none-some (at, rule) (sym e))

all_applied : Unflawed → (conf : Configuration) (text : List ℕ) (at : ℕ) (layer : Annotations) (commands : List Command) → result_err (replay_from conf (length text) at layer commands) ≡ None → Written conf text commands
all_applied law conf text at layer [] e = tt
all_applied law conf text at layer (c ∷ cs) e = first_applied law conf text at layer c cs (apply conf (length text) layer c) refl (λ made g. all_applied law conf text (at + 1) made cs g) e

guard_none : {A : Type 0} (b : Bool) (x : A) (o : Option A) → cond b (Some x) o ≡ None → o ≡ None
guard_none true x o e = absurd cc
guard_none false x o e = e

pub accepted : Unflawed → (conf : Configuration) (text : List ℕ) (base : Annotations) (done undone : List Command) → first_refusal conf (length text) base done undone ≡ None → Written conf text done × Written conf text undone
accepted law conf text base done undone e =
    let replayed = guard_none (ltb 4096 (length done + length undone)) _ _ e in
    let parts = each_split (CanBeWritten conf text) done (reverse undone) (all_applied law conf text 0 base (done ++ reverse undone) replayed) in
    (parts.0, each_turned (CanBeWritten conf text) undone parts.1)
