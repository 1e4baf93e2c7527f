-- Commands in turn: those of two lists one behind the other, and those of two scripts.
use Rattle.std.proofs.Common.{◌≡◌, ℕ, ◌+◌, ◌-◌, ◌<◌, List, [], ◌∷◌, ◌++◌, length, take, Option, Some, Result, Ok, Err, refl, sym, ◌∙◌, ap, subst, arith}
use Rattle.std.specs.Prelude.{IsOk, is_ok, suc, nat_lt, reverse, slice_get, if◌then◌else◌}
use Rattle.std.specs.Result.{result_err}
use Rattle.std.proofs.lemmas.List.{append_assoc, length-append, reverse-append}
use Rattle.conf_model.specs.Configurations.{Configuration}
use Rattle.layer_model.specs.declared.rule.Rule.{Rule}
use Rattle.layer_model.specs.declared.rule.Rule.TheVariants.{DeskFull}
use Rattle.layer_model.specs.Annotations.{Annotations}
use Rattle.layer_core.specs.declared.command.Command.{Command}
use Rattle.layer_core.specs.Commands.{Applied, apply}
use Rattle.layer_undo.specs.declared.desk_start.DeskStart.{DeskStart}
use Rattle.layer_undo.specs.declared.desk_start.DeskStart.TheVariants.{Base, At, Memory}
use Rattle.layer_undo.specs.Starts.{IsStop}
use Rattle.layer_undo.specs.Replays.{Outcome, next, replay_from, replay, first_refusal}
use Rattle.layer_undo.specs.Desks.{last_of, but_last}

-- what comes behind some commands
abbrev pub onward : Outcome → (Annotations → Outcome) → Outcome
onward (Ok layer) rest = rest layer
onward (Err stop) rest = Err stop

next_onward : (at : ℕ) (r : Result Applied Rule) (f g h : Annotations → Outcome) → ((layer : Annotations) → f layer ≡ onward (g layer) h) → next at r f ≡ onward (next at r g) h
next_onward at (Ok applied) f g h p = p applied.layer
next_onward at (Err rule) f g h p = refl

-- the second of two lists comes on the layer that the first makes
pub replay-append : (conf : Configuration) (characters at : ℕ) (layer : Annotations) (xs ys : List Command) → replay_from conf characters at layer (xs ++ ys) ≡ onward (replay_from conf characters at layer xs) (λ made. replay_from conf characters (at + length xs) made ys)
replay-append conf characters at layer [] ys =
    let same : at ≡ at + 0 = omega arith in
    ap (λ k. replay_from conf characters k layer ys) same
replay-append conf characters at layer (x ∷ xs) ys =
    let same : at + 1 + length xs ≡ at + length (x ∷ xs) = omega arith in
    next_onward at (apply conf characters layer x) (λ made. replay_from conf characters (at + 1) made (xs ++ ys)) (λ made. replay_from conf characters (at + 1) made xs) (λ made. replay_from conf characters (at + length (x ∷ xs)) made ys)
    (λ made. replay-append conf characters (at + 1) made xs ys ∙ ap (λ k. onward (replay_from conf characters (at + 1) made xs) (λ last. replay_from conf characters k last ys)) same)

onward_from : (r : Outcome) (f : Annotations → Outcome) (layer : Annotations) → r ≡ Ok layer → onward r f ≡ f layer
onward_from r f layer e = ap (λ o. onward o f) e

onward_stop : (r : Outcome) (f : Annotations → Outcome) (stop : ℕ × Rule) → r ≡ Err stop → onward r f ≡ Err stop
onward_stop r f stop e = ap (λ o. onward o f) e

onward_ok : (r : Outcome) (f : Annotations → Outcome) → IsOk (onward r f) → IsOk r
onward_ok (Ok layer) f ok = refl
onward_ok (Err stop) f ok = ok

-- where the first list makes a layer, the second goes on from it
pub replay_on : (conf : Configuration) (characters at : ℕ) (layer made : Annotations) (xs ys : List Command) → replay_from conf characters at layer xs ≡ Ok made → replay_from conf characters at layer (xs ++ ys) ≡ replay_from conf characters (at + length xs) made ys
replay_on conf characters at layer made xs ys e = replay-append conf characters at layer xs ys ∙ onward_from _ (λ l. replay_from conf characters (at + length xs) l ys) made e

-- where the first list stops, both do
pub replay_stopped : (conf : Configuration) (characters at : ℕ) (layer : Annotations) (stop : ℕ × Rule) (xs ys : List Command) → replay_from conf characters at layer xs ≡ Err stop → replay_from conf characters at layer (xs ++ ys) ≡ Err stop
replay_stopped conf characters at layer stop xs ys e = replay-append conf characters at layer xs ys ∙ onward_stop _ (λ l. replay_from conf characters (at + length xs) l ys) stop e

-- where none of both is refused, none of the first is
pub replay_front : (conf : Configuration) (characters at : ℕ) (layer : Annotations) (xs ys : List Command) → IsOk (replay_from conf characters at layer (xs ++ ys)) → IsOk (replay_from conf characters at layer xs)
replay_front conf characters at layer xs ys ok =
    onward_ok (replay_from conf characters at layer xs) (λ l. replay_from conf characters (at + length xs) l ys) (sym (ap is_ok (replay-append conf characters at layer xs ys)) ∙ ok)

-- the order of all commands of two scripts stays where the last done is undone
pub same_order : (xs ys : List Command) (c : Command) → xs ++ reverse (ys ++ c ∷ []) ≡ (xs ++ c ∷ []) ++ reverse ys
same_order xs ys c = ap (λ zs. xs ++ zs) (reverse-append ys (c ∷ [])) ∙ sym (append_assoc xs (c ∷ []) (reverse ys))

pub same_count : (xs ys : List Command) (c : Command) → length xs + length (ys ++ c ∷ []) ≡ length (xs ++ c ∷ []) + length ys
same_count xs ys c =
    let a : length (ys ++ c ∷ []) ≡ length ys + 1 = length-append ys (c ∷ []) in
    let b : length (xs ++ c ∷ []) ≡ length xs + 1 = length-append xs (c ∷ []) in
    omega (arith, a, b)

-- what so many commands in this order come to
abbrev pub refusal_of : Configuration → ℕ → Annotations → ℕ → List Command → Option (ℕ × Rule)
refusal_of conf characters base count all = if nat_lt 4096 count then Some (4096, DeskFull) else result_err (replay conf characters base all)

-- the first refusal of two scripts stays where the last done is undone
pub same_refusal : (conf : Configuration) (characters : ℕ) (base : Annotations) (xs ys : List Command) (c : Command) → first_refusal conf characters base xs (ys ++ c ∷ []) ≡ first_refusal conf characters base (xs ++ c ∷ []) ys
same_refusal conf characters base xs ys c =
    ap (λ k. refusal_of conf characters base k (xs ++ reverse (ys ++ c ∷ []))) (same_count xs ys c)
    ∙ ap (refusal_of conf characters base (length (xs ++ c ∷ []) + length ys)) (same_order xs ys c)

-- a list that is not empty has a last
pub split_last : {X : Type 0} (xs : List X) → 0 < length xs → (x : X) × (last_of xs ≡ Some x) × (xs ≡ but_last xs ++ x ∷ [])
split_last [] some = absurd (omega (arith, some))
split_last (x ∷ []) some = (x, refl, refl)
split_last (x ∷ y ∷ ys) some =
    let more = split_last (y ∷ ys) (omega arith) in
    let one_less : length (x ∷ y ∷ ys) - 1 ≡ length (y ∷ ys) = omega arith in
    let same : length (y ∷ ys) ≡ suc (length (y ∷ ys) - 1) = omega arith in
    let place = one_less ∙ same in
    (more.0, ap (slice_get (x ∷ y ∷ ys)) place ∙ more.1, ap (λ zs. x ∷ zs) more.2 ∙ sym (ap (λ k. take k (x ∷ y ∷ ys) ++ more.0 ∷ []) place))

-- where done makes a layer, both scripts come to what undone comes to on it, from its end
pub carried : (conf given : Configuration) (text shown : List ℕ) (layer made kept : Annotations) (done undone : List Command) → conf ≡ given → text ≡ shown → kept ≡ made → replay_from conf (length text) 0 layer done ≡ Ok made → replay_from conf (length text) 0 layer (done ++ reverse undone) ≡ replay_from given (length shown) (length done) kept (reverse undone)
carried conf given text shown layer made kept done undone c t k e =
    let first : 0 + length done ≡ length done = omega arith in
    replay_on conf (length text) 0 layer made done (reverse undone) e
    ∙ ap (λ at. replay_from conf (length text) at made (reverse undone)) first
    ∙ ap (λ l. replay_from conf (length text) (length done) l (reverse undone)) (sym k)
    ∙ ap (λ w. replay_from w (length text) (length done) kept (reverse undone)) c
    ∙ ap (λ w. replay_from given (length w) (length done) kept (reverse undone)) t

-- what stops the first of two lists stops both
pub stop_front : (conf : Configuration) (characters : ℕ) (layer : Annotations) (xs ys : List Command) (start : DeskStart) → IsStop (replay_from conf characters 0 layer xs) start → IsStop (replay_from conf characters 0 layer (xs ++ ys)) start
stop_front conf characters layer xs ys (Base flaw) h = h
stop_front conf characters layer xs ys (At index rule) h = replay_stopped conf characters 0 layer (index, rule) xs ys h
stop_front conf characters layer xs ys Memory h = h

-- what stops the second of two scripts on the layer that the first makes stops both
pub stop_behind : (conf given : Configuration) (text shown : List ℕ) (layer made kept : Annotations) (done undone : List Command) (start : DeskStart) → conf ≡ given → text ≡ shown → kept ≡ made → replay_from conf (length text) 0 layer done ≡ Ok made → IsStop (replay_from given (length shown) (length done) kept (reverse undone)) start → IsStop (replay_from conf (length text) 0 layer (done ++ reverse undone)) start
stop_behind conf given text shown layer made kept done undone start c t k e stop =
    subst (λ outcome. IsStop outcome start) (sym (carried conf given text shown layer made kept done undone c t k e)) stop
