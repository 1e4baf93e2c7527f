-- One round: which events begin a chain of one event more.
use Rattle.std.proofs.Common.{◌≡◌, ℕ, ◌+◌, suc, Bool, true, false, ◌&&◌, ◌||◌, cond, List, [], ◌∷◌, refl, sym, ◌∙◌, ap, subst, Option, Some, None, arith}
use Rattle.std.specs.Option.{option_map_or, is_some}
use Rattle.std.specs.List.{AllByRecursion, list_any}
use Rattle.std.specs.List.Sorted.{IsStrictlySortedBy}
use Rattle.std.specs.Map.{keys_of, lookup}
use Rattle.std.specs.BTreeMap.{is_at}
use Rattle.std.specs.Ordering.{nat_cmp, eq_by_cmp, is_eq}
use Rattle.std.specs.Cmp.{nat_cmp_total, ranked}
use Rattle.std.specs.declared.cmp.Ordering.TheVariants.{Less, Equal, Greater}
use Rattle.std.specs.FinMap as finite
use Rattle.std.specs.FinMap.{find, get-entries, get-from_entries, get-insert}
use Rattle.mark_base.specs.declared.arguments.Arg.{Arg}
use Rattle.layer_model.specs.declared.event.Event.{Event}
use Rattle.layer_model.specs.Annotations.{Annotations}
use Rattle.layer_model.proofs.Maps.{inserted, same_list}
use Rattle.layer_rules.specs.LayerRules.{begins_longer_chain, is_event_id}
use Rattle.layer_rules.specs.EventChains.{HoldsChains, is_held}
use Rattle.layer_rules.proofs.PlaceLemmas.{entries_found}

-- the event of a number has an argument that begins a chain of more than so many events
abbrev pub leads : Annotations → ℕ → Event → Bool
leads layer events event = list_any (λ arg. is_event_id arg.target && begins_longer_chain layer events arg.target.number) event.args

-- what is held, with what is left to see, are the events that begin a chain of one more
pub record Round {V : Type 0} (layer : Annotations) (events : ℕ) (held : List (ℕ × V)) (rest : List (ℕ × Event)) : Type 0 where
  pub found : AllByRecursion (λ e. finite.get layer.events e.0 ≡ Some e.1) rest
  pub holds : (number : ℕ) → (is_held held number || (is_some (find nat_cmp number rest) && begins_longer_chain layer (suc events) number)) ≡ begins_longer_chain layer (suc events) number

same_any : (layer : Annotations) (events : ℕ) (test : ℕ → Bool) → ((n : ℕ) → test n ≡ begins_longer_chain layer events n) → (args : List Arg)
    → list_any (λ arg. is_event_id arg.target && test arg.target.number) args ≡ list_any (λ arg. is_event_id arg.target && begins_longer_chain layer events arg.target.number) args
same_any layer events test same [] = refl
same_any layer events test same (arg ∷ args) =
    ap (λ b. (is_event_id arg.target && b) || list_any (λ a. is_event_id a.target && test a.target.number) args) (same arg.target.number)
    ∙ ap (λ b. (is_event_id arg.target && begins_longer_chain layer events arg.target.number) || b) (same_any layer events test same args)

-- an event leads on exactly where it begins a chain of one more
pub at_event : (layer : Annotations) (events n : ℕ) (event : Event) → finite.get layer.events n ≡ Some event → begins_longer_chain layer (suc events) n ≡ leads layer events event
unfolding begins_longer_chain
at_event layer events n event is = ap (λ o. option_map_or (leads layer events) o false) is

pub leads_is : {V : Type 0} (layer : Annotations) (events : ℕ) (held : List (ℕ × V)) (args : List Arg) → HoldsChains layer events held
    → list_any (λ arg. is_event_id arg.target && is_held held arg.target.number) args ≡ list_any (λ arg. is_event_id arg.target && begins_longer_chain layer events arg.target.number) args
leads_is layer events held args holds = same_any layer events (is_held held) holds args

absent : (layer : Annotations) (events n : ℕ) → finite.get layer.events n ≡ None → begins_longer_chain layer (suc events) n ≡ false
unfolding begins_longer_chain
absent layer events n is = ap (λ o. option_map_or (leads layer events) o false) is

and_true : (b : Bool) → (b && true) ≡ b
and_true true = refl
and_true false = refl

and_false : (b : Bool) → (b && false) ≡ false
and_false true = refl
and_false false = refl

or_false : (b : Bool) → (b || false) ≡ b
or_false true = refl
or_false false = refl

pub round_begins : {V : Type 0} (layer : Annotations) (events : ℕ) (held : List (ℕ × V)) (rest es : List (ℕ × Event)) → finite.from_entries {R = nat_cmp} es ≡ layer.events
    → rest ≡ es → IsStrictlySortedBy nat_cmp (keys_of es) → held ≡ [] → Round layer events held rest
round_begins {V} layer events held rest es is gives sorted empty =
    let whole : finite.entries layer.events ≡ rest = sym (gives ∙ sym (same_list es sorted) ∙ ap finite.entries is) in
    record {
      found = subst (AllByRecursion (λ e. finite.get layer.events e.0 ≡ Some e.1)) whole (entries_found layer.events);
      holds = λ n. ap (λ (h : List (ℕ × V)). is_held h n || (is_some (find nat_cmp n rest) && begins_longer_chain layer (suc events) n)) empty
          ∙ ap (λ b. b || (is_some (find nat_cmp n rest) && begins_longer_chain layer (suc events) n)) (nothing_held n)
          ∙ ap (λ r. is_some (find nat_cmp n r) && begins_longer_chain layer (suc events) n) (sym whole)
          ∙ ap (λ o. is_some o && begins_longer_chain layer (suc events) n) (sym (get-entries layer.events n))
          ∙ present n (finite.get layer.events n) refl;
    }
  where
    nothing_held : (n : ℕ) → is_held {V = V} [] n ≡ false
    nothing_held n =
        let none : finite.get (finite.from_entries {K = ℕ} {X = V} {R = nat_cmp} []) n ≡ None = get-from_entries nat_cmp_total [] n in
        ap is_some none

    present : (n : ℕ) (o : Option Event) → finite.get layer.events n ≡ o → (is_some o && begins_longer_chain layer (suc events) n) ≡ begins_longer_chain layer (suc events) n
    present n None e = sym (absent layer events n e)
    present n (Some event) e = refl

same_number : (m n : ℕ) → eq_by_cmp nat_cmp m n ≡ true → n ≡ m
same_number m n e =
    elim (nat_cmp m n) as (λ r. r ≡ nat_cmp m n → is_eq r ≡ true → n ≡ m) [
      | Less ↦ λ _ h. absurd (let f : false ≡ true = h in cc)
      | Equal ↦ λ is _. sym (ranked m n Equal is)
      | Greater ↦ λ _ h. absurd (let f : false ≡ true = h in cc)
    ] refl e

-- an event that leads on is held
pub round_on : {V : Type 0} (layer : Annotations) (events : ℕ) (held after : List (ℕ × V)) (rest later : List (ℕ × Event)) (n : ℕ) (event : Event) (v : V)
    → rest ≡ (n, event) ∷ later → leads layer events event ≡ true
    → ((q : ℕ) → lookup (is_at (nat_cmp q)) after ≡ cond (is_at (nat_cmp n) q) (Some v) (lookup (is_at (nat_cmp q)) held))
    → Round layer events held rest → Round layer events after later
round_on {V} layer events held after rest later n event v is leads_on put before =
    let t : Round layer events held ((n, event) ∷ later) = subst (λ r. Round layer events held r) is before in
    let deep : begins_longer_chain layer (suc events) n ≡ true = at_event layer events n event t.found.0 ∙ leads_on in
    record { found = t.found.1; holds = λ q. split q (eq_by_cmp nat_cmp q n) refl deep (t.holds q) }
  where
    held_after : (q : ℕ) → is_held after q ≡ is_some (cond (eq_by_cmp nat_cmp q n) (Some v) (finite.get (finite.from_entries {R = nat_cmp} held) q))
    held_after q = ap (λ (m : finite.FinMap nat_cmp V). is_some (finite.get m q)) (inserted held after n v put) ∙ ap is_some (get-insert nat_cmp_total (finite.from_entries held) n v q)

    split : (q : ℕ) (b : Bool) → eq_by_cmp nat_cmp q n ≡ b → begins_longer_chain layer (suc events) n ≡ true
        → (is_held held q || (is_some (cond (eq_by_cmp nat_cmp q n) (Some event) (find nat_cmp q later)) && begins_longer_chain layer (suc events) q)) ≡ begins_longer_chain layer (suc events) q
        → (is_held after q || (is_some (find nat_cmp q later) && begins_longer_chain layer (suc events) q)) ≡ begins_longer_chain layer (suc events) q
    split q true e deep old =
        ap (λ x. x || (is_some (find nat_cmp q later) && begins_longer_chain layer (suc events) q)) (held_after q ∙ ap (λ b. is_some (cond b (Some v) (finite.get (finite.from_entries {R = nat_cmp} held) q))) e)
        ∙ sym (ap (begins_longer_chain layer (suc events)) (sym (same_number q n e)) ∙ deep)
    split q false e deep old =
        ap (λ x. x || (is_some (find nat_cmp q later) && begins_longer_chain layer (suc events) q)) (held_after q ∙ ap (λ b. is_some (cond b (Some v) (finite.get (finite.from_entries {R = nat_cmp} held) q))) e)
        ∙ sym (ap (λ b. is_held held q || (is_some (cond b (Some event) (find nat_cmp q later)) && begins_longer_chain layer (suc events) q)) e) ∙ old

-- one that does not is passed over
pub round_past : {V : Type 0} (layer : Annotations) (events : ℕ) (held : List (ℕ × V)) (rest later : List (ℕ × Event)) (n : ℕ) (event : Event)
    → rest ≡ (n, event) ∷ later → leads layer events event ≡ false → Round layer events held rest → Round layer events held later
round_past {V} layer events held rest later n event is leads_on before =
    let t : Round layer events held ((n, event) ∷ later) = subst (λ r. Round layer events held r) is before in
    let shallow : begins_longer_chain layer (suc events) n ≡ false = at_event layer events n event t.found.0 ∙ leads_on in
    record { found = t.found.1; holds = λ q. split q (eq_by_cmp nat_cmp q n) refl shallow (t.holds q) }
  where
    only : (x y d : Bool) → d ≡ false → (x || d) ≡ d → (x || (y && d)) ≡ d
    only x y d none old = ap (λ b. x || (y && b)) none ∙ ap (λ b. x || b) (and_false y) ∙ sym (ap (λ b. x || b) none) ∙ old

    split : (q : ℕ) (b : Bool) → eq_by_cmp nat_cmp q n ≡ b → begins_longer_chain layer (suc events) n ≡ false
        → (is_held held q || (is_some (cond (eq_by_cmp nat_cmp q n) (Some event) (find nat_cmp q later)) && begins_longer_chain layer (suc events) q)) ≡ begins_longer_chain layer (suc events) q
        → (is_held held q || (is_some (find nat_cmp q later) && begins_longer_chain layer (suc events) q)) ≡ begins_longer_chain layer (suc events) q
    split q true e shallow old =
        only (is_held held q) (is_some (find nat_cmp q later)) (begins_longer_chain layer (suc events) q) (ap (begins_longer_chain layer (suc events)) (sym (same_number q n e)) ∙ shallow)
        (sym (ap (λ b. is_held held q || (is_some (cond b (Some event) (find nat_cmp q later)) && begins_longer_chain layer (suc events) q)) e) ∙ old)
    split q false e shallow old =
        sym (ap (λ b. is_held held q || (is_some (cond b (Some event) (find nat_cmp q later)) && begins_longer_chain layer (suc events) q)) e) ∙ old

pub round_ends : {V : Type 0} (layer : Annotations) (events : ℕ) (held : List (ℕ × V)) (rest : List (ℕ × Event)) → rest ≡ [] → Round layer events held rest → HoldsChains layer (events + 1) held
round_ends layer events held rest is before n =
    let next : suc events ≡ events + 1 = omega arith in
    sym (or_false (is_held held n)) ∙ sym (ap (λ r. is_held held n || (is_some (find nat_cmp n r) && begins_longer_chain layer (suc events) n)) is) ∙ before.holds n
    ∙ ap (λ k. begins_longer_chain layer k n) next

-- each event begins a chain of itself
pub chains_begin : (layer : Annotations) (es : List (ℕ × Event)) → finite.from_entries {R = nat_cmp} es ≡ layer.events → HoldsChains layer 0 es
unfolding begins_longer_chain
chains_begin layer es is n = ap (λ (m : finite.FinMap nat_cmp Event). is_some (finite.get m n)) is
