use Rattle.content_keys.proofs.table.Table.add.Goals as goal
use Rattle.std.proofs.Common.{◌≡◌, ◌∙◌, sym, ap, subst, Option, ℕ, List, Some, None, cond, length, vec_len, rules, ◌+◌, ◌-◌, take}
use Rattle.std.specs.Ordering.{nat_cmp, is_eq}
use Rattle.std.specs.Cmp.Lexicographic.{slice_cmp}
use Rattle.std.specs.BTreeMap.{get, is_at}
use Rattle.std.specs.Map.{lookup}
use Rattle.content_keys.specs.Nodes.{Node}
use Rattle.content_keys.specs.Tables.{IsIndexed, IsAdded, IsWordAt, flat}
use Rattle.content_keys.proofs.AddLemmas.{indexed_more, indexed_same, but_last, there_already}

pub invariant_of-self-in-Ok : goal.invariant_of-self-in-Ok
invariant_of-self-in-Ok c =
    let ss : List (Node ℕ) = c.self.inside.shapes.items in
    let s : Node ℕ = c.args.shape in
    let k : c.in_ok-key.key ≡ flat s = c.in_ok-key.ensures in
    let l : vec_len c.self.inside.shapes ≡ length ss = search rules in
    let n : c.len-place.result ≡ length ss = c.len-place.ensures ∙ l in
    let none : get (slice_cmp nat_cmp) c.self.inside.places (flat s) ≡ None =
    ap (get (slice_cmp nat_cmp) c.self.inside.places) (sym k) ∙ sym c.get.ensures.value ∙ sym c.copied.ensures ∙ c.in-None.is in
    let P : List (Node ℕ) → Type 0 = λ l. IsIndexed l c.insert.new.self in
    subst P (sym c.in_ok-push-in-None.ensures.items) (indexed_more ss s c.self.inside.places c.insert.new.self c.self.invariant
    (rw c.self.view_is c.requires) none
    (λ q. c.in-Ok.ensures.updates.0 q ∙ (λ i. cond (is_eq (slice_cmp nat_cmp (k i) q)) (Some (n i)) (get (slice_cmp nat_cmp) c.self.inside.places q))))

pub invariant_of-self-in-Err : goal.invariant_of-self-in-Err
invariant_of-self-in-Err c =
    let ss : List (Node ℕ) = c.self.inside.shapes.items in
    let l : vec_len c.self.inside.shapes ≡ length ss = search rules in
    let m : vec_len c.push.new.self ≡ length ss + 1 = c.in_ok-push-in-None.ensures.len ∙ ap (λ n. n + 1) l in
    let e : c.pop.new.self.items ≡ ss = c.pop.ensures.rest ∙ (λ i. take (m i - 1) (c.in_ok-push-in-None.ensures.items i)) ∙ but_last ss c.args.shape in
    indexed_same ss c.pop.new.self.items c.self.inside.places c.insert.new.self e
    (λ q. ap (lookup (is_at (slice_cmp nat_cmp q))) c.in-Err.ensures.err) c.self.invariant

pub returns-in-Some-clause-ok : goal.returns-in-Some-clause-ok
returns-in-Some-clause-ok c =
    let ss : List (Node ℕ) = c.self.inside.shapes.items in
    let s : Node ℕ = c.args.shape in
    let k : c.in_ok-key.key ≡ flat s = c.in_ok-key.ensures in
    let some : get (slice_cmp nat_cmp) c.self.inside.places (flat s) ≡ Some c.in-Some.place =
    ap (get (slice_cmp nat_cmp) c.self.inside.places) (sym k) ∙ sym c.get.ensures.value ∙ sym c.copied.ensures ∙ c.in-Some.is in
    let P : Option ℕ → Type 0 = IsWordAt ss (flat s) in
    let Q : List (Node ℕ) → Type 0 = λ l. IsAdded l s l c.in-Some.place in
    subst Q c.self.view_is (there_already ss s c.in-Some.place (subst P some (c.self.invariant.finds (flat s))))
