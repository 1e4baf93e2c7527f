use Rattle.std.proofs.Common.{◌≡◌, ◌∙◌, sym, ap, below_more, arith, length, false, is_some, get_or, cond, Some}
use Rattle.std.specs.BTreeMap.{get}
use Rattle.std.specs.Cmp.Lexicographic.{slice_cmp}
use Rattle.std.specs.Ordering.{nat_cmp, eq_by_cmp}
use Rattle.type_hierarchy.specs.TypeFaults.{name_twice, is_twice}
use Rattle.type_hierarchy.proofs.FaultLemmas.{first_is, none_is}
use Rattle.type_hierarchy.proofs.NameLemmas.{twice_at, finds_more}
use Rattle.type_hierarchy.proofs.tree.gather_names.Goals as goal

pub returns-then-contains_key-clause-refused : goal.returns-then-contains_key-clause-refused
unfolding name_twice
returns-then-contains_key-clause-refused c =
    first_is (is_twice c.args.rows.now) (length c.args.rows.now) c.loop-place.place (omega arith) c.loop-place.invariant.once
    (twice_at c.args.rows.now c.loop-place.places c.loop-place.place c.index-rows-place.result c.contains_key.result (omega arith) c.loop-place.invariant.finds
    (c.contains_key.ensures ∙ ap (λ row. is_some (get (slice_cmp nat_cmp) c.loop-place.places row.name)) c.index-rows-place.is)
    ∙ c.if-contains_key.true)

pub loop-place-preserved : goal.loop-place-preserved
loop-place-preserved c =
    let found : c.contains_key.result ≡ is_some (get (slice_cmp nat_cmp) c.loop-place.places (get_or c.args.rows.now c.loop-place.place c.index-rows-place.result).name) =
    c.contains_key.ensures ∙ ap (λ row. is_some (get (slice_cmp nat_cmp) c.loop-place.places row.name)) c.index-rows-place.is in
    record {
      finds = finds_more c.args.rows.now c.loop-place.places c.insert.new.self c.loop-place.place c.index-rows-place.result (omega arith) c.loop-place.invariant.finds
          (sym found ∙ c.if-contains_key.false)
          (λ name. c.in_ok-insert.ensures.updates.0 name
          ∙ ap (λ key. cond (eq_by_cmp (slice_cmp nat_cmp) key name) (Some c.loop-place.place) (get (slice_cmp nat_cmp) c.loop-place.places name)) (c.in_ok-copy.ensures ∙ ap (λ row. row.name) c.index-rows-place.is));
      once = below_more (λ k. is_twice c.args.rows.now k ≡ false) c.loop-place.place c.loop-place.invariant.once
          (twice_at c.args.rows.now c.loop-place.places c.loop-place.place c.index-rows-place.result c.contains_key.result (omega arith) c.loop-place.invariant.finds found ∙ c.if-contains_key.false);
    }

pub returns-clause-once : goal.returns-clause-once
unfolding name_twice
returns-clause-once c = none_is (is_twice c.args.rows.now) (length c.args.rows.now) (λ k lt. c.loop-place.invariant.once k (omega arith))
