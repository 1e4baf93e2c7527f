use Rattle.std.proofs.Common.{◌≡◌, ◌+◌, ℕ, suc, false, subst, arith, rules}
use Rattle.content_keys.specs.Places.{ArePlaced, IsOfMark}
use Rattle.content_keys.proofs.OnlyLemmas.{only_then}
use Rattle.content_keys.proofs.PlacedLemmas.{placed_deep}
use Rattle.content_keys.proofs.StartLemmas.{starts_trans}
use Rattle.content_keys.proofs.placed_layer.place_all.Goals as goal

pub loop-depth-preserved : goal.loop-depth-preserved
loop-depth-preserved c =
    let e : suc c.loop-depth._depth ≡ c.loop-depth._depth + 1 = omega arith in
    let P : ℕ → Type 0 = λ n. ArePlaced n c.args.layer.now c.round.new.places in (
      c.in_ok-waits.ensures.right,
      subst P e (c.in_ok-waits.ensures.deeper c.loop-depth._depth c.loop-depth.invariant.1),
      starts_trans c.args.table.now c.loop-depth.table c.round.new.table c.loop-depth.invariant.2 c.round.ensures.grown,
      only_then (IsOfMark c.args.layer.now) c.args.table.now c.loop-depth.table c.round.new.table c.round.ensures.grown c.loop-depth.invariant.3 c.round.ensures.only,
    )

pub returns-in_err-waits-clause-only : goal.returns-in_err-waits-clause-only
returns-in_err-waits-clause-only c = only_then (IsOfMark c.args.layer.now) c.args.table.now c.loop-depth.table c.round.new.table c.round.ensures.grown c.loop-depth.invariant.3 c.round.ensures.only

pub returns-clause-only : goal.returns-clause-only
returns-clause-only c = c.loop-depth.invariant.3

pub returns-clause-all : goal.returns-clause-all
returns-clause-all c =
    let e : c.loop-depth._depth ≡ 19 = omega arith in
    let P : ℕ → Type 0 = λ n. ArePlaced n c.args.layer.now c.loop-depth.places in
    subst P e c.loop-depth.invariant.1

pub returns-then-not-waits-clause-all : goal.returns-then-not-waits-clause-all
returns-then-not-waits-clause-all c =
    let settled : c.in_ok-waits.waits ≡ false = search rules in
    let e : suc 18 ≡ 19 = omega arith in
    let P : ℕ → Type 0 = λ n. ArePlaced n c.args.layer.now c.round.new.places in
    subst P e (placed_deep c.args.layer.now c.args.ids.now c.round.new.places (c.in_ok-waits.ensures.settled settled) 18)

pub returns-then-not-waits-clause-only : goal.returns-then-not-waits-clause-only
returns-then-not-waits-clause-only c = only_then (IsOfMark c.args.layer.now) c.args.table.now c.loop-depth.table c.round.new.table c.round.ensures.grown c.loop-depth.invariant.3 c.round.ensures.only
