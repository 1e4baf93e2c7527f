use Rattle.std.proofs.Common.{◌≡◌, ◌<◌, ◌≤◌, length, get_or, ◌∙◌, sym, ap, subst, arith, None, Option, IsSome, Bor}
use Rattle.unanimous_merge.specs.declared.item.ItemId.{ItemId}
use Rattle.curator_decisions.specs.declared.verdict.Verdict.{Verdict}
use Rattle.curator_decisions.specs.Decisions.{Decided, item_rank}
use Rattle.curator_decisions.specs.Placing.{IsEndBefore}
use Rattle.curator_decisions.proofs.DecidedLemmas.{insert_at, set_at}
use Rattle.curator_decisions.proofs.SearchLemmas.{above_at, end_is_before, verdict_at, verdict_none}
use Rattle.curator_decisions.proofs.decisions.place_of.Goals as goal

nothing : (o : Option (Bor (ItemId × Verdict))) → o ≡ None → IsSome o → ⊥
nothing o e h = let none : IsSome {T = Bor (ItemId × Verdict)} None = subst IsSome e h in cc

pub returns-in-Some : goal.returns-in-Some
returns-in-Some c =
    let xs : Decided = c.args.decided.now in
    let item = c.args.item in
    let at = c.end_before-at.result in
    let end : IsEndBefore xs (item_rank item) at = subst (λ n. IsEndBefore xs n at) c.item_rank-sought.ensures c.end_before-at.ensures.end in
    let long : at < length xs = c.in-Some.ensures.lookup.3.0 in
    let here : (d : ItemId × Verdict) → item_rank (get_or xs at d).0 ≡ item_rank item =
    λ d. ap (λ (one : ItemId × Verdict). item_rank one.0) (sym (c.in-Some.ensures.lookup.3.1 d)) ∙ sym c.item_rank.ensures ∙ c.if-item_rank-sought.true ∙ c.item_rank-sought.ensures in
    record {
      here = long;
      stands = λ d. verdict_at xs at item (end_is_before xs item at (omega arith) end) long d (here d);
      set = λ v. set_at xs at item v (end_is_before xs item at (omega arith) end) long here;
      within = tt;
      none = tt;
      inserted = tt;
    }

pub returns-in_default : goal.returns-in_default
returns-in_default c =
    let xs : Decided = c.args.decided.now in
    let item = c.args.item in
    let at = c.end_before-at.result in
    let end : IsEndBefore xs (item_rank item) at = subst (λ n. IsEndBefore xs n at) c.item_rank-sought.ensures c.end_before-at.ensures.end in
    let long : at < length xs = c.in-Some.ensures.lookup.3.0 in
    let other : (d : ItemId × Verdict) → item_rank (get_or xs at d).0 ≡ item_rank item → ⊥ =
    λ d e. c.if-item_rank-sought.false (c.item_rank.ensures ∙ ap (λ (one : ItemId × Verdict). item_rank one.0) (c.in-Some.ensures.lookup.3.1 d) ∙ e ∙ sym c.item_rank-sought.ensures) in
    record {
      here = tt;
      stands = tt;
      set = tt;
      within = omega arith;
      none = verdict_none xs item at c.requires end (λ l. other);
      inserted = λ v. insert_at xs at item v (end_is_before xs item at (omega arith) end) (omega arith) (λ l d. above_at xs item at end l d (other d));
    }

pub returns-in_default-2 : goal.returns-in_default-2
returns-in_default-2 c =
    let xs : Decided = c.args.decided.now in
    let item = c.args.item in
    let at = c.end_before-at.result in
    let end : IsEndBefore xs (item_rank item) at = subst (λ n. IsEndBefore xs n at) c.item_rank-sought.ensures c.end_before-at.ensures.end in
    let past : at < length xs → ⊥ = λ l. nothing c.get.result c.in_default.is (c.get.ensures.lookup.2 l) in
    let most : at ≤ length xs = c.end_before-at.ensures.within in
    record {
      here = tt;
      stands = tt;
      set = tt;
      within = most;
      none = verdict_none xs item at c.requires end (λ l d e. past l);
      inserted = λ v. insert_at xs at item v (end_is_before xs item at most end) most (λ l d. absurd (past l));
    }
