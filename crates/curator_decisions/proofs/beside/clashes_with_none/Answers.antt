use Rattle.std.proofs.Common.{◌≡◌, ◌<◌, ◌∙◌, Bool, List, true, get_or, length, map, sym, ap, subst, inl, inr, arith}
use Rattle.std.proofs.lemmas.Bool.Decides.{eqb_tells}
use Rattle.std.proofs.lemmas.List.{get_or_default}
use Rattle.unanimous_merge.specs.declared.entry.Entry.{Entry}
use Rattle.unanimous_merge.specs.Readings.{readings}
use Rattle.unanimous_merge.specs.Rows.{held_at}
use Rattle.curator_decisions.specs.Clashes.{AreApart}
use Rattle.curator_decisions.specs.Placing.{is_in_at}
use Rattle.curator_decisions.proofs.CuratedParts.{not_both}
use Rattle.curator_decisions.proofs.beside.clashes_with_none.Goals.{else-not-are_apart-via-then-not-are_apart+else-is_in, else-not-are_apart-via-else-not-are_apart}
use Rattle.curator_decisions.proofs.beside.clashes_with_none.Goals as goal

pub loop-other-preserved : goal.loop-other-preserved
loop-other-preserved c i d low =
    let firsts : List Entry = c.args.comparison.now.merged.firsts.items in
    let one : Entry = c.other-item.result in
    let flags : List (List Bool) = map (λ row. row.items) c.args.comparison.now.merged.marks.items in
    let Fine : Entry → Type 0 = λ x. is_in_at flags c.args.decisions.now x ≡ true → AreApart c.args.conf.now (readings c.args.snapshot.now) (held_at c.args.comparison.now.merged.table c.args.entry) (held_at c.args.comparison.now.merged.table x) in
    let fine : Fine one = elim c.else-not-are_apart.branch [
      | else-not-are_apart-via-then-not-are_apart+else-is_in w ↦ λ into. not_both (is_in_at flags c.args.decisions.now one) into (sym w.is_in.ensures ∙ w.if-is_in.false)
      | else-not-are_apart-via-else-not-are_apart w ↦ λ into. c.are_apart.ensures w.if-not-are_apart.false
    ] in
    let here : c.loop-other.other-index < length firsts = subst (λ xs. c.loop-other.other-index < length xs) c.deref-other-items.ensures.value c.loop-other-test.true in
    let at_ : one ≡ get_or firsts c.loop-other.other-index one = c.other-item.is ∙ ap (λ xs. get_or xs c.loop-other.other-index one) c.deref-other-items.ensures.value in
    elim (eqb_tells i c.loop-other.other-index) [
      | inl p ↦ subst Fine (at_ ∙ get_or_default firsts c.loop-other.other-index one d here ∙ ap (λ k. get_or firsts k d) (sym p.1)) fine
      | inr p ↦ let apart : i ≡ c.loop-other.other-index → ⊥ = p.1 in let below : i < c.loop-other.other-index = omega arith in c.loop-other.invariant i d below
    ]
