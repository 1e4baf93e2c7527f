use Rattle.std.proofs.Common.{◌≡◌, ◌<◌, ◌≤◌, ◌+◌, ◌++◌, ◌∷◌, [], ℕ, sym, ◌∙◌, ap, subst, length, arith, map, take, get_or, List, Some, nat_cmp, is_some, false, true}
use Rattle.std.specs.BTreeMap.{BTreeMap, get, Updates}
use Rattle.ann_reader.specs.declared.line.Line.{Line as LineValue}
use Rattle.ann_reader.specs.Lines.{Line}
use Rattle.ann_reader.specs.LineShows.{seen_line}
use Rattle.ann_reader.specs.KnownLines.{FindsHeads}
use Rattle.std.proofs.lemmas.List.{take_all}
use Rattle.ann_reader.proofs.StepLemmas.{taken, heads_none, heads_again, heads_back, back_there, heads_new}
use Rattle.ann_reader.proofs.known_lines.gather_heads.Goals as goal
use Rattle.ann_reader.proofs.known_lines.gather_heads.Goals.{in-Some+in_ok-first+in-Some-2+in_ok-insert, in-Some+in_ok-first+in_default-2, in_default}

pub loop-line-preserved : goal.loop-line-preserved
loop-line-preserved c =
    let i : ℕ = c.loop-line.line-index in
    let d : LineValue = record { number = 0; text = record { ref_ptr = (0, 0); now = [] } } in
    let below : i < length c.args.lines.now = omega arith in
    let line : LineValue = get_or c.args.lines.now i d in
    let before : List Line = map seen_line (take i c.args.lines.now) in
    let more : map seen_line (take (i + 1) c.args.lines.now) ≡ before ++ (seen_line line ∷ []) = taken seen_line c.args.lines.now i d below in
    let P : BTreeMap ℕ ℕ → Type 0 = λ m. FindsHeads (map seen_line (take (i + 1) c.args.lines.now)) m in
    let Q : BTreeMap ℕ ℕ → List Line → Type 0 = λ m lines. FindsHeads lines m in
    elim c.match-head_of.branch [
      | in-Some+in_ok-first+in-Some-2+in_ok-insert w ↦
          let there : get nat_cmp c.loop-line.heads w.rank.result ≡ Some w.in-Some-2.first = sym w.in_ok-first.ensures.old ∙ w.in-Some-2.is in
          let last : Updates nat_cmp w.insert.new.self w.insert-in-Some-2.new.self w.rank.result (Some w.in-Some-2.first) =
          subst (λ q. Updates nat_cmp w.insert.new.self w.insert-in-Some-2.new.self q (Some w.in-Some-2.first)) (w.rank-in-Some-2.ensures ∙ sym w.rank.ensures) w.in_ok-insert.ensures.updates in
          subst P (sym w.heads-is) (subst (Q w.insert-in-Some-2.new.self) (sym more)
          (heads_again before (seen_line line) w.insert-in-Some-2.new.self w.in-Some.id
          (heads_back before c.loop-line.heads w.insert.new.self w.insert-in-Some-2.new.self w.rank.result w.in-Some-2.first line.number c.loop-line.invariant there w.in_ok-first.ensures.updates last)
          (sym w.in-Some.is ∙ c.head_of.ensures)
          (ap (λ q. is_some (get nat_cmp w.insert-in-Some-2.new.self q)) (sym w.rank.ensures) ∙ ap is_some (back_there w.insert.new.self w.insert-in-Some-2.new.self w.rank.result w.in-Some-2.first last))))
      | in-Some+in_ok-first+in_default-2 w ↦
          subst P (sym w.heads-is) (subst (Q w.insert.new.self) (sym more)
          (heads_new before (seen_line line) c.loop-line.heads w.insert.new.self w.in-Some.id c.loop-line.invariant
          (sym w.in-Some.is ∙ c.head_of.ensures)
          (ap (λ q. is_some (get nat_cmp c.loop-line.heads q)) (sym w.rank.ensures) ∙ ap is_some (sym w.in_ok-first.ensures.old ∙ w.in_default-2.is))
          (subst (λ q. Updates nat_cmp c.loop-line.heads w.insert.new.self q (Some line.number)) w.rank.ensures w.in_ok-first.ensures.updates)))
      | in_default w ↦
          subst P (sym w.heads-is) (subst (Q c.loop-line.heads) (sym more)
          (heads_none before (seen_line line) c.loop-line.heads c.loop-line.invariant (sym w.in_default.is ∙ c.head_of.ensures)))
    ]

pub returns : goal.returns
returns c =
    let over : length c.args.lines.now ≤ c.loop-line.line-index = c.loop-line-test.false in
    subst (λ ls. FindsHeads (map seen_line ls) c.loop-line.heads) (take_all c.loop-line.line-index c.args.lines.now over) c.loop-line.invariant
