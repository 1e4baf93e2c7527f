use Rattle.std.proofs.Common.{◌==◌, sym, arith, length, eq-eqb}
use Rattle.std.proofs.lemmas.List.Sums.{position_or_len_is}
use Rattle.items_report.proofs.ann_lines.place_of_tab.Goals as goal

pub returns-then-byte-eq9-clause-value : goal.returns-then-byte-eq9-clause-value
returns-then-byte-eq9-clause-value c =
    sym (position_or_len_is (λ byte. byte == 9) c.args.line.now c.loop-place.place 0 (omega arith) c.loop-place.invariant (λ h. eq-eqb _ _ c.if-byte-eq9.true))

pub returns-clause-value : goal.returns-clause-value
returns-clause-value c =
    sym (position_or_len_is (λ byte. byte == 9) c.args.line.now (length c.args.line.now) 0 (omega arith) (λ k h. c.loop-place.invariant k (omega arith)) (λ h. absurd (omega arith)))
