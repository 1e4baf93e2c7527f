use Rattle.std.proofs.Common.{◌≡◌, ℕ, get_or, length, ap, sym, ◌∙◌, subst}
use Rattle.checkpoint.proofs.VerdictLemmas.{AreFields, fields_of, no_id, pair_is, seven}
use Rattle.checkpoint.proofs.verdicts.pair_of.Goals as goal

pub returns-then-bytes-ne7 : goal.returns-then-bytes-ne7
returns-then-bytes-ne7 c = λ pair e. absurd (c.if-bytes-ne7.true (ap length e ∙ seven pair))

pub returns-in_err-id : goal.returns-in_err-id
returns-in_err-id c = λ pair e.
    let b = c.args.bytes.now in
    let are : AreFields (get_or b 0 0) (get_or b 1 0) c.from_le_bytes-number.result (get_or b 6 0) pair =
    subst (λ (n : ℕ). AreFields (get_or b 0 0) (get_or b 1 0) n (get_or b 6 0) pair) (sym c.from_le_bytes-number.ensures) (fields_of b pair e) in
    absurd (no_id (get_or b 0 0) (get_or b 1 0) c.from_le_bytes-number.result (get_or b 6 0) pair are (sym c.in_err-id.was ∙ c.id_of.ensures))

pub returns : goal.returns
returns c = λ pair e.
    let b = c.args.bytes.now in
    let are : AreFields (get_or b 0 0) (get_or b 1 0) c.from_le_bytes-number.result (get_or b 6 0) pair =
    subst (λ (n : ℕ). AreFields (get_or b 0 0) (get_or b 1 0) n (get_or b 6 0) pair) (sym c.from_le_bytes-number.ensures) (fields_of b pair e) in
    pair_is (get_or b 0 0) (get_or b 1 0) c.from_le_bytes-number.result (get_or b 6 0) pair c.in_ok-id.id c.in_ok-verdict.verdict are (sym c.in_ok-id.was ∙ c.id_of.ensures) c.in_ok-verdict.ensures
