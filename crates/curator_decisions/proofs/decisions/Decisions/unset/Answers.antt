use Rattle.std.proofs.Common.{◌≡◌, ◌==◌, not, sym, ap, ◌∙◌, subst, rules, arith, ℕ}
use Rattle.std.specs.List.{filter}
use Rattle.std.proofs.lemmas.Fn.{filter_same}
use Rattle.curator_decisions.specs.Decisions.{Ascend, Decided, item_rank, without_verdict}
use Rattle.curator_decisions.proofs.DecidedLemmas.{ascend_without}
use Rattle.curator_decisions.proofs.decisions.Decisions.unset.Goals as goal

kept : (c : goal.After-retain) → c.retain.new.self.items ≡ without_verdict c.self.inside.decided.items c.args.item
kept c =
    filter_same _ (λ one. not (item_rank one.0 == c.item_rank-sought.result)) _ (λ x b f' r. search rules) _ _ c.retain.ensures.filtered
    ∙ ap (λ (n : ℕ). filter (λ one. not (item_rank one.0 == n)) c.self.inside.decided.items) c.item_rank-sought.ensures

pub invariant_of-self : goal.invariant_of-self
invariant_of-self c = (subst Ascend (sym (kept c)) (ascend_without c.self.inside.decided.items c.args.item c.self.invariant.0), omega (arith, c.retain.ensures.bound, c.self.invariant.1))

pub returns : goal.returns
returns c = kept c ∙ ap (λ (l : Decided). without_verdict l c.args.item) c.self.view_is
