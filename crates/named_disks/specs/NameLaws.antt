-- What names keep over two calls, and what some of them keep.
use Rattle.std.specs.Prelude.{ℕ, List, Option}
use Rattle.std.proofs.Common.{◌∙◌}
use Rattle.named_disks.specs.NamedDisks.{Stored, KeepsNames, KeepsAll}

-- names that are kept by two calls are kept by both
pub keeps_both : {These : List ℕ → Type 0} {stored between now : Option Stored} {out out_between out_now : Option (List (List ℕ))}
    → KeepsNames These stored out between out_between → KeepsNames These between out_between now out_now → KeepsNames These stored out now out_now
keeps_both first then = record {
  told = then.told ∙ first.told;
  told_out = then.told_out ∙ first.told_out;
  reads = λ name this. then.reads name this ∙ first.reads name this;
  same_there = λ name this. then.same_there name this ∙ first.same_there name this;
  same_out = λ name this. then.same_out name this ∙ first.same_out name this;
}

-- of names that are kept, those among them are
pub keeps_those : {These Those : List ℕ → Type 0} {stored now : Option Stored} {out out_now : Option (List (List ℕ))}
    → ((name : List ℕ) → Those name → These name) → KeepsNames These stored out now out_now → KeepsNames Those stored out now out_now
keeps_those among kept = record {
  told = kept.told;
  told_out = kept.told_out;
  reads = λ name that. kept.reads name (among name that);
  same_there = λ name that. kept.same_there name (among name that);
  same_out = λ name that. kept.same_out name (among name that);
}

-- where each name is kept, so are some of them
pub keeps_any : {Those : List ℕ → Type 0} {stored now : Option Stored} {out out_now : Option (List (List ℕ))} → KeepsAll stored out now out_now → KeepsNames Those stored out now out_now
keeps_any kept = keeps_those (λ name that. tt) kept
