-- A flaw of a rule on overlaps is the least one only where the spans are good.
use Rattle.std.proofs.Common.{◌≡◌, ℕ, ◌≤◌, List, [], ◌∷◌, Option, Some, None, refl, subst, arith}
use Rattle.std.specs.Option.{option_or}
use Rattle.std.specs.List.{AllByRecursion}
use Rattle.conf_model.specs.Configurations.{Configuration}
use Rattle.layer_model.specs.declared.rule.Rule.{Rule}
use Rattle.layer_model.specs.declared.flaw.Flaw.{Flaw}
use Rattle.layer_model.specs.declared.flaw.FlawPlace.{FlawPlace}
use Rattle.layer_model.specs.Annotations.{Annotations}
use Rattle.layer_model.specs.Rules.{number_of}
use Rattle.layer_rules.specs.FlawPlaces.{first_place, first_rule}
use Rattle.layer_rules.specs.LowestFlaw.{flaw_at, single_rules}
use Rattle.layer_rules.proofs.RuleNumbers.{Tells, type_tells, use_tells, fragments_tells, text_tells, long_tells, there_tells, kind_tells, role_tells, argument_tells, many_tells, value_tells}

none_some : {X : Type 0} {x : X} → None ≡ Some x → ⊥
none_some e = cc

same_some : {X : Type 0} {a b : X} → Some a ≡ Some b → a ≡ b
same_some e = cc

-- a rule on one record has a low number
abbrev pub Low : (FlawPlace → Option Rule) → Type 0
Low told = (place : FlawPlace) (rule : Rule) → told place ≡ Some rule → number_of rule ≤ 12

low_of : (number : ℕ) (told : FlawPlace → Option Rule) → Tells number told → number ≤ 12 → Low told
low_of number told tells low place rule e = let same = (tells place).gives rule e in omega arith

low_place : (told : FlawPlace → Option Rule) → Low told → (ps : List FlawPlace) (flaw : Flaw) → first_place told ps ≡ Some flaw → number_of flaw.rule ≤ 12
low_place told low [] flaw e = absurd (none_some e)
low_place told low (p ∷ ps) flaw e = split (λ h. low_place told low ps flaw h) (told p) refl e
  where
    split : (first_place told ps ≡ Some flaw → number_of flaw.rule ≤ 12) → (o : Option Rule) → told p ≡ o → option_or (flaw_at p o) (first_place told ps) ≡ Some flaw
        → number_of flaw.rule ≤ 12
    split later None is h = later h
    split later (Some rule) is h = subst (λ (f : Flaw). number_of f.rule ≤ 12) (same_some h) (low p rule is)

pub low_rule : (tests : List (FlawPlace → Option Rule)) → AllByRecursion Low tests → (ps : List FlawPlace) (flaw : Flaw) → first_rule tests ps ≡ Some flaw → number_of flaw.rule ≤ 12
low_rule [] all ps flaw e = absurd (none_some e)
low_rule (told ∷ tests) all ps flaw e = split (λ h. low_rule tests all.1 ps flaw h) (first_place told ps) refl e
  where
    split : (first_rule tests ps ≡ Some flaw → number_of flaw.rule ≤ 12) → (o : Option Flaw) → first_place told ps ≡ o → option_or o (first_rule tests ps) ≡ Some flaw
        → number_of flaw.rule ≤ 12
    split later None is h = later h
    split later (Some first) is h = subst (λ (f : Flaw). number_of f.rule ≤ 12) (same_some h) (low_place told all.0 ps first is)

pub single_low : (conf : Configuration) (characters : ℕ) (layer : Annotations) → AllByRecursion Low (single_rules conf characters layer)
single_low conf characters layer =
    (low_of 1 _ (type_tells conf layer) (omega arith), (low_of 2 _ (use_tells conf layer) (omega arith), (low_of 3 _ (fragments_tells layer) (omega arith), (low_of 4 _ (text_tells characters layer) (omega arith), (low_of 5 _ (long_tells layer) (omega arith), (low_of 6 _ (there_tells layer) (omega arith), (low_of 7 _ (kind_tells conf layer) (omega arith), (low_of 8 _ (role_tells conf layer) (omega arith), (low_of 9 _ (argument_tells conf layer) (omega arith), (low_of 10 _ (many_tells conf layer) (omega arith), (low_of 12 _ (value_tells conf layer) (omega arith), tt)))))))))))
