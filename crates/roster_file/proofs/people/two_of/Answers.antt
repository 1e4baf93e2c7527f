use Rattle.std.proofs.Common.{◌∙◌, ap, sym, option_map, is_some, Bor, List, ℕ}
use Rattle.csv.specs.Records.{fields_of}
use Rattle.roster_file.proofs.PeopleLemmas.{no_first, no_second, some_third, some_mapped, none_mapped, just_two}
use Rattle.roster_file.proofs.people.two_of.Goals as goal

-- the bytes that a field lends
abbrev now_of : Bor (List ℕ) → List ℕ
now_of s = s.now

pub returns-in_default : goal.returns-in_default
returns-in_default c = sym (no_first (fields_of c.args.row.now) (sym c.get.ensures.value ∙ ap (option_map now_of) c.in_default.is))

pub returns-in_default-get : goal.returns-in_default-get
returns-in_default-get c = sym (no_second (fields_of c.args.row.now) (sym c.get-2.ensures.value ∙ ap (option_map now_of) c.in_default-get.is))

pub returns-then-is_some : goal.returns-then-is_some
returns-then-is_some c =
    sym (some_third (fields_of c.args.row.now) (ap is_some (sym c.get-3.ensures.value) ∙ some_mapped now_of c.get-3.result ∙ sym c.is_some.ensures ∙ c.if-is_some.true))

pub returns : goal.returns
returns c =
    sym (just_two (fields_of c.args.row.now) c.in-Some.name.now c.in-Some-get.role.now
    (sym c.get.ensures.value ∙ ap (option_map now_of) c.in-Some.is)
    (sym c.get-2.ensures.value ∙ ap (option_map now_of) c.in-Some-get.is)
    (sym c.get-3.ensures.value ∙ none_mapped now_of c.get-3.result (sym c.is_some.ensures ∙ c.if-is_some.false)))
