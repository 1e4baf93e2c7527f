-- How many people a roster has.
use Rattle.std.proofs.Common.{◌≡◌, ℕ, ◌+◌, ◌<◌, ◌≤◌, Bool, true, false, not, cond, List, [], ◌∷◌, length, suc, refl, sym, ◌∙◌, ap, arith}
use Rattle.std.proofs.lemmas.List.Sums.{sum_by-cons}
use Rattle.entry_bytes.specs.declared.person.Person.{Person}
use Rattle.project_machine.specs.People.{annotator_count, curator_count, HasBothSorts}

either : (curator : Bool) (n a c : ℕ) → n ≡ a + c → suc n ≡ (cond (not curator) 1 0 + a) + (cond curator 1 0 + c)
either true n a c e = omega arith
either false n a c e = omega arith

-- all are of one sort or the other
both_sorts : (people : List Person) → length people ≡ annotator_count people + curator_count people
both_sorts [] = refl
both_sorts (person ∷ people) =
    either person.curator (length people) (annotator_count people) (curator_count people) (both_sorts people)
    ∙ sym (ap (λ n. n + curator_count (person ∷ people)) (sum_by-cons (λ (p : Person). cond (not p.curator) 1 0) person people)
    ∙ ap (λ n. cond (not person.curator) 1 0 + annotator_count people + n) (sum_by-cons (λ (p : Person). cond p.curator 1 0) person people))

-- a roster has fewer than 256 people
pub few_people : (people : List Person) → HasBothSorts people → length people < 256
few_people people sorts = let all = both_sorts people in omega arith
