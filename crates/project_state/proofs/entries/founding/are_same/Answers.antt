use Rattle.std.proofs.Common.{◌≡◌, ℕ, Bool, true, false, List, [], refl, ap, ap₂}
use Rattle.std.specs.Bool.{Decides}
use Rattle.std.proofs.lemmas.Bool.Decides.{Decides-and, Decides-eqb}
use Rattle.std.proofs.lemmas.Slice.Eq.{slice_eq-Decides}
use Rattle.entry_bytes.specs.declared.person.Person.{Person}
use Rattle.entry_bytes.specs.contracts.person.PersonPartialEq.TheImpl as person
use Rattle.project_state.proofs.entries.founding.are_same.Goals as goal

abbrev made : List ℕ → Bool → Person
made name curator = record { name = name; curator = curator }

sorts_decide : (a b : Person) → (x y : Bool) → a.curator ≡ x → b.curator ≡ y → Decides ((person.eq-value).it (made [] x) (made [] y)) (x ≡ y)
sorts_decide a b true true e f = (λ h. refl, λ h. refl)
sorts_decide a b false false e f = (λ h. refl, λ h. refl)
sorts_decide a b true false e f = (λ h. absurd cc, λ h. absurd cc)
sorts_decide a b false true e f = (λ h. absurd cc, λ h. absurd cc)

person_decides : (a b : Person) → Decides ((person.eq-value).it a b) (a ≡ b)
person_decides a b =
    let both = Decides-and _ _ (slice_eq-Decides Decides-eqb a.name b.name _ refl) (sorts_decide a b a.curator b.curator refl refl) in
    (λ e. ap₂ made (both.0 e).0 (both.0 e).1, λ e. both.1 (ap (λ (p : Person). p.name) e, ap (λ (p : Person). p.curator) e))

pub returns-clause-same : goal.returns-clause-same
returns-clause-same c = (slice_eq-Decides person_decides c.args.people.now c.args.others.now c.eq.result c.eq.ensures).0

pub returns-clause-all : goal.returns-clause-all
returns-clause-all c = (slice_eq-Decides person_decides c.args.people.now c.args.others.now c.eq.result c.eq.ensures).1
