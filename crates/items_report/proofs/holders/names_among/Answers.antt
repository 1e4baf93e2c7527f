use Rattle.std.proofs.Common.{◌≡◌, ℕ, ◌+◌, ◌<◌, ◌/◌, ◌%◌, ◌==◌, Bool, List, [], ◌∷◌, ◌++◌, ◌∙◌, ap, sym, refl, if◌then◌else◌, true, false, length, map, get_or, drop, add-one, drop-cons, eq-eqb, append_assoc}
use Rattle.std.proofs.lemmas.List.{map-append}
use borrow.Author.Tests.{ne_eqb}
use Rattle.items_report.specs.ItemRows.{names_among}
use denote.Ref.{Bor}
use Rattle.items_report.proofs.holders.names_among.Goals as goal
use Rattle.items_report.proofs.holders.names_among.Goals.{then-left-eq1+in_ok-push, else-left-eq1}

-- a name in front of others, or not, behind those that were found
chosen : (b : Bool) (among : List (Bor (List ℕ))) (name : Bor (List ℕ)) (others : List (List ℕ))
    → map (λ one. one.now) among ++ (if b then name.now ∷ others else others) ≡ map (λ one. one.now) (if b then among ++ name ∷ [] else among) ++ others
chosen true among name others = simp (map-append, append_assoc)
chosen false among name others = refl

-- the next name, by its bit
next_name : (names : List (Bor (List ℕ))) (i left : ℕ) (d : Bor (List ℕ)) → i < length names
    → names_among (map (λ name. name.now) (drop i names)) left
    ≡ (if left % 2 == 1 then (get_or names i d).now ∷ names_among (map (λ name. name.now) (drop (i + 1) names)) (left / 2)
    else names_among (map (λ name. name.now) (drop (i + 1) names)) (left / 2))
next_name names i left d h = rw (add-one, drop-cons names i d) refl

-- behind the next name those that were found are one more where its bit is set
goes_on : (names among after : List (Bor (List ℕ))) (i left bits : ℕ) (d : Bor (List ℕ)) → i < length names
    → names_among (map (λ name. name.now) names) bits ≡ map (λ name. name.now) among ++ names_among (map (λ name. name.now) (drop i names)) left
    → after ≡ (if left % 2 == 1 then among ++ get_or names i d ∷ [] else among)
    → names_among (map (λ name. name.now) names) bits ≡ map (λ name. name.now) after ++ names_among (map (λ name. name.now) (drop (i + 1) names)) (left / 2)
goes_on names among after i left bits d h kept e =
    kept ∙ ap (λ t. map (λ name. name.now) among ++ t) (next_name names i left d h)
    ∙ chosen (left % 2 == 1) among (get_or names i d) (names_among (map (λ name. name.now) (drop (i + 1) names)) (left / 2))
    ∙ ap (λ t. map (λ name. name.now) t ++ names_among (map (λ name. name.now) (drop (i + 1) names)) (left / 2)) (sym e)

pub loop-name-preserved : goal.loop-name-preserved
loop-name-preserved c =
    let none : Bor (List ℕ) = record { ref_ptr = (0, 0); now = [] } in
    elim c.if-left-eq1.branch [
      | then-left-eq1+in_ok-push w ↦
          goes_on c.args.names.now c.loop-name.among.items c.if-left-eq1.among.items c.loop-name.name-index c.loop-name.left c.args.bits none c.loop-name-test.true c.loop-name.invariant
          (ap (λ v. v.items) w.among-is ∙ w.in_ok-push.ensures.items
          ∙ ap (λ b. if b then c.loop-name.among.items ++ get_or c.args.names.now c.loop-name.name-index none ∷ [] else c.loop-name.among.items) (sym (eq-eqb _ _ w.if-left-eq1.true)))
      | else-left-eq1 w ↦
          goes_on c.args.names.now c.loop-name.among.items c.if-left-eq1.among.items c.loop-name.name-index c.loop-name.left c.args.bits none c.loop-name-test.true c.loop-name.invariant
          (ap (λ v. v.items) w.among-is
          ∙ ap (λ b. if b then c.loop-name.among.items ++ get_or c.args.names.now c.loop-name.name-index none ∷ [] else c.loop-name.among.items) (sym (ne_eqb _ _ w.if-left-eq1.false)))
    ]
