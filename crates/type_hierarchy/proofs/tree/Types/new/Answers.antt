use Rattle.std.proofs.Common.{◌≡◌, ◌∙◌, sym, ap, None, Some, cond}
use Rattle.std.proofs.lemmas.Result.{err_from_is_err_and}
use Rattle.type_hierarchy.specs.declared.types_fault.TypesFault.TheVariants.{TooMany}
use Rattle.type_hierarchy.specs.TypeFaults.{name_twice, bad_parent, are_too_many}
use Rattle.type_hierarchy.proofs.FaultLemmas.{fault_parent, fault_many, name_refusal, parents_before, rows_few, none_from}
use Rattle.type_hierarchy.proofs.tree.Types.new.Goals as goal

pub returns-in_err-places-clause-refused : goal.returns-in_err-places-clause-refused
returns-in_err-places-clause-refused c =
    let p = err_from_is_err_and c.from_residual.result c.from_residual.ensures.1 in
    rw (p.1, p.2) (name_refusal c.args.rows.items c.in_err-places.field-0.0 (rw c.deref.ensures.value at c.in_err-places.ensures.refused))

pub returns-in-Some-clause-refused : goal.returns-in-Some-clause-refused
returns-in-Some-clause-refused c =
    fault_parent c.args.rows.items c.in-Some.place (rw c.deref.ensures.value at c.in_ok-places.ensures.once)
    (sym (c.bad_parent.ensures ∙ ap bad_parent c.deref-2.ensures.value) ∙ c.in-Some.is)

pub returns-then-are_too_many-clause-refused : goal.returns-then-are_too_many-clause-refused
returns-then-are_too_many-clause-refused c =
    let once : name_twice c.args.rows.items ≡ None = rw c.deref.ensures.value at c.in_ok-places.ensures.once in
    let good : bad_parent c.args.rows.items ≡ None = sym (c.bad_parent.ensures ∙ ap bad_parent c.deref-2.ensures.value) ∙ none_from c.bad_parent.result c.in_default.not-Some in
    fault_many c.args.rows.items c.are_too_many.result once good (c.are_too_many.ensures ∙ ap are_too_many c.deref-3.ensures.value) ∙ ap (λ many. cond many (Some TooMany) None) c.if-are_too_many.true

pub invariant_of-result : goal.invariant_of-result
invariant_of-result c =
    let once : name_twice c.args.rows.items ≡ None = rw c.deref.ensures.value at c.in_ok-places.ensures.once in
    let good : bad_parent c.args.rows.items ≡ None = sym (c.bad_parent.ensures ∙ ap bad_parent c.deref-2.ensures.value) ∙ none_from c.bad_parent.result c.in_default.not-Some in
    record {
      sound = fault_many c.args.rows.items c.are_too_many.result once good (c.are_too_many.ensures ∙ ap are_too_many c.deref-3.ensures.value) ∙ ap (λ many. cond many (Some TooMany) None) c.if-are_too_many.false;
      parents = parents_before c.args.rows.items good;
      few = rows_few c.args.rows.items c.are_too_many.result (c.are_too_many.ensures ∙ ap are_too_many c.deref-3.ensures.value) c.if-are_too_many.false;
      finds = rw c.deref.ensures.value at c.in_ok-places.ensures.finds;
    }

pub returns-clause-accepted : goal.returns-clause-accepted
returns-clause-accepted c =
    let once : name_twice c.args.rows.items ≡ None = rw c.deref.ensures.value at c.in_ok-places.ensures.once in
    let good : bad_parent c.args.rows.items ≡ None = sym (c.bad_parent.ensures ∙ ap bad_parent c.deref-2.ensures.value) ∙ none_from c.bad_parent.result c.in_default.not-Some in
    fault_many c.args.rows.items c.are_too_many.result once good (c.are_too_many.ensures ∙ ap are_too_many c.deref-3.ensures.value) ∙ ap (λ many. cond many (Some TooMany) None) c.if-are_too_many.false
