use Rattle.std.proofs.Common.{◌≡◌, ◌≤◌, ◌+◌, get_or, take, length-set, ap, ◌∙◌, arith}
use Rattle.mark_base.specs.ReadIds.{id_at}
use Rattle.layer_model.specs.Classes.{letter_place}
use Rattle.curator_decisions.specs.declared.numbering.NumberedEntry.{NumberedEntry}
use Rattle.curator_decisions.specs.Placing.{count_of_entries, letter_of_entry}
use Rattle.curator_decisions.proofs.NumberLemmas.{count_within, counts_more, next_is, number_next, numbered_more}
use Rattle.curator_decisions.proofs.numbering.numbered.Goals as goal

pub loop-entry-init : goal.loop-entry-init
loop-entry-init c = record {
  long = c.in_ok-counts.ensures.long;
  counts = λ kind. c.in_ok-counts.ensures.none (letter_place kind);
  numbered = c.new-numbered.ensures.items;
}

pub overflow_add-number : goal.overflow_add-number
overflow_add-number c =
    let small : c.index.result.now ≤ c.loop-entry.entry-index =
    count_within c.args.entries.now c.loop-entry.entry-index (omega arith) c.loop-entry.counts.items c.loop-entry.invariant.long c.loop-entry.invariant.counts c.curated_letter-kind.result c.letter_place-place.result c.index.result.now c.letter_place-place.ensures.small c.letter_place-place.ensures.place
    c.index.ensures in
    omega (arith, small)

pub loop-entry-preserved : goal.loop-entry-preserved
loop-entry-preserved c =
    let entries = c.args.entries.now in
    let i = c.loop-entry.entry-index in
    let e = c.entry-item.result in
    let counts = c.loop-entry.counts.items in
    let place = c.letter_place-place.result in
    let is : place ≡ letter_place (letter_of_entry e) = c.letter_place-place.ensures.place ∙ ap letter_place c.curated_letter-kind.ensures in
    let next : c.index.result.now + 1 ≡ get_or counts place 0 + 1 = next_is counts c.loop-entry.invariant.long place c.index.result.now c.letter_place-place.ensures.small c.index.ensures in
    let one : NumberedEntry = record { entry = e; id = c.id_at.result } in
    let number : c.index.result.now + 1 ≡ count_of_entries (letter_of_entry e) (take i entries) + 1 = next ∙ ap (λ k. get_or counts k 0 + 1) is ∙ ap (λ n. n + 1) (c.loop-entry.invariant.counts (letter_of_entry e)) in
    let numbered : one ≡ number_next (take i entries) e =
    ap (λ id. let made : NumberedEntry = record { entry = e; id = id } in made) (c.id_at.ensures ∙ (λ j. id_at (c.curated_letter-kind.ensures j) (number j))) in
    record {
      long = length-set counts place (c.index.result.now + 1) ∙ c.loop-entry.invariant.long;
      counts = counts_more entries i e c.loop-entry-test.true c.entry-item.is counts c.loop-entry.invariant.long c.loop-entry.invariant.counts place (c.index.result.now + 1) c.letter_place-place.ensures.small is next;
      numbered = numbered_more entries i e c.loop-entry-test.true c.entry-item.is c.loop-entry.numbered.items c.push.new.self.items one c.loop-entry.invariant.numbered c.in_ok-push.ensures.items numbered;
    }
